-- Any two outcomes that the contract of a public call of this crate allows coincide: each contract is an equation.
-- Assumes nothing.
use mathlib.Core.Path.{◌∙◌, sym}
use Rattle.words.proofs.Unique.{OneAnswer}
use Rattle.keys.proofs.general_key.Kinds as general-key-kinds
use Rattle.keys.proofs.general_key.Reads as general-key-reads
use Rattle.keys.proofs.last_key.Kinds as last-key-kinds
use Rattle.keys.proofs.last_key.Reads as last-key-reads

pub general-key-unique : OneAnswer general-key-kinds.ps general-key-kinds.r general-key-reads.Post
general-key-unique κs a x y u v p q = p ∙ sym q

pub last-key-unique : OneAnswer last-key-kinds.ps last-key-kinds.r last-key-reads.Post
last-key-unique κs a x y u v p q = p ∙ sym q
