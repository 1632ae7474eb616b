-- Any two outcomes that the contract of a public call of this crate allows coincide: each contract is an equation.
-- Assumes nothing.
use mathlib.Core.Path.{◌∙◌, sym}
use Rattle.words.proofs.Unique.{OneAnswer}
use Rattle.short_keys.proofs.short_key.Kinds as short-key-kinds
use Rattle.short_keys.proofs.short_key.Reads as short-key-reads

pub short-key-unique : OneAnswer short-key-kinds.ps short-key-kinds.r short-key-reads.Post
short-key-unique κs a x y u v p q = p ∙ sym q
