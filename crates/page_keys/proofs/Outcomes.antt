-- Any two outcomes that the contract of a public call of this crate allows coincide: each contract is an equation.
-- Assumes nothing.
use mathlib.Core.Path.{◌∙◌, sym}
use Rattle.words.proofs.Unique.{OneAnswer}
use Rattle.page_keys.proofs.page_key.Kinds as page-key-kinds
use Rattle.page_keys.proofs.page_key.Reads as page-key-reads

pub page-key-unique : OneAnswer page-key-kinds.ps page-key-kinds.r page-key-reads.Post
page-key-unique κs a x y u v p q = p ∙ sym q
