-- Any two outcomes that the contract of a public call of this crate allows coincide: each contract is an equation.
-- Assumes nothing.
use mathlib.Core.Path.{◌∙◌, sym}
use Rattle.words.proofs.Unique.{OneAnswer}
use Rattle.wide.proofs.all_bits.Kinds as all-bits-kinds
use Rattle.wide.proofs.all_bits.Reads as all-bits
use Rattle.wide.proofs.first_wide.Kinds as first-wide-kinds
use Rattle.wide.proofs.first_wide.Reads as first-wide

pub first-wide-unique : OneAnswer first-wide-kinds.ps first-wide-kinds.r first-wide.Post
first-wide-unique κs a x y u v p q = p ∙ sym q

pub all-bits-unique : OneAnswer all-bits-kinds.ps all-bits-kinds.r all-bits.Post
all-bits-unique κs a x y u v p q = p ∙ sym q
