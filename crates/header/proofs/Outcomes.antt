-- Any two outcomes that the contract of a public call of this crate allows coincide: each contract is an equation.
-- Assumes nothing.
use mathlib.Core.Path.{◌∙◌, sym}
use Rattle.words.proofs.Unique.{OneAnswer}
use Rattle.header.proofs.read_header.Kinds as read-header-kinds
use Rattle.header.proofs.read_header.Reads as read-header
use Rattle.header.proofs.concatenation_header.Kinds as concatenation-header-kinds
use Rattle.header.proofs.concatenation_header.Reads as concatenation-header
use Rattle.header.proofs.septets_over.Kinds as septets-over-kinds
use Rattle.header.proofs.septets_over.Reads as septets-over

pub read-header-unique : OneAnswer read-header-kinds.ps read-header-kinds.r read-header.Post
read-header-unique κs a x y u v p q = p ∙ sym q

pub concatenation-header-unique : OneAnswer concatenation-header-kinds.ps concatenation-header-kinds.r concatenation-header.Post
concatenation-header-unique κs a x y u v p q = p ∙ sym q

pub septets-over-unique : OneAnswer septets-over-kinds.ps septets-over-kinds.r septets-over.Post
septets-over-unique κs a x y u v p q = p ∙ sym q
