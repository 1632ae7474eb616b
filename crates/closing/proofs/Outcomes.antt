-- Any two outcomes that the contract of a public call of this crate allows coincide: each contract is an equation for the answer.
-- Assumes nothing.
use mathlib.Core.Path.{◌∙◌, sym}
use Rattle.words.proofs.Unique.{OneAnswer}
use Rattle.closing.proofs.adds_cr.Kinds as adds-cr-kinds
use Rattle.closing.proofs.adds_cr.Reads as adds-cr
use Rattle.closing.proofs.page_of.Kinds as page-of-kinds
use Rattle.closing.proofs.page_of.Reads as page-of
use Rattle.closing.proofs.length_count.Kinds as length-count-kinds
use Rattle.closing.proofs.length_count.Reads as length-count
use Rattle.closing.proofs.fits.Kinds as fits-kinds
use Rattle.closing.proofs.fits.Reads as fits
use Rattle.closing.proofs.text_length.Kinds as text-length-kinds
use Rattle.closing.proofs.text_length.Reads as text-length

pub length-count-unique : OneAnswer length-count-kinds.ps length-count-kinds.r length-count.Post
length-count-unique κs a x y u v p q = p ∙ sym q

pub fits-unique : OneAnswer fits-kinds.ps fits-kinds.r fits.Post
fits-unique κs a x y u v p q = p ∙ sym q

pub text-length-unique : OneAnswer text-length-kinds.ps text-length-kinds.r text-length.Post
text-length-unique κs a x y u v p q = p ∙ sym q

pub page-of-unique : OneAnswer page-of-kinds.ps page-of-kinds.r page-of.Post
page-of-unique κs a x y u v p q = p ∙ sym q

pub adds-cr-unique : OneAnswer adds-cr-kinds.ps adds-cr-kinds.r adds-cr.Post
adds-cr-unique κs a x y u v p q = p ∙ sym q
