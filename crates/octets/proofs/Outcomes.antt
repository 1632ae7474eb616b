-- Any two outcomes that the contract of a public call of this crate allows coincide: each contract is an equation.
-- Assumes nothing.
use mathlib.Core.Path.{◌∙◌, sym}
use Rattle.words.proofs.Unique.{OneAnswer}
use Rattle.octets.proofs.short_octet.Kinds as short-octet-kinds
use Rattle.octets.proofs.short_octet.Reads as short-octet-reads
use Rattle.octets.proofs.page_octet.Kinds as page-octet-kinds
use Rattle.octets.proofs.page_octet.Reads as page-octet-reads

pub short-octet-unique : OneAnswer short-octet-kinds.ps short-octet-kinds.r short-octet-reads.Post
short-octet-unique κs a x y u v p q = p ∙ sym q

pub page-octet-unique : OneAnswer page-octet-kinds.ps page-octet-kinds.r page-octet-reads.Post
page-octet-unique κs a x y u v p q = p ∙ sym q
