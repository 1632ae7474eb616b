-- Any two outcomes that the contract of a public call of this crate allows coincide: each contract is an equation for the answer and one for the buffer.
-- Assumes nothing.
use mathlib.Core.Path.{◌∙◌, sym}
use Rattle.words.proofs.Unique.{OneAnswer, OneBuffer}
use Rattle.from_units.proofs.short_octets.Kinds as short-octets-kinds
use Rattle.from_units.proofs.short_octets.Reads as short-octets
use Rattle.from_units.proofs.page_octets.Kinds as page-octets-kinds
use Rattle.from_units.proofs.page_octets.Reads as page-octets
use Rattle.from_units.proofs.units_to_octets.Kinds as to-octets-kinds
use Rattle.from_units.proofs.units_to_octets.Reads as to-octets

pub units-to-octets-unique : OneAnswer to-octets-kinds.ps to-octets-kinds.r to-octets.Post
units-to-octets-unique κs a x y u v p q = p.0 ∙ sym q.0

pub units-to-octets-buffer-unique : OneBuffer to-octets-kinds.ps to-octets-kinds.r (λ κs u. u.1.1.0.now) to-octets.Post
units-to-octets-buffer-unique κs a x y u v p q = p.1 ∙ sym q.1

pub page-octets-unique : OneAnswer page-octets-kinds.ps page-octets-kinds.r page-octets.Post
page-octets-unique κs a x y u v p q = p ∙ sym q

pub short-octets-unique : OneAnswer short-octets-kinds.ps short-octets-kinds.r short-octets.Post
short-octets-unique κs a x y u v p q = p.0 ∙ sym q.0

pub short-octets-buffer-unique : OneBuffer short-octets-kinds.ps short-octets-kinds.r (λ κs u. u.1.0.now) short-octets.Post
short-octets-buffer-unique κs a x y u v p q = p.1 ∙ sym q.1
