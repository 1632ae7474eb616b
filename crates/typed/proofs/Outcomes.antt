-- Any two outcomes that the contract of a public call of this crate allows coincide: each contract is an equation for the answer and one for the buffer.
-- Assumes nothing.
use mathlib.Core.Path.{◌∙◌, sym}
use Rattle.words.proofs.Unique.{OneAnswer, OneBuffer}
use Rattle.typed.proofs.digit_for.Kinds as digit-for-kinds
use Rattle.typed.proofs.digit_for.Reads as digit-for
use Rattle.typed.proofs.digit_of.Kinds as digit-of-kinds
use Rattle.typed.proofs.digit_of.Reads as digit-of
use Rattle.typed.proofs.first_other.Kinds as first-other-kinds
use Rattle.typed.proofs.first_other.Reads as first-other
use Rattle.typed.proofs.read_octets.Kinds as octets-kinds
use Rattle.typed.proofs.read_octets.Reads as octets
use Rattle.typed.proofs.read_units.Kinds as units-kinds
use Rattle.typed.proofs.read_units.Reads as units
use Rattle.typed.proofs.read_number.Kinds as number-kinds
use Rattle.typed.proofs.read_number.Reads as number

pub digit-for-unique : OneAnswer digit-for-kinds.ps digit-for-kinds.r digit-for.Post
digit-for-unique κs a x y u v p q = p ∙ sym q

pub digit-of-unique : OneAnswer digit-of-kinds.ps digit-of-kinds.r digit-of.Post
digit-of-unique κs a x y u v p q = p ∙ sym q

pub first-other-unique : OneAnswer first-other-kinds.ps first-other-kinds.r first-other.Post
first-other-unique κs a x y u v p q = p ∙ sym q

pub read-octets-unique : OneAnswer octets-kinds.ps octets-kinds.r octets.Post
read-octets-unique κs a x y u v p q = p.0 ∙ sym q.0

pub read-octets-buffer-unique : OneBuffer octets-kinds.ps octets-kinds.r (λ κs u. u.1.0.now) octets.Post
read-octets-buffer-unique κs a x y u v p q = p.1 ∙ sym q.1

pub read-units-unique : OneAnswer units-kinds.ps units-kinds.r units.Post
read-units-unique κs a x y u v p q = p.0 ∙ sym q.0

pub read-units-buffer-unique : OneBuffer units-kinds.ps units-kinds.r (λ κs u. u.1.0.now) units.Post
read-units-buffer-unique κs a x y u v p q = p.1 ∙ sym q.1

pub read-number-unique : OneAnswer number-kinds.ps number-kinds.r number.Post
read-number-unique κs a x y u v p q = p ∙ sym q
