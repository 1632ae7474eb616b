-- What pack and units_to_octets give for a text of the service's size fits the service, and what unpack and octets_to_units read from it.
-- Of the definitions that the calls' contracts cite, so that a crate above opens none of them.
--   pack-fits            octets of a text that is packed fit the service and the count
--   unpack-pack-short    the septets of a short message come back
--   unpack-pack-page     the septets of a page come back without closing CRs
--   unpack-pack-ussd, unpack-pack-ussd-doubled   the septets of a USSD string come back, or with one CR more
--   pack-octets-most     no more octets than the service has
--   units-fit, units-round-trip, unit-page-round-trip   the same of UCS2
-- Assumes nothing.
use mathlib.Core.Path.{◌≡◌, refl, sym}
use mathlib.Core.Bool.{true, false}
use mathlib.Core.List.{List, [], ◌∷◌, ◌++◌}
use Prim.Native.Nat.{ℕ, ◌≤◌, ◌%◌}
use native.Mathlib.Omega.{arith}
use borrow.Author.Tests.{le-leb, eq-eqb}
use lib.ListN.{length}
use Rattle.words.specs.declared.Service.{Service}
use Rattle.words.specs.declared.Service.TheVariants.{ShortMessage, Broadcast, Ussd, OldPage}
use Rattle.words.specs.Sizes.{most_septets, most_units, most_octets, is_old_page}
use Rattle.lists.specs.Closing.{without_closing}
use Rattle.lists.proofs.Below.{Below}
use Rattle.stream.specs.Stream.{octets_for}
use Rattle.stream.specs.Ucs2.{unit_octets, unit_page}
use Rattle.stream.proofs.Stream.{packed-length}
use Rattle.stream.proofs.Ussd.{ussd-octets-most}
use Rattle.stream.proofs.Pages.{unit-page-length}
use Rattle.stream.proofs.UnitOctets.{unit-octets-length}
use Rattle.stream.proofs.Theorems.{Doubled, unpack-pack, page-octets-length, page-back, ussd-back, ussd-back-doubled, units-back, unit-page-back}
use Rattle.stream.specs.SeptetCalls.{octets_of, count_of, septets_fit, septets_of}
use Rattle.stream.specs.UnitCalls.{ucs2_octets_of, unit_count_of, units_fit, units_of}

pub pack-fits : (service : Service) (s : List ℕ) → is_old_page service ≡ false → length s ≤ most_septets service → septets_fit service (length (octets_of service s)) (count_of service s) ≡ true
pack-fits ShortMessage s new h = simp (le-leb _ _ h, eq-eqb _ _ (packed-length s))
pack-fits Broadcast s new h = simp (eq-eqb _ _ (page-octets-length s h))
pack-fits Ussd s new h = simp (le-leb _ _ (ussd-octets-most s h))
pack-fits OldPage s new h = sym new

pub pack-octets-most : (service : Service) (s : List ℕ) → length s ≤ most_septets service → length (octets_of service s) ≤ most_octets service
unfolding octets_for
pack-octets-most ShortMessage s h = omega (arith, packed-length s)
pack-octets-most Broadcast s h = omega (arith, page-octets-length s h)
pack-octets-most Ussd s h = ussd-octets-most s h
pack-octets-most OldPage s h = omega arith

pub unpack-pack-short : (s : List ℕ) → Below 128 s → septets_of ShortMessage (count_of ShortMessage s) (octets_of ShortMessage s) ≡ s
unpack-pack-short s h = unpack-pack s h

pub unpack-pack-page : (s : List ℕ) → length s ≤ 93 → Below 128 s → septets_of Broadcast (count_of Broadcast s) (octets_of Broadcast s) ≡ without_closing 13 s
unpack-pack-page s n h = page-back s n h

pub unpack-pack-ussd : (s : List ℕ) → Below 128 s → (Doubled s → ⊥) → septets_of Ussd (count_of Ussd s) (octets_of Ussd s) ≡ s
unpack-pack-ussd s h k = ussd-back s h k

pub unpack-pack-ussd-doubled : (s : List ℕ) → Below 128 s → Doubled s → septets_of Ussd (count_of Ussd s) (octets_of Ussd s) ≡ s ++ 13 ∷ []
unpack-pack-ussd-doubled s h d = ussd-back-doubled s h d

two-even : (us : List ℕ) → length (unit_octets us) % 2 ≡ 0
two-even us = omega (arith, unit-octets-length us)

pub units-fit : (service : Service) (us : List ℕ) → is_old_page service ≡ false → length us ≤ most_units service → units_fit service (length (ucs2_octets_of service us)) (unit_count_of service us) ≡ true
units-fit ShortMessage us new h =
    let most : length (unit_octets us) ≤ 140 = omega (arith, unit-octets-length us) in
    simp (le-leb _ _ most, eq-eqb (length (unit_octets us)) (length (unit_octets us)) refl, eq-eqb _ _ (two-even us))
units-fit Broadcast us new h =
    let size : length (unit_octets (unit_page us)) ≡ 82 = omega (arith, unit-octets-length (unit_page us), unit-page-length us h) in
    simp (eq-eqb _ _ size)
units-fit Ussd us new h =
    let most : length (unit_octets us) ≤ 160 = omega (arith, unit-octets-length us) in
    simp (le-leb _ _ most, eq-eqb _ _ (two-even us))
units-fit OldPage us new h = sym new

pub units-round-trip : (us : List ℕ) → (units_of ShortMessage (ucs2_octets_of ShortMessage us) ≡ us) × (units_of Ussd (ucs2_octets_of Ussd us) ≡ us)
units-round-trip us = (units-back us, units-back us)

pub unit-page-round-trip : (us : List ℕ) → units_of Broadcast (ucs2_octets_of Broadcast us) ≡ without_closing 13 us
unit-page-round-trip us = unit-page-back us
