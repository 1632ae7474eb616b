-- Document 01, "Packing": UCS2 is two octets a unit, high octet first.
-- Own rule: a UCS2 broadcast page is filled up with 000D, and reading drops closing 000D units; no other service fills or drops.
-- Cited by from_units::units_to_octets and to_units::octets_to_units. Assumes nothing.
--   unit_octets us   == the octets of the units us
--   octet_units o    == the units that the octets o hold; an odd octet at the end is none
--   unit_page us     == the 41 units of a broadcast page with the text us
use Rattle.std.specs.Prelude.{ℕ, ◌+◌, ◌*◌, ◌/◌, ◌%◌, List, [], ◌∷◌, replicate}
use Rattle.words.specs.declared.Service.TheVariants.{Broadcast}
use Rattle.words.specs.Sizes.{most_units}
use Rattle.lists.specs.Lists.{laid}
use Rattle.stream.specs.UssdPacking.{cr}

unfoldable pub unit_octets : List ℕ → List ℕ
unit_octets [] = []
unit_octets (u ∷ us) = u / 256 ∷ u % 256 ∷ unit_octets us

unfoldable pub octet_units : List ℕ → List ℕ
octet_units [] = []
octet_units (high ∷ []) = []
octet_units (high ∷ low ∷ o) = (256 * high + low) ∷ octet_units o

unfoldable pub unit_page : List ℕ → List ℕ
unit_page us = laid us (replicate (most_units Broadcast) cr)
