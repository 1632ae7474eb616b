-- Document 01, "Packing" and "Refusal numbers and their order": UCS2 units to octets (8 of an old page, 5, 7) and back (4, 7).
-- Own rule: an old page holds no UCS2, so that any octets under it are 4. The count of a short message is its octets.
-- Cited by from_units::units_to_octets and to_units::octets_to_units. Assumes nothing.
--   ucs2_octets_of service us                            == the octets of the units us
--   to_octets_rules, to_octets_answers, to_octets_leaves == what units_to_octets refuses, answers and leaves in the buffer
--   unit_count_of service us                             == the length count that travels with them
--   units_fit service octets count                       == whether so many octets fit the service and the count
--   units_of service o                                   == the units that the octets o hold
--   to_units_rules, to_units_answers, to_units_leaves    == the same of octets_to_units
use Rattle.std.specs.Prelude.{ℕ, ◌%◌, Bool, false, not, ◌&&◌, List, [], ◌∷◌, ◌++◌, length, ltb, leb, eqb, Result, Ok, Err}
use Rattle.words.specs.declared.Service.{Service}
use Rattle.words.specs.declared.Service.TheVariants.{ShortMessage, Broadcast, Ussd, OldPage}
use Rattle.words.specs.declared.Refusal.TheVariants.{Unwritable, TooLong, NoRoom, WrongLength}
use Rattle.words.specs.Sizes.{most_units, most_octets, is_old_page}
use Rattle.lists.specs.Lists.{laid}
use Rattle.lists.specs.Closing.{without_closing}
use Rattle.words.specs.Judging.{Rule, when, verdict, settle, service_rules}
use Rattle.stream.specs.SeptetCalls.{travels}
use Rattle.stream.specs.UssdPacking.{cr}
use Rattle.stream.specs.Ucs2.{unit_octets, octet_units, unit_page}
use Rattle.words.specs.declared.Refusal.{Refusal}

abbrev pub ucs2_octets_of : Service → List ℕ → List ℕ
ucs2_octets_of ShortMessage us = unit_octets us
ucs2_octets_of Broadcast us = unit_octets (unit_page us)
ucs2_octets_of Ussd us = unit_octets us
ucs2_octets_of OldPage us = []

-- "the octets for UCS2"
abbrev pub unit_count_of : Service → List ℕ → ℕ
unit_count_of service us = travels service (length (unit_octets us))

unfoldable pub to_octets_rules : Service → List ℕ → ℕ → List Rule
to_octets_rules service us room =
    service_rules service
    ++ (when (is_old_page service) Unwritable
    ∷ when (ltb (most_units service) (length us)) TooLong
    ∷ when (ltb room (length (ucs2_octets_of service us))) NoRoom
    ∷ [])

unfoldable pub to_octets_answers : Service → List ℕ → ℕ → Result ℕ Refusal
to_octets_answers service us room = settle (verdict (to_octets_rules service us room)) Err (Ok (length (ucs2_octets_of service us)))

unfoldable pub to_octets_leaves : Service → List ℕ → List ℕ → List ℕ
to_octets_leaves service us out =
    settle (verdict (to_octets_rules service us (length out))) (λ r. out) (laid (ucs2_octets_of service us) out)

abbrev pub units_fit : Service → ℕ → ℕ → Bool
units_fit ShortMessage octets count = leb octets (most_octets ShortMessage) && eqb count octets && eqb (octets % 2) 0
units_fit Broadcast octets count = eqb octets (most_octets Broadcast) && eqb count 0
units_fit Ussd octets count = leb octets (most_octets Ussd) && eqb count 0 && eqb (octets % 2) 0
units_fit OldPage octets count = false

abbrev pub units_of : Service → List ℕ → List ℕ
units_of ShortMessage o = octet_units o
units_of Broadcast o = without_closing cr (octet_units o)
units_of Ussd o = octet_units o
units_of OldPage o = []

unfoldable pub to_units_rules : Service → List ℕ → ℕ → ℕ → List Rule
to_units_rules service o count room =
    service_rules service
    ++ (when (not (units_fit service (length o) count)) WrongLength
    ∷ when (ltb room (length (units_of service o))) NoRoom
    ∷ [])

unfoldable pub to_units_answers : Service → List ℕ → ℕ → ℕ → Result ℕ Refusal
to_units_answers service o count room =
    settle (verdict (to_units_rules service o count room)) Err (Ok (length (units_of service o)))

unfoldable pub to_units_leaves : Service → List ℕ → ℕ → List ℕ → List ℕ
to_units_leaves service o count out =
    settle (verdict (to_units_rules service o count (length out))) (λ r. out) (laid (units_of service o) out)
