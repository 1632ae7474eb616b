-- Document 01, "Packing" and "Refusal numbers and their order": packing alone (8 of an old page, 9, 5, 7) and unpacking alone (4, 7).
-- Own rule: none. Cited by packing::pack and packing::unpack. Assumes nothing.
--   octets_of service s                         == the octets of the septets s
--   travels service n                           == the length count where n would travel with a short message
--   count_of service s                          == the length count that travels with the septets s
--   pack_rules service s room                   == what refuses to pack s into a buffer of that room
--   pack_answers, pack_leaves                   == what pack answers, and what it leaves in the buffer
--   septets_fit service octets count            == whether so many octets fit the service and the count
--   septets_of service count o                  == the septets that the octets o hold
--   unpack_rules, unpack_answers, unpack_leaves == the same of unpack
use Rattle.std.specs.Prelude.{ℕ, Bool, not, ◌&&◌, List, [], ◌∷◌, ◌++◌, length, ltb, leb, eqb, Result, Ok, Err}
use Rattle.words.specs.declared.Service.{Service}
use Rattle.words.specs.declared.Service.TheVariants.{ShortMessage, Broadcast, Ussd, OldPage}
use Rattle.words.specs.declared.Refusal.TheVariants.{Unwritable, NoSeptet, TooLong, NoRoom, WrongLength}
use Rattle.words.specs.Sizes.{most_septets, most_octets, is_old_page}
use Rattle.lists.specs.Lists.{first_wide, laid}
use Rattle.words.specs.Judging.{Rule, when, verdict, settle, service_rules}
use Rattle.stream.specs.declared.Packed.{Packed}
use Rattle.stream.specs.Stream.{octets_for, packed, unpacked}
use Rattle.stream.specs.UssdPacking.{ussd_octets, ussd_septets}
use Rattle.stream.specs.Pages.{page_octets, page_septets}
use Rattle.stream.specs.OldPage.{old_page_septets}
use Rattle.words.specs.declared.Refusal.{Refusal}
use Rattle.stream.specs.Successes.{ok_packed}

abbrev pub octets_of : Service → List ℕ → List ℕ
octets_of ShortMessage s = packed s
octets_of Broadcast s = page_octets s
octets_of Ussd s = ussd_octets s
octets_of OldPage s = []

-- "A length count travels with a short message"; "For the other services it is 0"
abbrev pub travels : Service → ℕ → ℕ
travels ShortMessage n = n
travels Broadcast n = 0
travels Ussd n = 0
travels OldPage n = 0

-- "the septets for 7-bit text"
abbrev pub count_of : Service → List ℕ → ℕ
count_of service s = travels service (length s)

unfoldable pub pack_rules : Service → List ℕ → ℕ → List Rule
pack_rules service s room =
    service_rules service
    ++ (when (is_old_page service) Unwritable
    ∷ when (ltb (first_wide s) (length s)) (NoSeptet (first_wide s))
    ∷ when (ltb (most_septets service) (length s)) TooLong
    ∷ when (ltb room (length (octets_of service s))) NoRoom
    ∷ [])

unfoldable pub pack_answers : Service → List ℕ → ℕ → Result Packed Refusal
pack_answers service s room =
    settle (verdict (pack_rules service s room)) Err (ok_packed (length (octets_of service s)) (count_of service s))

unfoldable pub pack_leaves : Service → List ℕ → List ℕ → List ℕ
pack_leaves service s out = settle (verdict (pack_rules service s (length out))) (λ r. out) (laid (octets_of service s) out)

-- "a short message's octets must be exactly what its count asks, 160 septets at most"; for the others the count is 0
abbrev pub septets_fit : Service → ℕ → ℕ → Bool
septets_fit ShortMessage octets count = leb count (most_septets ShortMessage) && eqb octets (octets_for count)
septets_fit Broadcast octets count = eqb octets (most_octets Broadcast) && eqb count 0
septets_fit Ussd octets count = leb octets (most_octets Ussd) && eqb count 0
septets_fit OldPage octets count = eqb octets (most_octets OldPage) && eqb count 0

abbrev pub septets_of : Service → ℕ → List ℕ → List ℕ
septets_of ShortMessage count o = unpacked count o
septets_of Broadcast count o = page_septets o
septets_of Ussd count o = ussd_septets o
septets_of OldPage count o = old_page_septets o

unfoldable pub unpack_rules : Service → List ℕ → ℕ → ℕ → List Rule
unpack_rules service o count room =
    service_rules service
    ++ (when (not (septets_fit service (length o) count)) WrongLength
    ∷ when (ltb room (length (septets_of service count o))) NoRoom
    ∷ [])

unfoldable pub unpack_answers : Service → List ℕ → ℕ → ℕ → Result ℕ Refusal
unpack_answers service o count room =
    settle (verdict (unpack_rules service o count room)) Err (Ok (length (septets_of service count o)))

unfoldable pub unpack_leaves : Service → List ℕ → ℕ → List ℕ → List ℕ
unpack_leaves service o count out =
    settle (verdict (unpack_rules service o count (length out))) (λ r. out) (laid (septets_of service count o) out)
