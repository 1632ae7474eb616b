-- Packing from an array of septets and from a page, and unpacking with what closes the text left in: the whole writer and the whole reader keep
-- a text's septets in an array of their own, longer than any text.
-- Own rule: of an array's septet the low seven bits are packed. Cited by packing::pack_text, packing::pack_short, packing::pack_page,
-- packing::unpack_all, closing::adds_cr and closing::text_length. Assumes nothing.
--   low_bits s                         == the low seven bits of each of s
--   array_rules service s n room       == what refuses to pack the first n septets of the array s into a buffer of that room
--   array_answers, array_leaves        == what pack_text answers, and what it leaves in the buffer; pack_short of a short message and all septets
--   page_rules p room                  == what refuses to pack the page p into a buffer of that room
--   page_answers, page_leaves          == what pack_page answers, and what it leaves in the buffer
--   held_count service octets count    == how many septets so many octets hold
--   all_septets service count o        == all septets that the octets o hold, the closing ones that unpack drops too
--   all_rules, all_answers, all_leaves == what unpack_all refuses, answers and leaves in the buffer
--   adds_under service s               == whether the service adds a CR to the septets s
--   closes_groups s                    == whether s is whole groups of eight and ends in CR
--   kept_count service s               == how many of all septets s that octets hold are left of a text
use Rattle.std.specs.Prelude.{ℕ, ◌-◌, ◌%◌, Bool, true, false, not, ◌&&◌, List, [], ◌∷◌, ◌++◌, length, take, ltb, eqb, Result, Ok, Err}
use Rattle.words.specs.declared.Service.{Service}
use Rattle.words.specs.declared.Service.TheVariants.{ShortMessage, Broadcast, Ussd, OldPage}
use Rattle.words.specs.declared.Refusal.TheVariants.{Unwritable, NoSeptet, TooLong, NoRoom, WrongLength}
use Rattle.words.specs.Sizes.{most_septets, is_old_page}
use Rattle.lists.specs.Lists.{first_wide, laid}
use Rattle.lists.specs.Closing.{without_closing}
use Rattle.words.specs.Judging.{Rule, when, verdict, settle, service_rules}
use Rattle.stream.specs.Stream.{packed, unpacked}
use Rattle.stream.specs.Digits.{low_of}
use Rattle.stream.specs.UssdPacking.{cr, septets_in, last, adds_cr}
use Rattle.stream.specs.SeptetCalls.{octets_of, travels, septets_fit}
use Rattle.stream.specs.declared.Packed.{Packed}
use Rattle.words.specs.declared.Refusal.{Refusal}
use Rattle.stream.specs.Successes.{ok_packed}

abbrev pub low_bits : List ℕ → List ℕ
low_bits s = low_of 7 s

-- 8, 5, 7: as pack of the first n septets' low bits, but that none of these can be 9
unfoldable pub array_rules : Service → List ℕ → ℕ → ℕ → List Rule
array_rules service s n room =
    service_rules service
    ++ (when (is_old_page service) Unwritable
    ∷ when (ltb (most_septets service) n) TooLong
    ∷ when (ltb room (length (octets_of service (take n (low_bits s))))) NoRoom
    ∷ [])

unfoldable pub array_answers : Service → List ℕ → ℕ → ℕ → Result Packed Refusal
array_answers service s n room =
    settle (verdict (array_rules service s n room)) Err
    (ok_packed (length (octets_of service (take n (low_bits s)))) (travels service n))

unfoldable pub array_leaves : Service → List ℕ → ℕ → List ℕ → List ℕ
array_leaves service s n out =
    settle (verdict (array_rules service s n (length out))) (λ r. out) (laid (octets_of service (take n (low_bits s))) out)

-- 9, 7
unfoldable pub page_rules : List ℕ → ℕ → List Rule
page_rules p room =
    when (ltb (first_wide p) (length p)) (NoSeptet (first_wide p)) ∷ when (ltb room (length (packed p))) NoRoom ∷ []

unfoldable pub page_answers : List ℕ → ℕ → Result ℕ Refusal
page_answers p room = settle (verdict (page_rules p room)) Err (Ok (length (packed p)))

unfoldable pub page_leaves : List ℕ → List ℕ → List ℕ
page_leaves p out = settle (verdict (page_rules p (length out))) (λ r. out) (laid (packed p) out)

abbrev pub held_count : Service → ℕ → ℕ → ℕ
held_count ShortMessage octets count = count
held_count Broadcast octets count = most_septets Broadcast
held_count Ussd octets count = septets_in octets
held_count OldPage octets count = most_septets OldPage

abbrev pub all_septets : Service → ℕ → List ℕ → List ℕ
all_septets service count o = unpacked (held_count service (length o) count) o

-- 4, 7
unfoldable pub all_rules : Service → List ℕ → ℕ → ℕ → List Rule
all_rules service o count room =
    service_rules service
    ++ (when (not (septets_fit service (length o) count)) WrongLength
    ∷ when (ltb room (length (all_septets service count o))) NoRoom
    ∷ [])

unfoldable pub all_answers : Service → List ℕ → ℕ → ℕ → Result ℕ Refusal
all_answers service o count room =
    settle (verdict (all_rules service o count room)) Err (Ok (length (all_septets service count o)))

unfoldable pub all_leaves : Service → List ℕ → ℕ → List ℕ → List ℕ
all_leaves service o count out =
    settle (verdict (all_rules service o count (length out))) (λ r. out) (laid (all_septets service count o) out)

abbrev pub adds_under : Service → List ℕ → Bool
adds_under ShortMessage s = false
adds_under Broadcast s = false
adds_under Ussd s = adds_cr s
adds_under OldPage s = false

-- whole groups of eight septets are whole groups of seven octets
unfoldable pub closes_groups : List ℕ → Bool
closes_groups s = ltb 0 (length s) && eqb (length s % 8) 0 && eqb (last s) cr

abbrev pub less_one : Bool → ℕ → ℕ
less_one true n = n - 1
less_one false n = n

abbrev pub kept_count : Service → List ℕ → ℕ
kept_count ShortMessage s = length s
kept_count Broadcast s = length (without_closing cr s)
kept_count Ussd s = less_one (closes_groups s) (length s)
kept_count OldPage s = length (without_closing 0 s)
