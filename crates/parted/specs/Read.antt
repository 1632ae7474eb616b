-- Document 02, W5, and document 01, "Refusal numbers and their order": reading one short message with or without a header in front. 1, 2, 4, 12, 4, 7:
-- "12, after 4, for a header longer than the octets or (in septets) than the count, or an element running past it or of wrong length; UCS2 evenness is
-- judged behind the header, after 12". "A mark beside the octets says that a header stands in front; the count covers it."
-- Own rule: the numbers of a part are answered as they stand. Cited by read_part, and by the definitions of joining. Assumes nothing.
-- A message is UCS2 where ucs2 is true, else 7-bit:
--   count_fits ucs2 octets count  == so many octets are what the count asks, and no more than a short message has
--   head_size marked o            == how many octets the header in front of o takes, none without the mark
--   wrong_head ucs2 count o       == no header stands in front of o, or it takes more septets than the count
--   odd_behind ucs2 h o           == behind the header of h octets the octets of UCS2 are odd
--   content_behind ucs2 h count o == what stands behind the header: units, or septets
--   shown_as ucs2 s               == the text of a content
--   text_behind ucs2 h count o    == the text behind the header
--   marked_numbers marked o       == the numbers of the part, if there are any
--   behind_rules, part_read_rules == what refuses octets whose reading is known; what refuses them by their coding octet too, where the lent buffer has that much room
--   part_reads, part_read_leaves  == what read_part answers, and what it leaves in the lent buffer
use Rattle.std.specs.Prelude.{ℕ, ◌-◌, ◌%◌, Bool, false, not, cond, ◌&&◌, ◌||◌, List, [], ◌∷◌, ◌++◌, ltb, leb, eqb, length, drop, Result, Option, Err, None}
use Rattle.words.specs.declared.Service.TheVariants.{ShortMessage}
use Rattle.words.specs.declared.Refusal.TheVariants.{WrongLength, WrongHeader, NoRoom}
use Rattle.words.specs.Sizes.{most_octets}
use Rattle.words.specs.Judging.{Rule, when, verdict, settle}
use Rattle.lists.specs.Lists.{laid}
use Rattle.coding.specs.declared.Reading.{Reading}
use Rattle.coding.specs.OctetRead.{read_under}
use Rattle.coding.specs.Holding.{is_ucs2, text_rules}
use Rattle.letters.specs.Reading.{text_of}
use Rattle.stream.specs.SeptetCalls.{septets_fit}
use Rattle.stream.specs.Ucs2.{octet_units}
use Rattle.headed.specs.Header.{header_size, right_header, header_numbers, septets_over}
use Rattle.parted.specs.declared.PartRead.{PartRead}
use Rattle.parted.specs.Behind.{unpacked_behind}
use Rattle.words.specs.declared.Refusal.{Refusal}
use Rattle.headed.specs.declared.Numbers.{Numbers}
use Rattle.parted.specs.Successes.{ok_part_read}

unfoldable pub count_fits : Bool → ℕ → ℕ → Bool
count_fits ucs2 octets count = cond ucs2 (leb octets (most_octets ShortMessage) && eqb count octets) (septets_fit ShortMessage octets count)

abbrev pub head_size : Bool → List ℕ → ℕ
head_size marked o = cond marked (header_size o) 0

unfoldable pub wrong_head : Bool → ℕ → List ℕ → Bool
wrong_head ucs2 count o = not (right_header o) || cond ucs2 false (ltb count (septets_over (header_size o)))

unfoldable pub odd_behind : Bool → ℕ → List ℕ → Bool
odd_behind ucs2 h o = cond ucs2 (eqb ((length o - h) % 2) 1) false

unfoldable pub content_behind : Bool → ℕ → ℕ → List ℕ → List ℕ
content_behind ucs2 h count o = cond ucs2 (octet_units (drop h o)) (unpacked_behind (septets_over h) (count - septets_over h) o)

abbrev pub shown_as : Bool → List ℕ → List ℕ
shown_as ucs2 s = cond ucs2 s (text_of s)

abbrev pub text_behind : Bool → ℕ → ℕ → List ℕ → List ℕ
text_behind ucs2 h count o = shown_as ucs2 (content_behind ucs2 h count o)

abbrev pub marked_numbers : Bool → List ℕ → Option Numbers
marked_numbers marked o = cond marked (header_numbers o) None

-- 4, 12, 4, 7
unfoldable pub behind_rules : Bool → Bool → ℕ → List ℕ → ℕ → List Rule
behind_rules ucs2 marked count o room =
    when (not (count_fits ucs2 (length o) count)) WrongLength
    ∷ when (marked && wrong_head ucs2 count o) WrongHeader
    ∷ when (odd_behind ucs2 (head_size marked o) o) WrongLength
    ∷ when (ltb room (length (text_behind ucs2 (head_size marked o) count o))) NoRoom
    ∷ []

unfoldable pub part_read_rules : Reading → Bool → ℕ → List ℕ → ℕ → List Rule
part_read_rules r marked count o room = text_rules ShortMessage r ++ behind_rules (is_ucs2 r.alphabet) marked count o room

unfoldable pub part_reads : ℕ → Bool → ℕ → List ℕ → ℕ → Result PartRead Refusal
part_reads coding marked count o room =
    settle (verdict (part_read_rules (read_under ShortMessage coding) marked count o room)) Err
    (ok_part_read (length (text_behind (is_ucs2 (read_under ShortMessage coding).alphabet) (head_size marked o) count o)) (read_under ShortMessage coding) (marked_numbers marked o))

unfoldable pub part_read_leaves : ℕ → Bool → ℕ → List ℕ → List ℕ → List ℕ
part_read_leaves coding marked count o out =
    settle (verdict (part_read_rules (read_under ShortMessage coding) marked count o (length out))) (λ q. out)
    (laid (text_behind (is_ucs2 (read_under ShortMessage coding).alphabet) (head_size marked o) count o) out)
