-- Document 01, "Refusal numbers and their order": the whole reader. 1, 2, 3, 4, 7. A text by itself: 4, 7.
-- Document 02, W2: "Refusals: 11, .. after 4 on reading", of one broadcast page with the prefix mark, which is not 3.
-- Own rule: none. Cited by read_message, read_page and read_text. Assumes nothing.
-- A text by itself is read as UCS2 where ucs2 is true, else as 7-bit text:
--   fits_text service ucs2 octets count == so many octets fit the service and the count
--   held_text service ucs2 count o      == the units that the octets o hold
--   text_length_rules                   == what refuses the octets, where the lent buffer has that much room
--   text_reads, text_read_leaves        == what read_text answers, and what it leaves in the lent buffer
-- A page behind the letters of its language, by itself, under the reading r:
--   lettered_as r answer         == the answer, with the letters in the reading
--   page_reads, page_read_leaves == what read_page answers, and what it leaves in the lent buffer
-- A message's text is read as its coding octet says, on a page with the prefix mark behind its letters:
--   clear_rules r, heard_rules s r              == what a reading is refused for: 1, 2, and 3 but on such a page
--   fits_reading, text_of_message, length_rules == the same of octets that are read as the reading r
--   reading_of_message service r o              == the reading r, on such a page with the letters that it begins with
--   read_rules service coding count o room      == the refusals, where the lent buffer has that much room
--   read_answers, read_leaves                   == what read_message answers, and what it leaves in the lent buffer
use Rattle.std.specs.Prelude.{ℕ, Bool, not, cond, List, [], ◌∷◌, ◌++◌, ltb, length, Result, Ok, Err}
use Rattle.words.specs.declared.Service.{Service}
use Rattle.words.specs.declared.Refusal.TheVariants.{Compressed, NoText, WrongLength, NoRoom}
use Rattle.words.specs.Sizes.{is_old_page}
use Rattle.lists.specs.Lists.{laid}
use Rattle.words.specs.Judging.{Rule, when, verdict, settle, service_rules}
use Rattle.coding.specs.declared.Reading.{Reading}
use Rattle.coding.specs.Readings.{with_letters}
use Rattle.coding.specs.OctetRead.{octet_rules, read_under}
use Rattle.coding.specs.LanguageLetters.{is_lettered}
use Rattle.coding.specs.Holding.{is_ucs2, is_data, text_rules}
use Rattle.letters.specs.Reading.{text_of, old_text_of}
use Rattle.stream.specs.SeptetCalls.{septets_fit, septets_of}
use Rattle.stream.specs.UnitCalls.{units_fit, units_of}
use Rattle.lettered.specs.LetteredPage.{letters_in, lettered_text, lettered_read_rules, lettered_reads, lettered_read_leaves}
use Rattle.lettered.specs.declared.LetteredRead.{LetteredRead}
use Rattle.demands.specs.declared.MessageRead.{MessageRead}
use Rattle.words.specs.declared.Refusal.{Refusal}
use Rattle.lettered.specs.Successes.{ok_lettered_read}
use Rattle.demands.specs.Successes.{ok_message_read}

abbrev pub fits_text : Service → Bool → ℕ → ℕ → Bool
fits_text service ucs2 octets count = cond ucs2 (units_fit service octets count) (septets_fit service octets count)

-- the septets of an old page read by the alphabet of 1991
abbrev pub shown_septets : Service → List ℕ → List ℕ
shown_septets service s = cond (is_old_page service) (old_text_of s) (text_of s)

abbrev pub held_text : Service → Bool → ℕ → List ℕ → List ℕ
held_text service ucs2 count o = cond ucs2 (units_of service o) (shown_septets service (septets_of service count o))

-- 4, 7
unfoldable pub text_length_rules : Service → Bool → ℕ → List ℕ → ℕ → List Rule
text_length_rules service ucs2 count o room =
    service_rules service
    ++ (when (not (fits_text service ucs2 (length o) count)) WrongLength
    ∷ when (ltb room (length (held_text service ucs2 count o))) NoRoom
    ∷ [])

unfoldable pub text_reads : Service → Bool → ℕ → List ℕ → ℕ → Result ℕ Refusal
text_reads service ucs2 count o room =
    settle (verdict (text_length_rules service ucs2 count o room)) Err (Ok (length (held_text service ucs2 count o)))

unfoldable pub text_read_leaves : Service → Bool → ℕ → List ℕ → List ℕ → List ℕ
text_read_leaves service ucs2 count o out =
    settle (verdict (text_length_rules service ucs2 count o (length out))) (λ q. out) (laid (held_text service ucs2 count o) out)

abbrev pub lettered_as : Reading → Result LetteredRead Refusal → Result MessageRead Refusal
lettered_as r (Ok page) = ok_message_read page.units (with_letters page.letters r)
lettered_as r (Err q) = Err q

abbrev pub page_reads : Reading → ℕ → List ℕ → ℕ → Result MessageRead Refusal
page_reads r count o room = lettered_as r (lettered_reads (is_ucs2 r.alphabet) count o room)

abbrev pub page_read_leaves : Reading → ℕ → List ℕ → List ℕ → List ℕ
page_read_leaves r count o out = lettered_read_leaves (is_ucs2 r.alphabet) count o out

-- the same of octets that are read as r
abbrev pub fits_reading : Service → Reading → ℕ → ℕ → Bool
fits_reading service r octets count = fits_text service (is_ucs2 r.alphabet) octets count

abbrev pub text_of_message : Service → Reading → ℕ → List ℕ → List ℕ
text_of_message service r count o =
    cond (is_lettered service r) (lettered_text (is_ucs2 r.alphabet) o) (held_text service (is_ucs2 r.alphabet) count o)

abbrev pub length_rules : Service → Reading → ℕ → List ℕ → ℕ → List Rule
length_rules service r count o room =
    cond (is_lettered service r) (lettered_read_rules (is_ucs2 r.alphabet) count o room) (text_length_rules service (is_ucs2 r.alphabet) count o room)

abbrev pub reading_of_message : Service → Reading → List ℕ → Reading
reading_of_message service r o = cond (is_lettered service r) (with_letters (letters_in o) r) r

-- 1, 2
unfoldable pub clear_rules : Reading → List Rule
clear_rules r = when r.compressed Compressed ∷ when (is_data r.alphabet) NoText ∷ []

abbrev pub heard_rules : Service → Reading → List Rule
heard_rules service r = cond (is_lettered service r) (clear_rules r) (text_rules service r)

-- 1, 2, 3, 4, 7: of an old page only 2 can come before 4, since it reads as the unmentioned values. On a page with letters 1, 2, 4, 11, 7
unfoldable pub read_rules : Service → ℕ → ℕ → List ℕ → ℕ → List Rule
read_rules service coding count o room =
    octet_rules service coding
    ++ (heard_rules service (read_under service coding)
    ++ length_rules service (read_under service coding) count o room)

unfoldable pub read_answers : Service → ℕ → ℕ → List ℕ → ℕ → Result MessageRead Refusal
read_answers service coding count o room =
    settle (verdict (read_rules service coding count o room)) Err
    (ok_message_read (length (text_of_message service (read_under service coding) count o)) (reading_of_message service (read_under service coding) o))

unfoldable pub read_leaves : Service → ℕ → ℕ → List ℕ → List ℕ → List ℕ
read_leaves service coding count o out =
    settle (verdict (read_rules service coding count o (length out))) (λ r. out)
    (laid (text_of_message service (read_under service coding) count o) out)
