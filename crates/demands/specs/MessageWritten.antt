-- Document 01, "Refusal numbers and their order": the whole writer. 8, 1, 2, 3, 6, 5, 7. A text by itself: 8 of an old page, 6, 5, 7.
-- Document 02, W2: "Refusals: 11, in the place of 3 on writing", of one broadcast page with the prefix mark.
-- Own rule: none. Cited by write_message, write_page and write_text. Assumes nothing.
-- A text by itself is written as UCS2 where ucs2 is true, else as 7-bit text:
--   over_size                      == the text is over the service's size
--   text_octets, text_count        == its octets and its length count: of a short message the septets of 7-bit text and the octets of UCS2, else 0
--   text_size_rules                == what refuses it for the service's size, where the lent buffer has that much room
--   text_writes, text_write_leaves == what write_text answers, and what it leaves in the lent buffer
-- A page behind the letters of its language, by itself, under a coding octet:
--   page_as coding answer          == the answer, with the coding octet
--   page_writes, page_write_leaves == what write_page answers, and what it leaves in the lent buffer
-- A message's text is written as its reading says, on a page with the prefix mark behind its letters:
--   letter_rules r, mark_rules s r            == what a reading is refused for: 1, 2, and 3 or in its place 11
--   message_octets, message_count, size_rules == the same of a text that is written as the reading r
--   write_rules service r units room          == the refusals, where the lent buffer has that much room
--   write_answers, write_leaves               == what write_message answers, and what it leaves in the lent buffer
use Rattle.std.specs.Prelude.{ℕ, Bool, not, cond, List, [], ◌∷◌, ◌++◌, length, Result, Ok, Err}
use Rattle.words.specs.declared.Service.{Service}
use Rattle.words.specs.declared.Refusal.TheVariants.{Compressed, NoText, WrongLetters, Unwritable}
use Rattle.words.specs.Sizes.{most_septets, most_units, is_old_page}
use Rattle.lists.specs.Lists.{laid}
use Rattle.words.specs.Judging.{Rule, when, verdict, settle}
use Rattle.coding.specs.declared.Reading.{Reading}
use Rattle.fields.specs.declared.Letters.{Letters}
use Rattle.fields.specs.Letters.{are_letters}
use Rattle.coding.specs.OctetWritten.{smallest}
use Rattle.coding.specs.LanguageLetters.{is_lettered, coding_rules}
use Rattle.coding.specs.Holding.{is_ucs2, is_data, text_rules}
use Rattle.letters.specs.Writing.{septets_of}
use Rattle.stream.specs.SeptetCalls.{octets_of, count_of}
use Rattle.stream.specs.UnitCalls.{ucs2_octets_of, unit_count_of}
pub use Rattle.letters.specs.Sized.{not_codable, over_room, sized_rules}
use Rattle.lettered.specs.LetteredPage.{lettered_octets, lettered_size_rules, lettered_writes, lettered_write_leaves}
use Rattle.demands.specs.declared.MessageWritten.{MessageWritten}
use Rattle.words.specs.declared.Refusal.{Refusal}
use Rattle.demands.specs.Successes.{ok_message_written}

abbrev pub over_size : Service → Bool → List ℕ → Bool
over_size service ucs2 units = over_room (most_septets service) (most_units service) ucs2 units

abbrev pub text_octets : Service → Bool → List ℕ → List ℕ
text_octets service ucs2 units = cond ucs2 (ucs2_octets_of service units) (octets_of service (septets_of units))

abbrev pub text_count : Service → Bool → List ℕ → ℕ
text_count service ucs2 units = cond ucs2 (unit_count_of service units) (count_of service (septets_of units))

-- the service's own size, and nothing in front
unfoldable pub text_size_rules : Service → Bool → List ℕ → ℕ → List Rule
text_size_rules service ucs2 units room =
    sized_rules (most_septets service) (most_units service) ucs2 units (text_octets service ucs2 units) room

unfoldable pub text_writes : Service → Bool → ℕ → List ℕ → ℕ → Result MessageWritten Refusal
text_writes service ucs2 coding units room =
    settle (verdict (when (is_old_page service) Unwritable ∷ text_size_rules service ucs2 units room)) Err
    (ok_message_written (length (text_octets service ucs2 units)) (text_count service ucs2 units) coding)

unfoldable pub text_write_leaves : Service → Bool → List ℕ → List ℕ → List ℕ
text_write_leaves service ucs2 units out =
    settle (verdict (when (is_old_page service) Unwritable ∷ text_size_rules service ucs2 units (length out))) (λ q. out)
    (laid (text_octets service ucs2 units) out)

-- a page has no count
abbrev pub page_as : ℕ → Result ℕ Refusal → Result MessageWritten Refusal
page_as coding (Ok octets) = ok_message_written octets 0 coding
page_as coding (Err q) = Err q

abbrev pub page_writes : Bool → Letters → ℕ → List ℕ → ℕ → Result MessageWritten Refusal
page_writes ucs2 letters coding units room = page_as coding (lettered_writes ucs2 letters units room)

abbrev pub page_write_leaves : Bool → Letters → List ℕ → List ℕ → List ℕ
page_write_leaves ucs2 letters units out = lettered_write_leaves ucs2 letters units out

-- the same of a text that is written as r
abbrev pub message_octets : Service → Reading → List ℕ → List ℕ
message_octets service r units =
    cond (is_lettered service r) (lettered_octets (is_ucs2 r.alphabet) r.letters units) (text_octets service (is_ucs2 r.alphabet) units)

abbrev pub message_count : Service → Reading → List ℕ → ℕ
message_count service r units = text_count service (is_ucs2 r.alphabet) units

abbrev pub size_rules : Service → Reading → List ℕ → ℕ → List Rule
size_rules service r units room =
    cond (is_lettered service r) (lettered_size_rules (is_ucs2 r.alphabet) r.letters units room) (text_size_rules service (is_ucs2 r.alphabet) units room)

-- 1, 2, 11: "where a letter is not a to z", and an absent one is not
unfoldable pub letter_rules : Reading → List Rule
letter_rules r =
    when r.compressed Compressed
    ∷ when (is_data r.alphabet) NoText
    ∷ when (not (are_letters r.letters)) WrongLetters
    ∷ []

abbrev pub mark_rules : Service → Reading → List Rule
mark_rules service r = cond (is_lettered service r) (letter_rules r) (text_rules service r)

unfoldable pub write_rules : Service → Reading → List ℕ → ℕ → List Rule
write_rules service r units room = coding_rules service r ++ (mark_rules service r ++ size_rules service r units room)

unfoldable pub write_answers : Service → Reading → List ℕ → ℕ → Result MessageWritten Refusal
write_answers service r units room =
    settle (verdict (write_rules service r units room)) Err
    (ok_message_written (length (message_octets service r units)) (message_count service r units) (smallest service r))

unfoldable pub write_leaves : Service → Reading → List ℕ → List ℕ → List ℕ
write_leaves service r units out =
    settle (verdict (write_rules service r units (length out))) (λ q. out) (laid (message_octets service r units) out)
