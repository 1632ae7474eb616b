-- What is settled of one message before it is written or read: its coding octet, whether it is UCS2, and whether letters are in front of its text.
-- Own rule: none. No contract of an exported call cites this file. Assumes nothing.
--   coded_in s x        == what the reading with the numbers x settles of a message that is written under the service s
--   held_by held r      == what a text by itself is read with, where its reading r holds that text
--   reading_heard s r   == what a message is read with, where its reading is r
--   heard_by s octet    == the same, where its coding octet says so
use Rattle.std.specs.Prelude.{true, false, cond, Result, Ok, Err}
use Rattle.words.specs.declared.Service.{Service}
use Rattle.words.specs.declared.Refusal.TheVariants.{Unwritable}
use Rattle.coding.specs.declared.Reading.{Reading}
use Rattle.coding.specs.declared.Held.{Held}
use Rattle.coding.specs.LanguageLetters.{is_lettered}
use Rattle.coding.specs.Holding.{is_ucs2, holds_text}
use Rattle.writer.specs.declared.MessageCoding.{MessageCoding}
use Rattle.writer.specs.Coded.{coded_as}
use Rattle.names.specs.declared.ReadingNumbers.{ReadingNumbers}
use Rattle.names.specs.declared.said.Heard.{Heard}
use Rattle.names.specs.declared.said.Heard.TheVariants as heard
use Rattle.names.specs.Names.{numbers_of, named_reading, under_reading}
use Rattle.names.specs.Joined.{joined_numbers}
use Rattle.words.specs.declared.Refusal.{Refusal}
use Rattle.coding.specs.declared.Held.TheVariants as held

unfoldable pub coded_in : Service → ReadingNumbers → Result MessageCoding Refusal
coded_in s x = under_reading (named_reading x) (Err Unwritable) (λ r. coded_as s r)

abbrev pub held_by : Result Held Refusal → Reading → Result Heard Refusal
held_by (Ok held.Septets) r = Ok (heard.Text false (joined_numbers (numbers_of r)))
held_by (Ok held.Units) r = Ok (heard.Text true (joined_numbers (numbers_of r)))
held_by (Err q) r = Err q

abbrev pub reading_heard : Service → Reading → Result Heard Refusal
reading_heard s r = cond (is_lettered s r) (Ok (heard.Lettered (is_ucs2 r.alphabet))) (held_by (holds_text s r) r)

abbrev pub heard_by : Service → Result Reading Refusal → Result Heard Refusal
heard_by s (Ok r) = reading_heard s r
heard_by s (Err q) = Err q
