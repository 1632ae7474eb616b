-- The library's answers in numbers, as C takes them: each value is what the answer reports by its own crate's definition.
-- Document 01, "Refusal numbers and their order": "A refusal reports 0 written, count 0 and data coding octet 0, and any reading in its
-- answer holds the unmentioned values."
-- Own rule: text held is 1 for 7-bit and 2 for UCS2. Cited by the definitions of the exported calls. Assumes nothing.
--   filled_answer, packed_answer, octet_written_answer, message_written_answer == what C gets of a call that writes or fills a buffer
--   octet_read_answer, held_answer, message_read_answer                        == what C gets of a call that reads a coding octet
--   shown_told x a, lettered_told ucs2 a, refused_told q                       == what is told on the way to the last of them: of a text by itself with its
--                                                                                 reading x, of a page behind letters, of a refusal
--   told_answer a                                                              == what C gets of that
--   refused_answer, read_refused_answer                                        == the same of a refusal by itself
use Rattle.std.specs.Prelude.{ℕ, Bool, Result, Ok, Err}
use Rattle.words.specs.declared.Refusal.{Refusal}
use Rattle.words.specs.Refusals.{number_of, position_of}
use Rattle.words.specs.Answers.{filled_number, filled_position, filled_written}
use Rattle.coding.specs.declared.Reading.{Reading}
use Rattle.coding.specs.declared.Held.{Held}
use Rattle.coding.specs.Readings.{unmentioned, with_letters}
use Rattle.coding.specs.LanguageLetters.{lettered_in}
use Rattle.lettered.specs.declared.LetteredRead.{LetteredRead}
use Rattle.coding.specs.Answers.{written_number, written_position, written_octet, held_number, held_position, read_number as octet_read_number, read_position as octet_read_position, read_reading as octet_read_reading}
use Rattle.stream.specs.declared.Packed.{Packed}
use Rattle.stream.specs.Answers.{packed_number, packed_position, packed_written, packed_count}
use Rattle.demands.specs.declared.MessageRead.{MessageRead}
use Rattle.demands.specs.declared.MessageWritten.{MessageWritten}
use Rattle.demands.specs.Reports.{read_number, read_position, read_written, read_reading, write_number, write_position, write_written, write_count, write_coding}
use Rattle.answers.specs.declared.Answer.{Answer}
use Rattle.answers.specs.declared.ReadAnswer.{ReadAnswer}
use Rattle.answers.specs.declared.MessageTold.{MessageTold}
use Rattle.names.specs.declared.JoinedNumbers.{JoinedNumbers}
use Rattle.names.specs.Names.{numbers_of}
use Rattle.names.specs.Joined.{joined_numbers, parted_numbers}
use Rattle.coding.specs.declared.Held.TheVariants as held

abbrev pub done_answer : ℕ → ℕ → ℕ → Answer
done_answer count written coding = record { refusal = 0; count = count; position = 0; written = written; coding = coding }

abbrev pub refused_answer : Refusal → Answer
refused_answer q = record { refusal = number_of q; count = 0; position = position_of q; written = 0; coding = 0 }

abbrev pub filled_answer : Result ℕ Refusal → Answer
filled_answer a = record { refusal = filled_number a; count = 0; position = filled_position a; written = filled_written a; coding = 0 }

abbrev pub packed_answer : Result Packed Refusal → Answer
packed_answer a = record { refusal = packed_number a; count = packed_count a; position = packed_position a; written = packed_written a; coding = 0 }

abbrev pub octet_written_answer : Result ℕ Refusal → Answer
octet_written_answer a = record { refusal = written_number a; count = 0; position = written_position a; written = 0; coding = written_octet a }

abbrev pub message_written_answer : Result MessageWritten Refusal → Answer
message_written_answer a = record { refusal = write_number a; count = write_count a; position = write_position a; written = write_written a; coding = write_coding a }

abbrev pub read_answer : ℕ → ℕ → Reading → ReadAnswer
read_answer written holds r = record { refusal = 0; position = 0; written = written; holds = holds; reading = numbers_of r }

abbrev pub read_refused_answer : Refusal → ReadAnswer
read_refused_answer q = record { refusal = number_of q; position = position_of q; written = 0; holds = 0; reading = numbers_of unmentioned }

abbrev pub octet_read_answer : Result Reading Refusal → ReadAnswer
octet_read_answer a = record { refusal = octet_read_number a; position = octet_read_position a; written = 0; holds = 0; reading = numbers_of (octet_read_reading a) }

-- the number of the text that is held, and 0 of a refusal
abbrev pub held_text : Result Held Refusal → ℕ
held_text (Ok held.Septets) = 1
held_text (Ok held.Units) = 2
held_text (Err q) = 0

abbrev pub held_answer : Result Held Refusal → ReadAnswer
held_answer a = record { refusal = held_number a; position = held_position a; written = 0; holds = held_text a; reading = numbers_of unmentioned }

abbrev pub message_read_answer : Result MessageRead Refusal → ReadAnswer
message_read_answer a = record { refusal = read_number a; position = read_position a; written = read_written a; holds = 0; reading = numbers_of (read_reading a) }

-- what reading a message tells before C's answer is made of it
abbrev pub refused_told : Refusal → MessageTold
refused_told q = record { refusal = number_of q; position = position_of q; written = 0; reading = joined_numbers (numbers_of unmentioned) }

abbrev pub shown_told : JoinedNumbers → Result ℕ Refusal → MessageTold
shown_told x (Ok units) = record { refusal = 0; position = 0; written = units; reading = x }
shown_told x (Err q) = refused_told q

abbrev pub lettered_told : Bool → Result LetteredRead Refusal → MessageTold
lettered_told ucs2 (Ok m) = record { refusal = 0; position = 0; written = m.units; reading = joined_numbers (numbers_of (with_letters m.letters (lettered_in ucs2))) }
lettered_told ucs2 (Err q) = refused_told q

abbrev pub told_answer : MessageTold → ReadAnswer
told_answer a = record { refusal = a.refusal; position = a.position; written = a.written; holds = 0; reading = parted_numbers a.reading }
