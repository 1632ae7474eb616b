-- Document 01, "Refusal numbers and their order": what the whole reader and the whole writer report. "A refusal reports 0 written,
-- count 0 and data coding octet 0, and any reading in its answer holds the unmentioned values."
-- Own rule: none. Assumes nothing.
--   read_number, read_position, read_written, read_reading                 == what an answer of the reader reports
--   write_number, write_position, write_written, write_count, write_coding == what an answer of the writer reports
use Rattle.std.specs.Prelude.{ℕ, Result, Ok, Err}
use Rattle.words.specs.Refusals.{number_of, position_of}
use Rattle.coding.specs.declared.Reading.{Reading}
use Rattle.coding.specs.Readings.{unmentioned}
use Rattle.demands.specs.declared.MessageRead.{MessageRead}
use Rattle.demands.specs.declared.MessageWritten.{MessageWritten}
use Rattle.words.specs.declared.Refusal.{Refusal}

abbrev pub read_number : Result MessageRead Refusal → ℕ
read_number (Ok m) = 0
read_number (Err r) = number_of r

abbrev pub read_position : Result MessageRead Refusal → ℕ
read_position (Ok m) = 0
read_position (Err r) = position_of r

abbrev pub read_written : Result MessageRead Refusal → ℕ
read_written (Ok m) = m.units
read_written (Err r) = 0

abbrev pub read_reading : Result MessageRead Refusal → Reading
read_reading (Ok m) = m.reading
read_reading (Err r) = unmentioned

abbrev pub write_number : Result MessageWritten Refusal → ℕ
write_number (Ok m) = 0
write_number (Err r) = number_of r

abbrev pub write_position : Result MessageWritten Refusal → ℕ
write_position (Ok m) = 0
write_position (Err r) = position_of r

abbrev pub write_written : Result MessageWritten Refusal → ℕ
write_written (Ok m) = m.octets
write_written (Err r) = 0

abbrev pub write_count : Result MessageWritten Refusal → ℕ
write_count (Ok m) = m.count
write_count (Err r) = 0

abbrev pub write_coding : Result MessageWritten Refusal → ℕ
write_coding (Ok m) = m.coding
write_coding (Err r) = 0
