-- Document 01, "Refusal numbers and their order": what the calls on a data coding octet report. "A refusal reports 0 written, count 0 and
-- data coding octet 0, and any reading in its answer holds the unmentioned values."
-- Own rule: none. Assumes nothing.
--   read_number, read_position, read_reading        == what read_octet reports
--   written_number, written_position, written_octet == what Reading::write reports
--   held_number, held_position                      == what Reading::holds reports
use Rattle.std.specs.Prelude.{ℕ, Result, Ok, Err}
use Rattle.words.specs.Refusals.{number_of, position_of}
use Rattle.coding.specs.declared.Reading.{Reading}
use Rattle.coding.specs.declared.Held.{Held}
use Rattle.coding.specs.Readings.{unmentioned}
use Rattle.words.specs.declared.Refusal.{Refusal}
use Rattle.coding.specs.declared.Held.TheVariants as held

abbrev pub read_number : Result Reading Refusal → ℕ
read_number (Ok reading) = 0
read_number (Err r) = number_of r

abbrev pub read_position : Result Reading Refusal → ℕ
read_position (Ok reading) = 0
read_position (Err r) = position_of r

abbrev pub read_reading : Result Reading Refusal → Reading
read_reading (Ok reading) = reading
read_reading (Err r) = unmentioned

abbrev pub written_number : Result ℕ Refusal → ℕ
written_number (Ok octet) = 0
written_number (Err r) = number_of r

abbrev pub written_position : Result ℕ Refusal → ℕ
written_position (Ok octet) = 0
written_position (Err r) = position_of r

abbrev pub written_octet : Result ℕ Refusal → ℕ
written_octet (Ok octet) = octet
written_octet (Err r) = 0

abbrev pub held_number : Result Held Refusal → ℕ
held_number (Ok held.Septets) = 0
held_number (Ok held.Units) = 0
held_number (Err r) = number_of r

abbrev pub held_position : Result Held Refusal → ℕ
held_position (Ok held.Septets) = 0
held_position (Ok held.Units) = 0
held_position (Err r) = position_of r
