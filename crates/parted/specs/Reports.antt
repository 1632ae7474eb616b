-- Document 01, "Refusal numbers and their order": what the calls with parts report. "A refusal reports 0 written, count 0 and data coding octet 0, and any
-- reading in its answer holds the unmentioned values", and "a position is 0 unless the request gives one".
-- Own rule: a refusal has no mark, no reference and no numbers. Assumes nothing.
--   counted_number, counted_position, counted_parts                                              == what count_parts reports
--   part_number, part_position, part_written, part_travels, part_marked, part_coding, part_parts == what write_part reports
--   parts_number, parts_position, parts_written, parts_marked, parts_coding, parts_parts         == what write_parts reports
--   read_number, read_position, read_written, read_reading, read_numbers                         == what read_part reports
--   join_number, join_position, join_written, join_reading, join_reference, join_parts           == what join_parts reports
use Rattle.std.specs.Prelude.{ℕ, Bool, false, Result, Option, Ok, Err, None}
use Rattle.words.specs.Refusals.{number_of, position_of}
use Rattle.coding.specs.declared.Reading.{Reading}
use Rattle.coding.specs.Readings.{unmentioned}
use Rattle.parted.specs.declared.PartWritten.{PartWritten}
use Rattle.parted.specs.declared.PartsWritten.{PartsWritten}
use Rattle.parted.specs.declared.PartRead.{PartRead}
use Rattle.parted.specs.declared.PartsJoined.{PartsJoined}
use Rattle.words.specs.declared.Refusal.{Refusal}
use Rattle.headed.specs.declared.Numbers.{Numbers}

abbrev pub counted_number : Result ℕ Refusal → ℕ
counted_number (Ok n) = 0
counted_number (Err q) = number_of q

abbrev pub counted_position : Result ℕ Refusal → ℕ
counted_position (Ok n) = 0
counted_position (Err q) = position_of q

abbrev pub counted_parts : Result ℕ Refusal → ℕ
counted_parts (Ok n) = n
counted_parts (Err q) = 0

abbrev pub part_number : Result PartWritten Refusal → ℕ
part_number (Ok m) = 0
part_number (Err q) = number_of q

abbrev pub part_position : Result PartWritten Refusal → ℕ
part_position (Ok m) = 0
part_position (Err q) = position_of q

abbrev pub part_written : Result PartWritten Refusal → ℕ
part_written (Ok m) = m.octets
part_written (Err q) = 0

abbrev pub part_travels : Result PartWritten Refusal → ℕ
part_travels (Ok m) = m.count
part_travels (Err q) = 0

abbrev pub part_marked : Result PartWritten Refusal → Bool
part_marked (Ok m) = m.marked
part_marked (Err q) = false

abbrev pub part_coding : Result PartWritten Refusal → ℕ
part_coding (Ok m) = m.coding
part_coding (Err q) = 0

abbrev pub part_parts : Result PartWritten Refusal → ℕ
part_parts (Ok m) = m.parts
part_parts (Err q) = 0

abbrev pub parts_number : Result PartsWritten Refusal → ℕ
parts_number (Ok m) = 0
parts_number (Err q) = number_of q

abbrev pub parts_position : Result PartsWritten Refusal → ℕ
parts_position (Ok m) = 0
parts_position (Err q) = position_of q

abbrev pub parts_written : Result PartsWritten Refusal → ℕ
parts_written (Ok m) = m.octets
parts_written (Err q) = 0

abbrev pub parts_marked : Result PartsWritten Refusal → Bool
parts_marked (Ok m) = m.marked
parts_marked (Err q) = false

abbrev pub parts_coding : Result PartsWritten Refusal → ℕ
parts_coding (Ok m) = m.coding
parts_coding (Err q) = 0

abbrev pub parts_parts : Result PartsWritten Refusal → ℕ
parts_parts (Ok m) = m.parts
parts_parts (Err q) = 0

abbrev pub read_number : Result PartRead Refusal → ℕ
read_number (Ok m) = 0
read_number (Err q) = number_of q

abbrev pub read_position : Result PartRead Refusal → ℕ
read_position (Ok m) = 0
read_position (Err q) = position_of q

abbrev pub read_written : Result PartRead Refusal → ℕ
read_written (Ok m) = m.units
read_written (Err q) = 0

abbrev pub read_reading : Result PartRead Refusal → Reading
read_reading (Ok m) = m.reading
read_reading (Err q) = unmentioned

abbrev pub read_numbers : Result PartRead Refusal → Option Numbers
read_numbers (Ok m) = m.concatenation
read_numbers (Err q) = None

abbrev pub join_number : Result PartsJoined Refusal → ℕ
join_number (Ok m) = 0
join_number (Err q) = number_of q

abbrev pub join_position : Result PartsJoined Refusal → ℕ
join_position (Ok m) = 0
join_position (Err q) = position_of q

abbrev pub join_written : Result PartsJoined Refusal → ℕ
join_written (Ok m) = m.units
join_written (Err q) = 0

abbrev pub join_reading : Result PartsJoined Refusal → Reading
join_reading (Ok m) = m.reading
join_reading (Err q) = unmentioned

abbrev pub join_reference : Result PartsJoined Refusal → ℕ
join_reference (Ok m) = m.reference
join_reference (Err q) = 0

abbrev pub join_parts : Result PartsJoined Refusal → ℕ
join_parts (Ok m) = m.parts
join_parts (Err q) = 0
