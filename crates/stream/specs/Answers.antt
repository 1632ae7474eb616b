-- Document 01, "Refusal numbers and their order": what packing reports. A refusal reports its number and position, and 0 else.
-- Own rule: none. Assumes nothing.
--   packed_number a   == the refusal's number, and 0 of a success
--   packed_position a == the refusal's position, and 0 of a success
--   packed_written a  == how many octets were stored, and 0 of a refusal
--   packed_count a    == the length count that goes with a short message, and 0 of a refusal
use Rattle.std.specs.Prelude.{ℕ, Result, Ok, Err}
use Rattle.words.specs.Refusals.{number_of, position_of}
use Rattle.stream.specs.declared.Packed.{Packed}
use Rattle.words.specs.declared.Refusal.{Refusal}

abbrev pub packed_number : Result Packed Refusal → ℕ
packed_number (Ok m) = 0
packed_number (Err r) = number_of r

abbrev pub packed_position : Result Packed Refusal → ℕ
packed_position (Ok m) = 0
packed_position (Err r) = position_of r

abbrev pub packed_written : Result Packed Refusal → ℕ
packed_written (Ok m) = m.octets
packed_written (Err r) = 0

abbrev pub packed_count : Result Packed Refusal → ℕ
packed_count (Ok m) = m.count
packed_count (Err r) = 0
