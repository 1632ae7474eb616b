-- Document 01, "Refusal numbers and their order": what the calls with pages report. "A refusal reports 0 written", "any reading in its answer holds
-- the unmentioned values", and "a position is 0 unless the request gives one".
-- Own rule: none. Assumes nothing.
--   counted_number, counted_position, counted_pages                                                    == what count_pages reports, and build_page beside its block
--   pages_number, pages_position, pages_written, pages_pages                                           == what write_pages reports
--   join_number, join_position, join_written, join_reading, join_sequence, join_identifier, join_pages == what join_pages reports
use Rattle.std.specs.Prelude.{ℕ, Result, Ok, Err}
use Rattle.words.specs.Refusals.{number_of, position_of}
use Rattle.coding.specs.declared.Reading.{Reading}
use Rattle.coding.specs.Readings.{unmentioned}
use Rattle.pages.specs.declared.PagesWritten.{PagesWritten}
use Rattle.pages.specs.declared.Joined.{Joined}
use Rattle.words.specs.declared.Refusal.{Refusal}

abbrev pub counted_number : Result ℕ Refusal → ℕ
counted_number (Ok n) = 0
counted_number (Err q) = number_of q

abbrev pub counted_position : Result ℕ Refusal → ℕ
counted_position (Ok n) = 0
counted_position (Err q) = position_of q

abbrev pub counted_pages : Result ℕ Refusal → ℕ
counted_pages (Ok n) = n
counted_pages (Err q) = 0

abbrev pub pages_number : Result PagesWritten Refusal → ℕ
pages_number (Ok m) = 0
pages_number (Err q) = number_of q

abbrev pub pages_position : Result PagesWritten Refusal → ℕ
pages_position (Ok m) = 0
pages_position (Err q) = position_of q

abbrev pub pages_written : Result PagesWritten Refusal → ℕ
pages_written (Ok m) = m.octets
pages_written (Err q) = 0

abbrev pub pages_pages : Result PagesWritten Refusal → ℕ
pages_pages (Ok m) = m.pages
pages_pages (Err q) = 0

abbrev pub join_number : Result Joined Refusal → ℕ
join_number (Ok m) = 0
join_number (Err q) = number_of q

abbrev pub join_position : Result Joined Refusal → ℕ
join_position (Ok m) = 0
join_position (Err q) = position_of q

abbrev pub join_written : Result Joined Refusal → ℕ
join_written (Ok m) = m.units
join_written (Err q) = 0

abbrev pub join_reading : Result Joined Refusal → Reading
join_reading (Ok m) = m.reading
join_reading (Err q) = unmentioned

abbrev pub join_sequence : Result Joined Refusal → ℕ
join_sequence (Ok m) = m.sequence
join_sequence (Err q) = 0

abbrev pub join_identifier : Result Joined Refusal → ℕ
join_identifier (Ok m) = m.identifier
join_identifier (Err q) = 0

abbrev pub join_pages : Result Joined Refusal → ℕ
join_pages (Ok m) = m.pages
join_pages (Err q) = 0
