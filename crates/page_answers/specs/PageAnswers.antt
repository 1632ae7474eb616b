-- The answers of the calls with pages in numbers, as C takes them: each value is what the answer reports by crate `pages`.
-- Document 01, "Refusal numbers and their order": "A refusal reports 0 written", "any reading in its answer holds the unmentioned values",
-- "a refused array is all zero".
-- Own rule: a refusal reports 0 pages, and the sequence number and the message identifier 0. Cited by the definitions of the exported calls.
-- Assumes nothing.
--   header_numbers h                                                  == what C gets of the header of a block
--   counted_answer, pages_written_answer, built_answer, joined_answer == what C gets of count_pages, write_pages, build_page and join_pages
--   pages_done_answer, join_done_answer                               == the same of a success by itself
--   page_answer a octets                                              == the answer a of building a page, with its block
--   pages_refused_answer, page_refused_answer, join_refused_answer    == the same of a refusal by itself
use Rattle.std.specs.Prelude.{ℕ, List, replicate, Result}
use Rattle.words.specs.declared.Refusal.{Refusal}
use Rattle.words.specs.Refusals.{number_of, position_of}
use Rattle.coding.specs.declared.Reading.{Reading}
use Rattle.coding.specs.Readings.{unmentioned}
use Rattle.names.specs.Names.{numbers_of}
use Rattle.pages.specs.declared.Header.{Header}
use Rattle.pages.specs.declared.PagesWritten.{PagesWritten}
use Rattle.pages.specs.declared.Joined.{Joined}
use Rattle.pages.specs.Blocks.{block_size}
use Rattle.pages.specs.Written.{Built}
use Rattle.pages.specs.Reports.{counted_number, counted_position, counted_pages, pages_number, pages_position, pages_written, pages_pages, join_number, join_position, join_written, join_reading, join_sequence, join_identifier, join_pages}
use Rattle.page_answers.specs.declared.BlockHeader.{BlockHeader}
use Rattle.page_answers.specs.declared.PagesAnswer.{PagesAnswer}
use Rattle.page_answers.specs.declared.PageAnswer.{PageAnswer}
use Rattle.page_answers.specs.declared.JoinAnswer.{JoinAnswer}

abbrev pub header_numbers : Header → BlockHeader
header_numbers h =
    record { sequence = h.sequence; identifier = h.identifier; coding = h.coding; total = h.total; number = h.number }

abbrev pub pages_done_answer : ℕ → ℕ → PagesAnswer
pages_done_answer pages written = record { refusal = 0; pages = pages; position = 0; written = written }

abbrev pub pages_refused_answer : Refusal → PagesAnswer
pages_refused_answer q = record { refusal = number_of q; pages = 0; position = position_of q; written = 0 }

abbrev pub counted_answer : Result ℕ Refusal → PagesAnswer
counted_answer a = record { refusal = counted_number a; pages = counted_pages a; position = counted_position a; written = 0 }

abbrev pub pages_written_answer : Result PagesWritten Refusal → PagesAnswer
pages_written_answer a = record { refusal = pages_number a; pages = pages_pages a; position = pages_position a; written = pages_written a }

abbrev pub page_answer : PagesAnswer → List ℕ → PageAnswer
page_answer a octets = record { refusal = a.refusal; pages = a.pages; position = a.position; block = record { octets = octets } }

abbrev pub page_refused_answer : Refusal → PageAnswer
page_refused_answer q = page_answer (pages_refused_answer q) (replicate block_size 0)

-- the block is all zero where the answer is a refusal (built_as)
abbrev pub built_answer : Built → PageAnswer
built_answer b = page_answer (counted_answer b.answer) b.block

abbrev pub join_done_answer : ℕ → ℕ → ℕ → ℕ → Reading → JoinAnswer
join_done_answer pages written sequence identifier r =
    record {
      refusal = 0;
      pages = pages;
      position = 0;
      written = written;
      sequence = sequence;
      identifier = identifier;
      reading = numbers_of r;
    }

abbrev pub join_refused_answer : Refusal → JoinAnswer
join_refused_answer q =
    record {
      refusal = number_of q;
      pages = 0;
      position = position_of q;
      written = 0;
      sequence = 0;
      identifier = 0;
      reading = numbers_of unmentioned;
    }

abbrev pub joined_answer : Result Joined Refusal → JoinAnswer
joined_answer a =
    record {
      refusal = join_number a;
      pages = join_pages a;
      position = join_position a;
      written = join_written a;
      sequence = join_sequence a;
      identifier = join_identifier a;
      reading = numbers_of (join_reading a);
    }
