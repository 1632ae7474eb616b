-- The answers of the calls with parts in numbers, as C takes them: each value is what the answer reports by crate `parted`.
-- Document 01, "Refusal numbers and their order": "A refusal reports 0 written, count 0 and data coding octet 0, and any reading in its answer holds
-- the unmentioned values".
-- Own rule: a refusal reports 0 parts, no mark, the reference 0 and no numbers. Counting parts reports neither a coding octet nor a mark, and a count
-- is told of one part alone. Cited by the definitions of the exported calls. Assumes nothing.
--   counted_answer, part_written_answer, parts_written_answer, part_read_answer, parts_joined_answer == what C gets of count_parts, write_part, write_parts, read_part
--                                                                                                       and join_parts
--   parts_done_answer, part_done_answer, parts_join_done_answer                                      == the same of a success by itself
--   parts_refused_answer, part_refused_answer, parts_join_refused_answer                             == the same of a refusal by itself
--   numbered_no c                                                                                    == 1 where there are the numbers of a part, else 0
use Rattle.std.specs.Prelude.{ℕ, Bool, Result, Option, Some, None}
use Rattle.words.specs.declared.Refusal.{Refusal}
use Rattle.words.specs.Refusals.{number_of, position_of}
use Rattle.fields.specs.Numbers.{flag_no}
use Rattle.coding.specs.declared.Reading.{Reading}
use Rattle.coding.specs.Readings.{unmentioned}
use Rattle.names.specs.Names.{numbers_of}
use Rattle.parted.specs.declared.PartWritten.{PartWritten}
use Rattle.parted.specs.declared.PartsWritten.{PartsWritten}
use Rattle.parted.specs.declared.PartRead.{PartRead}
use Rattle.parted.specs.declared.PartsJoined.{PartsJoined}
use Rattle.parted.specs.Joined.{number_in, total_in, reference_in}
use Rattle.parted.specs.Reports.{counted_number, counted_position, counted_parts, part_number, part_position, part_written, part_travels, part_marked, part_coding, part_parts, parts_number, parts_position, parts_written, parts_marked, parts_coding, parts_parts, read_number, read_position, read_written, read_reading, read_numbers, join_number, join_position, join_written, join_reading, join_reference, join_parts}
use Rattle.part_answers.specs.declared.PartsAnswer.{PartsAnswer}
use Rattle.part_answers.specs.declared.PartAnswer.{PartAnswer}
use Rattle.part_answers.specs.declared.PartsJoinAnswer.{PartsJoinAnswer}
use Rattle.headed.specs.declared.Numbers.{Numbers}

abbrev pub numbered_no : Option Numbers → ℕ
numbered_no None = 0
numbered_no (Some n) = 1

abbrev pub parts_done_answer : ℕ → ℕ → ℕ → ℕ → Bool → PartsAnswer
parts_done_answer parts written count coding marked =
    record {
      refusal = 0;
      parts = parts;
      position = 0;
      written = written;
      count = count;
      coding = coding;
      mark = flag_no marked;
    }

abbrev pub parts_refused_answer : Refusal → PartsAnswer
parts_refused_answer q =
    record {
      refusal = number_of q;
      parts = 0;
      position = position_of q;
      written = 0;
      count = 0;
      coding = 0;
      mark = 0;
    }

abbrev pub counted_answer : Result ℕ Refusal → PartsAnswer
counted_answer a =
    record {
      refusal = counted_number a;
      parts = counted_parts a;
      position = counted_position a;
      written = 0;
      count = 0;
      coding = 0;
      mark = 0;
    }

abbrev pub part_written_answer : Result PartWritten Refusal → PartsAnswer
part_written_answer a =
    record {
      refusal = part_number a;
      parts = part_parts a;
      position = part_position a;
      written = part_written a;
      count = part_travels a;
      coding = part_coding a;
      mark = flag_no (part_marked a);
    }

abbrev pub parts_written_answer : Result PartsWritten Refusal → PartsAnswer
parts_written_answer a =
    record {
      refusal = parts_number a;
      parts = parts_parts a;
      position = parts_position a;
      written = parts_written a;
      count = 0;
      coding = parts_coding a;
      mark = flag_no (parts_marked a);
    }

abbrev pub part_done_answer : ℕ → Reading → Option Numbers → PartAnswer
part_done_answer written r c =
    record {
      refusal = 0;
      numbered = numbered_no c;
      reference = reference_in c;
      total = total_in c;
      number = number_in c;
      position = 0;
      written = written;
      reading = numbers_of r;
    }

abbrev pub part_refused_answer : Refusal → PartAnswer
part_refused_answer q =
    record {
      refusal = number_of q;
      numbered = 0;
      reference = 0;
      total = 0;
      number = 0;
      position = position_of q;
      written = 0;
      reading = numbers_of unmentioned;
    }

abbrev pub part_read_answer : Result PartRead Refusal → PartAnswer
part_read_answer a =
    record {
      refusal = read_number a;
      numbered = numbered_no (read_numbers a);
      reference = reference_in (read_numbers a);
      total = total_in (read_numbers a);
      number = number_in (read_numbers a);
      position = read_position a;
      written = read_written a;
      reading = numbers_of (read_reading a);
    }

abbrev pub parts_join_done_answer : ℕ → ℕ → ℕ → Reading → PartsJoinAnswer
parts_join_done_answer parts written reference r =
    record {
      refusal = 0;
      parts = parts;
      position = 0;
      written = written;
      reference = reference;
      reading = numbers_of r;
    }

abbrev pub parts_join_refused_answer : Refusal → PartsJoinAnswer
parts_join_refused_answer q =
    record {
      refusal = number_of q;
      parts = 0;
      position = position_of q;
      written = 0;
      reference = 0;
      reading = numbers_of unmentioned;
    }

abbrev pub parts_joined_answer : Result PartsJoined Refusal → PartsJoinAnswer
parts_joined_answer a =
    record {
      refusal = join_number a;
      parts = join_parts a;
      position = join_position a;
      written = join_written a;
      reference = join_reference a;
      reading = numbers_of (join_reading a);
    }
