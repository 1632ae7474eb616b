-- The numbers of a reading joined, each in bits of its own, so that one test tells them all, or two values carry them.
-- Own rule: this joining never leaves the library. Cited by join and part. Assumes nothing.
--   joined_fields x  == the numbers x of a reading but its notice and its letters as one number, each in eight bits
--   joined_rest x    == its notice and its letters as one number, the notice in sixteen bits and each letter in eight
--   joined_numbers x == all of them as two numbers: the first four, and the others, each at the place that C has it
--   parted_numbers j == the numbers in the places of j
use Rattle.std.specs.Prelude.{ℕ, ◌+◌, ◌*◌, ◌/◌, ◌%◌}
use Rattle.names.specs.declared.ReadingNumbers.{ReadingNumbers}
use Rattle.names.specs.declared.JoinedNumbers.{JoinedNumbers}

abbrev pub joined_fields : ReadingNumbers → ℕ
joined_fields x =
    x.alphabet
    + 0x100 * x.compressed
    + 0x10000 * x.class
    + 0x1000000 * x.language
    + 0x100000000 * x.deletion
    + 0x10000000000 * x.prefix
    + 0x1000000000000 * x.reserved
    + 0x100000000000000 * x.header

abbrev pub joined_rest : ReadingNumbers → ℕ
joined_rest x = x.notice + 0x10000 * x.first + 0x1000000 * x.second

unfoldable pub joined_numbers : ReadingNumbers → JoinedNumbers
joined_numbers x =
    record {
      front = joined_fields x % 0x100000000;
      back = joined_fields x / 0x100000000 + 0x100000000 * joined_rest x;
    }

unfoldable pub parted_numbers : JoinedNumbers → ReadingNumbers
parted_numbers j =
    record {
      alphabet = j.front % 256;
      compressed = j.front / 0x100 % 256;
      class = j.front / 0x10000 % 256;
      language = j.front / 0x1000000 % 256;
      deletion = j.back % 256;
      prefix = j.back / 0x100 % 256;
      reserved = j.back / 0x10000 % 256;
      header = j.back / 0x1000000 % 256;
      notice = j.back / 0x100000000 % 0x10000;
      first = j.back / 0x1000000000000 % 256;
      second = j.back / 0x100000000000000 % 256;
    }
