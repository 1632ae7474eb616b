-- Document 01, "Packing": eight septets take seven octets, here as one number of 64 bits.
-- Own rule: of an octet that holds a septet the low seven bits count. Cited by groups::squeeze, groups::stretch
-- and groups::left_over. Assumes nothing.
--   together x       == the number of 56 bits whose septets are the low seven bits of the octets of x, in their order
--   apart v          == the number whose octets are the septets of the low 56 bits of v, in their order
--   left_over v n cr == the number of the first septets of v that n septets leave over whole groups of eight, with a CR after them where cr says so
use Rattle.std.specs.Prelude.{ℕ, ◌%◌, Bool, take}
use Rattle.stream.specs.Digits.{value, digits, low_of}
use Rattle.stream.specs.UssdPacking.{with_cr}

unfoldable pub together : ℕ → ℕ
together x = value 128 (low_of 7 (digits 256 8 x))

unfoldable pub apart : ℕ → ℕ
apart v = value 256 (digits 128 8 v)

unfoldable pub left_over : ℕ → ℕ → Bool → ℕ
left_over v n cr = value 128 (with_cr cr (take (n % 8) (digits 128 8 v)))
