-- Document 02, W5, by example: what the definitions give for headers, one of each kind that the request names.
-- Assumes nothing.
use mathlib.Core.Path.{◌≡◌, refl}
use mathlib.Core.List.{[], ◌∷◌}
use Rattle.words.specs.declared.Refusal.TheVariants.{WrongHeader}
use Rattle.words.specs.Judging.{verdict}
use Rattle.headed.specs.Header.{elements_up_to, elements_of, last_numbers, wrong_length, header_body, right_header, header_numbers, header_rules, header_reads}
use Rattle.std.specs.Prelude.{Err, Some, None}
use Rattle.headed.specs.Successes.{ok_header_read}

-- the header of part 2 of 3 with the reference 7B, and three octets of text behind it
pub part-header-read : header_reads (0x05 ∷ 0x00 ∷ 0x03 ∷ 0x7b ∷ 0x03 ∷ 0x02 ∷ 0x41 ∷ 0x42 ∷ 0x43 ∷ []) ≡ ok_header_read 6 (Some (record { reference = 0x7b; total = 0x03; number = 0x02 }))
unfolding header_reads header_rules right_header header_body header_numbers elements_of elements_up_to last_numbers wrong_length verdict
part-header-read = refl

-- no octets hold no header
pub no-octets-refused : header_reads [] ≡ Err WrongHeader
unfolding header_reads header_rules right_header header_body header_numbers elements_of elements_up_to last_numbers wrong_length verdict
no-octets-refused = refl

-- "a header longer than the octets": by far, and by one
pub length-255-refused : header_reads (0xff ∷ 0x00 ∷ 0x03 ∷ 0x7b ∷ 0x03 ∷ 0x02 ∷ []) ≡ Err WrongHeader
unfolding header_reads header_rules right_header header_body header_numbers elements_of elements_up_to last_numbers wrong_length verdict
length-255-refused = refl

pub length-over-by-one-refused : header_reads (0x05 ∷ 0x00 ∷ 0x03 ∷ 0x7b ∷ 0x03 ∷ []) ≡ Err WrongHeader
unfolding header_reads header_rules right_header header_body header_numbers elements_of elements_up_to last_numbers wrong_length verdict
length-over-by-one-refused = refl

-- an identifier without a length octet
pub lone-identifier-refused : header_reads (0x06 ∷ 0x00 ∷ 0x03 ∷ 0x7b ∷ 0x03 ∷ 0x02 ∷ 0x08 ∷ []) ≡ Err WrongHeader
unfolding header_reads header_rules right_header header_body header_numbers elements_of elements_up_to last_numbers wrong_length verdict
lone-identifier-refused = refl

-- "an element running past it": past the header, though not past the octets
pub element-past-refused : header_reads (0x04 ∷ 0x00 ∷ 0x03 ∷ 0x7b ∷ 0x03 ∷ 0x02 ∷ []) ≡ Err WrongHeader
unfolding header_reads header_rules right_header header_body header_numbers elements_of elements_up_to last_numbers wrong_length verdict
element-past-refused = refl

-- "or of wrong length"
pub wrong-length-refused : header_reads (0x04 ∷ 0x00 ∷ 0x02 ∷ 0x7b ∷ 0x03 ∷ []) ≡ Err WrongHeader
unfolding header_reads header_rules right_header header_body header_numbers elements_of elements_up_to last_numbers wrong_length verdict
wrong-length-refused = refl

-- "Unknown elements are passed over by their length": 08 has four octets here, in front and behind
pub element-08-passed : header_reads (0x0b ∷ 0x08 ∷ 0x04 ∷ 0x00 ∷ 0x03 ∷ 0x01 ∷ 0x01 ∷ 0x00 ∷ 0x03 ∷ 0x7b ∷ 0x03 ∷ 0x02 ∷ []) ≡ ok_header_read 12 (Some (record { reference = 0x7b; total = 0x03; number = 0x02 }))
unfolding header_reads header_rules right_header header_body header_numbers elements_of elements_up_to last_numbers wrong_length verdict
element-08-passed = refl

pub element-08-behind-passed : header_reads (0x0b ∷ 0x00 ∷ 0x03 ∷ 0x7b ∷ 0x03 ∷ 0x02 ∷ 0x08 ∷ 0x04 ∷ 0x00 ∷ 0x03 ∷ 0x01 ∷ 0x01 ∷ []) ≡ ok_header_read 12 (Some (record { reference = 0x7b; total = 0x03; number = 0x02 }))
unfolding header_reads header_rules right_header header_body header_numbers elements_of elements_up_to last_numbers wrong_length verdict
element-08-behind-passed = refl

-- "of a repeated one the last counts"
pub last-element-counts : header_reads (0x0a ∷ 0x00 ∷ 0x03 ∷ 0x01 ∷ 0x02 ∷ 0x02 ∷ 0x00 ∷ 0x03 ∷ 0x7b ∷ 0x03 ∷ 0x02 ∷ []) ≡ ok_header_read 11 (Some (record { reference = 0x7b; total = 0x03; number = 0x02 }))
unfolding header_reads header_rules right_header header_body header_numbers elements_of elements_up_to last_numbers wrong_length verdict
last-element-counts = refl

-- an earlier one of wrong length is refused all the same
pub earlier-wrong-length-refused : header_reads (0x09 ∷ 0x00 ∷ 0x02 ∷ 0x01 ∷ 0x02 ∷ 0x00 ∷ 0x03 ∷ 0x7b ∷ 0x03 ∷ 0x02 ∷ []) ≡ Err WrongHeader
unfolding header_reads header_rules right_header header_body header_numbers elements_of elements_up_to last_numbers wrong_length verdict
earlier-wrong-length-refused = refl

-- a header without elements, and one without the element of a part
pub empty-header-absent : header_reads (0x00 ∷ 0x41 ∷ []) ≡ ok_header_read 1 None
unfolding header_reads header_rules right_header header_body header_numbers elements_of elements_up_to last_numbers wrong_length verdict
empty-header-absent = refl

pub other-header-absent : header_reads (0x02 ∷ 0x70 ∷ 0x00 ∷ 0x41 ∷ []) ≡ ok_header_read 3 None
unfolding header_reads header_rules right_header header_body header_numbers elements_of elements_up_to last_numbers wrong_length verdict
other-header-absent = refl
