-- Document 02, W1: "the block of 88 octets: sequence number in octets 1-2, message identifier in 3-4, data coding in 5, page parameter in 6
-- (total pages in bits 0..3, this page in bits 4..7, each from 1), text in 7 to 88. Octet pairs are high octet first."
-- Own rule: of a total and a number the low four bits are taken. Cited by read_header, page_block and the definitions of the calls. Assumes nothing.
--   block_size        == how many octets a block has
--   header_of b       == the five fields in front of the text of the block b
--   text_in b         == its text, octets 7 to 88
--   block_of h text   == the block with the header h in front of these octets
use Rattle.std.specs.Prelude.{ℕ, ◌+◌, ◌*◌, ◌/◌, ◌%◌, List, ◌∷◌, get_or, drop}
use Rattle.lists.specs.Bits.{bits_of}
use Rattle.pages.specs.declared.Header.{Header}

abbrev pub block_size : ℕ
block_size = 88

unfoldable pub header_of : List ℕ → Header
header_of b =
    record {
      sequence = 256 * get_or b 0 0 + get_or b 1 0;
      identifier = 256 * get_or b 2 0 + get_or b 3 0;
      coding = get_or b 4 0;
      total = bits_of (get_or b 5 0) 3 0;
      number = bits_of (get_or b 5 0) 7 4;
    }

-- what stands behind six octets
abbrev pub text_in : List ℕ → List ℕ
text_in b = drop 6 b

unfoldable pub block_of : Header → List ℕ → List ℕ
block_of h text =
    h.sequence / 256
    ∷ h.sequence % 256
    ∷ h.identifier / 256
    ∷ h.identifier % 256
    ∷ h.coding
    ∷ (h.total % 16 + 16 * (h.number % 16))
    ∷ text
