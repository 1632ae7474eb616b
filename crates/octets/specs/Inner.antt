-- Inner: the one octet to try for a key. No public contract cites this file.
-- Assumes nothing.
--   short_try k == the octet to try for the key k in a short message: the smallest that has it, if any does
--   page_try k  == the same in a broadcast page and in USSD
use Rattle.std.specs.Prelude.{ℕ, ◌+◌, ◌*◌, ◌/◌, ◌%◌, cond, [], ◌∷◌, eqb, ltb, get_or}
use Rattle.keys.specs.Keys.{alphabet_digit, class_digit, language_digit, notice_digit, compressed_digit, deletion_digit, prefix_digit, header_digit}

-- what a class adds to an octet of groups 00xx and 01xx, by its number; a user-defined class lifts it to group 1111
abbrev pub class_bits : ℕ → ℕ
class_bits class = get_or (0 ∷ 0x10 ∷ 0x11 ∷ 0x12 ∷ 0x13 ∷ 0xb1 ∷ 0xb2 ∷ 0 ∷ []) class 0

-- bits 5..0 of groups 00xx and 01xx
unfoldable pub general_try : ℕ → ℕ
general_try k = 32 * compressed_digit k + 4 * alphabet_digit k + class_bits (class_digit k)

unfoldable pub short_try : ℕ → ℕ
short_try k = cond (eqb (notice_digit k) 0) ((64 * deletion_digit k + general_try k) % 256) ((0xb0 + notice_digit k + 8 * alphabet_digit k) % 256)

-- the same less 40 (hexadecimal) in groups 01xx and 1001, which has the header mark
unfoldable pub headed_try : ℕ → ℕ
headed_try k = 0x40 * header_digit k + general_try k

unfoldable pub page_try : ℕ → ℕ
page_try k =
    cond (ltb (language_digit k) 15) (language_digit k)
    (cond (ltb 15 (language_digit k)) (0x10 + language_digit k)
    (cond (eqb (prefix_digit k) 1) (0x10 + alphabet_digit k / 2)
    (cond (eqb (alphabet_digit k) 3) 0xe0
    (cond (eqb (alphabet_digit k) 4) 0xd0
    (cond (eqb (headed_try k) 0) 0x0f ((0x40 + headed_try k) % 256))))))
