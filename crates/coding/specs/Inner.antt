-- Inner: the key of a reading, and what private functions compute with it. No public contract cites this file.
-- Assumes nothing.
--   key_of r              == the key of r
--   reading_of k          == the reading whose key is k
--   written_as o          == the answer of writing the octet o, or of 256, which is none
--   unmarked_holds r text == that text, or 3 where r has the prefix mark or the header mark
use Rattle.std.specs.Prelude.{ℕ, cond, eqb, ltb, get_or, Result, Ok, Err}
use Rattle.words.specs.declared.Refusal.TheVariants.{Prefixed, Unwritable}
use Rattle.keys.specs.Keys.{key_from, alphabet_digit, class_digit, language_digit, notice_digit, compressed_digit, deletion_digit, prefix_digit, reserved_digit, header_digit}
use Rattle.fields.specs.declared.Alphabet.TheVariants.{SevenBit}
use Rattle.fields.specs.declared.Class.TheVariants.{Unset}
use Rattle.fields.specs.declared.Language.TheVariants.{German}
use Rattle.coding.specs.declared.Reading.{Reading}
use Rattle.coding.specs.declared.Held.{Held}
use Rattle.coding.specs.Readings.{reading_from}
use Rattle.fields.specs.Numbers.{alphabet_no, class_no, language_no, notice_no, flag_no, alphabets, classes, languages, notice_at}
use Rattle.words.specs.declared.Refusal.{Refusal}
use Rattle.coding.specs.declared.Held.TheVariants as held

unfoldable pub key_of : Reading → ℕ
key_of r =
    key_from (alphabet_no r.alphabet) (class_no r.class) (language_no r.language) (notice_no r.notice) (flag_no r.compressed) (flag_no r.deletion) (flag_no r.prefix) (flag_no r.reserved) (flag_no r.header)

-- the reading of a key, field by field
unfoldable pub reading_of : ℕ → Reading
reading_of k =
    reading_from (get_or alphabets (alphabet_digit k) SevenBit) (eqb (compressed_digit k) 1) (get_or classes (class_digit k) Unset) (get_or languages (language_digit k) German) (eqb (deletion_digit k) 1) (notice_at (notice_digit k)) (eqb (prefix_digit k) 1) (eqb (reserved_digit k) 1) (eqb (header_digit k) 1)

abbrev pub written_as : ℕ → Result ℕ Refusal
written_as o = cond (ltb o 256) (Ok o) (Err Unwritable)

abbrev pub unmarked_holds : Reading → Held → Result Held Refusal
unmarked_holds r text = cond r.prefix (Err Prefixed) (cond r.header (Err Prefixed) (Ok text))
