-- Document 02, W2: "the two letters", each absent or a value; "They are a to z". (GSM 03.38, clause 5: "a two-character representation of the
-- language encoded according to ISO 639".)
-- Own rule: a letter is its octet, and 0 where it is absent: code 0 is the @, which is no letter. Cited by Letters::named and Letters::given. Assumes nothing.
--   no_letters      == both letters absent
--   is_letter n     == n is the code of a to z, which is also its unit
--   are_letters l   == both letters are a to z
--   any_letter l    == one of the letters is not absent
use Rattle.std.specs.Prelude.{ℕ, Bool, not, ◌&&◌, ◌||◌, eqb, leb}
use Rattle.fields.specs.declared.Letters.{Letters}

abbrev pub no_letters : Letters
no_letters = record { first = 0; second = 0 }

abbrev pub is_letter : ℕ → Bool
is_letter n = leb 0x61 n && leb n 0x7a

unfoldable pub are_letters : Letters → Bool
are_letters l = is_letter l.first && is_letter l.second

unfoldable pub any_letter : Letters → Bool
any_letter l = not (eqb l.first 0) || not (eqb l.second 0)
