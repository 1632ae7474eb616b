-- Document 02, W2: which texts begin with the letters of their language, and where letters refuse the coding octet: "both absent in every other
-- coding (else 8); data coding alone reads them as absent and writes past them". "USSD and messages of several pages still give 3."
-- Own rule: none. Cited by Reading::lettered, Reading::text_octet and lettered_octet. Assumes nothing.
--   is_lettered s r   == under service s one message with the reading r begins with letters: a broadcast page with the prefix mark
--   lettered_in ucs2  == the reading of the codings that such a page has: 0001 0000, or 0001 0001 where ucs2 is true
--   stray_letters r   == r has a letter, and no prefix mark
--   coding_rules s r  == the refusals of a text's coding octet: those of data coding alone, then letters in another coding
--   coding_writes s r == the coding octet of a text with the reading r under s, or the refusal
use Rattle.std.specs.Prelude.{ℕ, Bool, true, false, not, ◌&&◌, List, [], ◌∷◌, ◌++◌, Result, Ok, Err}
use Rattle.words.specs.Judging.{Rule, when, verdict, settle}
use Rattle.words.specs.declared.Service.{Service}
use Rattle.words.specs.declared.Service.TheVariants.{ShortMessage, Broadcast, Ussd, OldPage}
use Rattle.words.specs.declared.Refusal.TheVariants.{Unwritable}
use Rattle.fields.specs.Letters.{any_letter}
use Rattle.coding.specs.declared.Reading.{Reading}
use Rattle.coding.specs.Readings.{plain_in, with_prefix}
use Rattle.coding.specs.OctetWritten.{smallest, write_rules}
use Rattle.words.specs.declared.Refusal.{Refusal}

abbrev pub is_lettered : Service → Reading → Bool
is_lettered ShortMessage r = false
is_lettered Broadcast r = r.prefix
is_lettered Ussd r = false
is_lettered OldPage r = false

abbrev pub lettered_in : Bool → Reading
lettered_in ucs2 = with_prefix true (plain_in ucs2)

abbrev pub stray_letters : Reading → Bool
stray_letters r = not r.prefix && any_letter r.letters

unfoldable pub coding_rules : Service → Reading → List Rule
coding_rules s r = write_rules s r ++ (when (stray_letters r) Unwritable ∷ [])

unfoldable pub coding_writes : Service → Reading → Result ℕ Refusal
coding_writes s r = settle (verdict (coding_rules s r)) Err (Ok (smallest s r))
