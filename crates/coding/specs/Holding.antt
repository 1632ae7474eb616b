-- Document 01, refusals 1 to 3: whether a reading holds text under every service. Document 02, W3: "a coding with that mark gives 3; a group that
-- clause 5 gives to another protocol reads as an alphabet of its own and gives 2". Letters count for nothing here: one broadcast page with the
-- prefix mark holds text all the same (document 02, W2), and the whole reader and writer say so themselves.
-- Own rule: none. Cited by Reading::holds. Assumes nothing.
--   text_rules s r == why a reading holds no text under service s: 1 compressed, 2 8-bit, WAP or I1, 3 prefix mark or header mark; alike under every service
--   holds_text s r == the alphabet of its text, or the refusal
--   holds_units h  == whether that alphabet is UCS2
use Rattle.std.specs.Prelude.{Bool, true, false, cond, List, [], ◌∷◌, Result, Ok, Err}
use Rattle.words.specs.Judging.{Rule, when, verdict, settle}
use Rattle.words.specs.declared.Service.{Service}
use Rattle.words.specs.declared.Refusal.TheVariants.{Compressed, NoText, Prefixed}
use Rattle.fields.specs.declared.Alphabet.{Alphabet}
use Rattle.fields.specs.declared.Alphabet.TheVariants.{SevenBit, EightBit, Ucs2, Wap, I1}
use Rattle.coding.specs.declared.Reading.{Reading}
use Rattle.coding.specs.declared.Held.{Held}
use Rattle.words.specs.declared.Refusal.{Refusal}
use Rattle.coding.specs.declared.Held.TheVariants as held

abbrev pub is_data : Alphabet → Bool
is_data SevenBit = false
is_data EightBit = true
is_data Ucs2 = false
is_data Wap = true
is_data I1 = true

abbrev pub is_ucs2 : Alphabet → Bool
is_ucs2 SevenBit = false
is_ucs2 EightBit = false
is_ucs2 Ucs2 = true
is_ucs2 Wap = false
is_ucs2 I1 = false

unfoldable pub text_rules : Service → Reading → List Rule
text_rules s r =
    when r.compressed Compressed
    ∷ when (is_data r.alphabet) NoText
    ∷ when r.prefix Prefixed
    ∷ when r.header Prefixed
    ∷ []

unfoldable pub holds_text : Service → Reading → Result Held Refusal
holds_text s r = settle (verdict (text_rules s r)) Err (Ok (cond (is_ucs2 r.alphabet) held.Units held.Septets))

abbrev pub holds_units : Held → Bool
holds_units held.Septets = false
holds_units held.Units = true
