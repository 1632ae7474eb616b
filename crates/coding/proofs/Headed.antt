-- The octets that clause 5 gives to messages with a user data header and to another protocol, and what they hold: 90 to 9B and D0 to DF
-- (hexadecimal) on a page and in USSD, and no others. Document 02, W3: "a coding with that mark gives 3; a group that clause 5 gives to another
-- protocol reads as an alphabet of its own and gives 2". Assumes nothing.
--   header-octets   an octet has the header mark exactly where it is 90 to 9B
--   i1-octets       and the alphabet I1, whose number is 4, exactly where its bits 7..4 are 1101: one computed test over the 256 octets
--   header-unprefixed, i1-unprefixed   neither kind has the prefix mark
--   header-judged   a coding with the header mark holds no text: 2 from 94 to 97, which are 8-bit data, else 3
--   i1-judged       nor does one of the alphabet I1: 2
use mathlib.Core.Path.{◌≡◌, refl, ap, ◌∙◌, sym, subst}
use mathlib.Core.Bool.{Bool, true, false, cond, not, ◌&&◌, ◌||◌}
use mathlib.Core.List.{[], ◌∷◌}
use Prim.Native.Nat.{ℕ, ◌<◌, ◌/◌}
use lib.Dec.{T, eqb, leb, eqb→eq}
use Rattle.lists.specs.Bits.{bit_of, gather, bits_of}
use Rattle.lists.proofs.Tests.{both, both_left, both_right, every_below, every-below}
use Rattle.words.specs.Judging.{when, refused, verdict}
use Rattle.words.specs.declared.Service.{Service}
use Rattle.words.specs.declared.Refusal.TheVariants.{Compressed, NoText, Prefixed}
use Rattle.fields.specs.declared.Alphabet.{Alphabet}
use Rattle.fields.specs.declared.Alphabet.TheVariants.{I1}
use Rattle.fields.specs.Numbers.{alphabet_no, flag_no}
use Rattle.fields.proofs.Numbered.{alphabet-injective, flag-injective}
use Rattle.coding.specs.OctetRead.{class_in, general_reading, last_reading, header_reading, read_page}
use Rattle.coding.specs.Holding.{is_data, text_rules}

abbrev pub headed : ℕ → Bool
headed o = leb 0x90 o && leb o 0x9b

abbrev pub is_i1 : ℕ → Bool
is_i1 o = eqb (o / 16) 0b1101

-- a flag is what the test says
abbrev says : Bool → Bool → Bool
says a b = eqb (flag_no a) (flag_no b)

abbrev header_test : ℕ → Bool
header_test o = says (read_page o).header (headed o)

abbrev i1_test : ℕ → Bool
i1_test o = says (eqb (alphabet_no (read_page o).alphabet) 4) (is_i1 o)

-- it is uncompressed and has no prefix mark; from 94 to 97 it is data, and so is I1
abbrev kind_test : ℕ → Bool
kind_test o = both (not (read_page o).compressed) (both (not (read_page o).prefix) (says (is_data (read_page o).alphabet) (cond (headed o) (eqb (o / 4) 0x25) true)))

-- said of an octet of either kind
abbrev holds_test : ℕ → Bool
holds_test o = cond (headed o || is_i1 o) (kind_test o) true

new-tests : T (every_below (λ (o : ℕ). both (header_test o) (both (i1_test o) (holds_test o))) 256)
unfolding read_page general_reading last_reading header_reading class_in bits_of gather bit_of
new-tests = tt

same_flag : (a b : Bool) → T (says a b) → a ≡ b
same_flag a b t = flag-injective a b (eqb→eq _ _ t)

pub isnt : (b : Bool) → T (not b) → b ≡ false
isnt true t = absurd t
isnt false t = refl

either_true : (a b : Bool) → b ≡ true → (a || b) ≡ true
either_true true b e = refl
either_true false b e = e

-- with the header mark it is 3, but 2 where it is data
marked : (d p h : Bool) → h ≡ true → verdict (when false Compressed ∷ when d NoText ∷ when p Prefixed ∷ when h Prefixed ∷ []) ≡ refused (cond d NoText Prefixed)
unfolding verdict
marked true p h e = refl
marked false true h e = refl
marked false false true e = refl
marked false false false e = absurd (subst T (sym e) tt)

i1-data : (a : Alphabet) → eqb (alphabet_no a) 4 ≡ true → is_data a ≡ true
i1-data a e = ap is_data (alphabet-injective a I1 (eqb→eq _ _ (subst T (sym e) tt)))

module _ (o : ℕ) (h : o < 256) where
  test : T (both (header_test o) (both (i1_test o) (holds_test o)))
  test = every-below (λ (k : ℕ). both (header_test k) (both (i1_test k) (holds_test k))) 256 new-tests o h

  pub header-octets : (read_page o).header ≡ headed o
  header-octets = same_flag _ _ (both_left (header_test o) _ test)

  pub i1-octets : eqb (alphabet_no (read_page o).alphabet) 4 ≡ is_i1 o
  i1-octets = same_flag _ _ (both_left (i1_test o) _ (both_right (header_test o) _ test))

  -- what the third test says of an octet of either kind
  new-holds : (headed o || is_i1 o) ≡ true → ((read_page o).compressed ≡ false) × ((read_page o).prefix ≡ false) × (is_data (read_page o).alphabet ≡ cond (headed o) (eqb (o / 4) 0x25) true)
  new-holds e =
      let t : T (kind_test o) = subst (λ (b : Bool). T (cond b (kind_test o) true)) e (both_right (i1_test o) _ (both_right (header_test o) _ test)) in
      let u = both_right (not (read_page o).compressed) _ t in
      (isnt _ (both_left (not (read_page o).compressed) _ t), isnt _ (both_left (not (read_page o).prefix) _ u), same_flag _ _ (both_right (not (read_page o).prefix) _ u))

  pub header-unprefixed : headed o ≡ true → (read_page o).prefix ≡ false
  header-unprefixed e = (new-holds (simp e)).1

  pub i1-unprefixed : is_i1 o ≡ true → (read_page o).prefix ≡ false
  i1-unprefixed e = (new-holds (either_true (headed o) (is_i1 o) e)).1

  pub header-judged : (s : Service) → headed o ≡ true → verdict (text_rules s (read_page o)) ≡ refused (cond (eqb (o / 4) 0x25) NoText Prefixed)
  unfolding text_rules verdict
  header-judged s e =
      let f = new-holds (simp e) in
      ap (λ (z : Bool). verdict (when z Compressed ∷ when (is_data (read_page o).alphabet) NoText ∷ when (read_page o).prefix Prefixed ∷ when (read_page o).header Prefixed ∷ [])) f.0
      ∙ marked (is_data (read_page o).alphabet) (read_page o).prefix (read_page o).header (header-octets ∙ e)
      ∙ ap (λ (d : Bool). refused (cond d NoText Prefixed)) (f.2 ∙ ap (λ (b : Bool). cond b (eqb (o / 4) 0x25) true) e)

  pub i1-judged : (s : Service) → is_i1 o ≡ true → verdict (text_rules s (read_page o)) ≡ refused NoText
  unfolding text_rules verdict
  i1-judged s e =
      let f = new-holds (either_true (headed o) (is_i1 o) e) in
      simp (f.0, i1-data (read_page o).alphabet (i1-octets ∙ e))
