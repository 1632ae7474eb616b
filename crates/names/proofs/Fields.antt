-- A reading by its fields, each looked up in its table by its number: what they give together, and what the first gives that is not there.
-- Assumes nothing.
--   flags-named             the flags tested one after the other
--   no-flags, no-alphabet, no-class, no-language, no-notice   which of the fields names nothing
--   found                   all of them name something
use mathlib.Core.Path.{◌≡◌, refl, ap, ap₂, sym, ◌∙◌}
use mathlib.Core.Bool.{Bool, true, false, cond, ◌&&◌, and-true, and-false}
use mathlib.Core.List.{List, [], ◌∷◌}
use Prim.Native.Nat.{ℕ, zero, suc, ◌<◌}
use native.Mathlib.Omega.{arith}
use lib.Dec.{eqb, ltb}
use lib.ListN.{length, get_or}
use borrow.Author.Tests.{ltb-true}
use Rattle.std.specs.Prelude.{Option, Some, None}
use Rattle.std.specs.List.{list_all}
use Rattle.fields.specs.declared.Alphabet.{Alphabet}
use Rattle.fields.specs.declared.Alphabet.TheVariants.{SevenBit}
use Rattle.fields.specs.declared.Class.{Class}
use Rattle.fields.specs.declared.Class.TheVariants.{Unset}
use Rattle.fields.specs.declared.Language.{Language}
use Rattle.fields.specs.declared.Language.TheVariants.{German}
use Rattle.fields.specs.declared.Notice.{Notice}
use Rattle.fields.specs.Numbers.{alphabets, classes, languages}
use Rattle.coding.specs.declared.Reading.{Reading}
use Rattle.names.specs.declared.ReadingNumbers.{ReadingNumbers}
use Rattle.names.specs.Names.{named_notice, names_flags, names_fields, with_named, named_reading}

-- within a list the value that stands for what is past its end is not asked
same-default : {X : Type 0} (xs : List X) (i : ℕ) (d e : X) → i < length xs → get_or xs i d ≡ get_or xs i e
same-default [] i d e h = absurd (omega arith)
same-default (x ∷ xs) zero d e h = refl
same-default (x ∷ xs) (suc i) d e h = same-default xs i d e (omega arith)

pub flags-named : (x : ReadingNumbers) → list_all (λ flag. ltb flag 2) (x.compressed ∷ x.deletion ∷ x.prefix ∷ x.reserved ∷ x.header ∷ []) ≡ names_flags x
unfolding names_flags
flags-named x = ap (λ (b : Bool). ltb x.compressed 2 && (ltb x.deletion 2 && (ltb x.prefix 2 && (ltb x.reserved 2 && b)))) (and-true (ltb x.header 2))

-- the reading with these numbers, of which some are looked up
abbrev pub looked_up : ReadingNumbers → Alphabet → Class → Language → Notice → Reading
looked_up x a k l v =
    record {
      alphabet = a;
      compressed = eqb x.compressed 1;
      class = k;
      language = l;
      deletion = eqb x.deletion 1;
      notice = v;
      prefix = eqb x.prefix 1;
      reserved = eqb x.reserved 1;
      header = eqb x.header 1;
      letters = record { first = x.first; second = x.second };
    }

module _ (x : ReadingNumbers) where
  not-fields : names_fields x ≡ false → None ≡ named_reading x
  unfolding named_reading
  not-fields e = sym (ap (λ (b : Bool). cond b (with_named x (named_notice x.notice)) None) e)

  pub no-flags : names_flags x ≡ false → None ≡ named_reading x
  unfolding names_fields
  no-flags e = not-fields (ap (λ (b : Bool). ltb x.alphabet 5 && (ltb x.class 7 && (ltb x.language 21 && b))) e ∙ simp and-false)

  pub no-alphabet : ltb x.alphabet 5 ≡ false → None ≡ named_reading x
  unfolding names_fields
  no-alphabet h = not-fields (ap (λ (b : Bool). b && (ltb x.class 7 && (ltb x.language 21 && names_flags x))) h)

  pub no-class : ltb x.class 7 ≡ false → None ≡ named_reading x
  unfolding names_fields
  no-class h = not-fields (ap (λ (b : Bool). ltb x.alphabet 5 && (b && (ltb x.language 21 && names_flags x))) h ∙ and-false (ltb x.alphabet 5))

  pub no-language : ltb x.language 21 ≡ false → None ≡ named_reading x
  unfolding names_fields
  no-language h = not-fields (ap (λ (b : Bool). ltb x.alphabet 5 && (ltb x.class 7 && (b && names_flags x))) h ∙ simp and-false)

  pub no-notice : None ≡ named_notice x.notice → None ≡ named_reading x
  unfolding named_reading
  no-notice e = go (names_fields x) ∙ ap (λ (n : Option Notice). cond (names_fields x) (with_named x n) None) e
    where
      go : (b : Bool) → None ≡ cond b (with_named x None) None
      go true = refl
      go false = refl

  pub found : (a : Alphabet) (k : Class) (l : Language) (v : Notice) → names_flags x ≡ true → ltb x.alphabet 5 ≡ true → a ≡ get_or alphabets x.alphabet a → ltb x.class 7 ≡ true → k ≡ get_or classes x.class k
      → ltb x.language 21 ≡ true → l ≡ get_or languages x.language l → Some v ≡ named_notice x.notice → Some (looked_up x a k l v) ≡ named_reading x
  unfolding named_reading names_fields
  found a k l v f p d q e r g n =
      let fields = ap₂ (λ (b c : Bool). b && (c && (ltb x.language 21 && names_flags x))) p q ∙ ap₂ (λ (b c : Bool). b && c) r f in
      ap (λ (t : Alphabet). Some (looked_up x t k l v)) (d ∙ same-default alphabets x.alphabet a SevenBit (ltb-true _ _ p))
      ∙ ap (λ (t : Class). Some (looked_up x (get_or alphabets x.alphabet SevenBit) t l v)) (e ∙ same-default classes x.class k Unset (ltb-true _ _ q))
      ∙ ap (λ (t : Language). Some (looked_up x (get_or alphabets x.alphabet SevenBit) (get_or classes x.class Unset) t v)) (g ∙ same-default languages x.language l German (ltb-true _ _ r))
      ∙ ap (with_named x) n
      ∙ sym (ap (λ (b : Bool). cond b (with_named x (named_notice x.notice)) None) fields)
