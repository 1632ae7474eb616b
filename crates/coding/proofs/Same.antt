-- Readings that are alike in every field that an octet tells are the same reading but for their letters, and so are readings with the same key.
-- Assumes nothing.
use mathlib.Core.Path.{◌≡◌, refl, ap, ◌∙◌, sym, subst}
use mathlib.Core.Bool.{Bool, true, false, cond}
use Prim.Native.Nat.{ℕ}
use lib.Dec.{eqb, T, eqb→eq, eqb_refl}
use borrow.Author.Tests.{eq-eqb}
use Rattle.coding.specs.declared.Reading.{Reading}
use Rattle.fields.specs.Numbers.{alphabet_no, class_no, language_no, notice_no, flag_no}
use Rattle.coding.specs.Readings.{without_letters}
use Rattle.coding.specs.OctetWritten.{same_coding}
use Rattle.coding.specs.Inner.{key_of, reading_of}
use Rattle.coding.proofs.Keys.{fields, key-reading}
use Rattle.fields.proofs.Numbered.{alphabet-injective, class-injective, language-injective, flag-injective, notice-injective}

-- each part of a test that goes on only where the part before it holds
first : (t u : Bool) → T (cond t u false) → T t
first true u h = tt
first false u h = absurd h

rest : (t u : Bool) → T (cond t u false) → T u
rest true u h = h
rest false u h = absurd h

eqb_same : (n : ℕ) → eqb n n ≡ true
eqb_same n = eq-eqb n n refl

-- two tests that follow from each other are the same
alike : (t u : Bool) → (T t → T u) → (T u → T t) → t ≡ u
alike true true f g = refl
alike true false f g = absurd (f tt)
alike false true f g = absurd (g tt)
alike false false f g = refl

pub same-sound : (a b : Reading) → T (same_coding a b) → without_letters a ≡ without_letters b
same-sound a b h₀ =
    let h₁ = rest (eqb (alphabet_no a.alphabet) (alphabet_no b.alphabet)) _ h₀ in
    let h₂ = rest (eqb (flag_no a.compressed) (flag_no b.compressed)) _ h₁ in
    let h₃ = rest (eqb (class_no a.class) (class_no b.class)) _ h₂ in
    let h₄ = rest (eqb (language_no a.language) (language_no b.language)) _ h₃ in
    let h₅ = rest (eqb (flag_no a.deletion) (flag_no b.deletion)) _ h₄ in
    let h₆ = rest (eqb (notice_no a.notice) (notice_no b.notice)) _ h₅ in
    let h₇ = rest (eqb (flag_no a.prefix) (flag_no b.prefix)) _ h₆ in
    let h₈ = rest (eqb (flag_no a.reserved) (flag_no b.reserved)) _ h₇ in
    fields a b
    (alphabet-injective _ _ (eqb→eq _ _ (first (eqb (alphabet_no a.alphabet) (alphabet_no b.alphabet)) _ h₀)))
    (flag-injective _ _ (eqb→eq _ _ (first (eqb (flag_no a.compressed) (flag_no b.compressed)) _ h₁)))
    (class-injective _ _ (eqb→eq _ _ (first (eqb (class_no a.class) (class_no b.class)) _ h₂)))
    (language-injective _ _ (eqb→eq _ _ (first (eqb (language_no a.language) (language_no b.language)) _ h₃)))
    (flag-injective _ _ (eqb→eq _ _ (first (eqb (flag_no a.deletion) (flag_no b.deletion)) _ h₄)))
    (notice-injective _ _ (eqb→eq _ _ (first (eqb (notice_no a.notice) (notice_no b.notice)) _ h₅)))
    (flag-injective _ _ (eqb→eq _ _ (first (eqb (flag_no a.prefix) (flag_no b.prefix)) _ h₆)))
    (flag-injective _ _ (eqb→eq _ _ (first (eqb (flag_no a.reserved) (flag_no b.reserved)) _ h₇)))
    (flag-injective _ _ (eqb→eq _ _ h₈))

same-itself : (a : Reading) → T (same_coding a a)
same-itself a = simp eqb_same tt

pub same-complete : (a b : Reading) → without_letters a ≡ without_letters b → T (same_coding a b)
same-complete a b e = subst (λ (x : Reading). T (same_coding a x)) e (same-itself a)

key-sound : (a b : Reading) → key_of a ≡ key_of b → without_letters a ≡ without_letters b
key-sound a b e = sym (key-reading a) ∙ ap reading_of e ∙ key-reading b

pub same_key : (a b : Reading) → eqb (key_of a) (key_of b) ≡ same_coding a b
unfolding key_of
same_key a b =
    alike (eqb (key_of a) (key_of b)) (same_coding a b)
    (λ (h : T (eqb (key_of a) (key_of b))). same-complete a b (key-sound a b (eqb→eq _ _ h)))
    (λ (h : T (same_coding a b)). subst (λ (x : Reading). T (eqb (key_of a) (key_of x))) (same-sound a b h) (eqb_refl (key_of a)))
