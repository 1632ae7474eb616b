-- A reading's key tells its fields, all but the letters: each field's number is a digit of the key.
-- Assumes nothing.
use mathlib.Core.Path.{◌≡◌, refl, ap, ◌∙◌}
use mathlib.Core.Bool.{Bool, true, false}
use Prim.Native.Nat.{ℕ, ◌≤◌, ◌<◌}
use native.Mathlib.Omega.{arith}
use lib.Dec.{eqb, lit≤}
use lib.ListN.{get_or}
use Rattle.keys.specs.Keys.{key_from, alphabet_digit, class_digit, language_digit, notice_digit, compressed_digit, deletion_digit, prefix_digit, reserved_digit, header_digit}
use Rattle.fields.specs.declared.Alphabet.TheVariants.{SevenBit}
use Rattle.fields.specs.declared.Class.TheVariants.{Unset}
use Rattle.fields.specs.declared.Language.TheVariants.{German}
use Rattle.coding.specs.declared.Reading.{Reading}
use Rattle.fields.specs.Numbers.{alphabet_no, class_no, language_no, notice_no, flag_no, alphabets, classes, languages, notice_at}
use Rattle.fields.specs.Letters.{no_letters}
use Rattle.coding.specs.Readings.{lettered, without_letters}
use Rattle.coding.specs.Inner.{key_of, reading_of}
use Rattle.fields.proofs.Numbered.{alphabet-named, class-named, language-named, flag-named, notice-below, notice-back}

-- readings that agree in every field but the letters are the same without them
pub fields : (a b : Reading) → a.alphabet ≡ b.alphabet → a.compressed ≡ b.compressed → a.class ≡ b.class → a.language ≡ b.language → a.deletion ≡ b.deletion → a.notice ≡ b.notice → a.prefix ≡ b.prefix → a.reserved ≡ b.reserved → a.header ≡ b.header → without_letters a ≡ without_letters b
fields a b p₀ p₁ p₂ p₃ p₄ p₅ p₆ p₇ p₈ i = lettered no_letters (p₀ i) (p₁ i) (p₂ i) (p₃ i) (p₄ i) (p₅ i) (p₆ i) (p₇ i) (p₈ i)

-- the digits of a key
pub record Digits (k a c l n z d p r h : ℕ) : Type 0 where
  pub alphabet : alphabet_digit k ≡ a
  pub class : class_digit k ≡ c
  pub language : language_digit k ≡ l
  pub notice : notice_digit k ≡ n
  pub compressed : compressed_digit k ≡ z
  pub deletion : deletion_digit k ≡ d
  pub prefix : prefix_digit k ≡ p
  pub reserved : reserved_digit k ≡ r
  pub header : header_digit k ≡ h

digits : (a c l n z d p r h : ℕ) → a < 8 → c < 8 → l < 32 → n < 64 → z < 2 → d < 2 → p < 2 → r < 2 → h < 2 → Digits (key_from a c l n z d p r h) a c l n z d p r h
digits a c l n z d p r h ha hc hl hn hz hd hp hr hh =
    record { alphabet = omega arith; class = omega arith; language = omega arith; notice = omega arith; compressed = omega arith; deletion = omega arith; prefix = omega arith; reserved = omega arith; header = omega arith }

-- a place in a list of at most n values is below n
place-fits : {i m n : ℕ} → i < m → m ≤ n → i < n
place-fits {i} {m} {n} h l = omega arith

pub key-digits : (r : Reading)
    → Digits (key_of r) (alphabet_no r.alphabet) (class_no r.class) (language_no r.language) (notice_no r.notice) (flag_no r.compressed) (flag_no r.deletion) (flag_no r.prefix) (flag_no r.reserved) (flag_no r.header)
unfolding key_of
key-digits r =
    digits _ _ _ _ _ _ _ _ _ (place-fits (alphabet-named r.alphabet).below (lit≤ tt)) (place-fits (class-named r.class).below (lit≤ tt)) (place-fits (language-named r.language).below (lit≤ tt)) (notice-below r.notice) (flag-named r.compressed).below (flag-named r.deletion).below (flag-named r.prefix).below (flag-named r.reserved).below (flag-named r.header).below

pub flag-back : (b : Bool) → eqb (flag_no b) 1 ≡ b
flag-back true = refl
flag-back false = refl

pub key-reading : (r : Reading) → reading_of (key_of r) ≡ without_letters r
unfolding reading_of
key-reading r =
    let d = key-digits r in
    fields (reading_of (key_of r)) r
    (ap (λ (k : ℕ). get_or alphabets k SevenBit) d.alphabet ∙ (alphabet-named r.alphabet).back)
    (ap (λ (k : ℕ). eqb k 1) d.compressed ∙ flag-back r.compressed)
    (ap (λ (k : ℕ). get_or classes k Unset) d.class ∙ (class-named r.class).back)
    (ap (λ (k : ℕ). get_or languages k German) d.language ∙ (language-named r.language).back)
    (ap (λ (k : ℕ). eqb k 1) d.deletion ∙ flag-back r.deletion)
    (ap notice_at d.notice ∙ notice-back r.notice)
    (ap (λ (k : ℕ). eqb k 1) d.prefix ∙ flag-back r.prefix)
    (ap (λ (k : ℕ). eqb k 1) d.reserved ∙ flag-back r.reserved)
    (ap (λ (k : ℕ). eqb k 1) d.header ∙ flag-back r.header)
