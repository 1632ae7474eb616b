-- The two letters as septets, by number: each has seven bits, so that the first octet is the first letter with the lowest bit of the second above it,
-- and the second octet is the rest. Assumes nothing.
--   letters-below     letters are septets
--   letters-packed    the octets of two septets, by number
--   letters-unpacked  the letters that octets begin with, by number
--   unpacked-same     a septet is the same, however many are read with it
use mathlib.Core.Path.{◌≡◌, refl, sym, ap, ap₂, ◌∙◌}
use mathlib.Core.Bool.{true}
use mathlib.Core.List.{List, [], ◌∷◌}
use Prim.Native.Nat.{ℕ, zero, suc, ◌+◌, ◌*◌, ◌/◌, ◌%◌, ◌<◌}
use native.Mathlib.Omega.{arith}
use borrow.Author.Tests.{leb-true}
use lib.Dec.{leb}
use lib.ListN.{get_or, drop}
use Rattle.lists.proofs.Below.{Below}
use Rattle.lists.proofs.Tests.{and_left, and_right}
use Rattle.fields.specs.declared.Letters.{Letters}
use Rattle.fields.specs.Letters.{is_letter, are_letters}
use Rattle.stream.specs.Stream.{octets_for, packed, unpacked}
use Rattle.stream.specs.Digits.{value, digits}
use Rattle.stream.proofs.Numbers.{get_or-digits}
use Rattle.stream.proofs.Stream.{packed-digits, unpacked-digits}
use Rattle.lettered.specs.LetteredPage.{letters_in}

letter-below : (n : ℕ) → is_letter n ≡ true → n < 128
letter-below n e = omega (arith, leb-true n 0x7a (and_right (leb 0x61 n) (leb n 0x7a) e))

pub letters-below : (l : Letters) → are_letters l ≡ true → (l.first < 128) × (l.second < 128)
unfolding are_letters
letters-below l e =
    (letter-below l.first (and_left (is_letter l.first) (is_letter l.second) e), letter-below l.second (and_right (is_letter l.first) (is_letter l.second) e))

pair-below : (a b : ℕ) → a < 128 → b < 128 → Below 128 (a ∷ b ∷ [])
pair-below a b p q zero = p
pair-below a b p q (suc zero) = q
pair-below a b p q (suc (suc k)) = omega arith

pub letters-packed : (a b : ℕ) → a < 128 → b < 128 → packed (a ∷ b ∷ []) ≡ (a + 128 * (b % 2)) ∷ b / 2 ∷ []
unfolding octets_for value digits
letters-packed a b p q =
    let v : ℕ = (0 * 128 + b) * 128 + a in
    let low : v % 256 ≡ a + 128 * (b % 2) = omega arith in
    let down : v / 256 ≡ b / 2 = omega arith in
    let high : v / 256 % 256 ≡ b / 2 = ap (λ (x : ℕ). x % 256) down ∙ omega arith in
    packed-digits (a ∷ b ∷ []) (pair-below a b p q) ∙ ap₂ (λ (x y : ℕ). x ∷ y ∷ []) low high

-- octets as one number, by the first two
value-two : (o : List ℕ) → value 256 o ≡ value 256 (drop 2 o) * 65536 + 256 * get_or o 1 0 + get_or o 0 0
unfolding value
value-two [] = refl
value-two (a ∷ []) = omega arith
value-two (a ∷ b ∷ o) = omega arith

abbrev made : ℕ → ℕ → Letters
made x y = record { first = x; second = y }

pub letters-unpacked : (o : List ℕ) → Below 256 o → letters_in o ≡ record { first = get_or o 0 0 % 128; second = get_or o 0 0 / 128 + 2 * (get_or o 1 0 % 64) }
unfolding letters_in digits
letters-unpacked o h =
    let v : ℕ = value 256 o in
    let two = unpacked-digits 2 o h in
    let first : v % 128 ≡ get_or o 0 0 % 128 = omega (arith, value-two o) in
    let down : v / 128 ≡ value 256 (drop 2 o) * 512 + 2 * get_or o 1 0 + get_or o 0 0 / 128 = omega (arith, value-two o) in
    let second : v / 128 % 128 ≡ get_or o 0 0 / 128 + 2 * (get_or o 1 0 % 64) = ap (λ (x : ℕ). x % 128) down ∙ omega (arith, h 0) in
    ap₂ made (ap (λ (s : List ℕ). get_or s 0 0) two ∙ first) (ap (λ (s : List ℕ). get_or s 1 0) two ∙ second)

pub unpacked-same : (o : List ℕ) → Below 256 o → (n m k : ℕ) → k < n → k < m → get_or (unpacked n o) k 0 ≡ get_or (unpacked m o) k 0
unpacked-same o h n m k p q =
    ap (λ (s : List ℕ). get_or s k 0) (unpacked-digits n o h) ∙ get_or-digits 128 n k (value 256 o) p
    ∙ sym (ap (λ (s : List ℕ). get_or s k 0) (unpacked-digits m o h) ∙ get_or-digits 128 m k (value 256 o) q)
