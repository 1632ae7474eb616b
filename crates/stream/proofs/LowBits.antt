-- The low bits of each piece of a list: pieces that have no more bits are left as they are, and eight septets of a list moved together.
-- Assumes nothing.
use mathlib.Core.Path.{◌≡◌, refl, sym, ap, ap₂, ◌∙◌}
use mathlib.Core.List.{List, [], ◌∷◌, ◌++◌}
use Prim.Native.Nat.{ℕ, zero, suc, ◌+◌, ◌-◌, ◌*◌, ◌%◌, ◌^◌, ◌≤◌}
use native.Mathlib.Nat.{mod-lt, mod-eq_of_lt}
use native.Mathlib.Omega.{arith}
use lib.Dec.{lit<}
use lib.Bits.{and_mask}
use lib.Pow.{pow_pos}
use lib.ListN.{length, take, drop, replicate, length-map, length-drop}
use lib.Seq.{length-take-le}
use Rattle.lists.specs.Lists.{laid}
use Rattle.stream.specs.Pages.{page}
use Rattle.lists.proofs.Below.{Below, below-take, below-drop}
use Rattle.stream.specs.Digits.{value, digits, low_of}
use Rattle.stream.specs.Groups.{together, apart}
use Rattle.stream.proofs.Numbers.{digits_append, digits_low, digits_value, value-append, value-lt}
use Rattle.stream.proofs.Folds.{seven-octets, septets-apart}

module _ (w : ℕ) where
  pub low_below : (s : List ℕ) → Below (2 ^ w) (low_of w s)
  low_below [] k = pow_pos w
  low_below (x ∷ s) zero = mod-lt x (pow_pos w)
  low_below (x ∷ s) (suc k) = low_below s k

  pub low_same : (s : List ℕ) → Below (2 ^ w) s → low_of w s ≡ s
  low_same [] h = refl
  low_same (x ∷ s) h = ap₂ (λ (y : ℕ) (l : List ℕ). y ∷ l) (mod-eq_of_lt (h 0)) (low_same s (λ k. h (suc k)))

  low-take : (n : ℕ) (s : List ℕ) → take n (low_of w s) ≡ low_of w (take n s)
  low-take zero s = refl
  low-take (suc n) [] = refl
  low-take (suc n) (x ∷ s) = ap (λ (l : List ℕ). x % 2 ^ w ∷ l) (low-take n s)

  pub low-drop : (n : ℕ) (s : List ℕ) → drop n (low_of w s) ≡ low_of w (drop n s)
  low-drop zero s = refl
  low-drop (suc n) [] = refl
  low-drop (suc n) (x ∷ s) = low-drop n s

  pub low-append : (s t : List ℕ) → low_of w (s ++ t) ≡ low_of w s ++ low_of w t
  low-append [] t = refl
  low-append (x ∷ s) t = ap (λ (l : List ℕ). x % 2 ^ w ∷ l) (low-append s t)

  pub low_part : (n at : ℕ) (s : List ℕ) → take n (drop at (low_of w s)) ≡ low_of w (take n (drop at s))
  low_part n at s = ap (take n) (low-drop at s) ∙ low-take n (drop at s)

zero-digits : (n : ℕ) → digits 256 n 0 ≡ replicate n 0
unfolding digits
zero-digits zero = refl
zero-digits (suc n) = ap (λ (l : List ℕ). 0 ∷ l) (zero-digits n)

zero-value : (n : ℕ) → value 128 (low_of 7 (replicate n 0)) ≡ 0
unfolding value
zero-value zero = refl
zero-value (suc n) = omega (arith, zero-value n)

-- up to eight septets of a list, joined as octets and moved together
pub together-few : (l : List ℕ) → Below 256 l → length l ≤ 8 → together (value 256 l) ≡ value 128 (low_of 7 l)
unfolding together
together-few l h few =
    let k : ℕ = length l in
    let parts : 8 ≡ k + (8 - k) = omega arith in
    let none : value 256 l ≡ 0 * 256 ^ k + value 256 l = omega arith in
    ap (λ (d : List ℕ). value 128 (low_of 7 d))
    (ap₂ (digits 256) parts none ∙ digits_append 256 k (8 - k) 0 (value 256 l) (lit< tt) (value-lt 256 l h) ∙ ap₂ (λ (a b : List ℕ). a ++ b) (digits_value 256 l h) (zero-digits (8 - k)))
    ∙ ap (value 128) (low-append 7 l (replicate (8 - k) 0))
    ∙ value-append 128 (low_of 7 l) (low_of 7 (replicate (8 - k) 0))
    ∙ ap (λ (x : ℕ). x * 128 ^ length (low_of 7 l) + value 128 (low_of 7 l)) (zero-value (8 - k))
    ∙ omega arith

-- eight of them
pub together-part : (s : List ℕ) (at : ℕ) → Below 256 s → at + 8 ≤ length s → together (value 256 (take 8 (drop at s))) ≡ value 128 (take 8 (drop at (low_of 7 s)))
together-part s at h fits =
    together-few (take 8 (drop at s)) (below-take 256 (drop at s) (below-drop 256 s h at) 8) (omega (arith, length-take-le 8 (drop at s) (omega (arith, length-drop at s))))
    ∙ ap (value 128) (sym (low_part 7 8 at s))

-- the low bits of a page are the page of the low bits
pub low-page : (s : List ℕ) → low_of 7 (page s) ≡ page (low_of 7 s)
unfolding page laid
low-page s =
    low-append 7 s (drop (length s) (replicate 93 13))
    ∙ ap (λ (l : List ℕ). low_of 7 s ++ l) (sym (low-drop 7 (length s) (replicate 93 13)))
    ∙ ap (λ (n : ℕ). low_of 7 s ++ drop n (replicate 93 13)) (sym (length-map s _))

-- the octets of what is moved apart are the septets
pub apart-octets : (v : ℕ) → digits 256 8 (apart v) ≡ digits 128 8 v
unfolding apart
apart-octets v = septets-apart v

-- eight octets have the eight septets of the first seven
pub apart-seven : (s : List ℕ) (at : ℕ) → Below 256 s → at + 8 ≤ length s → digits 128 8 (value 256 (take 8 (drop at s))) ≡ digits 128 8 (value 256 (take 7 (drop at s)))
apart-seven s at h fits =
    sym (digits_low 128 8 (value 256 (take 8 (drop at s))) (lit< tt))
    ∙ ap (digits 128 8) (sym (and_mask (value 256 (take 8 (drop at s))) 56) ∙ seven-octets s at h fits)
