-- The first octet at which a test holds: it holds there, at none before, and one test that agrees with another has the same first octet.
-- Assumes nothing.
use mathlib.Core.Path.{◌≡◌, refl, ap, ◌∙◌, sym, subst}
use mathlib.Core.Bool.{Bool, true, false}
use Prim.Native.Nat.{ℕ, zero, suc, ◌+◌, ◌≤◌, ◌<◌}
use native.Mathlib.Nat.{zero-add}
use native.Mathlib.Omega.{arith}
use native.Mathlib.Decide.{dec_le}
use lib.Dec.{T}
use lib.ListN.{get_or}
use Rattle.lists.specs.Lists.{first_place, numbers_from}
use Rattle.lists.proofs.Places.{place-before, place-holds, place-most, numbers-at, numbers-length}
use Rattle.octets.specs.Smallest.{first_octet}

at : (k : ℕ) → k < 256 → get_or (numbers_from 0 256) k 0 ≡ k
at k h = numbers-at 0 256 k h ∙ zero-add k

module _ (test : ℕ → Bool) where
  pub first-most : first_octet test ≤ 256
  first-most = subst (λ (n : ℕ). first_octet test ≤ n) (numbers-length 0 256) (place-most test (numbers_from 0 256))

  pub first_holds : first_octet test < 256 → T (test (first_octet test))
  first_holds l =
      subst (λ (k : ℕ). T (test k)) (at (first_octet test) l)
      (subst T (sym (place-holds test (numbers_from 0 256) (subst (λ (n : ℕ). first_octet test < n) (sym (numbers-length 0 256)) l))) tt)

  pub first-least : (k : ℕ) → k < 256 → T (test k) → first_octet test ≤ k
  first-least k l h =
      elim (dec_le (first_octet test) k) [
        | yes m ↦ m
        | no m ↦ absurd (subst T (sym (ap test (at k l)) ∙ place-before test (numbers_from 0 256) k (omega arith)) h)
      ]

agree : (f g : ℕ → Bool) (n i : ℕ) → ((k : ℕ) → i ≤ k → k < i + n → f k ≡ g k) → first_place f (numbers_from i n) ≡ first_place g (numbers_from i n)
unfolding first_place numbers_from
agree f g zero i same = refl
agree f g (suc n) i same = go (f i) (g i) (same i (omega arith) (omega arith)) (agree f g n (suc i) (λ k l m. same k (omega arith) (omega arith)))
  where
    go : (a b : Bool) → a ≡ b → first_place f (numbers_from (suc i) n) ≡ first_place g (numbers_from (suc i) n)
        → ◌≡◌ {A = ℕ} (elim a as (λ (t : Bool). ℕ) [ true ↦ 0 | false ↦ suc (first_place f (numbers_from (suc i) n)) ]) (elim b as (λ (t : Bool). ℕ) [ true ↦ 0 | false ↦ suc (first_place g (numbers_from (suc i) n)) ])
    go true true e h = refl
    go true false e h = absurd (subst T e tt)
    go false true e h = absurd (subst T (sym e) tt)
    go false false e h = ap suc h

pub first-agree : (f g : ℕ → Bool) → ((k : ℕ) → k < 256 → f k ≡ g k) → first_octet f ≡ first_octet g
first-agree f g same = agree f g 256 0 (λ k l m. same k (omega arith))
