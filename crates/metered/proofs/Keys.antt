-- One key by the numbers that the code has: a unit without septets is unlisted, and what is no sum is told as one over 65,535.
-- Assumes nothing.
--   added-judged, back-judged, clear-keyed   the three keys, as the code judges them
--   unit-encoded, small_one, septets-two     a unit's septets, by encoding it alone; a small letter's is one; they are two at most
--   back_sum, back_below                     a difference of two numbers, not negative and negative
--   sum-none                                 a sum that is not below zero
--   size_small, remains-fits                 a service's size and the number that a record shows fit 64 bits with a sign
use mathlib.Core.Path.{◌≡◌, refl, sym, ap, ◌∙◌, subst}
use mathlib.Core.Bool.{Bool, true, false}
use mathlib.Core.List.{List, [], ◌∷◌}
use Prim.Native.Nat.{ℕ, zero, suc, ◌+◌, ◌-◌, ◌<◌, ◌≤◌, ◌^◌, zero-le}
use native.Mathlib.Decide.{dec_le}
use native.Mathlib.Omega.{arith}
use lib.Dec.{T, ltb, eqb, eqb→eq}
use lib.IntN.{ℤ, pos, negsuc, ◌-ℤ◌, nat_abs}
use lib.ListN.{length}
use lib.Signed.{mag}
use borrow.Author.Tests.{lt-ltb, le-ltb, ltb-true}
use mir.Syntax.{w64}
use mir.Val.{SFits}
use Rattle.lists.specs.Lists.{first_place}
use Rattle.words.specs.declared.Service.{Service}
use Rattle.words.specs.declared.Service.TheVariants.{ShortMessage, Broadcast, Ussd, OldPage}
use Rattle.words.specs.Sizes.{most_septets}
use Rattle.words.specs.declared.Refusal.TheVariants.{TooLong, Unlisted as UnlistedUnit}
use Rattle.words.specs.Judging.{when, verdict, settle}
use Rattle.lists.proofs.Tests.{every_below, every-below}
use Rattle.letters.specs.Tables.{main_table, among}
use Rattle.letters.specs.declared.Listed.{Listed}
use Rattle.letters.specs.declared.Listed.TheVariants.{Unlisted, Main, Extension}
use Rattle.letters.specs.Writing.{listed_as, is_unlisted, septets_for, septets_in, septets_of, listed_in, listed_front, encoded_as}
use Rattle.letters.proofs.Texts.{codable-told, codable-snoc}
use Rattle.letters.proofs.Theorems.{Codable, codable-front, septets-last}
use Rattle.metered.specs.declared.Meter.{Meter}
use Rattle.metered.specs.Metered.{add, back, clear, no_sum, new_meter, remains, refused_key, keyed, unit_septets}
use Rattle.metered.specs.Inner.{less_or, judged_as}
use Rattle.std.specs.Prelude.{Ok}

-- ---- sums

pub back_sum : (a n : ℕ) → n ≤ a → pos a -ℤ pos n ≡ pos (a - n)
back_sum a zero h = ap pos (omega arith)
back_sum a (suc n) h = rw (le-ltb a (suc n) h) refl

pub back_below : (a n : ℕ) → a < n → pos a -ℤ pos n ≡ negsuc (n - suc a)
back_below a zero h = absurd (omega (arith, h))
back_below a (suc n) h = rw (lt-ltb a (suc n) h) refl

-- its size, by which a width holds it
difference-mag : (a n b : ℕ) → a < b → n < b → mag (pos a -ℤ pos n) < b
difference-mag a n b h k =
    elim (dec_le n a) [
      | yes l ↦ subst (λ (z : ℤ). mag z < b) (sym (back_sum a n l)) (omega (arith, h))
      | no p ↦ subst (λ (z : ℤ). mag z < b) (sym (back_below a n (omega (arith, p)))) (omega (arith, k, p))
    ]

pub sum-none : (n : ℕ) → no_sum (pos n) ≡ ltb 65535 n
sum-none n = rw (le-ltb n 0 zero-le) refl

less_none : (a n : ℕ) → no_sum (pos a -ℤ pos n) ≡ ltb 65535 (less_or a n)
unfolding less_or
less_none a n =
    elim (dec_le n a) [
      | yes h ↦ rw (back_sum a n h, le-ltb a n h) (sum-none (a - n))
      | no p ↦ let h : a < n = omega (arith, p) in rw (back_below a n h, lt-ltb a n h) refl
    ]

less-sum : (a n : ℕ) → less_or a n ≤ 65535 → pos a -ℤ pos n ≡ pos (less_or a n)
unfolding less_or
less-sum a n l =
    elim (dec_le n a) [
      | yes h ↦ back_sum a n h ∙ ap pos (rw (le-ltb a n h) refl)
      | no p ↦ let over : less_or a n ≡ 65536 = rw (lt-ltb a n (omega (arith, p))) refl in absurd {0} (omega (arith, l, over))
    ]

-- ---- what is judged

unlisted-none : (l : Listed) → is_unlisted l ≡ ltb (length (septets_for l)) 1
unlisted-none Unlisted = refl
unlisted-none (Main code) = refl
unlisted-none (Extension code) = refl

-- a unit that is encoded as a text of its own
front-none : (u : ℕ) → is_unlisted (listed_as u) ≡ true → listed_front (u ∷ []) ≡ []
unfolding listed_front first_place
front-none u e = rw (e, first_place) refl

one-codable : (u : ℕ) → is_unlisted (listed_as u) ≡ false → Codable (u ∷ [])
one-codable u e = codable-snoc [] u (codable-told [] (omega arith)) e

encoded-by : (u : ℕ) (unlisted : Bool) → is_unlisted (listed_as u) ≡ unlisted → length (septets_of (listed_front (u ∷ []))) ≡ unit_septets u
unfolding unit_septets septets_in
encoded-by u true e =
    let none = ltb-true (length (septets_for (listed_as u))) 1 (sym (unlisted-none (listed_as u)) ∙ e) in
    ap (λ (t : List ℕ). length (septets_of t)) (front-none u e) ∙ omega (arith, none)
encoded-by u false e =
    ap (λ (t : List ℕ). length (septets_of t)) (codable-front (u ∷ []) (one-codable u e)) ∙ ap length (septets-last [] u)

pub unit-encoded : (u : ℕ) → (encoded_as (u ∷ [])).septets ≡ unit_septets u
unfolding encoded_as
unit-encoded u = encoded-by u (is_unlisted (listed_as u)) refl

-- the small letters
small-test : T (every_below (λ k. eqb (unit_septets (0x61 + k)) 1) 26)
unfolding unit_septets listed_in among first_place main_table
small-test = tt

pub small_one : (u : ℕ) → 0x61 ≤ u → u ≤ 0x7a → unit_septets u ≡ 1
small_one u h k =
    subst (λ (n : ℕ). unit_septets n ≡ 1) (omega (arith, h)) (eqb→eq (unit_septets (0x61 + (u - 0x61))) 1 (every-below (λ k. eqb (unit_septets (0x61 + k)) 1) 26 small-test (u - 0x61) (omega (arith, k))))

two-most : (l : Listed) → length (septets_for l) ≤ 2
two-most Unlisted = omega arith
two-most (Main code) = omega arith
two-most (Extension code) = omega arith

pub septets-two : (u : ℕ) → unit_septets u ≤ 2
unfolding unit_septets
septets-two u = two-most (listed_as u)

-- a sum that is told as n
judged : (m : Meter) (unlisted : Bool) (z : ℤ) (n : ℕ) → no_sum z ≡ ltb 65535 n → (n ≤ 65535 → z ≡ pos n)
    → settle (verdict (when unlisted (UnlistedUnit 0) ∷ when (no_sum z) TooLong ∷ [])) (refused_key m) (record { meter = record { service = m.service; used = nat_abs z }; answer = (Ok tt) })
    ≡ settle (verdict (when unlisted (UnlistedUnit 0) ∷ when (ltb 65535 n) TooLong ∷ [])) (refused_key m) (record { meter = record { service = m.service; used = n }; answer = (Ok tt) })
unfolding verdict
judged m true z n e f = refl
judged m false z n e f =
    elim (dec_le n 65535) [
      | yes h ↦ rw (f h, sum-none n, le-ltb 65535 n h) refl
      | no p ↦ rw (e, lt-ltb 65535 n (omega (arith, p))) refl
    ]

pub added-judged : (m : Meter) (u : ℕ) → keyed m (add u) ≡ judged_as m (unit_septets u) (m.used + unit_septets u)
unfolding keyed judged_as unit_septets
added-judged m u =
    let n = m.used + unit_septets u in
    rw (unlisted-none (listed_as u)) (judged m (ltb (unit_septets u) 1) (pos n) n (sum-none n) (λ h. refl))

pub back-judged : (m : Meter) (u : ℕ) → keyed m (back u) ≡ judged_as m (unit_septets u) (less_or m.used (unit_septets u))
unfolding keyed judged_as unit_septets
back-judged m u =
    rw (unlisted-none (listed_as u))
    (judged m (ltb (unit_septets u) 1) (pos m.used -ℤ pos (unit_septets u)) (less_or m.used (unit_septets u)) (less_none m.used (unit_septets u)) (less-sum m.used (unit_septets u)))

pub clear-keyed : (m : Meter) → keyed m clear ≡ record { meter = new_meter m.service; answer = (Ok tt) }
unfolding keyed verdict
clear-keyed m = refl

-- ---- the number that is shown

pub size_small : (s : Service) → most_septets s < 2 ^ 63
size_small ShortMessage = omega arith
size_small Broadcast = omega arith
size_small Ussd = omega arith
size_small OldPage = omega arith

pub remains-fits : (m : Meter) → m.used < 2 ^ 32 → SFits w64 (remains m)
unfolding remains
remains-fits m h = record { sfits = difference-mag (most_septets m.service) m.used (2 ^ 63) (size_small m.service) (omega (arith, h)) }
