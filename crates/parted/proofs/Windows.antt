-- Where a part of a 7-bit text begins: at a unit, or between the escape and the code of one. A septet that is no escape is the last of its unit, so that the units
-- which a run of septets ends are as many as the septets in it that are none.
-- Assumes nothing.
--   PlaceAt t m unit half   the septets of the text t from septet m on are those from the unit on, without its escape where half is true
--   place-begins, place-next, place-plain   the first place; the place behind a run of septets; the places of a text whose units are their own codes
--   place-window            a run of septets, by the units that it takes at most
--   codes-more, codes-most, open-last   how the code counts the units that a run ends, and sees that it ends in an escape
use mathlib.Core.Path.{◌≡◌, refl, sym, ap, ap₂, ◌∙◌, subst}
use mathlib.Core.Bool.{Bool, true, false, cond}
use mathlib.Core.List.{List, [], ◌∷◌, ◌++◌, append-nil}
use mathlib.Core.Logic.{◌⊎◌, inl, inr, ⊎_elim}
use Prim.Native.Nat.{ℕ, zero, suc, ◌+◌, ◌-◌, ◌≤◌, ◌<◌}
use native.Mathlib.Nat.{add-zero}
use native.Mathlib.Numerals.{add-one}
use native.Mathlib.Omega.{arith}
use borrow.Author.Tests.{ne_eqb}
use lib.Dec.{eqb}
use lib.ListN.{length, get_or, take, drop, length-drop, take-append-drop}
use lib.Seq.{take-append-le, take_all, take-nil, drop-drop, length-take-le}
use Rattle.letters.specs.declared.Listed.{Listed}
use Rattle.letters.specs.declared.Listed.TheVariants.{Unlisted, Main, Extension}
use Rattle.letters.specs.Tables.{escape}
use Rattle.letters.specs.Writing.{listed_as, septets_for, septets_in, septets_of, is_unlisted}
use Rattle.letters.proofs.Theorems.{Codable, codable-first, codable-rest, septets-least, septets-append, no-escape-end}
use Rattle.letters.proofs.Texts.{codable-front}
use Rattle.parted.specs.Inner.{codes_in, open_after}

-- ---- one unit

-- the last septet of a unit is no escape
last-septet : (u code : ℕ) (front : List ℕ) → septets_for (listed_as u) ≡ front ++ (code ∷ []) → eqb code escape ≡ false
unfolding septets_in
last-septet u code front e =
    ne_eqb code escape (λ same. no-escape-end (u ∷ []) (front, append-nil (septets_for (listed_as u)) ∙ e ∙ ap (λ (c : ℕ). front ++ (c ∷ [])) same))

pub record PairAt (t : List ℕ) : Type 0 where
  pub unit : ℕ
  pub rest : List ℕ
  pub code : ℕ
  pub is : t ≡ unit ∷ rest
  pub listed : listed_as unit ≡ Extension code

pub record PlaceAt (t : List ℕ) (m unit : ℕ) (half : Bool) : Type 0 where
  pub within : unit ≤ length t
  pub rest : drop m (septets_of t) ≡ drop (cond half 1 0) (septets_of (drop unit t))
  pub pair : half ≡ true → PairAt (drop unit t)

-- what is left of a text behind a run of its septets
record Left (t behind w : List ℕ) (half : Bool) : Type 0 where
  within : codes_in w ≤ length t
  rest : behind ≡ drop (cond (open_after half w) 1 0) (septets_of (drop (codes_in w) t))
  pair : open_after half w ≡ true → PairAt (drop (codes_in w) t)

false-true : false ≡ true → ⊥
false-true e = let z : ◌≡◌ {A = ℕ} 0 1 = cc in omega arith

left-none : (t : List ℕ) → Left t (septets_of t) [] false
unfolding codes_in open_after
left-none t = record { within = omega arith; rest = refl; pair = λ e. absurd (false-true e) }

-- the septets that end a unit, and behind them a run of the septets of the others
left-more : (u : ℕ) (t behind w : List ℕ) (half : Bool) (code : ℕ) → eqb code escape ≡ false → Left t behind w false → Left (u ∷ t) behind (code ∷ w) half
unfolding codes_in open_after
left-more u t behind w half code e l =
    let count : codes_in (code ∷ w) ≡ suc (codes_in w) = simp e in
    let ends : open_after half (code ∷ w) ≡ open_after false w = ap (λ (b : Bool). open_after b w) e in
    record {
      within = omega (arith, l.within);
      rest = l.rest ∙ sym (ap₂ (λ (b : Bool) (k : ℕ). drop (cond b 1 0) (septets_of (drop k (u ∷ t)))) ends count);
      pair = λ x. subst (λ (k : ℕ). PairAt (drop k (u ∷ t))) (sym count) (l.pair (sym ends ∙ x));
    }

-- an escape in front of such a run
left_open : (t behind w : List ℕ) → Left t behind w true → Left t behind (escape ∷ w) false
unfolding codes_in open_after
left_open t behind w l = record { within = l.within; rest = l.rest; pair = l.pair }

-- from the middle of a pair, where it is known how the septets behind it are left
left-half : (u code : ℕ) (t : List ℕ) → listed_as u ≡ Extension code → ((n : ℕ) → n ≤ length (septets_of t) → Left t (drop n (septets_of t)) (take n (septets_of t)) false)
    → (n : ℕ) → n ≤ suc (length (septets_of t)) → Left (u ∷ t) (drop n (code ∷ septets_of t)) (take n (code ∷ septets_of t)) true
unfolding codes_in open_after septets_in
left-half u code t e rest zero h =
    record { within = omega arith; rest = ap (λ (l : Listed). drop 1 (septets_for l ++ septets_of t)) (sym e); pair = λ x. record { unit = u; rest = t; code = code; is = refl; listed = e } }
left-half u code t e rest (suc n) h =
    left-more u t (drop n (septets_of t)) (take n (septets_of t)) true code (last-septet u code (escape ∷ []) (ap septets_for e)) (rest n (omega arith))

listed-cases : (u : ℕ) (t : List ℕ) (l : Listed) → listed_as u ≡ l → is_unlisted (listed_as u) ≡ false
    → ((n : ℕ) → n ≤ length (septets_of t) → Left t (drop n (septets_of t)) (take n (septets_of t)) false)
    → (n : ℕ) → n ≤ length (septets_for l ++ septets_of t) → Left (u ∷ t) (drop n (septets_for l ++ septets_of t)) (take n (septets_for l ++ septets_of t)) false
unfolding septets_in
listed-cases u t l e c rest zero h = subst (λ (s : List ℕ). Left (u ∷ t) s [] false) (ap (λ (x : Listed). septets_for x ++ septets_of t) e) (left-none (u ∷ t))
listed-cases u t Unlisted e c rest (suc n) h = absurd (false-true (sym c ∙ ap is_unlisted e))
listed-cases u t (Main code) e c rest (suc n) h =
    left-more u t (drop n (septets_of t)) (take n (septets_of t)) false code (last-septet u code [] (ap septets_for e)) (rest n (omega arith))
listed-cases u t (Extension code) e c rest (suc n) h = left_open (u ∷ t) (drop n (code ∷ septets_of t)) (take n (code ∷ septets_of t)) (left-half u code t e rest n (omega arith))

left-whole : (t : List ℕ) → Codable t → (n : ℕ) → n ≤ length (septets_of t) → Left t (drop n (septets_of t)) (take n (septets_of t)) false
unfolding septets_in
left-whole [] c zero h = left-none []
left-whole [] c (suc n) h = absurd (omega arith)
left-whole (u ∷ t) c n h = listed-cases u t (listed_as u) refl (codable-first u t c) (left-whole t (codable-rest u t c)) n h

-- ---- places

pub codable-drop : (t : List ℕ) (k : ℕ) → Codable t → Codable (drop k t)
codable-drop t zero c = c
codable-drop [] (suc k) c = c
codable-drop (u ∷ t) (suc k) c = codable-drop t k (codable-rest u t c)

pub codable-take : (t : List ℕ) (k : ℕ) → Codable t → Codable (take k t)
codable-take t k c = codable-front (take k t) (drop k t) (subst Codable (sym (take-append-drop k t)) c)

-- from a place on, also between an escape and its code
left_at : (d : List ℕ) → Codable d → (half : Bool) → (half ≡ true → PairAt d) → (n : ℕ) → n ≤ length (drop (cond half 1 0) (septets_of d))
    → Left d (drop n (drop (cond half 1 0) (septets_of d))) (take n (drop (cond half 1 0) (septets_of d))) half
unfolding septets_in
left_at d c false p n h = left-whole d c n h
left_at d c true p n h = subst (λ (x : List ℕ). Goal x) (sym (p refl).is) (there (p refl).unit (p refl).rest (p refl).code (p refl).listed (subst Codable (p refl).is c) (subst (λ (x : List ℕ). n ≤ length (drop 1 (septets_of x))) (p refl).is h))
  where
    Goal : List ℕ → Type 0
    Goal x = Left x (drop n (drop 1 (septets_of x))) (take n (drop 1 (septets_of x))) true

    there : (u : ℕ) (t : List ℕ) (code : ℕ) → listed_as u ≡ Extension code → Codable (u ∷ t) → n ≤ length (drop 1 (septets_of (u ∷ t))) → Goal (u ∷ t)
    there u t code e k m =
        let two : septets_for (listed_as u) ++ septets_of t ≡ escape ∷ code ∷ septets_of t = ap (λ (l : Listed). septets_for l ++ septets_of t) e in
        let less : n ≤ suc (length (septets_of t)) = subst (λ (x : List ℕ). n ≤ length (drop 1 x)) two m in
        subst (λ (x : List ℕ). Left (u ∷ t) (drop n (drop 1 x)) (take n (drop 1 x)) true) (sym two) (left-half u code t e (left-whole t (codable-rest u t k)) n less)

-- a run without the escape before it
without-escape : (half : Bool) (n : ℕ) (x : List ℕ) → drop (cond half 1 0) (take (n + cond half 1 0) x) ≡ take n (drop (cond half 1 0) x)
without-escape false n x = ap (λ (k : ℕ). take k x) (add-zero n)
without-escape true n [] = ap (drop 1) (take-nil (n + 1)) ∙ sym (take-nil n)
without-escape true n (y ∷ x) = ap (λ (k : ℕ). drop 1 (take k (y ∷ x))) (add-one n)

-- the first septets of a text are those of its first units
pub front-units : (d : List ℕ) → Codable d → (c k : ℕ) → c ≤ length d → (c ≡ length d) ⊎ (k ≤ c) → take k (septets_of (take c d)) ≡ take k (septets_of d)
front-units d codable c k within (inl all) = ap (λ (x : List ℕ). take k (septets_of x)) (take_all c d (omega arith))
front-units d codable c k within (inr few) =
    let long : c ≤ length (septets_of (take c d)) = omega (arith, septets-least (take c d) (codable-take d c codable), length-take-le c d within) in
    sym (take-append-le k (septets_of (take c d)) (septets_of (drop c d)) (omega arith))
    ∙ ap (take k) (sym (septets-append (take c d) (drop c d)) ∙ ap septets_of (take-append-drop c d))

module _ (t : List ℕ) where
  pub place-begins : PlaceAt t 0 0 false
  place-begins = record { within = omega arith; rest = refl; pair = λ e. absurd (false-true e) }

  pub place-next : Codable t → (m unit : ℕ) (half : Bool) → PlaceAt t m unit half → (n : ℕ) → m + n ≤ length (septets_of t) → (w : List ℕ) → w ≡ take n (drop m (septets_of t))
      → PlaceAt t (m + n) (unit + codes_in w) (open_after half w)
  place-next c m unit half p n h w e =
      let d : List ℕ = drop unit t in
      let s : List ℕ = drop (cond half 1 0) (septets_of d) in
      let long : n ≤ length s = subst (λ (x : List ℕ). n ≤ length x) p.rest (omega (arith, length-drop m (septets_of t))) in
      let l : Left d (drop n s) w half = subst (λ (x : List ℕ). Left d (drop n s) x half) (sym (e ∙ ap (take n) p.rest)) (left_at d (codable-drop t unit c) half p.pair n long) in
      let deeper : drop (codes_in w) d ≡ drop (unit + codes_in w) t = drop-drop (codes_in w) unit t in
      record {
        within = omega (arith, l.within, length-drop unit t, p.within);
        rest = sym (drop-drop n m (septets_of t)) ∙ ap (drop n) p.rest ∙ l.rest ∙ ap (λ (x : List ℕ). drop (cond (open_after half w) 1 0) (septets_of x)) deeper;
        pair = λ x. subst PairAt deeper (l.pair x);
      }

  -- the septets of a run, from the first units behind its place: each takes one at least
  pub place-window : Codable t → (m unit : ℕ) (half : Bool) → PlaceAt t m unit half → (n c : ℕ) → m + n ≤ length (septets_of t) → (c ≡ length t - unit) ⊎ (n + cond half 1 0 ≤ c) → c ≤ length t - unit
      → drop (cond half 1 0) (take (n + cond half 1 0) (septets_of (take c (drop unit t)))) ≡ take n (drop m (septets_of t))
  place-window k m unit half p n c h units most =
      let d : List ℕ = drop unit t in
      let long : length d ≡ length t - unit = length-drop unit t in
      ap (drop (cond half 1 0)) (front-units d (codable-drop t unit k) c (n + cond half 1 0) (omega arith) (⊎_elim (λ (e : c ≡ length t - unit). inl (e ∙ sym long)) (λ (e : n + cond half 1 0 ≤ c). inr e) units))
      ∙ without-escape half n (septets_of d)
      ∙ ap (take n) (sym p.rest)

-- ---- counting them

pub codes-more : (s : List ℕ) (i : ℕ) → i < length s → codes_in (take (i + 1) s) ≡ codes_in (take i s) + cond (eqb (get_or s i 0) escape) 0 1
unfolding codes_in
codes-more [] i h = absurd (omega arith)
codes-more (x ∷ s) zero h = go (eqb x escape)
  where
    go : (b : Bool) → cond b 0 1 ≡ 0 + cond b 0 1
    go true = refl
    go false = refl
codes-more (x ∷ s) (suc i) h =
    let deeper : suc i + 1 ≡ suc (i + 1) = omega arith in
    ap (λ (k : ℕ). codes_in (take k (x ∷ s))) deeper ∙ go (eqb x escape) (codes-more s i (omega arith))
  where
    go : (b : Bool) → codes_in (take (i + 1) s) ≡ codes_in (take i s) + cond (eqb (get_or s i 0) escape) 0 1
        → cond b (codes_in (take (i + 1) s)) (suc (codes_in (take (i + 1) s))) ≡ cond b (codes_in (take i s)) (suc (codes_in (take i s))) + cond (eqb (get_or s i 0) escape) 0 1
    go true e = e
    go false e = omega (arith, e)

pub codes-most : (s : List ℕ) → codes_in s ≤ length s
unfolding codes_in
codes-most [] = omega arith
codes-most (x ∷ s) = go (eqb x escape) (codes-most s)
  where
    go : (b : Bool) → codes_in s ≤ length s → cond b (codes_in s) (suc (codes_in s)) ≤ suc (length s)
    go true h = omega arith
    go false h = omega arith

-- the last septet tells whether a pair is open
pub open-last : (half : Bool) (s : List ℕ) → 0 < length s → open_after half s ≡ eqb (get_or s (length s - 1) 0) escape
unfolding open_after
open-last half [] h = absurd (omega arith)
open-last half (x ∷ []) h = refl
open-last half (x ∷ y ∷ s) h =
    let deeper : suc (suc (length s)) - 1 ≡ suc (suc (length s) - 1) = omega arith in
    open-last (eqb x escape) (y ∷ s) (omega arith) ∙ ap (λ (k : ℕ). eqb (get_or (x ∷ y ∷ s) k 0) escape) (sym deeper)

pub open_none : (half : Bool) (s : List ℕ) → length s ≡ 0 → open_after half s ≡ half
unfolding open_after
open_none half [] h = refl
open_none half (x ∷ s) h = absurd (omega arith)

pub none-counted : (s : List ℕ) → 0 ≡ codes_in (take 0 s)
unfolding codes_in
none-counted s = refl
