-- The CR that USSD adds and drops: by length and last septet, as the code tests them.
-- Assumes nothing.
use mathlib.Core.Path.{◌≡◌, sym, ap, ◌∙◌, subst}
use mathlib.Core.Bool.{Bool, true, false}
use mathlib.Core.List.{List, [], ◌∷◌, ◌++◌}
use Prim.Native.Nat.{ℕ, zero, suc, ◌+◌, ◌-◌, ◌*◌, ◌/◌, ◌%◌, ◌<◌, ◌≤◌}
use native.Mathlib.Decide.{ℕ_discrete, dec_le}
use native.Mathlib.Omega.{arith}
use borrow.Author.Tests.{eq-eqb, ne_eqb, lt-ltb, le-ltb}
use lib.Dec.{eqb, lit<}
use lib.ListN.{length, take, length-append}
use lib.Seq.{get_or_at, take_at}
use Rattle.lists.proofs.Below.{Below, below-append}
use Rattle.stream.specs.Stream.{octets_for, packed, unpacked}
use Rattle.stream.specs.UssdPacking.{last, adds_cr, with_cr, closed, ussd_octets, drops_cr, opened, ussd_septets}
use Rattle.stream.proofs.Stream.{packed-length, unpacked-packed}

-- ---- adding

pub closed-added : (s : List ℕ) → adds_cr s ≡ true → closed s ≡ s ++ 13 ∷ []
unfolding closed
closed-added s e = ap (λ (b : Bool). with_cr b s) e

pub closed_same : (s : List ℕ) → adds_cr s ≡ false → closed s ≡ s
unfolding closed
closed_same s e = ap (λ (b : Bool). with_cr b s) e

one_below : Below 128 (13 ∷ [])
one_below zero = lit< tt
one_below (suc k) = lit< tt

pub with-cr-below : (b : Bool) (s : List ℕ) → Below 128 s → Below 128 (with_cr b s)
with-cr-below true s h = below-append 128 s (13 ∷ []) h one_below
with-cr-below false s h = h

module _ (s : List ℕ) where
  pub adds-seven : length s % 8 ≡ 7 → adds_cr s ≡ true
  unfolding adds_cr
  adds-seven e = simp (eq-eqb _ _ e)

  pub adds-eight : 0 < length s → length s % 8 ≡ 0 → adds_cr s ≡ eqb (last s) 13
  unfolding adds_cr
  adds-eight p e = simp (ne_eqb (length s % 8) 7 (omega arith), lt-ltb _ _ p, eq-eqb (length s % 8) 0 e)

  pub adds-other : (length s % 8 ≡ 7 → ⊥) → (length s % 8 ≡ 0 → ⊥) → adds_cr s ≡ false
  unfolding adds_cr
  adds-other a b = simp (ne_eqb (length s % 8) 7 a, lt-ltb 0 (length s) (omega arith), ne_eqb (length s % 8) 0 b)

  pub adds_none : length s ≤ 0 → adds_cr s ≡ false
  unfolding adds_cr
  adds_none z = simp (ne_eqb (length s % 8) 7 (omega arith), le-ltb 0 (length s) z)

-- ---- dropping

module _ (m : ℕ) (s : List ℕ) where
  pub drops-seven : 0 < m → m % 7 ≡ 0 → drops_cr m s ≡ eqb (last s) 13
  unfolding drops_cr
  drops-seven p e = simp (lt-ltb _ _ p, eq-eqb (m % 7) 0 e)

  pub drops-other : (m % 7 ≡ 0 → ⊥) → drops_cr m s ≡ false
  unfolding drops_cr
  drops-other b = simp (lt-ltb 0 m (omega arith), ne_eqb (m % 7) 0 b)

  pub drops-none : m ≤ 0 → drops_cr m s ≡ false
  unfolding drops_cr
  drops-none z = simp (le-ltb 0 m z)

  pub opened-dropped : drops_cr m s ≡ true → opened m s ≡ take (length s - 1) s
  unfolding opened
  opened-dropped e = rw (e, opened)

  pub opened-kept : drops_cr m s ≡ false → opened m s ≡ s
  unfolding opened
  opened-kept e = rw (e, opened)

-- ---- reading back what was packed

-- k eights and r over take 7k + r octets
octets-parts : (n : ℕ) → octets_for n ≡ 7 * (n / 8) + n % 8
unfolding octets_for
octets-parts n = omega arith

-- a count that does not leave 7 over 8 is found again from the octets
count-back : (n : ℕ) → (n % 8 ≡ 7 → ⊥) → 8 * octets_for n / 7 ≡ n
count-back n h = omega (arith, octets-parts n)

whole-groups : (n : ℕ) → n % 8 ≡ 0 → octets_for n % 7 ≡ 0
whole-groups n h = omega (arith, octets-parts n)

some-octets : (n : ℕ) → 0 < n → 0 < octets_for n
unfolding octets_for
some-octets n h = omega arith

broken-group : (n : ℕ) → (n % 8 ≡ 0 → ⊥) → (n % 8 ≡ 7 → ⊥) → octets_for n % 7 ≡ 0 → ⊥
broken-group n h k e = omega (arith, octets-parts n)

snoc-length : (s : List ℕ) (x : ℕ) → length (s ++ x ∷ []) ≡ length s + 1
snoc-length s x = length-append s (x ∷ [])

snoc-last : (s : List ℕ) (x : ℕ) → last (s ++ x ∷ []) ≡ x
unfolding last
snoc-last s x = get_or_at s x [] 0 (length (s ++ x ∷ []) - 1) (omega (arith, snoc-length s x))

snoc-front : (s : List ℕ) (x : ℕ) → take (length (s ++ x ∷ []) - 1) (s ++ x ∷ []) ≡ s
snoc-front s x = take_at s (x ∷ []) (length (s ++ x ∷ []) - 1) (omega (arith, snoc-length s x))

-- the septets are found again, but for the CR that is dropped
read-back : (t : List ℕ) → Below 128 t → (length t % 8 ≡ 7 → ⊥) → ussd_septets (packed t) ≡ opened (octets_for (length t)) t
unfolding ussd_septets
read-back t h k =
    ap (λ (m : ℕ). opened m (unpacked (8 * m / 7) (packed t))) (packed-length t)
    ∙ ap (λ (n : ℕ). opened (octets_for (length t)) (unpacked n (packed t))) (count-back (length t) k)
    ∙ ap (opened (octets_for (length t))) (unpacked-packed t h)

module _ (s : List ℕ) (h : Below 128 s) where
  -- seven over: the CR that was added is dropped
  back-seven : length s % 8 ≡ 7 → ussd_septets (ussd_octets s) ≡ s
  unfolding ussd_octets
  back-seven e =
      let t : List ℕ = s ++ 13 ∷ [] in
      let n : length t % 8 ≡ 0 = omega (arith, snoc-length s 13) in
      let drops : drops_cr (octets_for (length t)) t ≡ true =
      drops-seven (octets_for (length t)) t (some-octets (length t) (omega (arith, snoc-length s 13))) (whole-groups (length t) n) ∙ eq-eqb _ _ (snoc-last s 13) in
      ap (λ (l : List ℕ). ussd_septets (packed l)) (closed-added s (adds-seven s e))
      ∙ read-back t (with-cr-below true s h) (omega arith)
      ∙ opened-dropped (octets_for (length t)) t drops
      ∙ snoc-front s 13

  -- a multiple of 8 that ends in CR: the CR that was added is kept
  pub back-doubled : 0 < length s → length s % 8 ≡ 0 → last s ≡ 13 → ussd_septets (ussd_octets s) ≡ s ++ 13 ∷ []
  unfolding ussd_octets
  back-doubled p e l =
      let t : List ℕ = s ++ 13 ∷ [] in
      let n : length t % 8 ≡ 1 = omega (arith, snoc-length s 13) in
      ap (λ (l : List ℕ). ussd_septets (packed l)) (closed-added s (adds-eight s p e ∙ eq-eqb _ _ l))
      ∙ read-back t (with-cr-below true s h) (omega arith)
      ∙ opened-kept (octets_for (length t)) t (drops-other (octets_for (length t)) t (broken-group (length t) (omega arith) (omega arith)))

  -- a multiple of 8 that ends otherwise
  back-eight : 0 < length s → length s % 8 ≡ 0 → (last s ≡ 13 → ⊥) → ussd_septets (ussd_octets s) ≡ s
  unfolding ussd_octets
  back-eight p e l =
      ap (λ (l : List ℕ). ussd_septets (packed l)) (closed_same s (adds-eight s p e ∙ ne_eqb _ _ l))
      ∙ read-back s h (omega arith)
      ∙ opened-kept (octets_for (length s)) s (drops-seven (octets_for (length s)) s (some-octets (length s) p) (whole-groups (length s) e) ∙ ne_eqb _ _ l)

  back_none : length s ≤ 0 → ussd_septets (ussd_octets s) ≡ s
  unfolding ussd_octets octets_for
  back_none z =
      ap (λ (l : List ℕ). ussd_septets (packed l)) (closed_same s (adds_none s z))
      ∙ read-back s h (omega arith)
      ∙ opened-kept (octets_for (length s)) s (drops-none (octets_for (length s)) s (omega arith))

  back-other : (length s % 8 ≡ 7 → ⊥) → (length s % 8 ≡ 0 → ⊥) → ussd_septets (ussd_octets s) ≡ s
  unfolding ussd_octets
  back-other a b =
      ap (λ (l : List ℕ). ussd_septets (packed l)) (closed_same s (adds-other s a b))
      ∙ read-back s h a
      ∙ opened-kept (octets_for (length s)) s (drops-other (octets_for (length s)) s (broken-group (length s) b a))

  -- every other text is read back as it was
  pub back-same : ((0 < length s) × (length s % 8 ≡ 0) × (last s ≡ 13) → ⊥) → ussd_septets (ussd_octets s) ≡ s
  back-same k =
      elim (ℕ_discrete (length s % 8) 7) [
        | yes e ↦ back-seven e
        | no a ↦
            elim (ℕ_discrete (length s % 8) 0) [
              | yes e ↦ elim (dec_le (length s) 0) [ yes z ↦ back_none z | no p ↦ back-eight (omega arith) e (λ l. k (omega arith, e, l)) ]
              | no b ↦ back-other a b
            ]
      ]

-- what holds of a text and of the text with a CR holds of the closed text
by-closed : (s : List ℕ) (P : List ℕ → Type 0) → P s → P (s ++ 13 ∷ []) → P (closed s)
unfolding closed
by-closed s P a b = go (adds_cr s)
  where
    go : (c : Bool) → P (with_cr c s)
    go true = b
    go false = a

pub closed-below : (s : List ℕ) → Below 128 s → Below 128 (closed s)
closed-below s h = by-closed s (λ t. Below 128 t) h (with-cr-below true s h)

-- 182 septets take 160 octets and no CR, and fewer take no more
pub ussd-octets-most : (s : List ℕ) → length s ≤ 182 → length (ussd_octets s) ≤ 160
unfolding ussd_octets octets_for
ussd-octets-most s h =
    elim (ℕ_discrete (length s) 182) [
      | yes e ↦ subst (λ (t : List ℕ). length (packed t) ≤ 160) (sym (closed_same s (adds-other s (omega arith) (omega arith)))) (omega (arith, packed-length s))
      | no n ↦ by-closed s (λ t. length (packed t) ≤ 160) (omega (arith, packed-length s)) (omega (arith, packed-length (s ++ 13 ∷ []), snoc-length s 13))
    ]
