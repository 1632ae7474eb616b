-- Parts end to end, with their sizes beside them: the sizes are two numbers a part, so that those of part i are at 2i and 2i + 1, and a part begins where the
-- lengths of those before it say.
-- Assumes nothing.
--   sizes-length         two sizes a part
--   sizes-at, piece-at   the sizes of part i, and its octets, are those of part k + i where the first is part k
--   octets-length        how many octets n + 1 parts have of which the first n are equally long
use mathlib.Core.Path.{◌≡◌, refl, sym, ap, ap₂, ◌∙◌}
use mathlib.Core.Bool.{Bool}
use mathlib.Core.List.{List, [], ◌∷◌, ◌++◌}
use Prim.Native.Nat.{ℕ, zero, suc, ◌+◌, ◌*◌, ◌<◌}
use native.Mathlib.Nat.{add-zero, add-suc, suc-add, mul-suc}
use native.Mathlib.Omega.{arith}
use lib.ListN.{length, get_or, take, drop, length-append}
use lib.Seq.{take-append_seam, drop-append-add}
use Rattle.parted.specs.Parts.{part_octets, part_count}
use Rattle.parted.specs.Written.{all_octets, all_sizes}
use Rattle.parted.specs.Messages.{count_in, size_in, start_in, piece_in}

-- ---- one part more in front

module _ (c n : ℕ) (z : List ℕ) where
  count_next : (i : ℕ) → count_in (c ∷ n ∷ z) (suc i) ≡ count_in z i
  count_next i = let next : 2 * suc i ≡ suc (suc (2 * i)) = omega arith in ap (λ (j : ℕ). get_or (c ∷ n ∷ z) j 0) next

  size-next : (i : ℕ) → size_in (c ∷ n ∷ z) (suc i) ≡ size_in z i
  size-next i = let next : 2 * suc i + 1 ≡ suc (suc (2 * i + 1)) = omega arith in ap (λ (j : ℕ). get_or (c ∷ n ∷ z) j 0) next

  start-next : (i : ℕ) → start_in (c ∷ n ∷ z) (suc i) ≡ n + start_in z i
  unfolding start_in
  start-next zero = omega arith
  start-next (suc i) = omega (arith, start-next i, size-next i)

-- ---- all parts

module _ (ucs2 : Bool) (reference total : ℕ) (s : List ℕ) where
  abbrev octets_at : ℕ → List ℕ
  octets_at k = part_octets ucs2 reference total s k

  abbrev count_at : ℕ → ℕ
  count_at k = part_count ucs2 reference total s k

  abbrev octets_from : ℕ → ℕ → List ℕ
  octets_from k n = all_octets ucs2 reference total s k n

  abbrev sizes_from : ℕ → ℕ → List ℕ
  sizes_from k n = all_sizes ucs2 reference total s k n

  pub sizes-length : (k n : ℕ) → length (all_sizes ucs2 reference total s k n) ≡ 2 * n
  unfolding all_sizes
  sizes-length k zero = refl
  sizes-length k (suc n) = omega (arith, sizes-length (suc k) n)

  pub sizes-at : (k n i : ℕ) → i < n
      → (count_in (all_sizes ucs2 reference total s k n) i ≡ part_count ucs2 reference total s (k + i))
      × (size_in (all_sizes ucs2 reference total s k n) i ≡ length (part_octets ucs2 reference total s (k + i)))
  unfolding all_sizes
  sizes-at k zero i h = absurd (omega arith)
  sizes-at k (suc n) zero h = (ap count_at (sym (add-zero k)), ap (λ (j : ℕ). length (octets_at j)) (sym (add-zero k)))
  sizes-at k (suc n) (suc i) h =
      let rest = sizes-at (suc k) n i (omega arith) in
      let which : suc k + i ≡ k + suc i = suc-add k i ∙ sym (add-suc k i) in (
        count_next (count_at k) (length (octets_at k)) (sizes_from (suc k) n) i ∙ rest.0 ∙ ap count_at which,
        size-next (count_at k) (length (octets_at k)) (sizes_from (suc k) n) i ∙ rest.1 ∙ ap (λ (j : ℕ). length (octets_at j)) which,
      )

  pub piece-at : (k n i : ℕ) → i < n
      → piece_in (all_sizes ucs2 reference total s k n) (all_octets ucs2 reference total s k n) i ≡ part_octets ucs2 reference total s (k + i)
  unfolding all_sizes all_octets piece_in start_in
  piece-at k zero i h = absurd (omega arith)
  piece-at k (suc n) zero h = take-append_seam (octets_at k) (octets_from (suc k) n) ∙ ap octets_at (sym (add-zero k))
  piece-at k (suc n) (suc i) h =
      let z : List ℕ = sizes_from (suc k) n in
      let m : List ℕ = octets_from (suc k) n in
      let which : suc k + i ≡ k + suc i = suc-add k i ∙ sym (add-suc k i) in
      ap₂ (λ (a b : ℕ). take a (drop b (octets_at k ++ m))) (size-next (count_at k) (length (octets_at k)) z i) (start-next (count_at k) (length (octets_at k)) z i)
      ∙ ap (take (size_in z i)) (drop-append-add (octets_at k) m (start_in z i))
      ∙ piece-at (suc k) n i (omega arith)
      ∙ ap octets_at which

  pub octets-length : (size k n : ℕ) → ((i : ℕ) → i < n → length (part_octets ucs2 reference total s (k + i)) ≡ size)
      → length (all_octets ucs2 reference total s k (suc n)) ≡ size * n + length (part_octets ucs2 reference total s (k + n))
  unfolding all_octets
  octets-length size k zero full = length-append (octets_at k) [] ∙ omega (arith, ap (λ (j : ℕ). length (octets_at j)) (add-zero k))
  octets-length size k (suc n) full =
      let which : (i : ℕ) → suc k + i ≡ k + suc i = λ i. suc-add k i ∙ sym (add-suc k i) in
      let rest = octets-length size (suc k) n (λ i h. ap (λ (j : ℕ). length (octets_at j)) (which i) ∙ full (suc i) (omega arith)) in
      let last : length (octets_at (suc k + n)) ≡ length (octets_at (k + suc n)) = ap (λ (j : ℕ). length (octets_at j)) (which n) in
      let first : length (octets_at k) ≡ size = ap (λ (j : ℕ). length (octets_at j)) (sym (add-zero k)) ∙ full 0 (omega arith) in
      length-append (octets_at k) (octets_from (suc k) (suc n)) ∙ omega (arith, rest, last, first, mul-suc size n)
