-- Blocks gone through one by one: what the table of their places after each tells of the order of the pages.
-- Assumes nothing.
--   chunk-block, chunk-none, chunk-first   octets cut in chunks of 88 are their blocks, and where there is no first one there is no block
--   all-there                                the numbers from 1 to the total have their places, tested one after the other
--   BlocksPlaced o i places   the table of places after the first i of the blocks o
--   order-none, order-foreign, order-repeated, order-missing, order-right   the order, by what is met on the way and by the table at the end
use Prim.Native.Nat.{ℕ, zero, suc, ◌+◌, ◌*◌, ◌<◌}
use native.Mathlib.Nat.{add-zero, mul-suc, mul-zero}
use native.Mathlib.Omega.{arith}
use mathlib.Core.Path.{◌≡◌, refl, ap, sym, ◌∙◌}
use mathlib.Core.Bool.{Bool, true, false, not, ◌&&◌, or-true}
use mathlib.Core.List.{List, [], ◌∷◌}
use lib.ListN.{length, take, drop, get_or, length-drop}
use lib.Seq.{drop-drop, length-take-le, get_or-take, get_or-drop}
use Rattle.std.specs.Simd.{first_chunks}
use borrow.Author.Tests.{lt-ltb, le-ltb, ltb-true, ltb-false, eq-eqb, ne_eqb}
use lib.Dec.{ltb, eqb}
use Rattle.filling.proofs.Table.{Placing, belonging, lacking, wrong-foreign, placing-repeated, placing-missing, placing-right, placing-table}
use Rattle.pages.specs.Joined.{block_count, block_at, header_at, number_at, total_at, alike_at, wrong_pages}
use Rattle.pages.specs.Ordered.{block_or_zeros, no_order, order_of}
use Rattle.pages.proofs.Placing.{number_small}
use Rattle.std.specs.Prelude.{Some, None, slice_get}
use Rattle.std.specs.List.{list_all}
use Rattle.lists.specs.Lists.{first_place, numbers_from}
use Rattle.filling.specs.Numbered.{some_of}
use Rattle.std.proofs.lemmas.Option.{none-some, same_Some}

pub number-at-small : (o : List ℕ) (i : ℕ) → number_at o i < 16
unfolding header_at
number-at-small o i = number_small (block_at o i)

pub block_here : (o : List ℕ) (i : ℕ) → i < block_count o → block_or_zeros o i ≡ block_at o i
unfolding block_or_zeros
block_here o i h = simp (lt-ltb _ _ h)

-- octets cut in chunks of 88 are their blocks
chunk_at : (n k i : ℕ) (o : List ℕ) (none : List ℕ) → i < k → get_or (first_chunks n k o) i none ≡ take n (drop (n * i) o)
chunk_at n zero i o none h = absurd (omega arith)
chunk_at n (suc k) zero o none h = ap (λ (j : ℕ). take n (drop j o)) (sym (mul-zero n))
chunk_at n (suc k) (suc i) o none h =
    chunk_at n k i (drop n o) none (omega arith)
    ∙ ap (take n) (drop-drop (n * i) n o)
    ∙ ap (λ (j : ℕ). take n (drop j o)) (omega (arith, mul-suc n i))

no-chunk : (n k : ℕ) (o : List ℕ) → None ≡ slice_get (first_chunks n k o) 0 → k ≡ 0
no-chunk n zero o e = refl
no-chunk n (suc k) o e = absurd (none-some (take n o) e)

a-chunk : (n k : ℕ) (o block : List ℕ) → Some block ≡ slice_get (first_chunks n k o) 0 → (0 < k) × (block ≡ take n o)
a-chunk n zero o block e = absurd (none-some block (sym e))
a-chunk n (suc k) o block e = (omega arith, same_Some block (take n o) e)

module _ (o : List ℕ) (pages : List (List ℕ)) (e : pages ≡ first_chunks 88 (block_count o) o) where
  pub chunk-block : (i : ℕ) → i < block_count o → get_or pages i [] ≡ block_at o i
  unfolding block_at
  chunk-block i h = ap (λ (l : List (List ℕ)). get_or l i []) e ∙ chunk_at 88 (block_count o) i o [] h

  pub chunk-none : None ≡ slice_get pages 0 → block_count o ≡ 0
  chunk-none d = no-chunk 88 (block_count o) o (d ∙ ap (λ (l : List (List ℕ)). slice_get l 0) e)

  pub chunk-first : (block : List ℕ) → Some block ≡ slice_get pages 0 → (0 < block_count o) × (block ≡ block_at o 0)
  unfolding block_at
  chunk-first block d = a-chunk 88 (block_count o) o block (d ∙ ap (λ (l : List (List ℕ)). slice_get l 0) e)

ltb-suc : (a b : ℕ) → ltb a b ≡ ltb (suc a) (suc b)
ltb-suc a b = go (ltb a b) refl
  where
    go : (t : Bool) → ltb a b ≡ t → ltb a b ≡ ltb (suc a) (suc b)
    go true e = e ∙ sym (lt-ltb (suc a) (suc b) (omega (arith, ltb-true a b e)))
    go false e = e ∙ sym (le-ltb (suc a) (suc b) (omega (arith, ltb-false a b e)))

first-is : (f : ℕ → Bool) (i : ℕ) (s : List ℕ) (b : Bool) → f i ≡ b → first_place f (i ∷ s) ≡ elim b as (λ (t : Bool). ℕ) [ true ↦ 0 | false ↦ suc (first_place f s) ]
unfolding first_place
first-is f i s b e = ap (λ (t : Bool). elim t as (λ (t : Bool). ℕ) [ true ↦ 0 | false ↦ suc (first_place f s) ]) e

-- all of a run of places are there, or one of its numbers has none
places-there : (places s : List ℕ) (i : ℕ) → ((k : ℕ) → k < length s → get_or places (i + k) 0 ≡ get_or s k 0)
    → list_all (λ p. not (eqb p 0)) s ≡ not (some_of (λ k. eqb (get_or places k 0) 0) (numbers_from i (length s)))
unfolding first_place numbers_from
places-there places [] i h = refl
places-there places (x ∷ xs) i h =
    let here : get_or places i 0 ≡ x = ap (λ (j : ℕ). get_or places j 0) (sym (add-zero i)) ∙ h 0 (omega arith) in
    let next = places-there places xs (suc i) (λ k l. ap (λ (j : ℕ). get_or places j 0) (omega arith) ∙ h (suc k) (omega arith)) in
    go (eqb x 0) refl here next
  where
    go : (b : Bool) → eqb x 0 ≡ b → get_or places i 0 ≡ x
        → list_all (λ p. not (eqb p 0)) xs ≡ not (some_of (λ k. eqb (get_or places k 0) 0) (numbers_from (suc i) (length xs)))
        → not (eqb x 0) && list_all (λ p. not (eqb p 0)) xs ≡ not (some_of (λ k. eqb (get_or places k 0) 0) (i ∷ numbers_from (suc i) (length xs)))
    go true e here next =
        let f : ℕ → Bool = λ k. eqb (get_or places k 0) 0 in
        let rest : List ℕ = numbers_from (suc i) (length xs) in
        ap (λ b. not b && list_all (λ p. not (eqb p 0)) xs) e
        ∙ sym (ap (λ n. not (ltb n (suc (length rest)))) (first-is f i rest true (ap (λ (p : ℕ). eqb p 0) here ∙ e)) ∙ ap not (lt-ltb 0 (suc (length rest)) (omega arith)))
    go false e here next =
        let f : ℕ → Bool = λ k. eqb (get_or places k 0) 0 in
        let rest : List ℕ = numbers_from (suc i) (length xs) in
        ap (λ b. not b && list_all (λ p. not (eqb p 0)) xs) e
        ∙ next
        ∙ ap not (ltb-suc (first_place f rest) (length rest))
        ∙ ap (λ n. not (ltb n (suc (length rest)))) (sym (first-is f i rest false (ap (λ (p : ℕ). eqb p 0) here ∙ e)))

pub all-there : (places : List ℕ) (total : ℕ) → total < length places → list_all (λ p. not (eqb p 0)) (take total (drop 1 places)) ≡ not (lacking places total)
all-there places total h =
    let s : List ℕ = take total (drop 1 places) in
    let long : length s ≡ total = length-take-le total (drop 1 places) (omega (arith, length-drop 1 places)) in
    places-there places s 1 (λ k l. sym (get_or-take total (drop 1 places) k 0 (omega arith) ∙ get_or-drop 1 places k 0))
    ∙ ap (λ (n : ℕ). not (some_of (λ k. eqb (get_or places k 0) 0) (numbers_from 1 n))) long

abbrev pub BlocksPlaced : List ℕ → ℕ → List ℕ → Type 0
BlocksPlaced o i places = Placing (number_at o) (total_at o) (alike_at o) (block_count o) 16 i places

pub order-none : (o : List ℕ) → block_count o ≡ 0 → order_of o ≡ None
unfolding order_of no_order
order-none o e = simp (eq-eqb _ _ e)

order-wrong : (o : List ℕ) → wrong_pages o ≡ true → order_of o ≡ None
unfolding order_of no_order
order-wrong o e = simp (e, or-true)

pub order-foreign : (o : List ℕ) (i : ℕ) → i < block_count o → belonging (number_at o) (total_at o) (alike_at o) i ≡ false → order_of o ≡ None
unfolding wrong_pages
order-foreign o i h e = order-wrong o (wrong-foreign (number_at o) (total_at o) (alike_at o) (block_count o) i h e)

module _ (o : List ℕ) {i : ℕ} {places : List ℕ} (p : BlocksPlaced o i places) where
  pub order-repeated : i < block_count o → (get_or places (number_at o i) 0 ≡ 0 → ⊥) → order_of o ≡ None
  unfolding wrong_pages
  order-repeated h taken = order-wrong o (placing-repeated p h taken)

  pub order-missing : i ≡ block_count o → lacking places (total_at o 0) ≡ true → order_of o ≡ None
  unfolding wrong_pages
  order-missing e none = order-wrong o (placing-missing p e none)

  pub order-right : i ≡ block_count o → (block_count o ≡ 0 → ⊥) → lacking places (total_at o 0) ≡ false → order_of o ≡ Some places
  unfolding order_of no_order wrong_pages
  order-right e some all = simp (ne_eqb _ _ some, placing-right p e all, ← placing-table p e)
