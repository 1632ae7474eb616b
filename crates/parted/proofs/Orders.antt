-- The parts of a message in any order: each has its number, so that part k is found at the one place where it stands, and what is joined is the content
-- whatever the order.
-- Assumes nothing.
--   order-right-counts, order-right-heads, order-even, order-right   no rule of joining refuses them: 4, 12, 4, 10
--   order-numbers        what the header of part i in any order says
--   order-read-once      of the parts in any order each is read once and none is left out
--   order-content        what they hold, joined, is the content
--   one-total            parts of one message have one total
--   right-read-once, read-once-right   the parts are right exactly where there are some, each is read once and none is left out
--   by-other-name        parts in an order are so by any other name of the same counts and octets
--   ends-reordered       parts that are laid end to end in an order are in that order
--   part-asked, in_order   and so are the parts of a message as write_parts lays them, each as long as its count asks
use mathlib.Core.Path.{◌≡◌, refl, sym, ap, ap₂, ◌∙◌, subst}
use mathlib.Core.Bool.{Bool, true, false, cond, true≢false}
use mathlib.Core.List.{List, ◌∷◌, ◌++◌, map}
use Prim.Native.Nat.{ℕ, zero, suc, ◌+◌, ◌-◌, ◌*◌, ◌≤◌, ◌<◌}
use native.Mathlib.Nat.{add-zero, zero-add, add-suc, suc-add}
use native.Mathlib.Omega.{arith}
use borrow.Author.Tests.{le-ltb, eq-eqb, ne_eqb, eqb-true, eqb-false}
use lib.Dec.{ltb, eqb}
use lib.ListN.{length, get_or, take, drop, length-append, length-map}
use lib.Seq.{take_at, drop-append-add}
use Rattle.lists.specs.Lists.{first_place, numbers_from}
use Rattle.lists.proofs.Below.{Below}
use Rattle.lists.proofs.Places.{place_none, numbers-length}
use Rattle.lists.proofs.Tests.{and_right, or_left, or_right}
use Rattle.filling.specs.Filling.{part_at, parts_from}
use Rattle.filling.specs.Numbered.{wrong_among}
use Rattle.filling.proofs.Parts.{parts_all}
use Rattle.filling.proofs.Runs.{some-none}
use Rattle.filling.proofs.Placing.{right-one-to-one, one-to-one-right, numbered-one-to-one}
use Rattle.headed.specs.Header.{header_size, header_numbers}
use Rattle.parted.specs.Parts.{room_behind, is_marked, mark_size, part_content, part_octets, part_count}
use Rattle.parted.specs.Read.{head_size, wrong_head, odd_behind, content_behind, marked_numbers}
use Rattle.parted.specs.Written.{all_octets, all_sizes}
use Rattle.parted.specs.Joined.{octets_asked, all_asked, start_at, most_count, wrong_counts, wrong_heads, odd_parts, numbers_at, number_in, total_in, of_one_message, number_at, total_at, alike, wrong_parts, place_of, content_at, joined_from, joined_content, part_in}
use Rattle.parted.specs.Messages.{counts_of, Reordered, pieces_from, ReadOnce}
use Rattle.parted.proofs.Parts.{part-fits, part_right, part-even, part-numbers, part-content}
use Rattle.parted.proofs.All.{fits-most}
use Rattle.std.specs.Prelude.{Option, Some, None}
use Rattle.headed.specs.declared.Numbers.{Numbers}

-- ---- parts that are right

one-message-total : (a b : Option Numbers) → of_one_message a b ≡ true → total_in a ≡ total_in b
one-message-total (Some m) (Some n) e = eqb-true m.total n.total (and_right (eqb m.reference n.reference) (eqb m.total n.total) e)
one-message-total (Some m) None e = absurd (true≢false (sym e))
one-message-total None b e = absurd (true≢false (sym e))

module _ (ucs2 : Bool) (cs o : List ℕ) where
  pub one-total : (i : ℕ) → alike ucs2 cs o i ≡ true → total_at ucs2 cs o 0 ≡ total_at ucs2 cs o i
  one-total i e = one-message-total (numbers_at ucs2 cs o 0) (numbers_at ucs2 cs o i) e

  abbrev wrong : Bool
  wrong = wrong_among (number_at ucs2 cs o) (total_at ucs2 cs o) (alike ucs2 cs o) (length cs)

  pub right-read-once : wrong_parts ucs2 cs o ≡ false → (0 < length cs) × ReadOnce ucs2 cs o
  unfolding wrong_parts
  right-read-once e =
      let some : length cs ≡ 0 → ⊥ = eqb-false (length cs) 0 (or_left (eqb (length cs) 0) wrong e) in (
        omega arith,
        right-one-to-one (number_at ucs2 cs o) (total_at ucs2 cs o) (alike ucs2 cs o) (length cs) one-total (or_right (eqb (length cs) 0) wrong e),
      )

  pub read-once-right : 0 < length cs → ReadOnce ucs2 cs o → wrong_parts ucs2 cs o ≡ false
  unfolding wrong_parts
  read-once-right some w =
      simp (ne_eqb (length cs) 0 (omega arith), one-to-one-right (number_at ucs2 cs o) (total_at ucs2 cs o) (alike ucs2 cs o) (length cs) one-total w)

-- ---- the parts of a message

module _ (ucs2 : Bool) (reference total : ℕ) (s : List ℕ) where
  abbrev count_for : ℕ → ℕ
  count_for i = part_count ucs2 reference total s (1 + i)

  abbrev octets_for : ℕ → List ℕ
  octets_for i = part_octets ucs2 reference total s (1 + i)

  -- there are several
  module _ (several : is_marked total ≡ true) (some : 1 ≤ total) (cs o : List ℕ) (x : Reordered ucs2 total (λ i. part_count ucs2 reference total s (1 + i)) (λ i. part_octets ucs2 reference total s (1 + i)) cs o) where
    within : (i : ℕ) → i < length cs → i < total
    within i h = omega (arith, x.long)

    fits-here : (i : ℕ) → i < total → get_or cs i 0 ≤ most_count ucs2
    fits-here i h = subst (λ (c : ℕ). c ≤ most_count ucs2) (sym (x.counts i h)) (fits-most ucs2 _ _ (part-fits ucs2 reference total s (1 + x.from i))).2

    pub order-right-counts : wrong_counts ucs2 cs o ≡ false
    unfolding wrong_counts
    order-right-counts =
        let none : first_place (ltb (most_count ucs2)) cs ≡ length cs = place_none (ltb (most_count ucs2)) cs (λ i h. le-ltb (most_count ucs2) (get_or cs i 0) (fits-here i (within i h))) in
        simp (le-ltb (first_place (ltb (most_count ucs2)) cs) (length cs) (omega arith), eq-eqb (length o) _ x.whole)

    pub order-right-heads : wrong_heads ucs2 cs o ≡ false
    unfolding wrong_heads
    order-right-heads =
        some-none (λ i. wrong_head ucs2 (get_or cs i 0) (part_in ucs2 cs o i)) 0 (length cs)
        (λ i low h.
        let here : i < total = within i (omega arith) in
        ap₂ (wrong_head ucs2) (x.counts i here) (x.same i here) ∙ part_right ucs2 reference total s (1 + x.from i) several)

    -- with the mark
    head-even : (k : ℕ) → odd_behind ucs2 (header_size (part_octets ucs2 reference total s k)) (part_octets ucs2 reference total s k) ≡ false
    head-even k =
        subst (λ (m : Bool). odd_behind ucs2 (head_size m (part_octets ucs2 reference total s k)) (part_octets ucs2 reference total s k) ≡ false) several (part-even ucs2 reference total s k)

    head-numbers : (k : ℕ) → header_numbers (part_octets ucs2 reference total s k) ≡ Some (record { reference = reference; total = total; number = k })
    head-numbers k =
        subst (λ (m : Bool). marked_numbers m (part_octets ucs2 reference total s k) ≡ cond m (Some (record { reference = reference; total = total; number = k })) None) several (part-numbers ucs2 reference total s k)

    head-content : (k : ℕ) → (ucs2 ≡ false → Below 128 s)
        → content_behind ucs2 (header_size (part_octets ucs2 reference total s k)) (part_count ucs2 reference total s k) (part_octets ucs2 reference total s k) ≡ part_content ucs2 total s k
    head-content k b =
        subst (λ (m : Bool). content_behind ucs2 (head_size m (part_octets ucs2 reference total s k)) (part_count ucs2 reference total s k) (part_octets ucs2 reference total s k) ≡ part_content ucs2 total s k) several
        (part-content ucs2 reference total s k b)

    pub order-even : odd_parts ucs2 cs o ≡ false
    unfolding odd_parts
    order-even =
        some-none (λ i. odd_behind ucs2 (header_size (part_in ucs2 cs o i)) (part_in ucs2 cs o i)) 0 (length cs)
        (λ i low h. ap (λ (p : List ℕ). odd_behind ucs2 (header_size p) p) (x.same i (within i (omega arith))) ∙ head-even (1 + x.from i))

    pub order-numbers : (i : ℕ) → i < total → numbers_at ucs2 cs o i ≡ Some (record { reference = reference; total = total; number = 1 + x.from i })
    unfolding numbers_at
    order-numbers i h = ap header_numbers (x.same i h) ∙ head-numbers (1 + x.from i)

    order-number : (i : ℕ) → i < total → number_at ucs2 cs o i ≡ 1 + x.from i
    order-number i h = ap number_in (order-numbers i h)

    order-total : (i : ℕ) → i < total → total_at ucs2 cs o i ≡ total
    order-total i h = ap total_in (order-numbers i h)

    -- parts with one number are one part
    order-once : (i j : ℕ) → i < total → j < total → number_at ucs2 cs o i ≡ number_at ucs2 cs o j → i ≡ j
    order-once i j h k e =
        let same : x.from i ≡ x.from j = omega (arith, order-number i h, order-number j k) in
        sym (x.to-from i h) ∙ ap x.to same ∙ x.to-from j k

    -- the part with the number k
    whose : (k : ℕ) → 1 ≤ k → k ≤ length cs → (i : ℕ) × ((i < length cs) × (number_at ucs2 cs o i ≡ k))
    whose k low most =
        let here : k - 1 < total = omega (arith, x.long) in
        let place : x.to (k - 1) < total = x.to-within (k - 1) here in
        (x.to (k - 1), (omega (arith, x.long), omega (arith, order-number (x.to (k - 1)) place, x.from-to (k - 1) here)))

    one-message : (k l : ℕ) → of_one_message (Some (record { reference = reference; total = total; number = k })) (Some (record { reference = reference; total = total; number = l })) ≡ true
    one-message k l = simp (eq-eqb reference reference refl, eq-eqb total total refl)

    pub order-read-once : ReadOnce ucs2 cs o
    order-read-once =
        numbered-one-to-one (number_at ucs2 cs o) (total_at ucs2 cs o) (alike ucs2 cs o) (length cs) (x.long ∙ sym (order-total 0 some))
        (λ i h. let number : number_at ucs2 cs o i ≡ 1 + x.from i = order-number i (within i h) in (omega arith, omega (arith, x.from-within i (within i h), x.long)))
        (λ i j h k e. order-once i j (within i h) (within j k) e)
        whose
        (λ i h. ap₂ of_one_message (order-numbers 0 some) (order-numbers i (within i h)) ∙ one-message (1 + x.from 0) (1 + x.from i))

    pub order-right : wrong_parts ucs2 cs o ≡ false
    order-right = read-once-right ucs2 cs o (omega (arith, x.long)) order-read-once

    -- part k stands in its place
    module _ (septets : ucs2 ≡ false → Below 128 s) where
      order-part : (k : ℕ) → 1 ≤ k → k ≤ total → content_at ucs2 cs o (place_of ucs2 cs o k) ≡ part_at (room_behind ucs2 (mark_size total)) s k
      unfolding part_content
      order-part k low most =
          let found = order-read-once.there k low (omega (arith, order-total 0 some)) in
          let here : place_of ucs2 cs o k < total = within (place_of ucs2 cs o k) found.0 in
          let which : 1 + x.from (place_of ucs2 cs o k) ≡ k = sym (order-number (place_of ucs2 cs o k) here) ∙ found.1 in
          ap₂ (λ (c : ℕ) (p : List ℕ). content_behind ucs2 (header_size p) c p) (x.counts (place_of ucs2 cs o k) here) (x.same (place_of ucs2 cs o k) here)
          ∙ head-content (1 + x.from (place_of ucs2 cs o k)) septets
          ∙ ap (part_content ucs2 total s) which

      order-parts : (k n : ℕ) → 1 ≤ k → k + n ≤ suc total → joined_from ucs2 cs o k n ≡ parts_from (room_behind ucs2 (mark_size total)) s k n
      unfolding joined_from parts_from
      order-parts k zero low most = refl
      order-parts k (suc n) low most = ap₂ (λ (a b : List ℕ). a ++ b) (order-part k low (omega arith)) (order-parts (suc k) n (omega arith) (omega arith))

      pub order-content : length s ≤ room_behind ucs2 (mark_size total) * total → joined_content ucs2 cs o ≡ s
      unfolding joined_content
      order-content holds =
          ap (joined_from ucs2 cs o 1) (order-total 0 some)
          ∙ order-parts 1 total (omega arith) (omega arith)
          ∙ parts_all (room_behind ucs2 (mark_size total)) s total holds

pub by-other-name : (ucs2 : Bool) (n : ℕ) (count count' : ℕ → ℕ) (part part' : ℕ → List ℕ) (cs o : List ℕ)
    → ((i : ℕ) → i < n → count i ≡ count' i) → ((i : ℕ) → i < n → part i ≡ part' i) → Reordered ucs2 n count part cs o → Reordered ucs2 n count' part' cs o
by-other-name ucs2 n count count' part part' cs o c p x =
    record {
      long = x.long;
      whole = x.whole;
      from = x.from;
      to = x.to;
      from-within = x.from-within;
      to-within = x.to-within;
      to-from = x.to-from;
      from-to = x.from-to;
      counts = λ i h. x.counts i h ∙ c (x.from i) (x.from-within i h);
      same = λ i h. x.same i h ∙ p (x.from i) (x.from-within i h);
    }

-- ---- end to end

module _ (ucs2 : Bool) (count : ℕ → ℕ) (part : ℕ → List ℕ) (sized : (i : ℕ) → length (part i) ≡ octets_asked ucs2 (count i)) where
  ends_asked : (i n : ℕ) → length (pieces_from part i n) ≡ all_asked ucs2 (map count (numbers_from i n))
  unfolding pieces_from numbers_from all_asked
  ends_asked i zero = refl
  ends_asked i (suc n) = length-append (part i) (pieces_from part (suc i) n) ∙ ap₂ (λ (a b : ℕ). a + b) (sized i) (ends_asked (suc i) n)

  ends-count : (i n j : ℕ) → j < n → get_or (map count (numbers_from i n)) j 0 ≡ count (i + j)
  unfolding numbers_from
  ends-count i zero j h = absurd (omega arith)
  ends-count i (suc n) zero h = ap count (sym (add-zero i))
  ends-count i (suc n) (suc j) h = ends-count (suc i) n j (omega arith) ∙ ap count (suc-add i j ∙ sym (add-suc i j))

  ends-part : (i n j : ℕ) → j < n → part_in ucs2 (map count (numbers_from i n)) (pieces_from part i n) j ≡ part (i + j)
  unfolding pieces_from numbers_from all_asked part_in
  ends-part i zero j h = absurd (omega arith)
  ends-part i (suc n) zero h = take_at (part i) (pieces_from part (suc i) n) (octets_asked ucs2 (count i)) (sized i) ∙ ap part (sym (add-zero i))
  ends-part i (suc n) (suc j) h =
      let cs : List ℕ = map count (numbers_from (suc i) n) in
      let rest : List ℕ = pieces_from part (suc i) n in
      ap (λ (m : ℕ). take (octets_asked ucs2 (get_or cs j 0)) (drop (m + start_at ucs2 cs j) (part i ++ rest))) (sym (sized i))
      ∙ ap (take (octets_asked ucs2 (get_or cs j 0))) (drop-append-add (part i) rest (start_at ucs2 cs j))
      ∙ ends-part (suc i) n j (omega arith)
      ∙ ap part (suc-add i j ∙ sym (add-suc i j))

-- whatever the order
pub ends-reordered : (ucs2 : Bool) (n : ℕ) (count : ℕ → ℕ) (part : ℕ → List ℕ) (from to : ℕ → ℕ)
    → ((k : ℕ) → length (part k) ≡ octets_asked ucs2 (count k))
    → ((i : ℕ) → i < n → from i < n) → ((k : ℕ) → k < n → to k < n) → ((i : ℕ) → i < n → to (from i) ≡ i) → ((k : ℕ) → k < n → from (to k) ≡ k)
    → Reordered ucs2 n count part (map (λ i. count (from i)) (numbers_from 0 n)) (pieces_from (λ i. part (from i)) 0 n)
ends-reordered ucs2 n count part from to sized a b c d =
    record {
      long = length-map (numbers_from 0 n) (λ i. count (from i)) ∙ numbers-length 0 n;
      whole = ends_asked ucs2 (λ i. count (from i)) (λ i. part (from i)) (λ i. sized (from i)) 0 n;
      from = from;
      to = to;
      from-within = a;
      to-within = b;
      to-from = c;
      from-to = d;
      counts = λ i h. ends-count ucs2 (λ i. count (from i)) (λ i. part (from i)) (λ i. sized (from i)) 0 n i h ∙ ap (λ (j : ℕ). count (from j)) (zero-add i);
      same = λ i h. ends-part ucs2 (λ i. count (from i)) (λ i. part (from i)) (λ i. sized (from i)) 0 n i h ∙ ap (λ (j : ℕ). part (from j)) (zero-add i);
    }

module _ (ucs2 : Bool) (reference total : ℕ) (s : List ℕ) where
  ends-octets : (i n : ℕ) → all_octets ucs2 reference total s (1 + i) n ≡ pieces_from (λ j. part_octets ucs2 reference total s (1 + j)) i n
  unfolding all_octets pieces_from
  ends-octets i zero = refl
  ends-octets i (suc n) =
      ap (λ (l : List ℕ). part_octets ucs2 reference total s (1 + i) ++ l)
      (ap (λ (k : ℕ). all_octets ucs2 reference total s k n) (sym (add-suc 1 i)) ∙ ends-octets (suc i) n)

  ends-counts : (i n : ℕ) → counts_of (all_sizes ucs2 reference total s (1 + i) n) ≡ map (λ j. part_count ucs2 reference total s (1 + j)) (numbers_from i n)
  unfolding all_sizes counts_of numbers_from
  ends-counts i zero = refl
  ends-counts i (suc n) =
      ap (λ (l : List ℕ). part_count ucs2 reference total s (1 + i) ∷ l)
      (ap (λ (k : ℕ). counts_of (all_sizes ucs2 reference total s k n)) (sym (add-suc 1 i)) ∙ ends-counts (suc i) n)

  pub part-asked : (k : ℕ) → length (part_octets ucs2 reference total s k) ≡ octets_asked ucs2 (part_count ucs2 reference total s k)
  part-asked k = (fits-most ucs2 _ _ (part-fits ucs2 reference total s k)).0

  pub in_order : Reordered ucs2 total (λ i. part_count ucs2 reference total s (1 + i)) (λ i. part_octets ucs2 reference total s (1 + i))
      (counts_of (all_sizes ucs2 reference total s 1 total)) (all_octets ucs2 reference total s 1 total)
  in_order =
      let count_of : ℕ → ℕ = λ i. part_count ucs2 reference total s (1 + i) in
      let part_of : ℕ → List ℕ = λ i. part_octets ucs2 reference total s (1 + i) in
      subst (λ (cs : List ℕ). Reordered ucs2 total count_of part_of cs (all_octets ucs2 reference total s 1 total)) (sym (ends-counts 0 total))
      (subst (λ (o : List ℕ). Reordered ucs2 total count_of part_of (map count_of (numbers_from 0 total)) o) (sym (ends-octets 0 total))
      (ends-reordered ucs2 total count_of part_of (λ i. i) (λ k. k) (λ i. part-asked (1 + i)) (λ i h. h) (λ k h. h) (λ i h. refl) (λ k h. refl)))
