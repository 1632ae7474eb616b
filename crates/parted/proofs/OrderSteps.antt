-- Parts gone through one by one, by their counts: where each begins, what its header is judged as, and which number it has.
-- Assumes nothing.
--   start-next, start-end   where the next part begins, and where the last ends
--   head-refused, head-units, head-long, head-septets   what a part is judged as, by its header and its alphabet
--   head-wrong, head-even   what that judgement tells of it
--   counts-high, counts_past, counts_end   what a pass over the counts judges them as
--   part-within, part-is, part-first, part-whole, start-most   of counts that fit: a part is within the octets, it is the slice from its start on, it is as long as its
--                        count asks, and no start is past 140 octets for each part before it
--   HeadsPassed i at even   what a pass over the headers knows before part i
--   heads-none, heads-more, heads-wrong, heads-odd, heads-right   the same before the first part, after one more, and what it decides
--   belongs-none, belongs-given   which part belongs to a message, by its plain numbers
--   PartsPlaced, Starting   the tables of places and of starts after the first i parts
--   starting-none, starting-more, starting-all   the table of starts before the first part, after one more, and after the last
--   order-..             the order, by what is met on the way and by the tables at the end; the verdict, by the order
--   left-refused, left-right   what is left in the tables
use mathlib.Core.Path.{◌≡◌, refl, sym, ap, ap₂, ◌∙◌, subst}
use mathlib.Core.Bool.{Bool, true, false, not, cond, ◌&&◌, or-true, and-false, true≢false}
use mathlib.Core.List.{List, [], ◌∷◌, ◌++◌, map}
use Prim.Native.Nat.{ℕ, zero, suc, ◌+◌, ◌-◌, ◌*◌, ◌%◌, ◌≤◌, ◌<◌}
use mathlib.Core.Logic.{◌⊎◌, inl, inr, ⊎_elim}
use native.Mathlib.Nat.{add-zero, zero-add}
use native.Mathlib.Numerals.{add-one}
use native.Mathlib.Omega.{arith}
use borrow.Author.Count.{below_more}
use borrow.Author.Tests.{lt-ltb, le-ltb, ltb-true, ltb-false, eq-eqb, ne_eqb, eqb-true, eqb-false, not-true, not-false}
use lib.Dec.{ltb, eqb}
use lib.ListN.{length, get_or, take, drop, set, replicate, length-drop, length-map, length-set, length-replicate, take-append-drop}
use lib.Seq.{take-suc, take_all, length-take-le, get_or-set_same, get_or-set_other, ext_get_or}
use Rattle.words.specs.declared.Refusal.{Refusal}
use Rattle.words.specs.declared.Refusal.TheVariants.{WrongLength, WrongHeader, WrongPages}
use Rattle.words.specs.Judging.{Verdict, refused, accepted, when, verdict, settle}
use Rattle.words.proofs.Judging.{settle-told, settle-given}
use Rattle.words.proofs.Rules.{verdict_of, ok-inside, err-inside, ok-or-err}
use Rattle.lists.specs.Lists.{first_place, numbers_from}
use Rattle.lists.proofs.Places.{place-before, place_none, numbers-length, numbers-at}
use Rattle.lists.proofs.Tests.{and_left, and_right, or_left, or_right}
use Rattle.stream.specs.Stream.{octets_for}
use Rattle.filling.specs.Numbered.{lacks, some_of, place_among, wrong_among}
use Rattle.filling.proofs.Runs.{some-none, none-some, some-here, one-to-one-le}
use Rattle.filling.proofs.Placing.{none-lacks, place-first, place-number, right-one-to-one, one-to-one-right}
use Rattle.filling.proofs.Table.{Placing, Fine, belonging, wrong-foreign, placing-repeated}
use Rattle.headed.specs.Header.{header_size, right_header, septets_over}
use Rattle.parted.specs.Read.{wrong_head, odd_behind}
use Rattle.parted.specs.Joined.{octets_asked, all_asked, most_count, start_at, part_in, wrong_counts, wrong_heads, odd_parts, numbers_at, number_in, total_in, reference_in, of_one_message, number_at, total_at, alike, wrong_parts}
use Rattle.parted.specs.Ordered.{order_rules, places_of, start_entry, starts_of, part_order_of, places_left, starts_left}
use Rattle.parted.specs.InnerJoined.{head_judged, heads_judged}
use Rattle.parted.proofs.Orders.{one-total}
use Rattle.std.specs.Prelude.{Result, Option, Ok, Err, Some, None}
use Rattle.headed.specs.declared.Numbers.{Numbers}

-- ---- a test of some elements of a list

module _ (f : ℕ → Bool) (s : List ℕ) where
  none-at : some_of f s ≡ false → (i : ℕ) → i < length s → f (get_or s i 0) ≡ false
  none-at e i h = place-before f s i (omega (arith, ltb-false (first_place f s) (length s) e))

  some_at : (i : ℕ) → i < length s → f (get_or s i 0) ≡ true → some_of f s ≡ true
  some_at i h e = go (some_of f s) refl
    where
      go : (b : Bool) → some_of f s ≡ b → b ≡ true
      go true x = refl
      go false x = absurd (true≢false (sym e ∙ none-at x i h))

  all_none : ((i : ℕ) → i < length s → f (get_or s i 0) ≡ false) → some_of f s ≡ false
  all_none h = le-ltb (first_place f s) (length s) (omega (arith, place_none f s h))

-- ---- where parts begin

asked-append : (ucs2 : Bool) (a b : List ℕ) → all_asked ucs2 (a ++ b) ≡ all_asked ucs2 a + all_asked ucs2 b
unfolding all_asked
asked-append ucs2 [] b = sym (zero-add (all_asked ucs2 b))
asked-append ucs2 (c ∷ a) b = omega (arith, asked-append ucs2 a b)

asked-most : (ucs2 : Bool) (c : ℕ) → c ≤ most_count ucs2 → octets_asked ucs2 c ≤ 140
unfolding octets_for
asked-most true c h = h
asked-most false c h = omega arith

module _ (ucs2 : Bool) (cs : List ℕ) where
  pub start-next : (i : ℕ) → i < length cs → start_at ucs2 cs (i + 1) ≡ start_at ucs2 cs i + octets_asked ucs2 (get_or cs i 0)
  unfolding all_asked
  start-next i h =
      ap (λ (n : ℕ). all_asked ucs2 (take n cs)) (add-one i)
      ∙ ap (all_asked ucs2) (take-suc cs i 0 h)
      ∙ asked-append ucs2 (take i cs) (get_or cs i 0 ∷ [])
      ∙ ap (λ (n : ℕ). start_at ucs2 cs i + n) (add-zero (octets_asked ucs2 (get_or cs i 0)))

  start-within : (i : ℕ) → start_at ucs2 cs i ≤ all_asked ucs2 cs
  start-within i = omega (arith, asked-append ucs2 (take i cs) (drop i cs), ap (all_asked ucs2) (take-append-drop i cs))

  pub start-end : (i : ℕ) → length cs ≤ i → start_at ucs2 cs i ≡ all_asked ucs2 cs
  start-end i h = ap (all_asked ucs2) (take_all i cs h)

-- ---- one header

module _ (ucs2 : Bool) (count : ℕ) (o : List ℕ) where
  pub head-refused : right_header o ≡ false → head_judged ucs2 count o ≡ Err WrongHeader
  unfolding head_judged wrong_head verdict
  head-refused wrong = simp wrong

  module _ (right : right_header o ≡ true) where
    pub head-units : ucs2 ≡ true → (size : ℕ) → size ≡ header_size o → head_judged ucs2 count o ≡ Ok (not (eqb ((length o - size) % 2) 1))
    unfolding head_judged wrong_head odd_behind verdict
    head-units units size e = simp (right, units, e)

    pub head-long : ucs2 ≡ false → (over : ℕ) → over ≡ septets_over (header_size o) → count < over → head_judged ucs2 count o ≡ Err WrongHeader
    unfolding head_judged wrong_head verdict
    head-long septets over e long = simp (right, septets, ← e, lt-ltb count over long)

    pub head-septets : ucs2 ≡ false → (over : ℕ) → over ≡ septets_over (header_size o) → over ≤ count → head_judged ucs2 count o ≡ Ok true
    unfolding head_judged wrong_head odd_behind verdict
    head-septets septets over e short = simp (right, septets, ← e, le-ltb count over short)

  -- what the judgement tells
  pub head-wrong : (q : Refusal) → Err q ≡ head_judged ucs2 count o → (wrong_head ucs2 count o ≡ true) × (q ≡ WrongHeader)
  unfolding head_judged verdict
  head-wrong q e = go (wrong_head ucs2 count o) refl e
    where
      go : (a : Bool) → wrong_head ucs2 count o ≡ a → ◌≡◌ {A = Result Bool Refusal} (Err q) (settle (verdict (when a WrongHeader ∷ [])) Err (Ok (not (odd_behind ucs2 (header_size o) o))))
          → (wrong_head ucs2 count o ≡ true) × (q ≡ WrongHeader)
      go true x d = (x, err-inside d)
      go false x d = absurd (ok-or-err (sym d))

  pub head-even : (even : Bool) → Ok even ≡ head_judged ucs2 count o → (wrong_head ucs2 count o ≡ false) × (even ≡ not (odd_behind ucs2 (header_size o) o))
  unfolding head_judged verdict
  head-even even e = go (wrong_head ucs2 count o) refl e
    where
      go : (a : Bool) → wrong_head ucs2 count o ≡ a → ◌≡◌ {A = Result Bool Refusal} (Ok even) (settle (verdict (when a WrongHeader ∷ [])) Err (Ok (not (odd_behind ucs2 (header_size o) o))))
          → (wrong_head ucs2 count o ≡ false) × (even ≡ not (odd_behind ucs2 (header_size o) o))
      go true x d = absurd (ok-or-err d)
      go false x d = (x, ok-inside d)

-- ---- the counts

module _ (ucs2 : Bool) (cs o : List ℕ) where
  pub counts-high : (i : ℕ) → i < length cs → most_count ucs2 < get_or cs i 0 → wrong_counts ucs2 cs o ≡ true
  unfolding wrong_counts
  counts-high i h more = simp (some_at (ltb (most_count ucs2)) cs i h (lt-ltb (most_count ucs2) (get_or cs i 0) more))

  pub counts_past : (i : ℕ) → i < length cs → length o < start_at ucs2 cs i + octets_asked ucs2 (get_or cs i 0) → wrong_counts ucs2 cs o ≡ true
  unfolding wrong_counts
  counts_past i h past =
      simp (ne_eqb (length o) (all_asked ucs2 cs) (λ e. omega (arith, start-next ucs2 cs i h, start-within ucs2 cs (i + 1))), or-true)

  pub counts_end : (i left : ℕ) → length cs ≤ i → ((j : ℕ) → j < i → get_or cs j 0 ≤ most_count ucs2) → left + start_at ucs2 cs i ≡ length o
      → eqb left 0 ≡ not (wrong_counts ucs2 cs o)
  unfolding wrong_counts
  counts_end i left all low rest =
      let none : some_of (ltb (most_count ucs2)) cs ≡ false = all_none (ltb (most_count ucs2)) cs (λ j h. le-ltb (most_count ucs2) (get_or cs j 0) (low j (omega arith))) in
      simp none (go (eqb left 0) refl)
    where
      go : (b : Bool) → eqb left 0 ≡ b → b ≡ not (not (eqb (length o) (all_asked ucs2 cs)))
      go true e = sym (ap (λ (x : Bool). not (not x)) (eq-eqb (length o) (all_asked ucs2 cs) (omega (arith, eqb-true left 0 e, start-end ucs2 cs i all))))
      go false e = sym (ap (λ (x : Bool). not (not x)) (ne_eqb (length o) (all_asked ucs2 cs) (λ d. eqb-false left 0 e (omega (arith, start-end ucs2 cs i all)))))

  module _ (fits : wrong_counts ucs2 cs o ≡ false) where
    pub count_most : (i : ℕ) → i < length cs → get_or cs i 0 ≤ most_count ucs2
    unfolding wrong_counts
    count_most i h = ltb-false (most_count ucs2) (get_or cs i 0) (none-at (ltb (most_count ucs2)) cs (or_left (some_of (ltb (most_count ucs2)) cs) _ fits) i h)

    counts_all : length o ≡ all_asked ucs2 cs
    unfolding wrong_counts
    counts_all = eqb-true (length o) (all_asked ucs2 cs) (not-false _ (or_right (some_of (ltb (most_count ucs2)) cs) _ fits))

    pub part-within : (i : ℕ) → i < length cs → start_at ucs2 cs i + octets_asked ucs2 (get_or cs i 0) ≤ length o
    part-within i h = omega (arith, counts_all, start-next ucs2 cs i h, start-within ucs2 cs (i + 1))

    pub part-whole : (i : ℕ) → i < length cs → length (part_in ucs2 cs o i) ≡ octets_asked ucs2 (get_or cs i 0)
    unfolding part_in
    part-whole i h =
        length-take-le (octets_asked ucs2 (get_or cs i 0)) (drop (start_at ucs2 cs i) o) (omega (arith, part-within i h, length-drop (start_at ucs2 cs i) o))

    pub start-most : (i : ℕ) → i ≤ length cs → start_at ucs2 cs i ≤ 140 * i
    unfolding all_asked
    start-most zero h = omega arith
    start-most (suc i) h =
        omega (arith, start-most i (omega arith), ap (start_at ucs2 cs) (add-one i), start-next ucs2 cs i h, asked-most ucs2 (get_or cs i 0) (count_most i h))

  -- the octets from the start of a part on, as many as its count asks
  pub part-is : (i at n : ℕ) → at ≡ start_at ucs2 cs i → n ≡ octets_asked ucs2 (get_or cs i 0) → take (at + n - at) (drop at o) ≡ part_in ucs2 cs o i
  unfolding part_in
  part-is i at n e d =
      let same : at + n - at ≡ octets_asked ucs2 (get_or cs i 0) = omega (arith, d) in
      ap₂ (λ (m k : ℕ). take m (drop k o)) same e

  -- the first part begins where the octets do
  pub part-first : (n : ℕ) → n ≡ octets_asked ucs2 (get_or cs 0 0) → take n o ≡ part_in ucs2 cs o 0
  unfolding part_in all_asked
  part-first n e = ap (λ (m : ℕ). take m o) e

  -- ---- all headers

  abbrev pub wrong_at : ℕ → Bool
  wrong_at i = wrong_head ucs2 (get_or cs i 0) (part_in ucs2 cs o i)

  abbrev pub odd_at : ℕ → Bool
  odd_at i = odd_behind ucs2 (header_size (part_in ucs2 cs o i)) (part_in ucs2 cs o i)

  -- before part i: where it begins, that the headers before it are right, and whether what stands behind them is even
  pub record HeadsPassed (i at : ℕ) (even : Bool) : Type 0 where
    pub within : i ≤ length cs
    pub start : at ≡ start_at ucs2 cs i
    pub right : (j : ℕ) → j < i → wrong_at j ≡ false
    pub evens : even ≡ true → (j : ℕ) → j < i → odd_at j ≡ false
    pub odd : even ≡ false → odd_parts ucs2 cs o ≡ true

  pub heads-none : HeadsPassed 0 0 true
  unfolding all_asked
  heads-none =
      record { within = omega arith; start = refl; right = λ j h. absurd (omega arith); evens = λ e j h. absurd (omega arith); odd = λ e. absurd (true≢false e) }

  pub heads-more : {i at : ℕ} {even : Bool} → HeadsPassed i at even → i < length cs → (n : ℕ) → n ≡ octets_asked ucs2 (get_or cs i 0) → wrong_at i ≡ false → (next : Bool) → next ≡ (even && not (odd_at i))
      → HeadsPassed (i + 1) (at + n) next
  unfolding odd_parts
  heads-more {i} {at} {even} p h n size right next e =
      record {
        within = omega arith;
        start = omega (arith, p.start, start-next ucs2 cs i h);
        right = below_more (λ j. wrong_at j ≡ false) i p.right right;
        evens = λ x.
            let both : (even && not (odd_at i)) ≡ true = sym e ∙ x in
            below_more (λ j. odd_at j ≡ false) i (p.evens (and_left even (not (odd_at i)) both)) (not-true (odd_at i) (and_right even (not (odd_at i)) both));
        odd = λ x. go (odd_at i) refl even refl x;
      }
    where
      go : (b : Bool) → odd_at i ≡ b → (t : Bool) → even ≡ t → next ≡ false → odd_parts ucs2 cs o ≡ true
      go true d t s x = some-here odd_at 0 (length cs) i (omega arith) (omega arith) d
      go false d false s x = p.odd s
      go false d true s x = absurd (true≢false (sym (ap₂ (λ (a b : Bool). a && not b) s d) ∙ sym e ∙ x))

  pub heads-wrong : (i : ℕ) → i < length cs → wrong_at i ≡ true → heads_judged ucs2 cs o ≡ Err WrongHeader
  unfolding heads_judged wrong_heads verdict
  heads-wrong i h e = simp (some-here wrong_at 0 (length cs) i (omega arith) (omega arith) e)

  module _ {i at : ℕ} {even : Bool} (p : HeadsPassed i at even) (all : length cs ≤ i) where
    heads-passed : wrong_heads ucs2 cs o ≡ false
    unfolding wrong_heads
    heads-passed = some-none wrong_at 0 (length cs) (λ j low h. p.right j (omega arith))

    pub heads-odd : even ≡ false → heads_judged ucs2 cs o ≡ Err WrongLength
    unfolding heads_judged verdict
    heads-odd e = simp (heads-passed, p.odd e)

    pub heads-right : even ≡ true → heads_judged ucs2 cs o ≡ (Ok tt)
    unfolding heads_judged odd_parts verdict
    heads-right e = simp (heads-passed, some-none odd_at 0 (length cs) (λ j low h. p.evens e j (omega arith)))

  -- where none is wrong each part has a header, which takes no more septets than the count
  module _ (right : wrong_heads ucs2 cs o ≡ false) (i : ℕ) (h : i < length cs) where
    pub head_at : wrong_at i ≡ false
    unfolding wrong_heads
    head_at = none-some wrong_at 0 (length cs) right i (omega arith) (omega arith)

    pub head-there : right_header (part_in ucs2 cs o i) ≡ true
    unfolding wrong_head
    head-there = not-false _ (or_left (not (right_header (part_in ucs2 cs o i))) _ head_at)

  -- what the judgement tells
  pub heads-told : (Ok tt) ≡ heads_judged ucs2 cs o → (wrong_heads ucs2 cs o ≡ false) × (odd_parts ucs2 cs o ≡ false)
  unfolding heads_judged verdict
  heads-told e = go (wrong_heads ucs2 cs o) refl (odd_parts ucs2 cs o) refl e
    where
      go : (a : Bool) → wrong_heads ucs2 cs o ≡ a → (b : Bool) → odd_parts ucs2 cs o ≡ b → ◌≡◌ {A = Result (Unit {0}) Refusal} (Ok tt) (settle (verdict (when a WrongHeader ∷ when b WrongLength ∷ [])) Err (Ok tt))
          → (wrong_heads ucs2 cs o ≡ false) × (odd_parts ucs2 cs o ≡ false)
      go false x false y d = (x, y)
      go true x b y d = let z : ◌≡◌ {A = ℕ} 0 1 = cc in absurd (omega arith)
      go false x true y d = let z : ◌≡◌ {A = ℕ} 0 1 = cc in absurd (omega arith)

  pub order-misfit : wrong_counts ucs2 cs o ≡ true → part_order_of ucs2 cs o ≡ Err WrongLength
  unfolding part_order_of order_rules verdict
  order-misfit e = simp e

  pub order-headless : (q : Refusal) → wrong_counts ucs2 cs o ≡ false → Err q ≡ heads_judged ucs2 cs o → part_order_of ucs2 cs o ≡ Err q
  unfolding part_order_of order_rules heads_judged verdict
  order-headless q fits e = go (wrong_heads ucs2 cs o) refl (odd_parts ucs2 cs o) refl e
    where
      go : (a : Bool) → wrong_heads ucs2 cs o ≡ a → (b : Bool) → odd_parts ucs2 cs o ≡ b → ◌≡◌ {A = Result (Unit {0}) Refusal} (Err q) (settle (verdict (when a WrongHeader ∷ when b WrongLength ∷ [])) Err (Ok tt))
          → part_order_of ucs2 cs o ≡ Err q
      go true x b y d = let same : q ≡ WrongHeader = cc in simp (fits, x, same)
      go false x true y d = let same : q ≡ WrongLength = cc in simp (fits, x, y, same)
      go false x false y d = let z : ◌≡◌ {A = ℕ} 0 1 = cc in absurd (omega arith)

-- ---- which number each part has

-- a header without the element gives the number 0, which no part has
pub belongs-none : (a b : Option Numbers) → b ≡ None → (of_one_message a b && not (lacks (total_in b) (number_in b))) ≡ false
belongs-none a b e = ap (λ (x : Option Numbers). of_one_message a x && not (lacks (total_in x) (number_in x))) e ∙ and-false (of_one_message a None)

pub belongs-given : (a b : Option Numbers) (m n : Numbers) → Some m ≡ a → Some n ≡ b
    → ((eqb m.reference n.reference && eqb m.total n.total) && not (lacks n.total n.number)) ≡ (of_one_message a b && not (lacks (total_in b) (number_in b)))
belongs-given a b m n e d = ap₂ (λ (x y : Option Numbers). of_one_message x y && not (lacks (total_in y) (number_in y))) e d

-- numbers from 1 to n that n things have, no two the same, are all numbers from 1 to n: without one of them there would be too few
module _ (number : ℕ → ℕ) (n : ℕ) (numbered : (i : ℕ) → i < n → (1 ≤ number i) × (number i ≤ n)) (apart : (i j : ℕ) → i < n → j < n → number i ≡ number j → i ≡ j) where
  module _ (k : ℕ) (some : 1 ≤ k) (most : k ≤ n) (none : (i : ℕ) → i < n → number i ≡ k → ⊥) where
    -- the numbers above k one lower
    abbrev lower : ℕ → ℕ
    lower i = cond (ltb (number i) k) (number i - 1) (number i - 2)

    lower-cases : (i : ℕ) → i < n → ((number i < k) × (lower i ≡ number i - 1)) ⊎ ((k < number i) × (lower i ≡ number i - 2))
    lower-cases i h = go (ltb (number i) k) refl
      where
        go : (b : Bool) → ltb (number i) k ≡ b → ((number i < k) × (lower i ≡ number i - 1)) ⊎ ((k < number i) × (lower i ≡ number i - 2))
        go true e = inl (ltb-true (number i) k e, simp e)
        go false e = let other : number i ≡ k → ⊥ = none i h in inr (omega (arith, ltb-false (number i) k e), simp e)

    too_few : ⊥
    too_few =
        let less : n ≤ n - 1 = one-to-one-le n (n - 1) lower within once in omega arith
      where
        within : (i : ℕ) → i < n → lower i < n - 1
        within i h =
            ⊎_elim (λ (x : (number i < k) × (lower i ≡ number i - 1)). omega (arith, x, numbered i h)) (λ (x : (k < number i) × (lower i ≡ number i - 2)). omega (arith, x, numbered i h))
            (lower-cases i h)

        once : (i j : ℕ) → i < n → j < n → lower i ≡ lower j → i ≡ j
        once i j h l e =
            apart i j h l
            (⊎_elim
            (λ (x : (number i < k) × (lower i ≡ number i - 1)).
            ⊎_elim (λ (y : (number j < k) × (lower j ≡ number j - 1)). omega (arith, x, y, numbered i h, numbered j l))
            (λ (y : (k < number j) × (lower j ≡ number j - 2)). omega (arith, x, y, numbered i h, numbered j l)) (lower-cases j l))
            (λ (x : (k < number i) × (lower i ≡ number i - 2)).
            ⊎_elim (λ (y : (number j < k) × (lower j ≡ number j - 1)). omega (arith, x, y, numbered i h, numbered j l))
            (λ (y : (k < number j) × (lower j ≡ number j - 2)). omega (arith, x, y, numbered i h, numbered j l)) (lower-cases j l))
            (lower-cases i h))

  all_there : (k : ℕ) → 1 ≤ k → k ≤ n → place_among number n k < n
  all_there k some most = go (ltb (place_among number n k) n) refl
    where
      go : (b : Bool) → ltb (place_among number n k) n ≡ b → place_among number n k < n
      go true e = ltb-true (place_among number n k) n e
      go false e =
          absurd
          (too_few k some most
          (λ i h same. omega (arith, ltb-false (place_among number n k) n e, subst (λ (m : ℕ). place_among number n m ≤ i) same (place-first number n i h))))

-- things that are gone through without a fault, as many as the total of the first, are right
pub placed-right : (number total : ℕ → ℕ) (alike : ℕ → Bool) (count : ℕ) → ((i : ℕ) → alike i ≡ true → total 0 ≡ total i) → count ≡ total 0
    → ((i : ℕ) → i < count → Fine number total alike count i) → wrong_among number total alike count ≡ false
placed-right number total alike count same many fine =
    one-to-one-right number total alike count same
    (record { count = many; there = λ k some most. (there k some (omega arith), place-number number count k (there k some (omega arith))); once = once; one = one })
  where
    one : (i : ℕ) → i < count → alike i ≡ true
    one i h = and_left (alike i) (not (lacks (total i) (number i))) (fine i h).belongs

    once : (i : ℕ) → i < count → (1 ≤ number i) × ((number i ≤ total 0) × (place_among number count (number i) ≡ i))
    once i h =
        let n = none-lacks (total i) (number i) (not-true _ (and_right (alike i) (not (lacks (total i) (number i))) (fine i h).belongs)) in
        (n.0, (omega (arith, n, same i (one i h)), (fine i h).new))

    there : (k : ℕ) → 1 ≤ k → k ≤ count → place_among number count k < count
    there k some most =
        all_there number count (λ i h. ((once i h).0, omega (arith, (once i h).1.0)))
        (λ i j h l e. sym (once i h).1.1 ∙ ap (place_among number count) e ∙ (once j l).1.1) k some most

module _ (ucs2 : Bool) (cs o : List ℕ) where
  abbrev pub PartsPlaced : ℕ → List ℕ → Type 0
  PartsPlaced i places = Placing (number_at ucs2 cs o) (total_at ucs2 cs o) (alike ucs2 cs o) (length cs) 256 i places

  -- the table of starts after the first i parts
  pub record Starting (i : ℕ) (starts : List ℕ) : Type 0 where
    pub long : length starts ≡ 256
    pub seen : (j : ℕ) → j < i → get_or starts j 0 ≡ start_at ucs2 cs j
    pub unseen : (j : ℕ) → i ≤ j → get_or starts j 0 ≡ 0

  pub starting-none : Starting 0 (replicate 256 0)
  starting-none = record { long = length-replicate {A = ℕ} 256 0; seen = λ j h. absurd (omega arith); unseen = λ j h. zeros 256 j }
    where
      zeros : (n k : ℕ) → ◌≡◌ {A = ℕ} (get_or (replicate n 0) k 0) 0
      zeros zero k = refl
      zeros (suc n) zero = refl
      zeros (suc n) (suc k) = zeros n k

  pub starting-more : {i : ℕ} {starts : List ℕ} → Starting i starts → i < 256 → (at : ℕ) → at ≡ start_at ucs2 cs i → Starting (i + 1) (set starts i at)
  starting-more {i} {starts} p h at e =
      record {
        long = length-set starts i at ∙ p.long;
        seen = below_more (λ j. get_or (set starts i at) j 0 ≡ start_at ucs2 cs j) i (λ j l. get_or-set_other starts i j at 0 (λ same. omega arith) ∙ p.seen j l) (get_or-set_same starts i at 0 (omega (arith, p.long)) ∙ e);
        unseen = λ j l. get_or-set_other starts i j at 0 (λ same. omega arith) ∙ p.unseen j (omega arith);
      }

  pub start-entry : (i : ℕ) → i < 256 → get_or (starts_of ucs2 cs) i 0 ≡ start_entry ucs2 cs i
  unfolding starts_of
  start-entry i h =
      map_at (start_entry ucs2 cs) (numbers_from 0 256) i (omega (arith, numbers-length 0 256)) ∙ ap (start_entry ucs2 cs) (numbers-at 0 256 i h ∙ zero-add i)
    where
      map_at : (f : ℕ → ℕ) (s : List ℕ) (k : ℕ) → k < length s → get_or (map f s) k 0 ≡ f (get_or s k 0)
      map_at f [] k h = absurd (omega arith)
      map_at f (x ∷ xs) zero h = refl
      map_at f (x ∷ xs) (suc k) h = map_at f xs k (omega arith)

  pub starting-all : {i : ℕ} {starts : List ℕ} → Starting i starts → i ≡ length cs → starts ≡ starts_of ucs2 cs
  unfolding starts_of
  starting-all {i} {starts} p all =
      ext_get_or 0 starts (starts_of ucs2 cs) (p.long ∙ sym (length-map (numbers_from 0 256) (start_entry ucs2 cs) ∙ numbers-length 0 256))
      (λ j h. go j (ltb j (length cs)) refl ∙ sym (start-entry j (omega (arith, p.long))))
    where
      go : (j : ℕ) (b : Bool) → ltb j (length cs) ≡ b → get_or starts j 0 ≡ start_entry ucs2 cs j
      go j true e = p.seen j (omega (arith, ltb-true j (length cs) e)) ∙ sym (ap (λ (b : Bool). cond b (start_at ucs2 cs j) 0) e)
      go j false e = p.unseen j (omega (arith, ltb-false j (length cs) e)) ∙ sym (ap (λ (b : Bool). cond b (start_at ucs2 cs j) 0) e)

  module _ (fits : wrong_counts ucs2 cs o ≡ false) (heads : wrong_heads ucs2 cs o ≡ false) (even : odd_parts ucs2 cs o ≡ false) where
    order-wrong : wrong_parts ucs2 cs o ≡ true → part_order_of ucs2 cs o ≡ Err WrongPages
    unfolding part_order_of order_rules verdict
    order-wrong e = simp (fits, heads, even, e)

    pub order-none : length cs ≡ 0 → part_order_of ucs2 cs o ≡ Err WrongPages
    unfolding wrong_parts
    order-none e = order-wrong (simp (eq-eqb (length cs) 0 e))

    wrong-among : wrong_among (number_at ucs2 cs o) (total_at ucs2 cs o) (alike ucs2 cs o) (length cs) ≡ true → part_order_of ucs2 cs o ≡ Err WrongPages
    unfolding wrong_parts
    wrong-among e = order-wrong (simp (e, or-true))

    pub order-many : (length cs ≡ total_at ucs2 cs o 0 → ⊥) → part_order_of ucs2 cs o ≡ Err WrongPages
    order-many other = wrong-among (go (wrong_among (number_at ucs2 cs o) (total_at ucs2 cs o) (alike ucs2 cs o) (length cs)) refl)
      where
        go : (b : Bool) → wrong_among (number_at ucs2 cs o) (total_at ucs2 cs o) (alike ucs2 cs o) (length cs) ≡ b → b ≡ true
        go true e = refl
        go false e = absurd (other (right-one-to-one (number_at ucs2 cs o) (total_at ucs2 cs o) (alike ucs2 cs o) (length cs) (one-total ucs2 cs o) e).count)

    pub order-foreign : (i : ℕ) → i < length cs → belonging (number_at ucs2 cs o) (total_at ucs2 cs o) (alike ucs2 cs o) i ≡ false → part_order_of ucs2 cs o ≡ Err WrongPages
    order-foreign i h e = wrong-among (wrong-foreign (number_at ucs2 cs o) (total_at ucs2 cs o) (alike ucs2 cs o) (length cs) i h e)

    module _ {i : ℕ} {places : List ℕ} (p : PartsPlaced i places) where
      pub order-repeated : i < length cs → (get_or places (number_at ucs2 cs o i) 0 ≡ 0 → ⊥) → part_order_of ucs2 cs o ≡ Err WrongPages
      order-repeated h taken = wrong-among (placing-repeated p h taken)

      module _ (e : i ≡ length cs) (some : length cs ≡ 0 → ⊥) (many : length cs ≡ total_at ucs2 cs o 0) where
        pub order-right : (reference : ℕ) → reference ≡ reference_in (numbers_at ucs2 cs o 0) → part_order_of ucs2 cs o ≡ Ok reference
        unfolding part_order_of order_rules wrong_parts verdict
        order-right reference same =
            let right : wrong_among (number_at ucs2 cs o) (total_at ucs2 cs o) (alike ucs2 cs o) (length cs) ≡ false =
            placed-right (number_at ucs2 cs o) (total_at ucs2 cs o) (alike ucs2 cs o) (length cs) (one-total ucs2 cs o) many (λ j h. p.fine j (omega arith)) in
            simp (fits, heads, even, ne_eqb (length cs) 0 some, right, same)

-- ---- what is left in the tables

module _ (ucs2 : Bool) (cs o : List ℕ) where
  pub order-refused : (q : Refusal) → Err q ≡ part_order_of ucs2 cs o → verdict (order_rules ucs2 cs o) ≡ refused q
  unfolding part_order_of
  order-refused q d = settle-told verdict_of Err (Ok (reference_in (numbers_at ucs2 cs o 0))) (λ r. refl) refl (verdict (order_rules ucs2 cs o)) (Err q) d

  module _ (reference : ℕ) (d : Ok reference ≡ part_order_of ucs2 cs o) where
    pub order-accepted : verdict (order_rules ucs2 cs o) ≡ accepted
    unfolding part_order_of
    order-accepted = settle-told verdict_of Err (Ok (reference_in (numbers_at ucs2 cs o 0))) (λ r. refl) refl (verdict (order_rules ucs2 cs o)) (Ok reference) d

    pub order-reference : reference ≡ reference_in (numbers_at ucs2 cs o 0)
    unfolding part_order_of
    order-reference = ok-inside {E = Refusal} (d ∙ settle-given (verdict (order_rules ucs2 cs o)) Err (Ok (reference_in (numbers_at ucs2 cs o 0))) order-accepted)

    pub left-right : (places_of ucs2 cs o ≡ places_left ucs2 cs o) × (starts_of ucs2 cs ≡ starts_left ucs2 cs o)
    unfolding places_left starts_left
    left-right =
        let v = sym order-accepted in
        (ap (λ (w : Verdict). settle w (λ x. replicate 256 0) (places_of ucs2 cs o)) v, ap (λ (w : Verdict). settle w (λ x. replicate 256 0) (starts_of ucs2 cs)) v)

  pub left-refused : (q : Refusal) → Err q ≡ part_order_of ucs2 cs o → (replicate 256 0 ≡ places_left ucs2 cs o) × (replicate 256 0 ≡ starts_left ucs2 cs o)
  unfolding places_left starts_left
  left-refused q d =
      let v = sym (order-refused q d) in
      (ap (λ (w : Verdict). settle w (λ x. replicate 256 0) (places_of ucs2 cs o)) v, ap (λ (w : Verdict). settle w (λ x. replicate 256 0) (starts_of ucs2 cs)) v)
