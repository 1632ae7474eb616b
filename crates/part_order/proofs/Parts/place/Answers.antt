-- After each part the tables hold the places of the numbers and the starts so far: a number that has a place already is there twice, and in the end the
-- tables are the defined ones. Assumes nothing.
use Prim.Native.Nat.{ℕ, ◌+◌, ◌-◌, ◌≤◌, ◌<◌}
use mathlib.Core.Path.{◌≡◌, refl, sym, ap, subst, ◌∙◌}
use mathlib.Core.Bool.{Bool, true, false, not, ◌&&◌}
use mathlib.Core.List.{List}
use native.Mathlib.Omega.{arith}
use borrow.Author.Rules.{rules}
use lib.Dec.{eqb}
use lib.ListN.{length, get_or, set, take, drop}
use lib.Seq.{length-take-le}
use Rattle.std.specs.Prelude.{Option, Some}
use Rattle.filling.specs.Numbered.{lacks}
use Rattle.filling.proofs.Table.{placing-none, placing-more, placing-table, belonging}
use Rattle.headed.specs.declared.Numbers.{Numbers}
use Rattle.headed.specs.Header.{right_header, header_numbers}
use Rattle.parted.specs.Joined.{all_asked, octets_asked, start_at, wrong_counts, wrong_heads, numbers_at, number_at, total_at, number_in, total_in, reference_in, alike}
use Rattle.parted.proofs.OrderSteps.{start-next, start-most, part-within, part-is, part-first, head-there, belongs-none, belongs-given, PartsPlaced, Starting, starting-none, starting-more, starting-all, order-none, order-many, order-foreign, order-repeated, order-right}
use Rattle.part_order.proofs.Parts.place.Goals.{then-not-belongs-via-then-not-belongs, then-not-belongs-via-else-not-belongs+then-tables-k-ne0}
use Rattle.part_order.proofs.Parts.place.Goals as goal

module _ (ucs2 : Bool) (cs o : List ℕ) where
  module _ (size : ℕ) (asked : size ≡ octets_asked ucs2 (get_or cs 0 0)) where
    -- the first part is within the octets, and right
    first-within : wrong_counts ucs2 cs o ≡ false → 0 < length cs → size ≡ length (take size o)
    first-within fits some = let w = part-within ucs2 cs o fits 0 some in sym (length-take-le size o (omega (arith, w, asked)))

    first-right : wrong_heads ucs2 cs o ≡ false → 0 < length cs → right_header (take size o) ≡ true
    first-right heads some = ap right_header (part-first ucs2 cs o size asked) ∙ head-there ucs2 cs o heads 0 some

    -- what is read of it
    first-is : (x : Option Numbers) → x ≡ header_numbers (take size o) → x ≡ numbers_at ucs2 cs o 0
    unfolding numbers_at
    first-is x read = read ∙ ap header_numbers (part-first ucs2 cs o size asked)

  module _ (i at n : ℕ) (start : at ≡ start_at ucs2 cs i) (asked : n ≡ octets_asked ucs2 (get_or cs i 0)) where
    -- part i is within the octets, and right
    within : wrong_counts ucs2 cs o ≡ false → i < length cs → at + n ≤ length o
    within fits h = omega (arith, part-within ucs2 cs o fits i h, start, asked)

    right_is : wrong_heads ucs2 cs o ≡ false → i < length cs → right_header (take (at + n - at) (drop at o)) ≡ true
    right_is heads h = ap right_header (part-is ucs2 cs o i at n start asked) ∙ head-there ucs2 cs o heads i h

    -- what is read of it
    numbers-is : (x : Option Numbers) → x ≡ header_numbers (take (at + n - at) (drop at o)) → x ≡ numbers_at ucs2 cs o i
    unfolding numbers_at
    numbers-is x read = read ∙ ap header_numbers (part-is ucs2 cs o i at n start asked)

-- the count that is first
asked-first : (ucs2 : Bool) (cs : List ℕ) {n size : ℕ} → n ≡ get_or cs 0 0 → size ≡ octets_asked ucs2 n → size ≡ octets_asked ucs2 (get_or cs 0 0)
asked-first ucs2 cs e d = d ∙ ap (octets_asked ucs2) e

-- the first count, if there is one
no-first : (c : goal.In_default) → length c.args.self.now.counts.now ≡ 0
no-first c = search rules

pub returns-in_default-clause-value : goal.returns-in_default-clause-value
returns-in_default-clause-value c = let p = c.args.self.now in
    let pre = c.requires.octets_value in
    sym (order-none p.ucs2 p.counts.now p.octets.now pre.0 pre.1 pre.2 (no-first c))

pub slice_bounds-numbers_in-end : goal.slice_bounds-numbers_in-end
slice_bounds-numbers_in-end c = let p = c.args.self.now in
    let some : 0 < length p.counts.now = search rules in
    let is : c.in-Some.field-0.now ≡ get_or p.counts.now 0 0 = search rules in
    first-within p.ucs2 p.counts.now p.octets.now _ (asked-first p.ucs2 p.counts.now is c.octets_asked-size.ensures.0) c.requires.octets_value.0 some

pub numbers_in-requires : goal.numbers_in-requires
numbers_in-requires c = let p = c.args.self.now in
    let some : 0 < length p.counts.now = search rules in
    let is : c.in-Some.field-0.now ≡ get_or p.counts.now 0 0 = search rules in
    first-right p.ucs2 p.counts.now p.octets.now _ (asked-first p.ucs2 p.counts.now is c.octets_asked-size.ensures.0) c.requires.octets_value.1 some

pub returns-in_default-numbers_in-clause-value : goal.returns-in_default-numbers_in-clause-value
returns-in_default-numbers_in-clause-value c = let p = c.args.self.now in
    let pre = c.requires.octets_value in
    let some : 0 < length p.counts.now = search rules in
    let is : c.in-Some.field-0.now ≡ get_or p.counts.now 0 0 = search rules in
    let read = first-is p.ucs2 p.counts.now p.octets.now _ (asked-first p.ucs2 p.counts.now is c.octets_asked-size.ensures.0) _ (sym c.in_default-numbers_in.is ∙ c.numbers_in.ensures) in
    sym (order-many p.ucs2 p.counts.now p.octets.now pre.0 pre.1 pre.2 (λ e. omega (arith, some, e, ap total_in read)))

pub returns-then-self-first-clause-value : goal.returns-then-self-first-clause-value
returns-then-self-first-clause-value c = let p = c.args.self.now in
    let pre = c.requires.octets_value in
    let is : c.in-Some.field-0.now ≡ get_or p.counts.now 0 0 = search rules in
    let read = first-is p.ucs2 p.counts.now p.octets.now _ (asked-first p.ucs2 p.counts.now is c.octets_asked-size.ensures.0) _ (sym c.in-Some-numbers_in.is ∙ c.numbers_in.ensures) in
    sym (order-many p.ucs2 p.counts.now p.octets.now pre.0 pre.1 pre.2 (λ e. c.if-self-first.true (e ∙ sym (ap total_in read))))

pub loop-i-init : goal.loop-i-init
unfolding all_asked
loop-i-init c = let p = c.args.self.now in (
  refl,
  subst (PartsPlaced p.ucs2 p.counts.now p.octets.now 0) (sym c.requires.places_value.0) (placing-none _ _ _ _ 256),
  subst (Starting p.ucs2 p.counts.now p.octets.now 0) (sym c.requires.places_value.1) (starting-none p.ucs2 p.counts.now p.octets.now),
)

pub overflow_add-end : goal.overflow_add-end
overflow_add-end c = let p = c.args.self.now in
    let w : c.loop-i.at + c.octets_asked.result ≤ length p.octets.now = within p.ucs2 p.counts.now p.octets.now _ _ _ c.loop-i.invariant.0 c.octets_asked.ensures.0 c.requires.octets_value.0 c.loop-i-test.true in
    search rules

pub slice_bounds-numbers_in-end-in-loop-i : goal.slice_bounds-numbers_in-end-in-loop-i
slice_bounds-numbers_in-end-in-loop-i c = let p = c.args.self.now in
    let w : c.loop-i.at + c.octets_asked.result ≤ length p.octets.now = within p.ucs2 p.counts.now p.octets.now _ _ _ c.loop-i.invariant.0 c.octets_asked.ensures.0 c.requires.octets_value.0 c.loop-i-test.true in
    search rules

pub numbers_in-requires-in-loop-i : goal.numbers_in-requires-in-loop-i
numbers_in-requires-in-loop-i c = let p = c.args.self.now in
    right_is p.ucs2 p.counts.now p.octets.now _ _ _ c.loop-i.invariant.0 c.octets_asked.ensures.0 c.requires.octets_value.1 c.loop-i-test.true

pub returns-in_default-numbers_in-2-clause-value : goal.returns-in_default-numbers_in-2-clause-value
returns-in_default-numbers_in-2-clause-value c = let p = c.args.self.now in
    let pre = c.requires.octets_value in
    let read = numbers-is p.ucs2 p.counts.now p.octets.now c.loop-i.i _ _ c.loop-i.invariant.0 c.octets_asked.ensures.0 _ (sym c.in_default-numbers_in-2.is ∙ c.numbers_in-in-loop-i.ensures) in
    sym (order-foreign p.ucs2 p.counts.now p.octets.now pre.0 pre.1 pre.2 c.loop-i.i c.loop-i-test.true (belongs-none (numbers_at p.ucs2 p.counts.now p.octets.now 0) _ (sym read)))

-- whether part i belongs to the first
belongs-is : (ucs2 : Bool) (cs o : List ℕ) (i : ℕ) (first numbers : Numbers) (b : Bool) → Some first ≡ numbers_at ucs2 cs o 0 → Some numbers ≡ numbers_at ucs2 cs o i
    → b ≡ ((eqb first.reference numbers.reference && eqb first.total numbers.total) && not (lacks numbers.total numbers.number))
    → b ≡ belonging (number_at ucs2 cs o) (total_at ucs2 cs o) (alike ucs2 cs o) i
belongs-is ucs2 cs o i first numbers b f n judged = judged ∙ belongs-given (numbers_at ucs2 cs o 0) (numbers_at ucs2 cs o i) first numbers f n

pub returns-then-not-belongs-clause-value : goal.returns-then-not-belongs-clause-value
returns-then-not-belongs-clause-value c = let p = c.args.self.now in
    let pre = c.requires.octets_value in
    let i : ℕ = c.loop-i.i in
    let is : c.in-Some.field-0.now ≡ get_or p.counts.now 0 0 = search rules in
    let first = first-is p.ucs2 p.counts.now p.octets.now _ (asked-first p.ucs2 p.counts.now is c.octets_asked-size.ensures.0) _ (sym c.in-Some-numbers_in.is ∙ c.numbers_in.ensures) in
    let numbers = numbers-is p.ucs2 p.counts.now p.octets.now i _ _ c.loop-i.invariant.0 c.octets_asked.ensures.0 _ (sym c.in-Some-numbers_in-2.is ∙ c.numbers_in-in-loop-i.ensures) in
    let belongs = belongs-is p.ucs2 p.counts.now p.octets.now i _ _ _ first numbers c.belongs.ensures in
    sym (elim c.then-not-belongs.branch [
      | then-not-belongs-via-then-not-belongs w ↦ order-foreign p.ucs2 p.counts.now p.octets.now pre.0 pre.1 pre.2 i c.loop-i-test.true (sym belongs ∙ w.if-not-belongs.true)
      | then-not-belongs-via-else-not-belongs+then-tables-k-ne0 w ↦ order-repeated p.ucs2 p.counts.now p.octets.now pre.0 pre.1 pre.2 c.loop-i.invariant.1 c.loop-i-test.true
          (λ e. w.if-tables-k-ne0.true (ap (λ (n : Option Numbers). get_or c.loop-i.tables.places (number_in n) 0) numbers ∙ e))
    ])

pub overflow_cast-tables-in-loop-i : goal.overflow_cast-tables-in-loop-i
overflow_cast-tables-in-loop-i c = let p = c.args.self.now in
    let small = start-most p.ucs2 p.counts.now p.octets.now c.requires.octets_value.0 c.loop-i.i (omega (arith, c.loop-i-test.true)) in
    record { fits = omega (arith, small, c.if-self-first.false, c.loop-i.invariant.0, c.loop-i-test.true) }

pub loop-i-preserved : goal.loop-i-preserved
loop-i-preserved c = let p = c.args.self.now in
    let i : ℕ = c.loop-i.i in
    let h : i < length p.counts.now = c.loop-i-test.true in
    let places : List ℕ = c.loop-i.tables.places in
    let is : c.in-Some.field-0.now ≡ get_or p.counts.now 0 0 = search rules in
    let first = first-is p.ucs2 p.counts.now p.octets.now _ (asked-first p.ucs2 p.counts.now is c.octets_asked-size.ensures.0) _ (sym c.in-Some-numbers_in.is ∙ c.numbers_in.ensures) in
    let numbers = numbers-is p.ucs2 p.counts.now p.octets.now i _ _ c.loop-i.invariant.0 c.octets_asked.ensures.0 _ (sym c.in-Some-numbers_in-2.is ∙ c.numbers_in-in-loop-i.ensures) in
    let number = ap number_in numbers in
    let belongs = belongs-is p.ucs2 p.counts.now p.octets.now i _ _ _ first numbers c.belongs.ensures in (
      omega (arith, c.loop-i.invariant.0, c.octets_asked.ensures.0, start-next p.ucs2 p.counts.now i h),
      subst (λ (k : ℕ). PartsPlaced p.ucs2 p.counts.now p.octets.now (i + 1) (set places k (i + 1))) (sym number)
          (placing-more c.loop-i.invariant.1 h (omega (arith, number)) (sym belongs ∙ c.if-not-belongs.false) (ap (λ (k : ℕ). get_or places k 0) (sym number) ∙ c.if-tables-k-ne0.false)),
      starting-more p.ucs2 p.counts.now p.octets.now c.loop-i.invariant.2 (omega (arith, c.if-self-first.false, h)) c.loop-i.at c.loop-i.invariant.0,
    )

pub returns : goal.returns
returns c = let p = c.args.self.now in
    let pre = c.requires.octets_value in
    let all : c.loop-i.i ≡ length p.counts.now = search rules in
    let there : 0 < length p.counts.now = search rules in
    let some : length p.counts.now ≡ 0 → ⊥ = λ e. omega (arith, e, there) in
    let is : c.in-Some.field-0.now ≡ get_or p.counts.now 0 0 = search rules in
    let first = first-is p.ucs2 p.counts.now p.octets.now _ (asked-first p.ucs2 p.counts.now is c.octets_asked-size.ensures.0) _ (sym c.in-Some-numbers_in.is ∙ c.numbers_in.ensures) in
    record {
      value = sym (order-right p.ucs2 p.counts.now p.octets.now pre.0 pre.1 pre.2 c.loop-i.invariant.1 all some (c.if-self-first.false ∙ ap total_in first) _ (ap reference_in first));
      tables_after = (placing-table c.loop-i.invariant.1 all, starting-all p.ucs2 p.counts.now p.octets.now c.loop-i.invariant.2 all);
      few = omega (arith, c.if-self-first.false);
    }
