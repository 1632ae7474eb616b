-- The units of each part are stored right behind those of the numbers before it. Assumes nothing.
use Prim.Native.Nat.{ℕ, ◌+◌, ◌≤◌, ◌<◌}
use mathlib.Core.Bool.{true}
use mathlib.Core.List.{List}
use mathlib.Core.Path.{◌≡◌, refl, sym, ap, ◌∙◌}
use native.Mathlib.Omega.{arith}
use lib.ListN.{length, get_or}
use Rattle.lists.specs.Lists.{laid}
use Rattle.parted.specs.Joined.{start_at, part_in, place_of, joined_from}
use Rattle.parted.specs.InnerJoined.{Sorted, over_in}
use Rattle.parted.proofs.OrderSteps.{part-within}
use Rattle.parted.proofs.JoinSteps.{place-there, units-over, units-slice, joined-all, units-within, units-more, sorted-as, told-as}
use borrow.Author.Rules.{rules}
use Rattle.part_joining.proofs.Ordered.join_units.Goals as goal

pub loop-k-init : goal.loop-k-init
unfolding laid joined_from
loop-k-init c = (refl, refl, refl)

-- the part is within the octets, and its header within the part
sizes : (cs o places starts : List ℕ) (s : Sorted true cs o places starts) (k : ℕ) → k < length cs → (start count over : ℕ) → start ≡ start_at true cs (place_of true cs o (k + 1))
    → count ≡ get_or cs (place_of true cs o (k + 1)) 0 → over ≡ over_in true (part_in true cs o (place_of true cs o (k + 1))) → (over ≤ count) × (start + count ≤ length o)
sizes cs o places starts s k h start count over begins counts takes = (
  omega (arith, counts, takes, units-over cs o places starts s (k + 1) (omega arith) (omega arith)),
  omega (arith, begins, counts, part-within true cs o s.fits _ (place-there true cs o places starts s (k + 1) (omega arith) (omega arith))),
)

pub overflow_add-from : goal.overflow_add-from
overflow_add-from c = let p = c.args.self.now in
    let s = sorted-as p.parts.ucs2 true c.requires.0 p.parts.counts.now p.parts.octets.now p.sorted in
    let d = told-as p.parts.ucs2 true c.requires.0 p.parts.counts.now p.parts.octets.now (c.loop-k.k + 1) _ _ _ c.part_at-part.ensures.start_value c.part_at-part.ensures.over_value.0 in
    let w = sizes p.parts.counts.now p.parts.octets.now p.tables.now.places p.tables.now.starts s c.loop-k.k c.loop-k-test.true _ _ _ d.0 d.1 d.2 in
    search rules

pub overflow_add-end : goal.overflow_add-end
overflow_add-end c = let p = c.args.self.now in
    let s = sorted-as p.parts.ucs2 true c.requires.0 p.parts.counts.now p.parts.octets.now p.sorted in
    let d = told-as p.parts.ucs2 true c.requires.0 p.parts.counts.now p.parts.octets.now (c.loop-k.k + 1) _ _ _ c.part_at-part.ensures.start_value c.part_at-part.ensures.over_value.0 in
    let w = sizes p.parts.counts.now p.parts.octets.now p.tables.now.places p.tables.now.starts s c.loop-k.k c.loop-k-test.true _ _ _ d.0 d.1 d.2 in
    search rules

pub slice_bounds-lay_units-start : goal.slice_bounds-lay_units-start
slice_bounds-lay_units-start c = let p = c.args.self.now in
    let s = sorted-as p.parts.ucs2 true c.requires.0 p.parts.counts.now p.parts.octets.now p.sorted in
    let d = told-as p.parts.ucs2 true c.requires.0 p.parts.counts.now p.parts.octets.now (c.loop-k.k + 1) _ _ _ c.part_at-part.ensures.start_value c.part_at-part.ensures.over_value.0 in
    let w = sizes p.parts.counts.now p.parts.octets.now p.tables.now.places p.tables.now.starts s c.loop-k.k c.loop-k-test.true _ _ _ d.0 d.1 d.2 in
    search rules

pub slice_bounds-lay_units-count : goal.slice_bounds-lay_units-count
slice_bounds-lay_units-count c = let p = c.args.self.now in
    let s = sorted-as p.parts.ucs2 true c.requires.0 p.parts.counts.now p.parts.octets.now p.sorted in
    let d = told-as p.parts.ucs2 true c.requires.0 p.parts.counts.now p.parts.octets.now (c.loop-k.k + 1) _ _ _ c.part_at-part.ensures.start_value c.part_at-part.ensures.over_value.0 in
    let w = sizes p.parts.counts.now p.parts.octets.now p.tables.now.places p.tables.now.starts s c.loop-k.k c.loop-k-test.true _ _ _ d.0 d.1 d.2 in
    search rules

pub slice_bounds-lay_units-end : goal.slice_bounds-lay_units-end
slice_bounds-lay_units-end c = let p = c.args.self.now in
    let s = sorted-as p.parts.ucs2 true c.requires.0 p.parts.counts.now p.parts.octets.now p.sorted in
    let d = told-as p.parts.ucs2 true c.requires.0 p.parts.counts.now p.parts.octets.now (c.loop-k.k + 1) _ _ _ c.part_at-part.ensures.start_value c.part_at-part.ensures.over_value.0 in
    let w = sizes p.parts.counts.now p.parts.octets.now p.tables.now.places p.tables.now.starts s c.loop-k.k c.loop-k-test.true _ _ _ d.0 d.1 d.2 in
    search rules

-- what is stored so far is within the buffer
pub offset_bounds-out-at : goal.offset_bounds-out-at
offset_bounds-out-at c = let p = c.args.self.now in
    let s = sorted-as p.parts.ucs2 true c.requires.0 p.parts.counts.now p.parts.octets.now p.sorted in
    let w = units-within p.parts.counts.now p.parts.octets.now p.tables.now.places p.tables.now.starts s c.args.out.now c.loop-k.out c.requires.1 c.loop-k.invariant.1 c.loop-k.k c.loop-k-test.true c.loop-k.at c.loop-k.invariant.0 in
    search rules

pub slice_bounds-lay_units-count-in-loop-k : goal.slice_bounds-lay_units-count-in-loop-k
slice_bounds-lay_units-count-in-loop-k c = let p = c.args.self.now in
    let s = sorted-as p.parts.ucs2 true c.requires.0 p.parts.counts.now p.parts.octets.now p.sorted in
    units-within p.parts.counts.now p.parts.octets.now p.tables.now.places p.tables.now.starts s c.args.out.now c.loop-k.out c.requires.1 c.loop-k.invariant.1 c.loop-k.k c.loop-k-test.true c.loop-k.at c.loop-k.invariant.0

pub slice_bounds-lay_units-start-in-loop-k : goal.slice_bounds-lay_units-start-in-loop-k
slice_bounds-lay_units-start-in-loop-k c = let p = c.args.self.now in
    let s = sorted-as p.parts.ucs2 true c.requires.0 p.parts.counts.now p.parts.octets.now p.sorted in
    units-within p.parts.counts.now p.parts.octets.now p.tables.now.places p.tables.now.starts s c.args.out.now c.loop-k.out c.requires.1 c.loop-k.invariant.1 c.loop-k.k c.loop-k-test.true c.loop-k.at c.loop-k.invariant.0

pub loop-k-preserved : goal.loop-k-preserved
loop-k-preserved c = let p = c.args.self.now in
    let s = sorted-as p.parts.ucs2 true c.requires.0 p.parts.counts.now p.parts.octets.now p.sorted in
    let d = told-as p.parts.ucs2 true c.requires.0 p.parts.counts.now p.parts.octets.now (c.loop-k.k + 1) _ _ _ c.part_at-part.ensures.start_value c.part_at-part.ensures.over_value.0 in
    let part =
    units-slice p.parts.counts.now p.parts.octets.now p.tables.now.places p.tables.now.starts s (c.loop-k.k + 1) (omega arith) (omega (arith, c.loop-k-test.true)) c.part_at-part.result.start c.part_at-part.result.over
    c.part_at-part.result.count d.0 d.2 d.1 in
    let w =
    units-more p.parts.counts.now p.parts.octets.now p.tables.now.places p.tables.now.starts s c.args.out.now c.loop-k.out c.requires.1 c.loop-k.invariant.1 c.loop-k.k c.loop-k-test.true c.loop-k.at c.loop-k.invariant.0
    c.loop-k.invariant.2 _ part _ c.lay_units-at.ensures.buffer _ c.lay_units-at.ensures.answer in
    (w.0, search rules, w.1)

pub returns : goal.returns
returns c = let p = c.args.self.now in
    let s = sorted-as p.parts.ucs2 true c.requires.0 p.parts.counts.now p.parts.octets.now p.sorted in
    let all : c.loop-k.k ≡ length p.parts.counts.now = omega (arith, c.loop-k.auto.k-end, c.loop-k-test.false) in
    let whole = ap (joined_from true p.parts.counts.now p.parts.octets.now 1) all ∙ sym (joined-all true p.parts.counts.now p.parts.octets.now p.tables.now.places p.tables.now.starts s) in
    record { answer = c.loop-k.invariant.0 ∙ ap length whole; buffer = c.loop-k.invariant.2 ∙ ap (λ (l : List ℕ). laid l c.args.out.now) whole }
