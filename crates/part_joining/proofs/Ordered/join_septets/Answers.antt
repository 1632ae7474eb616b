-- The text of each run is stored right behind that of the runs before it. Assumes nothing.
use Prim.Native.Nat.{ℕ, ◌+◌, ◌≤◌}
use mathlib.Core.Bool.{Bool, false}
use mathlib.Core.List.{List}
use mathlib.Core.Path.{◌≡◌, refl, sym, ap, ◌∙◌}
use native.Mathlib.Omega.{arith}
use lib.Dec.{leb}
use lib.ListN.{length}
use Rattle.lists.specs.Lists.{laid}
use Rattle.letters.specs.Reading.{text_in, text_of}
use Rattle.parted.specs.InnerJoined.{run_behind, run_read, run_open, numbered_content, open_up_to}
use Rattle.parted.proofs.JoinSteps.{next_run, read_none, open_more, read_all, joined-all, text-before, run_room, run_more, sorted-as}
use borrow.Author.Rules.{rules}
use Rattle.part_joining.proofs.Ordered.join_septets.Goals as goal

pub loop-k-init : goal.loop-k-init
unfolding laid text_in
loop-k-init c = let p = c.args.self.now in
    let none = read_none p.parts.counts.now p.parts.octets.now in (
      sym (ap (λ (l : List ℕ). length (text_of l)) none.0),
      sym none.1,
      refl,
      sym (ap (λ (l : List ℕ). laid (text_of l) c.args.out.now) none.0),
    )

-- what is stored so far is within the buffer
pub offset_bounds-out-at : goal.offset_bounds-out-at
offset_bounds-out-at c = let p = c.args.self.now in
    let s = sorted-as p.parts.ucs2 false c.requires.0 p.parts.counts.now p.parts.octets.now p.sorted in
    let w : c.loop-k.at ≤ length c.loop-k.out = omega (arith, c.loop-k.invariant.0, c.loop-k.invariant.2, text-before p.parts.counts.now p.parts.octets.now p.tables.now.places p.tables.now.starts s (length c.args.out.now) c.requires.1 c.loop-k.k c.loop-k.auto.k-end) in
    search rules

pub slice_bounds-read_run-count-in-loop-k : goal.slice_bounds-read_run-count-in-loop-k
slice_bounds-read_run-count-in-loop-k c = let p = c.args.self.now in
    let s = sorted-as p.parts.ucs2 false c.requires.0 p.parts.counts.now p.parts.octets.now p.sorted in
    omega (arith, c.loop-k.invariant.0, c.loop-k.invariant.2, text-before p.parts.counts.now p.parts.octets.now p.tables.now.places p.tables.now.starts s (length c.args.out.now) c.requires.1 c.loop-k.k c.loop-k.auto.k-end)

pub slice_bounds-read_run-start-in-loop-k : goal.slice_bounds-read_run-start-in-loop-k
slice_bounds-read_run-start-in-loop-k c = let p = c.args.self.now in
    let s = sorted-as p.parts.ucs2 false c.requires.0 p.parts.counts.now p.parts.octets.now p.sorted in
    omega (arith, c.loop-k.invariant.0, c.loop-k.invariant.2, text-before p.parts.counts.now p.parts.octets.now p.tables.now.places p.tables.now.starts s (length c.args.out.now) c.requires.1 c.loop-k.k c.loop-k.auto.k-end)

-- the run of the next part, by what is known of the parts before it
next_is : (cs o : List ℕ) (k : ℕ) (half : Bool) (run : List ℕ) → half ≡ open_up_to cs o k → run ≡ run_read (leb (length cs) (k + 1)) (run_behind half (numbered_content false cs o (k + 1)))
    → run ≡ run_read (leb (length cs) (k + 1)) (next_run cs o k)
next_is cs o k half run left read = read ∙ ap (λ (h : Bool). run_read (leb (length cs) (k + 1)) (run_behind h (numbered_content false cs o (k + 1)))) left

pub read_run-at-requires : goal.read_run-at-requires
read_run-at-requires c = let p = c.args.self.now in
    let s = sorted-as p.parts.ucs2 false c.requires.0 p.parts.counts.now p.parts.octets.now p.sorted in (
      c.run_at-run.ensures.ready.narrow,
      run_room p.parts.counts.now p.parts.octets.now p.tables.now.places p.tables.now.starts s c.args.out.now c.loop-k.out c.requires.1 c.loop-k.invariant.2 c.loop-k.k c.loop-k-test.true c.loop-k.at c.loop-k.invariant.0 _
          (next_is p.parts.counts.now p.parts.octets.now c.loop-k.k c.loop-k.half _ c.loop-k.invariant.1 c.run_at-run.ensures.end_after),
    )

-- one run more
pub overflow_add-at : goal.overflow_add-at
overflow_add-at c = let p = c.args.self.now in
    let s = sorted-as p.parts.ucs2 false c.requires.0 p.parts.counts.now p.parts.octets.now p.sorted in
    let is = next_is p.parts.counts.now p.parts.octets.now c.loop-k.k c.loop-k.half _ c.loop-k.invariant.1 c.run_at-run.ensures.end_after in
    let w =
    run_more p.parts.counts.now p.parts.octets.now p.tables.now.places p.tables.now.starts s c.args.out.now c.loop-k.out c.requires.1 c.loop-k.invariant.2 c.loop-k.k c.loop-k-test.true c.loop-k.at c.loop-k.invariant.0 _ is
    c.loop-k.invariant.3 _ c.read_run-at.ensures.buffer _ c.read_run-at.ensures.answer in
    omega (arith, w.2)

pub loop-k-preserved : goal.loop-k-preserved
loop-k-preserved c = let p = c.args.self.now in
    let s = sorted-as p.parts.ucs2 false c.requires.0 p.parts.counts.now p.parts.octets.now p.sorted in
    let k : ℕ = c.loop-k.k in
    let is = next_is p.parts.counts.now p.parts.octets.now k c.loop-k.half _ c.loop-k.invariant.1 c.run_at-run.ensures.end_after in
    let w =
    run_more p.parts.counts.now p.parts.octets.now p.tables.now.places p.tables.now.starts s c.args.out.now c.loop-k.out c.requires.1 c.loop-k.invariant.2 k c.loop-k-test.true c.loop-k.at c.loop-k.invariant.0 _ is
    c.loop-k.invariant.3 _ c.read_run-at.ensures.buffer _ c.read_run-at.ensures.answer in (
      w.0,
      c.run_at-run.ensures.half_value
          ∙ ap (λ (h : Bool). run_open (leb (length p.parts.counts.now) (k + 1)) (run_behind h (numbered_content false p.parts.counts.now p.parts.octets.now (k + 1)))) c.loop-k.invariant.1
          ∙ sym (open_more p.parts.counts.now p.parts.octets.now k c.loop-k-test.true),
      search rules,
      w.1,
    )

pub returns : goal.returns
returns c = let p = c.args.self.now in
    let s = sorted-as p.parts.ucs2 false c.requires.0 p.parts.counts.now p.parts.octets.now p.sorted in
    let all : c.loop-k.k ≡ length p.parts.counts.now = omega (arith, c.loop-k.auto.k-end, c.loop-k-test.false) in
    let whole = ap text_of (read_all p.parts.counts.now p.parts.octets.now c.loop-k.k all ∙ sym (joined-all false p.parts.counts.now p.parts.octets.now p.tables.now.places p.tables.now.starts s)) in
    record { answer = c.loop-k.invariant.0 ∙ ap length whole; buffer = c.loop-k.invariant.3 ∙ ap (λ (l : List ℕ). laid l c.args.out.now) whole }
