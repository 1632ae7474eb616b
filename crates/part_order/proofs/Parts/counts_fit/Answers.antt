-- No count passed is too high, and what they ask and what is left are the octets, so that the first that is wrong decides, or what is left in the end.
-- Assumes nothing.
use Prim.Native.Nat.{ℕ, ◌≤◌, ◌<◌}
use mathlib.Core.Bool.{not}
use mathlib.Core.List.{List}
use mathlib.Core.Logic.{⊎_elim}
use mathlib.Core.Path.{sym, ap}
use native.Mathlib.Nat.{add-zero}
use native.Mathlib.Omega.{arith}
use borrow.Author.Count.{below_more}
use lib.ListN.{length, get_or}
use Rattle.parted.specs.Joined.{all_asked, most_count}
use Rattle.parted.proofs.OrderSteps.{start-next, counts-high, counts_past, counts_end}
use Rattle.part_order.proofs.Parts.counts_fit.Goals as goal

pub loop-count-init : goal.loop-count-init
unfolding all_asked
loop-count-init c = (λ j h. absurd (omega arith), add-zero _)

pub returns-then-most-count : goal.returns-then-most-count
returns-then-most-count c = let p = c.args.self.now in
    let i : ℕ = c.loop-count.count-index in
    sym
    (ap not
    (⊎_elim (λ high. counts-high p.ucs2 p.counts.now p.octets.now i c.loop-count-test.true (omega (arith, c.most_count-most.ensures, high)))
    (λ past. counts_past p.ucs2 p.counts.now p.octets.now i c.loop-count-test.true (omega (arith, c.loop-count.invariant.1, c.octets_asked-asked.ensures.0, past)))
    c.then-most-count.either))

pub loop-count-preserved : goal.loop-count-preserved
loop-count-preserved c = let p = c.args.self.now in
    let cs : List ℕ = p.counts.now in
    let i : ℕ = c.loop-count.count-index in
    let h : i < length cs = c.loop-count-test.true in (
      below_more (λ j. get_or cs j 0 ≤ most_count p.ucs2) i c.loop-count.invariant.0 (omega (arith, c.most_count-most.ensures, c.if-most-count.false)),
      omega (arith, c.loop-count.invariant.1, c.octets_asked-asked.ensures.0, c.if-left-asked.false, start-next p.ucs2 cs i h),
    )

pub returns : goal.returns
returns c = let p = c.args.self.now in
    counts_end p.ucs2 p.counts.now p.octets.now c.loop-count.count-index c.loop-count.left (omega (arith, c.loop-count-test.false)) c.loop-count.invariant.0 c.loop-count.invariant.1
