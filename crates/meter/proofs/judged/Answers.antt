-- `judged` meets its contract: it judges in the order of the rules, and a sum that passes is its own low 32 bits. Assumes nothing.
use Prim.Native.Nat.{◌<◌, ◌≤◌}
use native.Mathlib.Nat.{mod-eq_of_lt}
use native.Mathlib.Omega.{arith}
use borrow.Author.Tests.{lt-ltb, le-ltb}
use Rattle.words.specs.Judging.{verdict}
use Rattle.metered.specs.Inner.{judged_as}
use Rattle.meter.proofs.judged.Goals as goal

pub returns-then-septets-lt1 : goal.returns-then-septets-lt1
unfolding judged_as verdict
returns-then-septets-lt1 c = simp (lt-ltb _ _ c.if-septets-lt1.true, c.refused.ensures)

pub returns-then-sum-gt65535 : goal.returns-then-sum-gt65535
unfolding judged_as verdict
returns-then-sum-gt65535 c = let over : 65535 < c.args.sum = omega (arith, c.if-sum-gt65535.true) in
    simp (le-ltb _ _ c.if-septets-lt1.false, lt-ltb _ _ over, c.refused-then-sum-gt65535.ensures)

pub returns : goal.returns
unfolding judged_as verdict
returns c = let within : c.args.sum ≤ 65535 = omega (arith, c.if-sum-gt65535.false) in
    simp (le-ltb _ _ c.if-septets-lt1.false, le-ltb _ _ within, mod-eq_of_lt {n = c.args.sum} {m = 4294967296} (omega (arith, within)))
