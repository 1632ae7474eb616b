-- `codes::look` meets its contract: what is left of the codes answers as all of them do.
-- Assumes nothing.
use mathlib.Core.Path.{◌≡◌}
use Prim.Native.Nat.{ℕ}
use Rattle.codes.specs.Inner.{codes_in, looked, ShowsBy}
use Rattle.codes.proofs.look.Given as goal

abbrev pub invariant-loop-left : goal.invariant-loop-left
invariant-loop-left g l = (f : ℕ → ℕ) → ShowsBy g.F.Fn l.table f → looked f (codes_in l.left) l.unit ≡ looked f (codes_in l.codes) l.unit

abbrev pub decreases-loop-left : goal.decreases-loop-left
decreases-loop-left g l = l.left
