-- `without` meets its contract by cases. Assumes nothing.
use native.Mathlib.Omega.{arith}
use Rattle.part_joining.proofs.without.Goals as goal

pub returns-then-one : goal.returns-then-one
returns-then-one c = simp c.if-one.true

pub returns : goal.returns
returns c = simp c.if-one.false (omega arith)
