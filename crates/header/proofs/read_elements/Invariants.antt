-- From one element to the next, with the numbers found so far: what reading answers from there on is what it answers of all.
-- Assumes nothing.
use Prim.Native.Nat.{◌+◌}
use lib.ListN.{length}
use Rattle.headed.proofs.Steps.{Scanned}
use Rattle.header.proofs.read_elements.Given as goal

abbrev pub invariant-loop-identifier : goal.invariant-loop-identifier
invariant-loop-identifier l = Scanned (length l.body + 1) l.body l.rest l.concatenation

abbrev pub decreases-loop-identifier : goal.decreases-loop-identifier
decreases-loop-identifier l = length l.rest
