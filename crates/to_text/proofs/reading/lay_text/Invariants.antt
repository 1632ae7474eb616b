-- `to_text::reading::lay_text` meets its contract. The invariant: the front holds the units read so far, and what is left is the text of the septets not yet read.
-- Assumes nothing.
use Prim.Native.Nat.{◌-◌, ◌≤◌}
use lib.ListN.{length, drop}
use Rattle.lists.proofs.Laid.{Laying}
use Rattle.letters.specs.Reading.{read_as}
use Rattle.to_text.proofs.reading.lay_text.Given as goal

abbrev pub invariant-loop-i : goal.invariant-loop-i
invariant-loop-i l = (l.i ≤ length l.septets) × (l.front ≤ l.i) × (l.n ≤ l.i) × Laying l.initial.out (read_as l.old l.septets) (read_as l.old (drop l.i l.septets)) l.n l.out

abbrev pub decreases-loop-i : goal.decreases-loop-i
decreases-loop-i l = length l.septets - l.i
