-- `to_text::reading::units_in` meets its contract. The invariant: the units counted and those still to be read are all of them.
-- Assumes nothing.
use mathlib.Core.Path.{◌≡◌}
use Prim.Native.Nat.{◌+◌, ◌-◌, ◌≤◌}
use lib.ListN.{length, drop}
use Rattle.letters.specs.Reading.{read_as}
use Rattle.to_text.proofs.reading.units_in.Given as goal

abbrev pub invariant-loop-i : goal.invariant-loop-i
invariant-loop-i l = (l.i ≤ length l.septets) × (l.n ≤ l.i) × (l.n + length (read_as l.old (drop l.i l.septets)) ≡ length (read_as l.old l.septets))

abbrev pub decreases-loop-i : goal.decreases-loop-i
decreases-loop-i l = length l.septets - l.i
