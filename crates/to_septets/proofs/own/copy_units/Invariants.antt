-- `to_septets::own::copy_units` meets its contract: one after the other is laid over the front of the buffer.
-- Assumes nothing.
use lib.ListN.{drop}
use Rattle.lists.proofs.Laid.{Laying}
use Rattle.to_septets.proofs.own.copy_units.Given as goal

abbrev pub invariant-loop-i : goal.invariant-loop-i
invariant-loop-i l = Laying l.initial.out l.text (drop l.i l.text) l.i l.out
