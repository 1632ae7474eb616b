-- `to_text::own::copy_septets` meets its contract: one after the other is laid over the front of the buffer.
-- Assumes nothing.
use lib.ListN.{drop}
use Rattle.lists.proofs.Laid.{Laying}
use Rattle.to_text.proofs.own.copy_septets.Given as goal

abbrev pub invariant-loop-i : goal.invariant-loop-i
invariant-loop-i l = Laying l.initial.out l.septets (drop l.i l.septets) l.i l.out
