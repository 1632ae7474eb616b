-- `to_septets::low_octets` meets its contract: one low octet after the other is laid over the front of the buffer, up to the shorter end.
-- Assumes nothing.
use lib.ListN.{take, drop}
use Rattle.lists.proofs.Laid.{Laying}
use Rattle.letters.specs.OwnCodes.{low_octets}
use Rattle.to_septets.proofs.low_octets.Given as goal

abbrev pub invariant-loop-i : goal.invariant-loop-i
invariant-loop-i l = Laying l.initial.out (take l.n (low_octets l.text)) (drop l.i (take l.n (low_octets l.text))) l.i l.out
