-- `to_septets::own::copy_units` meets its contract: one after the other is laid over the front of the buffer.
-- Assumes nothing.
use native.Mathlib.Omega.{arith}
use lib.ListN.{drop_of_length-le}
use Rattle.lists.proofs.Laid.{lay-end}
use Rattle.to_septets.proofs.own.copy_units.Goals as goal

pub returns : goal.returns
returns c = lay-end c.loop-i.invariant (drop_of_length-le c.args.text.now {i = c.loop-i.i} (omega (arith, c.loop-i-test.false)))
