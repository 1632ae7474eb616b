-- `to_text::own::copy_septets` meets its contract: one after the other is laid over the front of the buffer.
-- Assumes nothing.
use native.Mathlib.Omega.{arith}
use lib.ListN.{drop_of_length-le}
use Rattle.lists.proofs.Laid.{lay-end}
use Rattle.to_text.proofs.own.copy_septets.Goals as goal

pub returns : goal.returns
returns c = lay-end c.loop-i.invariant (drop_of_length-le c.args.septets.now {i = c.loop-i.i} (omega (arith, c.loop-i-test.false)))
