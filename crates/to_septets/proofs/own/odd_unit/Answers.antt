-- `to_septets::own::odd_unit` meets its contract: its bits are none together where they are none each, and that is the test of the ranges.
-- Assumes nothing.
use lib.Dec.{lit<}
use Rattle.letters.proofs.OwnCodes.{own-by-test}
use Rattle.to_septets.proofs.own.odd_unit.Goals as goal

pub returns : goal.returns
returns c = own-by-test 0xffff c.args.unit (lit< tt) c.saturating_sub.ensures c.saturating_sub-2.ensures c.alike.ensures c.alike-2.ensures
