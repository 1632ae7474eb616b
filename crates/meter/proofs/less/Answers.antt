use borrow.Author.Tests.{lt-ltb, le-ltb}
use Rattle.metered.specs.Inner.{less_or}
use Rattle.meter.proofs.less.Goals as goal

pub returns-then-used-septets : goal.returns-then-used-septets
unfolding less_or
returns-then-used-septets c = simp (lt-ltb _ _ c.if-used-septets.true)

pub returns : goal.returns
unfolding less_or
returns c = simp (le-ltb _ _ c.if-used-septets.false)
