-- `to_septets::judged` meets its contract: its tests are the rules, in their order.
-- Assumes nothing.
use borrow.Author.Tests.{lt-ltb, le-ltb}
use Rattle.words.specs.Judging.{verdict}
use Rattle.letters.specs.Inner.{told_rules}
use Rattle.to_septets.proofs.judged.Goals as goal

pub returns-then-units-len : goal.returns-then-units-len
unfolding told_rules verdict
returns-then-units-len c = simp (lt-ltb _ _ c.if-units-len.true)

pub returns-then-n-gt184 : goal.returns-then-n-gt184
unfolding told_rules verdict
returns-then-n-gt184 c = simp (le-ltb _ _ c.if-units-len.false, lt-ltb _ _ c.if-n-gt184.true)

pub returns : goal.returns
unfolding told_rules verdict
returns c = simp (le-ltb _ _ c.if-units-len.false, le-ltb _ _ c.if-n-gt184.false)
