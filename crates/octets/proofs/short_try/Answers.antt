-- `short_try` meets its contract: its test is the definition's. Assumes nothing.
use Rattle.octets.specs.Inner.{short_try}
use borrow.Author.Tests.{eq-eqb, ne_eqb}
use Rattle.octets.proofs.short_try.Goals as goal

pub returns-then-notice-eq0 : goal.returns-then-notice-eq0
unfolding short_try
returns-then-notice-eq0 c = simp (eq-eqb _ _ c.if-notice-eq0.true, c.general_try.ensures.0)

pub returns-else-notice-eq0 : goal.returns-else-notice-eq0
unfolding short_try
returns-else-notice-eq0 c = simp (ne_eqb _ _ c.if-notice-eq0.false)
