-- `mark_septets` meets its contract: six octets reach into seven septets. Assumes nothing.
use mathlib.Core.Path.{sym}
use borrow.Author.Tests.{eq-eqb, ne_eqb}
use Rattle.parted.proofs.Rooms.{septets-over-0, septets-over-6}
use Rattle.parts.proofs.mark_septets.Goals as goal

pub returns-then-total-eq1 : goal.returns-then-total-eq1
returns-then-total-eq1 c = simp (eq-eqb _ 1 c.if-total-eq1.true) (sym septets-over-0)

pub returns-else-total-eq1 : goal.returns-else-total-eq1
returns-else-total-eq1 c = simp (ne_eqb _ 1 c.if-total-eq1.false) (sym septets-over-6)
