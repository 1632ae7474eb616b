-- `Letters::given` meets its contract: its tests are the definition's. Assumes nothing.
use Rattle.fields.specs.Letters.{any_letter}
use borrow.Author.Tests.{eq-eqb, ne_eqb}
use Rattle.fields.proofs.Letters.given.Goals as goal

pub returns-then-self-ne0 : goal.returns-then-self-ne0
unfolding any_letter
returns-then-self-ne0 c = record { answer = simp (ne_eqb _ _ c.if-self-ne0.true) }

pub returns-else-self-ne0 : goal.returns-else-self-ne0
unfolding any_letter
returns-else-self-ne0 c = record { answer = simp (eq-eqb _ _ c.if-self-ne0.false) }
