-- `Letters::named` meets its contract: one letter after the other. Assumes nothing.
use Rattle.fields.specs.Letters.{are_letters}
use mathlib.Core.Path.{sym, ◌∙◌}
use Rattle.fields.proofs.Letters.named.Goals as goal

pub returns-then-is_letter : goal.returns-then-is_letter
unfolding are_letters
returns-then-is_letter c = record { answer = simp (sym c.is_letter.ensures ∙ c.if-is_letter.true, c.is_letter-then-is_letter.ensures) }

pub returns-else-is_letter : goal.returns-else-is_letter
unfolding are_letters
returns-else-is_letter c = record { answer = simp (c.if-is_letter.false, sym c.is_letter.ensures ∙ c.if-is_letter.false) }
