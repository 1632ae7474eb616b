-- `read_run` meets its contract: each call reads by the alphabet that its service has. Assumes nothing.
use mathlib.Core.Path.{◌∙◌, sym}
use Rattle.letters.specs.Reading.{read_as}
use Rattle.words.proofs.Clauses.{answered}
use Rattle.reader.proofs.read_run.Goals as goal

pub returns-then-is_old_page : goal.returns-then-is_old_page
unfolding read_as
returns-then-is_old_page c = answered (rw (sym c.is_old_page.ensures.answer ∙ c.if-is_old_page.true) (c.old_page_to_text.ensures.answer, c.old_page_to_text.ensures.buffer))

pub returns : goal.returns
unfolding read_as
returns c = answered (rw (sym c.is_old_page.ensures.answer ∙ c.if-is_old_page.false) (c.septets_to_text.ensures.answer, c.septets_to_text.ensures.buffer))
