-- `reading_of` meets its contract: it looks each field up as the definition does. Assumes nothing.
use Rattle.coding.specs.Inner.{reading_of}
use Rattle.coding.proofs.reading_of.Goals as goal

pub returns : goal.returns
unfolding reading_of
returns c = simp (c.of.ensures.answer, c.notice_at.ensures.answer)
