-- `to_text::old_page_to_text` meets its contract: `read_text` is told to read an old page.
-- Assumes nothing.
use Rattle.letters.specs.Reading.{read_as}
use Rattle.to_text.proofs.old_page_to_text.Goals as goal

pub returns : goal.returns
unfolding read_as
returns c =
    record { answer = c.read_text.ensures.answer; buffer = c.read_text.ensures.buffer }
