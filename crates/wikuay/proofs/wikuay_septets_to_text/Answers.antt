-- `wikuay_septets_to_text` meets its contract: the library's call does, for what the numbers name. Assumes nothing.
use Rattle.wikuay.specs.Calls.{septets_to_text_gives}
use Rattle.wikuay.proofs.wikuay_septets_to_text.Goals as goal

pub returns : goal.returns
unfolding septets_to_text_gives
returns c =
    record { answer = simp (c.filled.ensures.answer, c.septets_to_text.ensures.answer); buffer = c.septets_to_text.ensures.buffer }
