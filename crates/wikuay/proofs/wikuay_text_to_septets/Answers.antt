-- `wikuay_text_to_septets` meets its contract: the library's call does, for what the numbers name. Assumes nothing.
use Rattle.wikuay.specs.Calls.{text_to_septets_gives}
use Rattle.wikuay.proofs.wikuay_text_to_septets.Goals as goal

pub returns : goal.returns
unfolding text_to_septets_gives
returns c =
    record { answer = simp (c.filled.ensures.answer, c.text_to_septets.ensures.answer); buffer = c.text_to_septets.ensures.buffer }
