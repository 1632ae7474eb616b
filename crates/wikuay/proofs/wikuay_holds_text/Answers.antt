-- `wikuay_holds_text` meets its contract: the library's call does, for what the numbers name. Assumes nothing.
use Rattle.wikuay.specs.Calls.{holds_text_gives}
use mathlib.Core.Path.{sym}
use Rattle.wikuay.proofs.wikuay_holds_text.Goals as goal

pub returns : goal.returns
unfolding holds_text_gives
returns c = record { answer = simp (c.held.ensures.answer, c.holds.ensures.answer, sym c.in-Some.ensures.answer) }

pub returns-in_default : goal.returns-in_default
unfolding holds_text_gives
returns-in_default c = record { answer = simp (c.read_refused.ensures.answer, sym c.in_default.ensures.answer) }
