-- `wikuay_unit_taken_back` meets its contract: the library's call does, for the record that the numbers name. Assumes nothing.
use mathlib.Core.Path.{sym}
use Rattle.wikuay.specs.MeterCalls.{unit_taken_back_gives}
use Rattle.wikuay.proofs.meters.wikuay_unit_taken_back.Goals as goal

pub returns : goal.returns
unfolding unit_taken_back_gives
returns c = record { answer = simp (c.shown.ensures, c.taken_back.ensures.answer, sym c.in-Some.ensures) }

pub returns-in_default : goal.returns-in_default
unfolding unit_taken_back_gives
returns-in_default c = record { answer = simp (c.unnamed.ensures, sym c.in_default.ensures) }
