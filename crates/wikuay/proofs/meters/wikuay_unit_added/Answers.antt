-- `wikuay_unit_added` meets its contract: the library's call does, for the record that the numbers name. Assumes nothing.
use mathlib.Core.Path.{sym}
use Rattle.wikuay.specs.MeterCalls.{unit_added_gives}
use Rattle.wikuay.proofs.meters.wikuay_unit_added.Goals as goal

pub returns : goal.returns
unfolding unit_added_gives
returns c = record { answer = simp (c.shown.ensures, c.added.ensures.answer, sym c.in-Some.ensures) }

pub returns-in_default : goal.returns-in_default
unfolding unit_added_gives
returns-in_default c = record { answer = simp (c.unnamed.ensures, sym c.in_default.ensures) }
