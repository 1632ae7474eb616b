-- `wikuay_meter_cleared` meets its contract: the library's call does, for the record that the numbers name. Assumes nothing.
use mathlib.Core.Path.{sym}
use Rattle.wikuay.specs.MeterCalls.{meter_cleared_gives}
use Rattle.wikuay.proofs.meters.wikuay_meter_cleared.Goals as goal

pub returns : goal.returns
unfolding meter_cleared_gives
returns c = record { answer = simp (c.shown.ensures, c.cleared.ensures.answer, sym c.in-Some.ensures) }

pub returns-in_default : goal.returns-in_default
unfolding meter_cleared_gives
returns-in_default c = record { answer = simp (c.unnamed.ensures, sym c.in_default.ensures) }
