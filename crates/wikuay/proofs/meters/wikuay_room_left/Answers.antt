-- `wikuay_room_left` meets its contract: the record that the numbers name is shown as it is. Assumes nothing.
use mathlib.Core.Path.{sym}
use Rattle.wikuay.specs.MeterCalls.{room_left_gives}
use Rattle.wikuay.proofs.meters.wikuay_room_left.Goals as goal

pub returns : goal.returns
unfolding room_left_gives
returns c = record { answer = simp (c.shown.ensures, sym c.in-Some.ensures) }

pub returns-in_default : goal.returns-in_default
unfolding room_left_gives
returns-in_default c = record { answer = simp (c.unnamed.ensures, sym c.in_default.ensures) }
