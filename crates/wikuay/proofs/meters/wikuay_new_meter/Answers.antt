-- `wikuay_new_meter` meets its contract: a new meter's record is shown as any is. Assumes nothing.
use Rattle.wikuay.specs.MeterCalls.{new_meter_gives}
use Rattle.wikuay.proofs.meters.wikuay_new_meter.Goals as goal

pub returns : goal.returns
unfolding new_meter_gives
returns c = record { answer = c.wikuay_room_left.ensures.answer }
