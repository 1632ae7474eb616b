use Rattle.metered.proofs.Keys.{clear-keyed}
use Rattle.meter.proofs.cleared.Goals as goal

pub returns : goal.returns
returns c = record { answer = simp (c.new_meter-empty.ensures.answer, clear-keyed) }
