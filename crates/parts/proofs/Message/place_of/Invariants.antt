-- `place_of` meets its contract: each part before it is laid, and tells where the next one begins. Assumes nothing.
use Rattle.parted.proofs.WriteSteps.{Placed, Blank}
use Rattle.parts.proofs.Message.place_of.Given as goal

abbrev pub invariant-loop-j : goal.invariant-loop-j
invariant-loop-j l = Placed l.self.plan l.self.units.now l.j l.place.unit l.place.half × Blank l.self.plan l.septets
