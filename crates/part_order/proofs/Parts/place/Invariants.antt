-- After each part the tables hold the places of the numbers and the starts so far: a number that has a place already is there twice, and in the end the
-- tables are the defined ones. Assumes nothing.
use mathlib.Core.Path.{◌≡◌}
use Rattle.parted.specs.Joined.{start_at}
use Rattle.parted.proofs.OrderSteps.{PartsPlaced, Starting}
use Rattle.part_order.proofs.Parts.place.Given as goal

abbrev pub invariant-loop-i : goal.invariant-loop-i
invariant-loop-i l =
    (l.at ≡ start_at l.self.ucs2 l.self.counts.now l.i)
    × PartsPlaced l.self.ucs2 l.self.counts.now l.self.octets.now l.i l.tables.places
    × Starting l.self.ucs2 l.self.counts.now l.self.octets.now l.i l.tables.starts
