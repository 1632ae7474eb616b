-- The units of each part are stored right behind those of the numbers before it. Assumes nothing.
use mathlib.Core.Bool.{true}
use mathlib.Core.Path.{◌≡◌}
use lib.ListN.{length}
use Rattle.lists.specs.Lists.{laid}
use Rattle.parted.specs.Joined.{joined_from}
use Rattle.part_joining.proofs.Ordered.join_units.Given as goal

abbrev pub invariant-loop-k : goal.invariant-loop-k
invariant-loop-k l = (l.at ≡ length (joined_from true l.self.parts.counts.now l.self.parts.octets.now 1 l.k)) × (length l.out ≡ length l.initial.out) × (l.out ≡ laid (joined_from true l.self.parts.counts.now l.self.parts.octets.now 1 l.k) l.initial.out)
