-- The text of each run is stored right behind that of the runs before it. Assumes nothing.
use mathlib.Core.Path.{◌≡◌}
use lib.ListN.{length}
use Rattle.lists.specs.Lists.{laid}
use Rattle.letters.specs.Reading.{text_of}
use Rattle.parted.specs.InnerJoined.{read_up_to, open_up_to}
use Rattle.part_joining.proofs.Ordered.join_septets.Given as goal

abbrev pub invariant-loop-k : goal.invariant-loop-k
invariant-loop-k l = (l.at ≡ length (text_of (read_up_to l.self.parts.counts.now l.self.parts.octets.now l.k))) × (l.half ≡ open_up_to l.self.parts.counts.now l.self.parts.octets.now l.k) × (length l.out ≡ length l.initial.out) × (l.out ≡ laid (text_of (read_up_to l.self.parts.counts.now l.self.parts.octets.now l.k)) l.initial.out)
