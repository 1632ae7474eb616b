-- After each part the sum is how much the parts so far hold. Assumes nothing.
use Prim.Native.Nat.{◌*◌, ◌≤◌}
use mathlib.Core.Path.{◌≡◌}
use lib.ListN.{length}
use Rattle.parted.specs.Joined.{joined_from}
use Rattle.part_joining.proofs.Ordered.content_length.Given as goal

abbrev pub invariant-loop-k : goal.invariant-loop-k
invariant-loop-k l = (l.n ≡ length (joined_from l.self.parts.ucs2 l.self.parts.counts.now l.self.parts.octets.now 1 l.k)) × (l.n ≤ 160 * l.k)
