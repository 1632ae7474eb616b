-- After each run the sum is how many units the runs so far read as. Assumes nothing.
use Prim.Native.Nat.{◌*◌, ◌≤◌}
use mathlib.Core.Path.{◌≡◌}
use lib.ListN.{length}
use Rattle.letters.specs.Reading.{text_of}
use Rattle.parted.specs.InnerJoined.{read_up_to, open_up_to}
use Rattle.part_joining.proofs.Ordered.text_length.Given as goal

abbrev pub invariant-loop-k : goal.invariant-loop-k
invariant-loop-k l = (l.n ≡ length (text_of (read_up_to l.self.parts.counts.now l.self.parts.octets.now l.k))) × (l.half ≡ open_up_to l.self.parts.counts.now l.self.parts.octets.now l.k) × (l.n ≤ 160 * l.k)
