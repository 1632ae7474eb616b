-- Octets of UCS2 are the count, and septets take seven bits of an octet each. Assumes nothing.
use native.Mathlib.Omega.{arith}
use Rattle.stream.specs.Stream.{octets_for}
use Rattle.part_order.proofs.Parts.octets_asked.Goals as goal

pub returns-else-self : goal.returns-else-self
unfolding octets_for
returns-else-self c = simp c.if-self.false (c.octets_for.ensures.answer, omega (arith, c.octets_for.ensures.answer, c.ranges.count))
