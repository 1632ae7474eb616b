-- The headers passed are right, so that the first that is wrong decides, or at the end whether any part was odd. Assumes nothing.
use Rattle.parted.proofs.OrderSteps.{HeadsPassed}
use Rattle.part_order.proofs.Parts.judge_heads.Given as goal

abbrev pub invariant-loop-count : goal.invariant-loop-count
invariant-loop-count l = HeadsPassed l.self.ucs2 l.self.counts.now l.self.octets.now l.count-index l.at l.all_even
