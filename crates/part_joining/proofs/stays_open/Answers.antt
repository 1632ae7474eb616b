-- Of the last run none is left, and of another as many as stand at its end say. Assumes nothing.
use Rattle.parted.specs.InnerJoined.{run_open}
use Rattle.part_joining.proofs.stays_open.Goals as goal

pub returns-then-not-last : goal.returns-then-not-last
unfolding run_open
returns-then-not-last c = simp c.if-not-last.true c.escapes_behind.ensures

pub returns-else-not-last : goal.returns-else-not-last
unfolding run_open
returns-else-not-last c = simp c.if-not-last.false
