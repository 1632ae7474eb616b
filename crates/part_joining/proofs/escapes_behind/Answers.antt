-- Behind the last septet that is no escape, or from the beginning, escapes alone stand. Assumes nothing.
use Rattle.std.proofs.Common.{rules}
use Rattle.parted.proofs.OpenRuns.{open-behind, open-all}
use Rattle.part_joining.proofs.escapes_behind.Goals as goal

pub returns-in-Some : goal.returns-in-Some
returns-in-Some c = open-behind c.args.run.now c.in-Some.last (search rules) (search rules) (search rules)

pub returns-in-None : goal.returns-in-None
returns-in-None c = open-all c.args.run.now (search rules)
