-- `is_small` meets its contract: each of the 26 letters takes one septet. Assumes nothing.
use borrow.Author.Rules.{rules}
use Rattle.metered.proofs.Keys.{small_one}
use Rattle.meter.proofs.is_small.Goals as goal

pub returns-in-97-to-122 : goal.returns-in-97-to-122
returns-in-97-to-122 c e = small_one c.args.unit (search rules) (search rules)
