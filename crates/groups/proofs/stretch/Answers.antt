-- The three steps move the septets apart.
use Rattle.stream.proofs.Folds.{moved-apart}
use Rattle.groups.proofs.stretch.Goals as goal

pub returns : goal.returns
returns c = record { answer = moved-apart c.args.v }
