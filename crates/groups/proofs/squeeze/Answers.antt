-- The three steps move the septets together.
use native.Mathlib.Omega.{arith}
use Rattle.stream.proofs.Folds.{moved-together}
use Rattle.groups.proofs.squeeze.Goals as goal

pub returns : goal.returns
returns c = record { answer = moved-together c.args.x (omega arith) }
