-- All units behind the last that is no CR are CRs. Assumes nothing.
use mathlib.Core.Path.{sym}
use Rattle.std.proofs.Common.{rules}
use Rattle.lists.proofs.Closing.{closing_none, closing_last}
use Rattle.to_units.proofs.kept.Goals as goal

pub returns-in-Some : goal.returns-in-Some
returns-in-Some c = record { answer = sym (closing_last 13 c.args.units.now c.in-Some.last (search rules) (search rules) (search rules)) }

pub returns-in-None : goal.returns-in-None
returns-in-None c = record { answer = sym (closing_none 13 c.args.units.now (search rules)) }
