-- The septets of a run are septets and their text has room, so that all of it is stored. Assumes nothing.
use mathlib.Core.Path.{sym, ◌∙◌}
use Rattle.parted.proofs.JoinSteps.{run-read, run-unrefused}
use Rattle.words.proofs.Clauses.{answered}
use Rattle.part_joining.proofs.read_run.Goals as goal

pub returns-in-Ok : goal.returns-in-Ok
returns-in-Ok c = answered (run-read c.args.run.now c.args.out.now c.requires.0 c.requires.1 _ _ (sym c.in-Ok.is ∙ c.septets_to_text.ensures.answer) c.septets_to_text.ensures.buffer)

pub returns-in-Err : goal.returns-in-Err
returns-in-Err c = answered (absurd (run-unrefused c.args.run.now c.args.out.now c.requires.0 c.requires.1 _ (sym c.in-Err.is ∙ c.septets_to_text.ensures.answer)))
