-- A header that is right gives its numbers, and is not refused. Assumes nothing.
use mathlib.Core.Bool.{true≢false}
use mathlib.Core.Path.{sym, ◌∙◌}
use Rattle.headed.proofs.Steps.{header-told, header-refusal}
use Rattle.part_order.proofs.numbers_in.Goals as goal

pub returns-in-Ok : goal.returns-in-Ok
returns-in-Ok c = (header-told c.args.part.now _ _ (sym c.in-Ok.is ∙ c.read_header.ensures.answer)).2

pub returns-in-Err : goal.returns-in-Err
returns-in-Err c = absurd (true≢false (sym c.requires ∙ (header-refusal c.args.part.now _ (sym c.in-Err.is ∙ c.read_header.ensures.answer)).0))
