-- `read_units` meets its contract: evenness is judged before the room, and all units have room. Assumes nothing.
use mathlib.Core.Path.{ap, ◌∙◌}
use Rattle.std.specs.Prelude.{Ok}
use Rattle.parted.proofs.ReadSteps.{units-odd, units-short, units-tail}
use Rattle.words.proofs.Clauses.{answered}
use Rattle.part_reading.proofs.read_units.Goals as goal

pub returns-then-behind-eq1 : goal.returns-then-behind-eq1
returns-then-behind-eq1 c = answered (units-odd c.args.behind.now c.args.out.now c.if-behind-eq1.true)

pub returns-then-out-behind : goal.returns-then-out-behind
returns-then-out-behind c = answered (units-short c.args.behind.now c.args.out.now c.if-behind-eq1.false c.if-out-behind.true)

pub returns : goal.returns
returns c = let u = units-tail c.args.behind.now c.args.out.now c.if-behind-eq1.false c.if-out-behind.false in
    answered (ap Ok c.lay_units.ensures.answer ∙ u.0, c.lay_units.ensures.buffer ∙ u.1)
