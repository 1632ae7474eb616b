-- `to_septets::own::all_own` meets its contract. The invariant: the bits gathered are none where all that were passed are their own codes.
-- Assumes nothing.
use mathlib.Core.Path.{refl}
use borrow.Author.Rules.{rules}
use Rattle.letters.specs.OwnCodes.{own_text}
use Rattle.letters.proofs.OwnCodes.{more-gathered-front}
use Rattle.to_septets.proofs.own.all_own.Goals as goal

pub loop-unit-init : goal.loop-unit-init
unfolding own_text
loop-unit-init c = refl

pub loop-unit-preserved : goal.loop-unit-preserved
loop-unit-preserved c = more-gathered-front c.args.text.now c.loop-unit.unit-index c.loop-unit.bits c.odd_unit-bits.result (search rules) c.loop-unit.invariant c.odd_unit-bits.ensures
