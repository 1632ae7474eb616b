-- `to_septets::own::all_own` meets its contract. The invariant: the bits gathered are none where all that were passed are their own codes.
-- Assumes nothing.
use mathlib.Core.Path.{◌≡◌}
use lib.Dec.{eqb}
use lib.ListN.{take}
use Rattle.letters.specs.OwnCodes.{own_text}
use Rattle.to_septets.proofs.own.all_own.Given as goal

abbrev pub invariant-loop-unit : goal.invariant-loop-unit
invariant-loop-unit l = eqb l.bits 0 ≡ own_text (take l.unit-index l.text)
