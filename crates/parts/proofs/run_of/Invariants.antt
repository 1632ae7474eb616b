-- `run_of` meets its contract: each septet that is no escape is counted, and the last tells whether a pair is open. Assumes nothing.
use mathlib.Core.Path.{◌≡◌}
use lib.ListN.{take}
use Rattle.parted.specs.Inner.{codes_in}
use Rattle.parts.proofs.run_of.Given as goal

abbrev pub invariant-loop-septet : goal.invariant-loop-septet
invariant-loop-septet l = l.codes ≡ codes_in (take l.septet-index l.septets)
