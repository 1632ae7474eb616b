-- The number is the definition.
-- Assumes nothing.
use mathlib.Core.Path.{refl}
use Rattle.headed.specs.Header.{septets_over}
use Rattle.header.proofs.septets_over.Goals as goal

pub returns : goal.returns
unfolding septets_over
returns c = record { answer = refl }
