-- The number is the definition's.
use mathlib.Core.Path.{refl}
use Rattle.wikuay.specs.Calls.{version_gives}
use Rattle.wikuay.proofs.wikuay_version.Goals as goal

pub returns : goal.returns
unfolding version_gives
returns c = record { answer = refl }
