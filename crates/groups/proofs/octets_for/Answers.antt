-- n less n/8 is 7n/8 rounded up.
use native.Mathlib.Omega.{arith}
use Rattle.stream.specs.Stream.{octets_for}
use Rattle.groups.proofs.octets_for.Goals as goal

pub returns : goal.returns
unfolding octets_for
returns c = record { answer = omega arith }
