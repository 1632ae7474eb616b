-- `to_text::reading::units_in` meets its contract. The invariant: the units counted and those still to be read are all of them.
-- Assumes nothing.
use mathlib.Core.Path.{ap}
use native.Mathlib.Omega.{arith}
use lib.ListN.{length}
use Rattle.letters.proofs.Septets.{read-over}
use Rattle.to_text.proofs.reading.units_in.Goals as goal

pub returns : goal.returns
returns c = record { answer = let a = c.args in omega (arith, ap length (read-over a.old a.septets.now c.loop-i.i c.loop-i-test.false)) }
