-- `encode_run` meets its contract: so many units take so many septets at least, or they are all there are. Assumes nothing.
use mathlib.Core.Path.{◌≡◌}
use mathlib.Core.Logic.{◌⊎◌, inl, inr}
use Prim.Native.Nat.{ℕ, ◌-◌, ◌≤◌}
use native.Mathlib.Decide.{dec_le}
use native.Mathlib.Omega.{arith}
use lib.ListN.{length}
use Rattle.parted.proofs.WriteSteps.{encode-run}
use Rattle.parts.proofs.encode_run.Goals as goal

pub returns : goal.returns
returns c = let a = c.args in
    let few : ℕ = c.min-few.result in
    let left : ℕ = length a.units.now - a.unit in
    -- as many units as are left, or as the run has septets
    let known : (few ≤ left) × ((few ≡ left) ⊎ (a.n ≤ few)) =
    elim (dec_le a.n left) [ yes h ↦ (omega (arith, c.min-few.ensures), inr (omega (arith, c.min-few.ensures))) | no h ↦ (omega (arith, c.min-few.ensures), inl (omega (arith, c.min-few.ensures))) ] in
    encode-run a.units.now a.septets.now a.unit a.at a.n few c.requires.0 c.requires.2 c.requires.4 known.0 known.1 _ c.encode.ensures.buffer
