-- `counted` meets its contract: the unit is a text of its own, whose septets are counted. Assumes nothing.
use mathlib.Core.Path.{◌≡◌, ap, sym, ◌∙◌, subst}
use Prim.Native.Nat.{ℕ, ◌≤◌}
use Rattle.letters.specs.declared.Encoded.{Encoded}
use Rattle.metered.specs.Metered.{unit_septets}
use Rattle.metered.proofs.Keys.{unit-encoded, septets-two}
use Rattle.meter.proofs.counted.Goals as goal

pub returns : goal.returns
returns c = let unit : ℕ = c.args.unit in
    let told : c.encode-told.result.septets ≡ unit_septets unit = ap (λ (e : Encoded). e.septets) c.encode-told.ensures.answer ∙ unit-encoded unit in
    (told, subst (λ (n : ℕ). n ≤ 2) (sym told) (septets-two unit))
