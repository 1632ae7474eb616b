use mathlib.Core.Path.{◌∙◌, sym, ap}
use Prim.Native.Nat.{ℕ, ◌+◌}
use native.Mathlib.Omega.{arith}
use Rattle.metered.specs.declared.Meter.{Meter}
use Rattle.metered.specs.Inner.{judged_as}
use Rattle.metered.proofs.Keys.{added-judged}
use Rattle.meter.proofs.added.Goals as goal

pub overflow_add-used : goal.overflow_add-used
overflow_add-used c = record { fits = omega (arith, c.septets_of-septets.ensures.1) }

pub returns : goal.returns
returns c = record {
  answer = let m : Meter = c.args.meter in
      c.judged.ensures ∙ ap (λ (n : ℕ). judged_as m n (m.used + n)) c.septets_of-septets.ensures.0 ∙ sym (added-judged m c.args.unit);
}
