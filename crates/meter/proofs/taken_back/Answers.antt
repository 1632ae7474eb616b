use mathlib.Core.Path.{◌∙◌, sym, ap}
use Prim.Native.Nat.{ℕ}
use Rattle.metered.specs.declared.Meter.{Meter}
use Rattle.metered.specs.Inner.{less_or, judged_as}
use Rattle.metered.proofs.Keys.{back-judged}
use Rattle.meter.proofs.taken_back.Goals as goal

pub returns : goal.returns
returns c = record {
  answer = let m : Meter = c.args.meter in
      c.judged.ensures
      ∙ ap (λ (n : ℕ). judged_as m c.septets_of-septets.result n) c.less.ensures
      ∙ ap (λ (n : ℕ). judged_as m n (less_or m.used n)) c.septets_of-septets.ensures.0
      ∙ sym (back-judged m c.args.unit);
}
