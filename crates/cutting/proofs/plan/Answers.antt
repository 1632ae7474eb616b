-- `plan` meets its contract: what is measured is what the definition measures. Assumes nothing.
use Prim.Native.Nat.{ℕ}
use mathlib.Core.Bool.{Bool, false}
use mathlib.Core.Path.{sym, ap, ◌∙◌}
use Rattle.letters.specs.declared.Surveyed.{Surveyed}
use Rattle.parted.specs.Cutting.{planned_as}
use Rattle.parted.specs.Inner.{sized_plan}
use Rattle.parted.proofs.Plans.{plan-units, plan-counted, plan-stopped}
use Rattle.cutting.proofs.plan.Goals as goal

pub returns-then-ucs2 : goal.returns-then-ucs2
returns-then-ucs2 c = record {
  answer = let a = c.args in
      c.planned.ensures ∙ plan-units a.units.now ∙ ap (λ (b : Bool). planned_as b a.units.now) (sym c.if-ucs2.true);
}

pub returns-in-Ok : goal.returns-in-Ok
returns-in-Ok c = record {
  answer = let a = c.args in
      let n : ℕ = c.in-Ok.n in
      c.planned-in-Ok.ensures
      ∙ ap (λ (s : Surveyed). sized_plan false s.own n) c.survey-seen.ensures.answer
      ∙ plan-counted a.units.now n (sym c.in-Ok.is ∙ ap (λ (s : Surveyed). s.measured) c.survey-seen.ensures.answer)
      ∙ ap (λ (b : Bool). planned_as b a.units.now) (sym c.if-ucs2.false);
}

pub returns-in-Err : goal.returns-in-Err
returns-in-Err c = record {
  answer = let a = c.args in
      plan-stopped a.units.now _ (sym c.in-Err.is ∙ ap (λ (s : Surveyed). s.measured) c.survey-seen.ensures.answer)
      ∙ ap (λ (b : Bool). planned_as b a.units.now) (sym c.if-ucs2.false);
}
