-- What is settled of the reading decides, and then the plan of the text. Assumes nothing.
use mathlib.Core.Path.{ap, ◌∙◌}
use mathlib.Core.Bool.{Bool}
use borrow.Author.Rules.{rules}
use Rattle.parted.specs.Cutting.{planned_as}
use Rattle.parted.specs.Inner.{counted_as}
use Rattle.parts.proofs.Settled.{counts-text, counts-refused}
use Rattle.parts.proofs.count_parts.Goals as goal

pub returns-in_err-coding : goal.returns-in_err-coding
returns-in_err-coding c = let a = c.args in record { answer = search rules ∙ counts-refused a.reading a.units.now _ c.in_err-coding.ensures.answer }

pub returns-in_err-plan : goal.returns-in_err-plan
returns-in_err-plan c = record {
  answer = let a = c.args in
      search rules
      ∙ ap counted_as (c.in_err-plan.ensures.answer ∙ ap (λ (b : Bool). planned_as b a.units.now) c.ucs2.ensures.answer)
      ∙ counts-text a.reading a.units.now _ c.in_ok-coding.ensures.answer;
}

pub returns : goal.returns
returns c = record {
  answer = let a = c.args in
      ap counted_as (c.in_ok-plan.ensures.answer ∙ ap (λ (b : Bool). planned_as b a.units.now) c.ucs2.ensures.answer)
      ∙ counts-text a.reading a.units.now _ c.in_ok-coding.ensures.answer;
}
