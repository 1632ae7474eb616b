-- UCS2 is counted by its units, 7-bit text by what it measures. Assumes nothing.
use mathlib.Core.Path.{sym, ap, ◌∙◌}
use mathlib.Core.Bool.{Bool}
use Rattle.letters.specs.declared.Surveyed.{Surveyed}
use Rattle.pages.specs.Inner.{sized_as}
use Rattle.pages.proofs.Steps.{sized-units, measured-sized}
use Rattle.paging.proofs.text_pages.Goals as goal
use Rattle.std.specs.Prelude.{Ok, Err}

pub returns-then-ucs2 : goal.returns-then-ucs2
returns-then-ucs2 c = let a = c.args in
    c.paged.ensures ∙ sym (sized-units a.units.now) ∙ ap (λ (b : Bool). sized_as b a.units.now) (sym c.if-ucs2.true)

pub returns-in-Ok : goal.returns-in-Ok
returns-in-Ok c = let a = c.args in
    c.paged-in-Ok.ensures
    ∙ measured-sized a.units.now (Ok c.in-Ok.n) (sym c.in-Ok.is ∙ ap (λ (s : Surveyed). s.measured) c.survey.ensures.answer)
    ∙ ap (λ (b : Bool). sized_as b a.units.now) (sym c.if-ucs2.false)

pub returns-in-Err : goal.returns-in-Err
returns-in-Err c = let a = c.args in
    measured-sized a.units.now (Err c.in-Err.unit) (sym c.in-Err.is ∙ ap (λ (s : Surveyed). s.measured) c.survey.ensures.answer)
    ∙ ap (λ (b : Bool). sized_as b a.units.now) (sym c.if-ucs2.false)
