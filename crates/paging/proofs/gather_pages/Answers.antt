-- The text is encoded in one pass, and what it is encoded into says how many pages it takes. Assumes nothing.
use mathlib.Core.Path.{◌≡◌, refl, sym, ap, ◌∙◌}
use mathlib.Core.Bool.{Bool, true, false}
use borrow.Author.Rules.{rules}
use Rattle.words.specs.declared.Refusal.{Refusal}
use Rattle.pages.specs.Inner.{sized_as}
use Rattle.pages.proofs.Steps.{sized-units, encoded-stopped, encoded-whole, gathered}
use Rattle.paging.specs.declared.Sized.{Sized}
use Rattle.paging.proofs.gather_pages.Goals as goal
use Rattle.std.specs.Prelude.{Result, Ok, Err}

pub returns-in_err-paged : goal.returns-in_err-paged
returns-in_err-paged c = let a = c.args in
    let u : a.ucs2 ≡ true = c.if-ucs2.true in
    let e : ◌≡◌ {A = Result Sized Refusal} c.from_residual.result (Err c.in_err-paged.field-0.0) = search rules in
    simp (e, u) (sized-units a.units.now ∙ sym c.in_err-paged.ensures)

pub returns-then-ucs2 : goal.returns-then-ucs2
returns-then-ucs2 c = let a = c.args in
    let u : a.ucs2 ≡ true = c.if-ucs2.true in
    let e : sized_as true a.units.now ≡ Ok c.in_ok-paged.field-0 = sized-units a.units.now ∙ sym c.in_ok-paged.ensures in
    simp u (e, gathered true a.units.now 0 a.out.now a.out.now c.requires refl refl _ e)

pub returns-then-told-units : goal.returns-then-told-units
returns-then-told-units c = let a = c.args in
    ap (λ (b : Bool). sized_as b a.units.now) c.if-ucs2.false ∙ sym (encoded-stopped a.units.now _ c.encode-told.ensures.answer c.if-told-units.true).0

pub returns-in_err-paged-2 : goal.returns-in_err-paged-2
returns-in_err-paged-2 c = let a = c.args in
    let u : a.ucs2 ≡ false = c.if-ucs2.false in
    let w = encoded-whole a.units.now _ c.encode-told.ensures.answer c.if-told-units.false in
    let e : ◌≡◌ {A = Result Sized Refusal} c.from_residual-in_err-paged-2.result (Err c.in_err-paged-2.field-0.0) = search rules in
    simp (e, u) (sym w.0 ∙ sym c.in_err-paged-2.ensures)

pub returns : goal.returns
returns c = let a = c.args in
    let u : a.ucs2 ≡ false = c.if-ucs2.false in
    let w = encoded-whole a.units.now _ c.encode-told.ensures.answer c.if-told-units.false in
    let e : sized_as false a.units.now ≡ Ok c.in_ok-paged-2.field-0 = sym w.0 ∙ sym c.in_ok-paged-2.ensures in
    simp u (e, gathered false a.units.now _ a.out.now _ c.requires w.1 c.encode-told.ensures.buffer _ e)
