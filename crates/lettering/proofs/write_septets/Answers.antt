-- The letters and the text are laid over a page of CR, which is packed; no septet of it is 128 or more. Assumes nothing.
use mathlib.Core.Path.{◌∙◌}
use native.Mathlib.Omega.{arith}
use Rattle.letters.proofs.Theorems.{codable-front}
use Rattle.lettering.proofs.Steps.{write-unlisted, write-over, write-page, told}
use Rattle.lettering.proofs.Arrays.{septets-laid}
use Rattle.words.proofs.Clauses.{answered}
use Rattle.lettering.proofs.write_septets.Goals as goal

pub returns-then-told-units : goal.returns-then-told-units
returns-then-told-units c = let a = c.args in
    answered
    (write-unlisted a.letters a.units.now a.out.now c.requires c.encode-told.result c.encode-told.ensures.answer c.if-told-units.true)

pub returns-then-told-gt90 : goal.returns-then-told-gt90
returns-then-told-gt90 c = let a = c.args in
    answered
    (write-over a.letters a.units.now a.out.now c.requires c.encode-told.result c.encode-told.ensures.answer c.if-told-units.false c.if-told-gt90.true)

pub returns : goal.returns
returns c = let a = c.args in
    let d = told a.letters a.units.now a.out.now c.requires c.encode-told.result c.encode-told.ensures.answer c.if-told-units.false in
    let p = septets-laid a.letters a.units.now _ (codable-front a.units.now d.0) (omega (arith, d.1, c.if-told-gt90.false)) c.encode-told.ensures.buffer in
    let w = write-page a.letters a.units.now a.out.now c.requires c.encode-told.result c.encode-told.ensures.answer c.if-told-units.false c.if-told-gt90.false _ p in
    record { answer = c.pack_page.ensures.answer ∙ w.0; buffer = c.pack_page.ensures.buffer ∙ w.1 }
