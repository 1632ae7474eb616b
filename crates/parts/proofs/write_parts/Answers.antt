-- What is settled of the reading decides, and then the text by itself. Assumes nothing.
use mathlib.Core.Path.{◌∙◌}
use borrow.Author.Rules.{rules}
use Rattle.parts.proofs.Settled.{parts-text, parts-refused}
use Rattle.parts.proofs.write_parts.Goals as goal

pub returns-in_err-coding : goal.returns-in_err-coding
returns-in_err-coding c = let a = c.args in
    let w = parts-refused a.reading a.units.now _ c.in_err-coding.ensures.answer a.reference a.out.now a.sizes.now in
    record { answer = search rules ∙ w.0; buffer = w.1.0; sizes = w.1.1 }

pub returns : goal.returns
returns c = let a = c.args in
    let w = parts-text a.reading a.units.now _ c.in_ok-coding.ensures.answer a.reference a.out.now a.sizes.now in
    record { answer = c.write_all.ensures.answer ∙ w.0; buffer = c.write_all.ensures.buffer ∙ w.1.0; sizes = c.write_all.ensures.sizes ∙ w.1.1 }
