-- What is settled of the reading decides, and then the text by itself. Assumes nothing.
use mathlib.Core.Path.{◌∙◌}
use borrow.Author.Rules.{rules}
use Rattle.parts.proofs.Settled.{part-text, part-refused}
use Rattle.words.proofs.Clauses.{passed}
use Rattle.parts.proofs.write_part.Goals as goal

pub returns-in_err-coding : goal.returns-in_err-coding
returns-in_err-coding c = let a = c.args in
    passed (search rules) (part-refused a.reading a.units.now _ c.in_err-coding.ensures.answer a.reference a.number a.out.now)

pub returns : goal.returns
returns c = let a = c.args in
    let w = part-text a.reading a.units.now _ c.in_ok-coding.ensures.answer a.reference a.number a.out.now in
    record { answer = c.write_one.ensures.answer ∙ w.0; buffer = c.write_one.ensures.buffer ∙ w.1 }
