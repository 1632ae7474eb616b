-- What is settled of the reading decides, and then the text by itself. Assumes nothing.
use mathlib.Core.Path.{◌∙◌}
use borrow.Author.Rules.{rules}
use Rattle.words.proofs.Clauses.{passed}
use Rattle.paging.proofs.Settled.{writes-text, writes-refused}
use Rattle.paging.proofs.write_pages.Goals as goal

pub returns-in_err-coding : goal.returns-in_err-coding
returns-in_err-coding c = let a = c.args in
    passed (search rules) (writes-refused a.reading a.units.now _ c.in_err-coding.ensures.answer a.sequence a.identifier a.out.now)

pub returns : goal.returns
returns c = let a = c.args in
    let w = writes-text a.reading a.units.now _ c.in_ok-coding.ensures.answer a.sequence a.identifier a.out.now in
    record { answer = c.write_text.ensures.answer ∙ w.0; buffer = c.write_text.ensures.buffer ∙ w.1 }
