-- What is settled of the reading decides, and then the text by itself. Assumes nothing.
use mathlib.Core.Path.{◌∙◌}
use borrow.Author.Rules.{rules}
use Rattle.paging.proofs.Settled.{builds-text, builds-refused}
use Rattle.paging.proofs.build_page.Goals as goal

pub returns-in_err-coding : goal.returns-in_err-coding
returns-in_err-coding c = let a = c.args in
    record { answer = search rules ∙ builds-refused a.reading a.units.now _ c.in_err-coding.ensures.answer a.sequence a.identifier a.number }

pub returns : goal.returns
returns c = let a = c.args in
    record { answer = c.build_text.ensures ∙ builds-text a.reading a.units.now _ c.in_ok-coding.ensures.answer a.sequence a.identifier a.number }
