-- What is settled of the reading decides, and then the text by itself. Assumes nothing.
use mathlib.Core.Path.{ap, ◌∙◌}
use mathlib.Core.Bool.{Bool}
use borrow.Author.Rules.{rules}
use Rattle.pages.specs.Inner.{sized_as}
use Rattle.paging.proofs.Settled.{counts-text, counts-refused}
use Rattle.paging.proofs.count_pages.Goals as goal

pub returns-in_err-coding : goal.returns-in_err-coding
returns-in_err-coding c = record { answer = search rules ∙ counts-refused c.args.reading c.args.units.now _ c.in_err-coding.ensures.answer }

pub returns : goal.returns
returns c = record {
  answer = let a = c.args in
      c.text_pages.ensures ∙ ap (λ (b : Bool). sized_as b a.units.now) c.ucs2.ensures.answer ∙ counts-text a.reading a.units.now _ c.in_ok-coding.ensures.answer;
}
