-- `read_held` meets its contract: what the reading holds says how the text is read. Assumes nothing.
use Rattle.demands.proofs.Steps.{held-text, held-refused, held_as, held-units}
use Rattle.demands.specs.Inner.{shown_as}
use mathlib.Core.Path.{ap, sym, ◌∙◌}
use borrow.Author.Rules.{rules}
use Rattle.words.proofs.Clauses.{passed}
use Rattle.reader.proofs.read_held.Goals as goal

pub returns-in_err-text : goal.returns-in_err-text
returns-in_err-text c = let a = c.args in
    passed (search rules) (held-refused a.service a.reading a.count a.octets.now a.out.now _ c.in_err-text.ensures.answer)

pub returns-in_err-units : goal.returns-in_err-units
returns-in_err-units c = let a = c.args in
    let s = held-text a.service a.reading a.count a.octets.now a.out.now c.is_ucs2.result (ap held_as c.is_ucs2.ensures.answer ∙ held-units _ ∙ c.in_ok-text.ensures.answer) in
    passed (search rules) (ap (shown_as a.reading) c.in_err-units.ensures.answer ∙ s.0, c.in_err-units.ensures.buffer ∙ s.1)

pub returns : goal.returns
returns c = let a = c.args in
    let s = held-text a.service a.reading a.count a.octets.now a.out.now c.is_ucs2.result (ap held_as c.is_ucs2.ensures.answer ∙ held-units _ ∙ c.in_ok-text.ensures.answer) in
    record { answer = ap (shown_as a.reading) c.in_ok-units.ensures.answer ∙ s.0; buffer = c.in_ok-units.ensures.buffer ∙ s.1 }
