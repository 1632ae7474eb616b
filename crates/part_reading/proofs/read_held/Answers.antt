-- `read_held` meets its contract: what the reading holds says how the text is read. Assumes nothing.
use mathlib.Core.Path.{ap, ◌∙◌}
use Rattle.demands.proofs.Steps.{held_as, held-units}
use Rattle.parted.specs.Inner.{with_reading}
use Rattle.parted.proofs.ReadSteps.{held-behind, held_none}
use Rattle.words.proofs.Clauses.{answered, passed}
use borrow.Author.Rules.{rules}
use Rattle.part_reading.proofs.read_held.Goals as goal

pub returns-in_err-held : goal.returns-in_err-held
returns-in_err-held c = let a = c.args in
    passed (search rules) (held_none a.marked a.count a.octets.now a.out.now a.reading _ c.in_err-held.ensures.answer)

pub returns-in_err-text : goal.returns-in_err-text
returns-in_err-text c = let a = c.args in
    let s = held-behind a.marked a.count a.octets.now a.out.now a.reading _ (ap held_as c.is_ucs2.ensures.answer ∙ held-units _ ∙ c.in_ok-held.ensures.answer) in
    passed (search rules) (ap (with_reading a.reading) c.in_err-text.ensures.answer ∙ s.0, c.in_err-text.ensures.buffer ∙ s.1)

pub returns : goal.returns
returns c = let a = c.args in
    let s = held-behind a.marked a.count a.octets.now a.out.now a.reading _ (ap held_as c.is_ucs2.ensures.answer ∙ held-units _ ∙ c.in_ok-held.ensures.answer) in
    answered (ap (with_reading a.reading) c.in_ok-text.ensures.answer ∙ s.0, c.in_ok-text.ensures.buffer ∙ s.1)
