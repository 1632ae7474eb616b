-- What the reading holds says how the text is joined. Assumes nothing.
use mathlib.Core.Path.{◌∙◌}
use borrow.Author.Rules.{rules}
use Rattle.parted.proofs.JoinSteps.{held-joins, held_none}
use Rattle.words.proofs.Clauses.{answered, passed}
use Rattle.part_joining.proofs.join_held.Goals as goal

pub returns-in_err-held : goal.returns-in_err-held
returns-in_err-held c = let a = c.args in
    passed (search rules) (held_none a.counts.now a.octets.now a.out.now a.reading _ c.in_err-held.ensures.answer)

pub returns : goal.returns
returns c = let a = c.args in
    let s = held-joins a.counts.now a.octets.now a.out.now a.reading _ _ c.is_ucs2.ensures.answer c.in_ok-held.ensures.answer in
    answered (c.join_text.ensures.answer ∙ s.0, c.join_text.ensures.buffer ∙ s.1)
