-- What the reading holds says how the text is joined.
-- Assumes nothing.
use Rattle.std.proofs.Common.{◌≡◌, ap, ◌∙◌}
use borrow.Author.Rules.{rules}
use Rattle.coding.specs.Holding.{holds_text}
use Rattle.words.specs.declared.Service.TheVariants.{Broadcast}
use Rattle.demands.proofs.Steps.{held_as, held-units}
use Rattle.pages.specs.Inner.{joined_as}
use Rattle.pages.proofs.Joining.{held-joins, held_none}
use Rattle.words.proofs.Clauses.{answered, passed}
use Rattle.joining.proofs.join_held.Goals as goal

pub returns-in_err-text : goal.returns-in_err-text
returns-in_err-text c = let a = c.args in passed (search rules) (held_none a.head a.reading a.blocks.now a.out.now _ c.in_err-text.ensures.answer)

pub returns-in_err-units : goal.returns-in_err-units
returns-in_err-units c = let a = c.args in
    let e : held_as c.is_ucs2.result ≡ holds_text Broadcast a.reading = ap held_as c.is_ucs2.ensures.answer ∙ held-units c.in_ok-text.text ∙ c.in_ok-text.ensures.answer in
    let s = held-joins a.head a.reading a.blocks.now a.out.now c.is_ucs2.result e in
    passed (search rules) (ap (joined_as a.head a.reading) c.in_err-units.ensures.answer ∙ s.0, c.join_text.ensures.buffer ∙ s.1)

pub returns : goal.returns
returns c = let a = c.args in
    let e : held_as c.is_ucs2.result ≡ holds_text Broadcast a.reading = ap held_as c.is_ucs2.ensures.answer ∙ held-units c.in_ok-text.text ∙ c.in_ok-text.ensures.answer in
    let s = held-joins a.head a.reading a.blocks.now a.out.now c.is_ucs2.result e in
    answered (ap (joined_as a.head a.reading) c.in_ok-units.ensures.answer ∙ s.0, c.join_text.ensures.buffer ∙ s.1)
