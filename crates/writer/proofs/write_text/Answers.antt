-- `write_text` meets its contract: an old page is refused, UCS2 is written as units, the rest as septets. Assumes nothing.
use Rattle.demands.proofs.Steps.{old-writes, units-write}
use Rattle.demands.specs.Inner.{units_as}
use mathlib.Core.Path.{ap, sym, ◌∙◌}
use borrow.Author.Rules.{rules}
use Rattle.words.proofs.Clauses.{answered, passed}
use Rattle.writer.proofs.write_text.Goals as goal

pub returns-then-is_old_page : goal.returns-then-is_old_page
returns-then-is_old_page c = let a = c.args in
    answered
    (old-writes a.coding.service a.coding.ucs2 a.coding.octet a.units.now a.out.now (sym c.is_old_page.ensures.answer ∙ c.if-is_old_page.true))

pub write_septets-requires : goal.write_septets-requires
write_septets-requires c = sym c.is_old_page.ensures.answer ∙ c.if-is_old_page.false

pub returns-in_err-stored : goal.returns-in_err-stored
returns-in_err-stored c = let a = c.args in
    let s = units-write a.coding.service a.coding.octet a.units.now a.out.now in
    simp c.if-ucs2.true (passed (search rules) (ap (units_as a.coding.service a.coding.octet) c.in_err-stored.ensures.answer ∙ s.0, c.in_err-stored.ensures.buffer ∙ s.1))

pub returns-then-ucs2 : goal.returns-then-ucs2
returns-then-ucs2 c = let a = c.args in
    let s = units-write a.coding.service a.coding.octet a.units.now a.out.now in
    answered
    (simp (c.if-ucs2.true, c.length_count.ensures.answer) (ap (units_as a.coding.service a.coding.octet) c.in_ok-stored.ensures.answer ∙ s.0, c.in_ok-stored.ensures.buffer ∙ s.1))
