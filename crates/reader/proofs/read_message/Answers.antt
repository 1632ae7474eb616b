-- `read_message` meets its contract: the coding octet is refused, or its reading decides the rules that are left. Assumes nothing.
use Rattle.demands.proofs.Steps.{read_done, read-refused}
use Rattle.demands.proofs.LetteredSteps.{lettered-reads}
use mathlib.Core.Path.{sym, ◌∙◌}
use borrow.Author.Rules.{rules}
use Rattle.words.proofs.Clauses.{passed}
use Rattle.reader.proofs.read_message.Goals as goal

pub returns-in_err-reading : goal.returns-in_err-reading
returns-in_err-reading c = let a = c.args in
    passed (search rules) (read-refused a.service a.coding a.count a.octets.now _ a.out.now c.in_err-reading.ensures.answer)

pub returns-then-lettered : goal.returns-then-lettered
returns-then-lettered c = let a = c.args in
    let s = lettered-reads a.service a.coding a.count a.octets.now a.out.now c.in_ok-reading.reading (search rules) c.in_ok-reading.ensures.answer (sym c.if-lettered.ensures.answer) in
    record { answer = c.read_page.ensures.answer ∙ s.0; buffer = c.read_page.ensures.buffer ∙ s.1 }

pub returns : goal.returns
returns c = let a = c.args in
    let s = read_done a.service a.coding a.count a.octets.now c.in_ok-reading.reading a.out.now c.in_ok-reading.ensures.answer (sym c.lettered.ensures.answer ∙ c.if-lettered.false) in
    record { answer = c.read_held.ensures.answer ∙ s.0; buffer = c.read_held.ensures.buffer ∙ s.1 }
