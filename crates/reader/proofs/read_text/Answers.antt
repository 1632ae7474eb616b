-- `read_text` meets its contract: UCS2 is read as units, the rest by septets. Assumes nothing.
use Rattle.demands.proofs.Steps.{units-read}
use mathlib.Core.Path.{◌∙◌}
use Rattle.words.proofs.Clauses.{answered}
use Rattle.reader.proofs.read_text.Goals as goal

pub returns-then-ucs2 : goal.returns-then-ucs2
returns-then-ucs2 c = let e = c.if-ucs2.true in
    let a = c.args in
    let s = units-read a.service a.count a.octets.now a.out.now in
    answered
    (simp e (c.octets_to_units.ensures.answer ∙ s.0, c.octets_to_units.ensures.buffer ∙ s.1))
