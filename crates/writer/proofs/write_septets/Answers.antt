-- `write_septets` meets its contract: the septets of a text that is gathered stand in the array, and packing them from there is writing the text. Assumes nothing.
use Rattle.demands.proofs.Septets.{array-writes, gathered-writes}
use Rattle.letters.proofs.Gathering.{gathered-done}
use Rattle.demands.specs.Inner.{packed_as}
use mathlib.Core.Path.{ap, ◌∙◌, sym}
use borrow.Author.Rules.{rules}
use Rattle.words.proofs.Clauses.{passed}
use Rattle.writer.proofs.write_septets.Goals as goal

pub returns-in_err-n : goal.returns-in_err-n
returns-in_err-n c = let a = c.args in
    passed (search rules) (gathered-writes a.service a.units.now c.requires _ c.gather-gathered.ensures.answer _ (sym c.in_err-n.was) a.code a.out.now)

pub returns-in_err-packed : goal.returns-in_err-packed
returns-in_err-packed c = let a = c.args in
    let d = gathered-done a.units.now _ c.gather-gathered.ensures.answer _ (sym c.in_ok-n.was) in
    let w = array-writes a.service a.units.now d.0 _ d.3 c.requires a.code a.out.now _ d.1 in
    passed (search rules) (ap (packed_as a.code) c.in_err-packed.ensures.answer ∙ w.0, c.in_err-packed.ensures.buffer ∙ w.1)

pub returns : goal.returns
returns c = let a = c.args in
    let d = gathered-done a.units.now _ c.gather-gathered.ensures.answer _ (sym c.in_ok-n.was) in
    let w = array-writes a.service a.units.now d.0 _ d.3 c.requires a.code a.out.now _ d.1 in
    record { answer = ap (packed_as a.code) c.in_ok-packed.ensures.answer ∙ w.0; buffer = c.in_ok-packed.ensures.buffer ∙ w.1 }
