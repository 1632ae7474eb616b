-- The order of the parts settles every rule but the room. Assumes nothing.
use mathlib.Core.Path.{ap, ◌∙◌}
use borrow.Author.Rules.{rules}
use lib.ListN.{length}
use Rattle.parted.specs.InnerJoined.{joined_as}
use Rattle.parted.proofs.JoinSteps.{text-refused, text-sorted-few, text-joins}
use Rattle.words.proofs.Clauses.{answered, passed}
use Rattle.part_joining.proofs.join_text.Goals as goal

pub returns-in_err-reference : goal.returns-in_err-reference
returns-in_err-reference c = let p = c.args.parts.now in
    passed (search rules) (text-refused p.ucs2 p.counts.now p.octets.now c.args.reading c.args.out.now _ c.in_err-reference.ensures.answer)

pub invariant_of-ordered : goal.invariant_of-ordered
invariant_of-ordered c = let p = c.args.parts.now in
    record {
      sorted =
          text-sorted-few p.ucs2 p.counts.now p.octets.now _ c.in_ok-reference.ensures.answer c.in_ok-reference.ensures.few _ _
          c.in_ok-reference.ensures.numbers c.in_ok-reference.ensures.beginnings;
    }

pub returns-in_err-units : goal.returns-in_err-units
returns-in_err-units c = let p = c.args.parts.now in
    let t = text-joins p.ucs2 p.counts.now p.octets.now _ c.in_ok-reference.ensures.answer c.args.reading c.args.out.now in
    passed (search rules) (ap (joined_as c.args.reading c.in_ok-reference.reference (length p.counts.now)) c.in_err-units.ensures.answer ∙ t.0, c.in_err-units.ensures.buffer ∙ t.1)

pub returns : goal.returns
returns c = let p = c.args.parts.now in
    let t = text-joins p.ucs2 p.counts.now p.octets.now _ c.in_ok-reference.ensures.answer c.args.reading c.args.out.now in
    answered (ap (joined_as c.args.reading c.in_ok-reference.reference (length p.counts.now)) c.in_ok-units.ensures.answer ∙ t.0, c.in_ok-units.ensures.buffer ∙ t.1)
