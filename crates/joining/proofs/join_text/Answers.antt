-- Where the pages have no order they are wrong; the rest is joined as UCS2 or by septets.
-- Assumes nothing.
use Rattle.std.proofs.Common.{rules}
use Rattle.pages.proofs.Joining.{order-right, order-wrong}
use Rattle.words.proofs.Clauses.{answered}
use Rattle.joining.proofs.join_text.Goals as goal

pub returns-in_default : goal.returns-in_default
returns-in_default c = answered (order-wrong c.args.blocks.now c.args.ucs2 c.args.out.now c.requires.0 c.in_default.ensures.answer)

pub invariant_of-pages : goal.invariant_of-pages
invariant_of-pages c = let right = order-right c.args.blocks.now _ c.in-Some.ensures.answer in
    record { octets = λ k. search rules; right = right.0; counted = c.requires.1; placed = right.1 }

pub invariant_of-pages-else-ucs2 : goal.invariant_of-pages-else-ucs2
invariant_of-pages-else-ucs2 c = let right = order-right c.args.blocks.now _ c.in-Some.ensures.answer in
    record { octets = λ k. search rules; right = right.0; counted = c.requires.1; placed = right.1 }
