-- Each octet stands above those before it.
use Rattle.stream.proofs.Ends.{eight-joined}
use Rattle.packing.proofs.pieces.join_eight.Goals as goal

pub returns : goal.returns
returns c = let a = c.args in
    eight-joined a.octets.now a.at _ _ _ _ _ _ _ _ (λ k. (c.type_inv.octets k).fits) c.requires
    c.wide.ensures c.wide-2.ensures c.wide-3.ensures c.wide-4.ensures c.wide-5.ensures c.wide-6.ensures c.wide-7.ensures c.wide-8.ensures
