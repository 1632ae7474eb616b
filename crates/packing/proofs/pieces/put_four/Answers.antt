-- Two octets, and the two after them.
use mathlib.Core.Path.{refl}
use Rattle.stream.proofs.Ends.{put_both}
use borrow.Author.Rules.{rules}
use Rattle.packing.proofs.pieces.put_four.Goals as goal

pub returns : goal.returns
returns c = let a = c.args in
    put_both a.out.now a.at a.v (search rules) 2 2 c.put_two.ensures c.put_two-2.ensures refl
