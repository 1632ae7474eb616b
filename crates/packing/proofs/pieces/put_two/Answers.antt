-- The second octet is the lowest of what is left of the number.
use mathlib.Core.Path.{refl}
use Rattle.stream.proofs.Ends.{put_both}
use borrow.Author.Rules.{rules}
use Rattle.packing.proofs.pieces.put_two.Goals as goal

pub returns : goal.returns
returns c = let a = c.args in
    put_both a.out.now a.at a.v (search rules) 1 1 c.put_one.ensures c.put_one-2.ensures refl
