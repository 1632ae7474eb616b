-- Four octets, and the four after them.
use mathlib.Core.Path.{refl}
use Rattle.stream.proofs.Ends.{put_both}
use borrow.Author.Rules.{rules}
use Rattle.packing.proofs.pieces.put_eight.Goals as goal

pub returns : goal.returns
returns c = let a = c.args in
    put_both a.out.now a.at a.v (search rules) 4 4 c.put_four.ensures c.put_four-2.ensures refl
