-- Four octets, the two after them, and the last.
use mathlib.Core.Path.{refl}
use Rattle.stream.proofs.Ends.{put_both}
use borrow.Author.Rules.{rules}
use Rattle.packing.proofs.pieces.put_seven.Goals as goal

pub returns : goal.returns
returns c = let a = c.args in
    put_both a.out.now a.at a.v (search rules) 6 1
    (put_both a.out.now a.at a.v (search rules) 4 2 c.put_four.ensures c.put_two.ensures refl)
    c.put_one.ensures
    refl
