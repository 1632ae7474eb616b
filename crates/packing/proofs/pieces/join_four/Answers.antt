-- The second two octets stand above the first two.
use Prim.Native.Nat.{ℕ, ◌+◌}
use mathlib.Core.Path.{refl}
use mathlib.Core.List.{List}
use native.Mathlib.Omega.{arith}
use lib.Dec.{lit≤}
use Rattle.lists.proofs.Below.{Below}
use Rattle.stream.proofs.Ends.{joined-both}
use Rattle.packing.proofs.pieces.join_four.Goals as goal

pub returns : goal.returns
returns c = let a = c.args in
    let o : List ℕ = a.octets.now in
    let below : Below 256 o = λ k. (c.type_inv.octets k).fits in
    joined-both o (a.at + 2 + 2) below (omega arith) a.at 2 2 c.join_two.ensures c.join_two-2.ensures refl (lit≤ tt)
