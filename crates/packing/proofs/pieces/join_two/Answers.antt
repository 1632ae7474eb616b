-- The second octet stands above the first.
use Prim.Native.Nat.{ℕ, ◌+◌}
use mathlib.Core.Path.{refl}
use mathlib.Core.List.{List}
use native.Mathlib.Omega.{arith}
use lib.Dec.{lit≤}
use Rattle.lists.proofs.Below.{Below}
use Rattle.stream.proofs.Ends.{octet-one, joined-both}
use Rattle.packing.proofs.pieces.join_two.Goals as goal

pub returns : goal.returns
returns c = let a = c.args in
    let o : List ℕ = a.octets.now in
    let below : Below 256 o = λ k. (c.type_inv.octets k).fits in
    joined-both o (a.at + 1 + 1) below (omega arith) a.at 1 1 (octet-one o (a.at + 1) (omega arith) c.wide.ensures) (octet-one o a.at (omega arith) c.wide-2.ensures) refl (lit≤ tt)
