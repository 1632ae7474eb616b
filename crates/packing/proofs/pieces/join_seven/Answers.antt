-- The last octet stands above two, and the three above four.
use Prim.Native.Nat.{ℕ, ◌+◌}
use mathlib.Core.Path.{◌≡◌, refl, ap, ◌∙◌}
use mathlib.Core.List.{List}
use native.Mathlib.Omega.{arith}
use lib.Dec.{lit≤}
use lib.ListN.{take, drop}
use Rattle.lists.proofs.Below.{Below}
use Rattle.stream.specs.Digits.{value}
use Rattle.stream.proofs.Ends.{octet-one, joined-both}
use Rattle.packing.proofs.pieces.join_seven.Goals as goal

pub returns : goal.returns
returns c = let a = c.args in
    let o : List ℕ = a.octets.now in
    let below : Below 256 o = λ k. (c.type_inv.octets k).fits in
    let six : a.at + 6 ≡ a.at + 4 + 2 = omega arith in
    let last = octet-one o (a.at + 6) (omega arith) c.wide.ensures ∙ ap (λ (k : ℕ). value 256 (take 1 (drop k o))) six in
    joined-both o (a.at + 4 + 3) below (omega arith) a.at 4 3 (joined-both o (a.at + 4 + 2 + 1) below (omega arith) (a.at + 4) 2 1 last c.join_two.ensures refl (lit≤ tt)) c.join_four.ensures refl (lit≤ tt)
