-- The groups passed are laid over the front of out, and each turn stores the next group right after them.
use Prim.Native.Nat.{◌*◌, ◌^◌}
use mathlib.Core.Path.{◌≡◌}
use lib.ListN.{take}
use Rattle.lists.specs.Lists.{laid}
use Rattle.stream.specs.Digits.{value, digits, low_of}
use Rattle.packing.proofs.pieces.recut.Given as goal

abbrev pub invariant-loop-g : goal.invariant-loop-g
invariant-loop-g g l =
    let w = g.R.Regroup.GIVES in
    let u = g.R.Regroup.TAKES in
    l.out ≡ laid (digits (2 ^ u) (w * l.g) (value (2 ^ w) (take (u * l.g) (low_of w l.pieces)))) l.initial.out
