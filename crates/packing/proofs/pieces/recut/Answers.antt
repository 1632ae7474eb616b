-- The groups passed are laid over the front of out, and each turn stores the next group right after them.
use Prim.Native.Nat.{ℕ, ◌≤◌, ◌+◌, ◌*◌, ◌%◌, ◌^◌}
use mathlib.Core.Path.{◌≡◌, ap, ap₂, ◌∙◌}
use mathlib.Core.List.{List, ◌++◌}
use native.Mathlib.Omega.{arith}
use native.Mathlib.Nat.{mul-zero}
use lib.ListN.{length, take, drop, length-map}
use Rattle.lists.specs.Lists.{laid}
use Rattle.lists.proofs.Laid.{laid_then}
use Rattle.stream.specs.Digits.{value, digits, low_of}
use Rattle.stream.proofs.LowBits.{low_below}
use Rattle.stream.proofs.Numbers.{digits-length, group-within, recut-group}
use Rattle.packing.proofs.pieces.recut.Goals as goal

pub loop-g-init : goal.loop-g-init
unfolding laid digits
loop-g-init g c = rw (mul-zero g.R.Regroup.GIVES)

-- one group more, read from i on and stored from j on
next-group : (w u k i j : ℕ) (pieces d out left : List ℕ) → i ≡ u * k → j ≡ w * k → u * k + u ≤ length pieces
    → out ≡ laid (digits (2 ^ u) (w * k) (value (2 ^ w) (take (u * k) (low_of w pieces)))) d
    → left ≡ take j out ++ digits (2 ^ u) w (value (2 ^ w) (take u (drop i (low_of w pieces)))) ++ drop (j + w) out
    → left ≡ laid (digits (2 ^ u) (w * (k + 1)) (value (2 ^ w) (take (u * (k + 1)) (low_of w pieces)))) d
next-group w u k i j pieces d out left from to within held stored =
    let s : List ℕ = low_of w pieces in
    let done : List ℕ = digits (2 ^ u) (w * k) (value (2 ^ w) (take (u * k) s)) in
    let next : ℕ → List ℕ = λ (p : ℕ). digits (2 ^ u) w (value (2 ^ w) (take u (drop p s))) in
    stored
    ∙ ap₂ (λ (p q : ℕ). take q out ++ next p ++ drop (q + w) out) from to
    ∙ ap (λ (o : List ℕ). take (w * k) o ++ next (u * k) ++ drop (w * k + w) o) held
    ∙ laid_then done (next (u * k)) d (w * k) w (digits-length (2 ^ u) (w * k) (value (2 ^ w) (take (u * k) s))) (digits-length (2 ^ u) w (value (2 ^ w) (take u (drop (u * k) s))))
    ∙ ap (λ (o : List ℕ). laid o d) (recut-group w u k s (low_below w pieces) (omega (arith, within, length-map pieces (λ (x : ℕ). x % 2 ^ w))))

pub loop-g-preserved : goal.loop-g-preserved
loop-g-preserved g c =
    let k : ℕ = c.loop-g.g in
    let u : ℕ = g.R.Regroup.TAKES in
    next-group g.R.Regroup.GIVES u k (c.TAKES.result * k) (c.GIVES.result * k) c.args.pieces.now c.args.out.now c.loop-g.out c.group.new.out
    (ap (λ (x : ℕ). x * k) c.TAKES.ensures) (ap (λ (x : ℕ). x * k) c.GIVES.ensures) (omega (arith, group-within u c.loop-g-test.true, c.requires)) c.loop-g.invariant c.group.ensures
