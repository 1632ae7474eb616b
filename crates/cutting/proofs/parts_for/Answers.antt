-- `parts_for` meets its contract: the test of a lone text and the rounded quotient are the filling rule. Assumes nothing.
use Prim.Native.Nat.{ℕ, ◌+◌, ◌/◌, ◌%◌, ◌<◌, ◌≤◌, min}
use mathlib.Core.Path.{◌≡◌, ap, subst, ◌∙◌}
use native.Mathlib.Omega.{arith}
use Rattle.parted.specs.Parts.{parts_holding}
use Rattle.parted.proofs.Rooms.{parts-alone}
use Rattle.parted.proofs.Plans.{holding-sum, holding-room}
use Rattle.cutting.proofs.parts_for.Goals as goal

pub div_ceil-requires : goal.div_ceil-requires
div_ceil-requires c = omega (arith, c.room_behind-else-n-room_behind.ensures, holding-room c.args.ucs2)

pub returns-then-n-room_behind-clause-few : goal.returns-then-n-room_behind-clause-few
returns-then-n-room_behind-clause-few c = λ few. parts-alone c.args.ucs2 c.args.n (subst (λ (r : ℕ). c.args.n ≤ r) c.room_behind.ensures c.if-n-room_behind.true)

-- what the rounded quotient tells
told : (c : goal.After-div_ceil) → (c.div_ceil.result ≤ 255 → parts_holding c.args.ucs2 c.args.n ≡ c.div_ceil.result) × (255 < c.div_ceil.result → 255 < parts_holding c.args.ucs2 c.args.n)
told c = let a = c.args in
    holding-sum a.ucs2 a.n c.div_ceil.result (subst (λ (r : ℕ). r < a.n) c.room_behind.ensures c.if-n-room_behind.false)
    (c.div_ceil.ensures ∙ ap (λ (r : ℕ). a.n / r + min 1 (a.n % r)) c.room_behind-else-n-room_behind.ensures)

pub returns-else-n-room_behind-clause-few : goal.returns-else-n-room_behind-clause-few
returns-else-n-room_behind-clause-few c = (told c).0

pub returns-else-n-room_behind-clause-over : goal.returns-else-n-room_behind-clause-over
returns-else-n-room_behind-clause-over c = (told c).1
