-- `planned` meets its contract: the count is judged, and goes into the plan. Assumes nothing.
use Prim.Native.Nat.{ℕ}
use mathlib.Core.Path.{sym, ap, ◌∙◌}
use native.Mathlib.Omega.{arith}
use Rattle.parted.proofs.Plans.{sized-over, sized-done}
use Rattle.cutting.proofs.planned.Goals as goal
use Rattle.std.specs.Prelude.{Ok}

pub returns-then-total-gt255 : goal.returns-then-total-gt255
returns-then-total-gt255 c = let a = c.args in sized-over a.ucs2 a.plain a.content (c.parts_for-total.ensures.over c.if-total-gt255.true)

pub returns : goal.returns
returns c = let a = c.args in
    let is = c.parts_for-total.ensures.few c.if-total-gt255.false in
    ap (λ (k : ℕ). Ok (record { ucs2 = a.ucs2; plain = a.plain; total = k; content = a.content })) (sym is)
    ∙ sized-done a.ucs2 a.plain a.content (omega (arith, is, c.if-total-gt255.false))
