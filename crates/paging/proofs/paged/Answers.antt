-- The rounded quotient, but 1 of nothing, is the fewest that hold them. Assumes nothing.
use mathlib.Core.Path.{sym, ap, ◌∙◌}
use Prim.Native.Nat.{ℕ, max}
use native.Mathlib.Omega.{arith}
use Rattle.pages.proofs.Steps.{paged-over, paged-sum}
use Rattle.paging.proofs.paged.Goals as goal

pub returns-then-total-gt15 : goal.returns-then-total-gt15
returns-then-total-gt15 c = let a = c.args in
    sym (paged-over a.room a.n c.max-total.result c.requires.0 (c.max-total.ensures ∙ ap (λ (x : ℕ). max x 1) c.div_ceil.ensures) (omega arith))

pub returns : goal.returns
returns c = let a = c.args in
    sym (paged-sum a.room a.n c.max-total.result c.requires.0 (c.max-total.ensures ∙ ap (λ (x : ℕ). max x 1) c.div_ceil.ensures) (omega arith))
