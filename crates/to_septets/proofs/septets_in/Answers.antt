-- `to_septets::septets_in` meets its contract: the units passed are listed, and their septets are counted. Assumes nothing.
use mathlib.Core.Path.{◌≡◌, refl, sym, ap, ◌∙◌, subst}
use mathlib.Core.List.{List}
use Prim.Native.Nat.{ℕ, ◌+◌, ◌*◌, ◌≤◌, ◌<◌}
use native.Mathlib.Omega.{arith}
use lib.ListN.{length}
use borrow.Author.Rules.{rules}
use Rattle.letters.proofs.Counting.{Counted, counted_none, counted-most, counted-more, counted-stops, counted-all, left-long}
use Rattle.to_septets.proofs.septets_in.Goals as goal

-- what is counted ends at a place that is written otherwise
at : {t : List ℕ} {n i j : ℕ} → Counted t n i → i ≡ j → Counted t n j
at {t} {n} e same = subst (λ (k : ℕ). Counted t n k) same e

pub loop-block-init : goal.loop-block-init
loop-block-init c = (at (counted_none c.args.text.now) (omega arith), refl)

pub returns-then-told-few : goal.returns-then-told-few
returns-then-told-few c =
    let i : ℕ = 64 * c.loop-block.block in
    let before : i < length c.args.text.now = omega (arith, c.loop-block-test.true, c.div_ceil-block-end.ensures) in
    sym (counted-stops (at c.loop-block.invariant.0 (omega arith)) c.min-few.result (omega (arith, c.min-few.ensures)) c.encode-told.ensures.answer c.if-told-few.true)

-- the bound on the septets is there for the sum that the edit of the position makes, so that it is refused for its answer
pub overflow_add-result : goal.overflow_add-result
overflow_add-result c =
    let i : ℕ = 64 * c.loop-block.block in
    let before : i < length c.args.text.now = omega (arith, c.loop-block-test.true, c.div_ceil-block-end.ensures) in
    let most = counted-most (at {j = i} c.loop-block.invariant.0 (omega arith)) in
    let u : c.encode-told.result.units < c.min-few.result = c.if-told-few.true in
    let h : i + c.min-few.result ≤ length c.args.text.now = omega (arith, c.min-few.ensures) in
    search rules

pub overflow_add-n : goal.overflow_add-n
overflow_add-n c =
    let i : ℕ = 64 * c.loop-block.block in
    let before : i < length c.args.text.now = omega (arith, c.loop-block-test.true, c.div_ceil-block-end.ensures) in
    let w = counted-most (counted-more (at c.loop-block.invariant.0 (omega arith)) c.min-few.result (omega (arith, c.min-few.ensures)) c.encode-told.ensures.answer c.if-told-few.false) in
    let h : i + c.min-few.result ≤ length c.args.text.now = omega (arith, c.min-few.ensures) in
    search rules

pub loop-block-preserved : goal.loop-block-preserved
loop-block-preserved c =
    let i : ℕ = 64 * c.loop-block.block in
    let before : i < length c.args.text.now = omega (arith, c.loop-block-test.true, c.div_ceil-block-end.ensures) in (
      at (counted-more (at c.loop-block.invariant.0 (omega arith)) c.min-few.result (omega (arith, c.min-few.ensures)) c.encode-told.ensures.answer c.if-told-few.false) (omega (arith, c.min-few.ensures)),
      ap length c.encode-told.ensures.buffer ∙ left-long _ _ ∙ c.loop-block.invariant.1,
    )

pub returns : goal.returns
returns c = sym (counted-all c.loop-block.invariant.0 (omega (arith, c.loop-block-test.false, c.div_ceil-block-end.ensures)))
