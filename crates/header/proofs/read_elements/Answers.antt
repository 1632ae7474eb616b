-- From one element to the next, with the numbers found so far: what reading answers from there on is what it answers of all.
-- Assumes nothing.
use mathlib.Core.Path.{◌≡◌, ap, ◌∙◌}
use mathlib.Core.List.{List, ◌∷◌}
use Prim.Native.Nat.{ℕ}
use native.Mathlib.Omega.{arith}
use Rattle.headed.proofs.Steps.{scan-ends, scan-lone, scan-past, scan-other, scan-wrong, scan-numbers}
use Rattle.header.proofs.read_elements.Goals as goal

pub returns-in_default-split_first : goal.returns-in_default-split_first
returns-in_default-split_first c = scan-lone _ c.args.body.now _ _ c.loop-identifier.invariant _ _ c.in-Some.ensures.cases.0 c.in_default-split_first.ensures.cases

-- the octets that are left, by their first two
two : {o after behind : List ℕ} {i n : ℕ} → o ≡ i ∷ after → after ≡ n ∷ behind → o ≡ i ∷ n ∷ behind
two {i = i} e d = e ∙ ap (λ (l : List ℕ). i ∷ l) d

pub returns-in_default-split_at_checked : goal.returns-in_default-split_at_checked
returns-in_default-split_at_checked c =
    scan-past _ c.args.body.now _ _ c.loop-identifier.invariant _ _ _ (two c.in-Some.ensures.cases.0 c.in-Some-split_first.ensures.cases.0) c.in_default-split_at_checked.ensures.cases

pub returns-in_default-data : goal.returns-in_default-data
returns-in_default-data c =
    let at = c.in-Some-split_at_checked.ensures.cases in
    scan-wrong _ c.args.body.now _ _ c.loop-identifier.invariant _ _ _ (two c.in-Some.ensures.cases.0 c.in-Some-split_first.ensures.cases.0) at.0 _ at.1 (omega arith)
    (λ e. omega (arith, c.in_default-data.len_below, e))

pub returns-in_default-data-2 : goal.returns-in_default-data-2
returns-in_default-data-2 c =
    let at = c.in-Some-split_at_checked.ensures.cases in
    scan-wrong _ c.args.body.now _ _ c.loop-identifier.invariant _ _ _ (two c.in-Some.ensures.cases.0 c.in-Some-split_first.ensures.cases.0) at.0 _ at.1 (omega arith)
    (λ e. omega (arith, c.in_default-data.len_at_least, e))

pub loop-identifier-preserved-in-len3 : goal.loop-identifier-preserved-in-len3
loop-identifier-preserved-in-len3 c =
    let at = c.in-Some-split_at_checked.ensures.cases in
    scan-numbers _ c.args.body.now _ _ c.loop-identifier.invariant _ _ _ (two c.in-Some.ensures.cases.0 c.in-Some-split_first.ensures.cases.0) at.0 _ at.1 _ at.2 (omega arith)
    (omega (arith, c.in-len3.len_below, c.in-len3.len_at_least))

pub loop-identifier-preserved : goal.loop-identifier-preserved
loop-identifier-preserved c =
    let at = c.in-Some-split_at_checked.ensures.cases in
    scan-other _ c.args.body.now _ _ c.loop-identifier.invariant _ _ _ (two c.in-Some.ensures.cases.0 c.in-Some-split_first.ensures.cases.0) at.0 _ at.1 _ at.2 (λ e. omega (arith, e))

pub returns : goal.returns
returns c = scan-ends _ c.args.body.now _ _ c.loop-identifier.invariant c.in_default.ensures.cases
