-- `notice` meets its contract: its tests are the definition's. Assumes nothing.
use Rattle.names.specs.Names.{named_notice}
use Rattle.std.proofs.Common.{rules, ◌≡◌, ℕ, ◌/◌}
use borrow.Author.Tests.{eq-eqb, ne_eqb}
use Rattle.names.proofs.notice.Goals as goal

pub returns-then-number-eq0 : goal.returns-then-number-eq0
unfolding named_notice
returns-then-number-eq0 c = simp (eq-eqb _ _ c.if-number-eq0.true)

pub returns-in-4 : goal.returns-in-4
unfolding named_notice
returns-in-4 c = simp (ne_eqb _ _ c.if-number-eq0.false, c.in-4.is)

pub returns-in-6 : goal.returns-in-6
unfolding named_notice
returns-in-6 c = simp (ne_eqb _ _ c.if-number-eq0.false, c.in-6.is)

pub returns-in-8 : goal.returns-in-8
unfolding named_notice
returns-in-8 c = simp (ne_eqb _ _ c.if-number-eq0.false, c.in-8.is)

pub returns-in-10 : goal.returns-in-10
unfolding named_notice
returns-in-10 c = simp (ne_eqb _ _ c.if-number-eq0.false, c.in-10.is)

pub returns-in_default : goal.returns-in_default
unfolding named_notice
returns-in_default c =
    let group : ℕ = c.args.number / 4 in
    let a : group ≡ 4 → ⊥ = search rules in
    let b : group ≡ 6 → ⊥ = search rules in
    let d : group ≡ 8 → ⊥ = search rules in
    let e : group ≡ 10 → ⊥ = search rules in
    simp (ne_eqb _ _ c.if-number-eq0.false, ne_eqb _ _ a, ne_eqb _ _ b, ne_eqb _ _ d, ne_eqb _ _ e)
