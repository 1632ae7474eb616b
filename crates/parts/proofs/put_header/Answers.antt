-- `put_header` meets its contract: the six octets are laid one after the other, and of a lone part none. Assumes nothing.
use mathlib.Core.Path.{◌≡◌, refl, sym, ap, subst, ◌∙◌}
use mathlib.Core.Bool.{Bool, true, cond, not}
use mathlib.Core.List.{List, [], ◌++◌}
use Prim.Native.Nat.{ℕ, ◌≤◌}
use borrow.Author.Tests.{eq-eqb, ne_eqb}
use lib.ListN.{length, drop}
use Rattle.lists.specs.Lists.{laid}
use Rattle.lists.proofs.Laid.{laid-copy}
use Rattle.headed.specs.Header.{concatenation_header}
use Rattle.parted.specs.Parts.{is_marked, mark_size}
use Rattle.headed.proofs.Theorems.{concatenation-length}
use Rattle.parts.proofs.put_header.Goals as goal

-- more than one part leaves room for the header
more-marked : (total : ℕ) → (total ≡ 1 → ⊥) → is_marked total ≡ true
more-marked total h = ap not (ne_eqb total 1 h)

six : (total : ℕ) (out : List ℕ) → mark_size total ≤ length out → (total ≡ 1 → ⊥) → 6 ≤ length out
six total out room h = subst (λ (m : Bool). cond m 6 0 ≤ length out) (more-marked total h) room

pub returns-then-total-eq1 : goal.returns-then-total-eq1
unfolding laid
returns-then-total-eq1 c = simp (eq-eqb _ 1 c.if-total-eq1.true) refl

pub returns : goal.returns
returns c = let head : List ℕ = c.concatenation_header.result in
    let out : List ℕ = c.args.out.now in
    let long : length head ≡ 6 = ap length c.concatenation_header.ensures.answer ∙ concatenation-length c.args.numbers in
    ap (λ (l : List ℕ). l ++ drop 6 out) c.copy_from_slice.ensures.after
    ∙ laid-copy head out 6 (sym long)
    ∙ ap (λ (h : List ℕ). laid h out) c.concatenation_header.ensures.answer
    ∙ ap (λ (m : Bool). laid (cond m (concatenation_header c.args.numbers) []) out) (sym (more-marked c.args.total c.if-total-eq1.false))
