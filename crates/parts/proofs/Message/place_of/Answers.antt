-- `place_of` meets its contract: each part before it is laid, and tells where the next one begins. Assumes nothing.
use mathlib.Core.Path.{◌≡◌, sym, subst, ◌∙◌}
use mathlib.Core.Bool.{true, false}
use Prim.Native.Nat.{ℕ, ◌<◌}
use native.Mathlib.Omega.{arith}
use Rattle.parted.proofs.Plans.{septets-plan}
use Rattle.parted.proofs.Windows.{PlaceAt, place-begins}
use Rattle.parted.proofs.WriteSteps.{begins_at, begins-0, blank-after}
use Rattle.parts.proofs.Message.place_of.Goals as goal

true-false : true ≡ false → ⊥
true-false e = let z : ◌≡◌ {A = ℕ} 0 1 = cc in omega arith

pub returns-then-self : goal.returns-then-self
returns-then-self c =
    record { placed = λ other. absurd (true-false (sym c.if-self.true ∙ other)); blank = c.requires.1 }

pub loop-j-init : goal.loop-j-init
loop-j-init c = let a = c.args in
    ((λ other. subst (λ (m : ℕ). PlaceAt a.self.now.units.now m 0 false) (sym (begins-0 a.self.now.plan a.self.now.units.now c.args.self.now.cut)) (place-begins a.self.now.units.now)), c.requires.1)

pub lay_part-place-requires : goal.lay_part-place-requires
lay_part-place-requires c = (septets-plan c.args.self.now.plan c.args.self.now.units.now c.args.self.now.cut c.if-self.false, omega (arith, c.requires.0, c.loop-j-test.true), c.loop-j.invariant.1, c.loop-j.invariant.0)

pub loop-j-preserved : goal.loop-j-preserved
loop-j-preserved c = let a = c.args in
    let few : c.loop-j.j < a.self.now.plan.total = omega (arith, c.requires.0, c.loop-j-test.true) in
    (c.lay_part-place.ensures.placed, blank-after a.self.now.plan a.self.now.units.now c.args.self.now.cut c.loop-j.j few _ c.lay_part-place.ensures.laid_part)

pub returns : goal.returns
returns c = let a = c.args in
    let last : c.loop-j.j ≡ a.k = omega (arith, c.loop-j-test.false, c.loop-j.auto.j-end) in
    record { placed = (λ other. subst (λ (j : ℕ). PlaceAt a.self.now.units.now (begins_at a.self.now.plan j) c.loop-j.place.unit c.loop-j.place.half) last (c.loop-j.invariant.0 other)); blank = c.loop-j.invariant.1 }
