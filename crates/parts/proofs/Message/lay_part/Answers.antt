-- `lay_part` meets its contract: units that are their own codes are copied from where the part begins, others are encoded from the place that is kept. Assumes nothing.
use mathlib.Core.Path.{◌≡◌, sym, ap, ap₂, subst, ◌∙◌}
use mathlib.Core.Bool.{true, false}
use mathlib.Core.List.{List}
use Prim.Native.Nat.{ℕ, ◌+◌, ◌*◌, ◌≤◌, ◌<◌}
use native.Mathlib.Nat.{mul-le-mul_right}
use native.Mathlib.Omega.{arith}
use lib.ListN.{length}
use Rattle.parted.specs.declared.Plan.{Plan}
use Rattle.parted.specs.Cutting.{plan_room}
use Rattle.parted.proofs.Plans.{length_most, room_most}
use Rattle.parted.proofs.Windows.{PlaceAt}
use Rattle.parted.proofs.WriteSteps.{begins_at, begins-next, over-fits, plain-hold, plain-laid, zeros-some, zero-before, pairs-hold, pairs-laid}
use borrow.Author.Rules.{rules}
use Rattle.parts.proofs.Message.lay_part.Goals as goal

true-false : true ≡ false → ⊥
true-false e = let z : ◌≡◌ {A = ℕ} 0 1 = cc in omega arith

-- where a part begins is a small number
begin-small : (plan : Plan) (k room : ℕ) → k ≤ 255 → room ≡ plan_room plan → room * k ≤ 40800
begin-small plan k room few e =
    let r : room ≤ 160 = subst (λ (n : ℕ). n ≤ 160) (sym e) (room_most plan) in
    omega (arith, mul-le-mul_right k r)

pub overflow_mul-begin : goal.overflow_mul-begin
overflow_mul-begin c = let a = c.args in
    record { fits = omega (arith, begin-small a.self.now.plan a.k c.part_room.result (omega (arith, c.requires.1, c.args.self.now.cut.most)) c.part_room.ensures.answer) }

pub overflow_add-begin : goal.overflow_add-begin
overflow_add-begin c = let a = c.args in
    let begin = begin-small a.self.now.plan a.k c.part_room.result (omega (arith, c.requires.1, c.args.self.now.cut.most)) c.part_room.ensures.answer in
    record { fits = omega (arith, begin, c.part_length-n.ensures.answer, length_most a.self.now.plan a.k, room_most a.self.now.plan) }

pub offset_bounds-self-begin : goal.offset_bounds-self-begin
offset_bounds-self-begin c = let a = c.args in
    record { fits = omega (arith, begin-small a.self.now.plan a.k c.part_room.result (omega (arith, c.requires.1, c.args.self.now.cut.most)) c.part_room.ensures.answer) }

-- the units of the part are there
pub slice_bounds-low_octets-end : goal.slice_bounds-low_octets-end
slice_bounds-low_octets-end c = let a = c.args in
    let fit : c.part_room.result * a.k + c.part_length-n.result ≤ length a.self.now.units.now =
    subst (λ (n : ℕ). n ≤ length a.self.now.units.now) (sym (ap₂ (λ (r n : ℕ). r * a.k + n) c.part_room.ensures.answer c.part_length-n.ensures.answer))
    (plain-hold a.self.now.plan a.self.now.units.now c.args.self.now.cut a.k c.requires.1 c.requires.0 c.if-plan.true) in
    search rules

-- and its place in the array
pub slice_bounds-low_octets-end-then-plan : goal.slice_bounds-low_octets-end-then-plan
slice_bounds-low_octets-end-then-plan c = let a = c.args in
    let fit : c.mark_septets-over.result + c.part_length-n.result ≤ length a.septets.now =
    omega (arith, c.mark_septets-over.ensures, c.part_length-n.ensures.answer, over-fits a.self.now.plan a.self.now.units.now c.args.self.now.cut a.k c.requires.1 c.requires.0, c.requires.2.0) in
    search rules

pub returns-then-plan : goal.returns-then-plan
returns-then-plan c = let a = c.args in record {
  placed = λ other. absurd (true-false (sym c.if-plan.true ∙ other));
  laid_part = plain-laid a.self.now.plan a.self.now.units.now c.args.self.now.cut a.k c.requires.1 c.requires.0 c.if-plan.true a.septets.now c.requires.2 _ _ _ c.mark_septets-over.ensures c.part_room.ensures.answer c.part_length-n.ensures.answer _ c.low_octets.ensures.buffer;
}

pub lay_pairs-requires : goal.lay_pairs-requires
lay_pairs-requires c = let a = c.args in
    let p = a.self.now.plan in
    let t : List ℕ = a.self.now.units.now in
    let place = c.requires.3 c.if-plan.false in
    record {
      codable = (c.args.self.now.cut.codable c.requires.0, omega (arith, c.mark_septets-over.ensures, c.part_length-n.ensures.answer, over-fits p t c.args.self.now.cut a.k c.requires.1 c.requires.0, c.requires.2.0), omega (arith, c.requires.2.0));
      over_nonzero = λ half.
          let some : 0 < c.mark_septets-over.result =
          subst (λ (n : ℕ). 0 < n) (sym c.mark_septets-over.ensures) (zeros-some p t c.args.self.now.cut a.k c.requires.1 c.requires.0 a.from.unit (subst (PlaceAt t (begins_at p a.k) a.from.unit) half place)) in
          (some, zero-before p t c.args.self.now.cut a.k c.requires.1 c.requires.0 a.septets.now c.requires.2 _ c.mark_septets-over.ensures some);
      by_index = (begins_at p a.k, (place, pairs-hold p t c.args.self.now.cut a.k c.requires.1 c.requires.0 _ c.part_length-n.ensures.answer));
    }

pub returns : goal.returns
returns c = let a = c.args in
    let p = a.self.now.plan in
    let t : List ℕ = a.self.now.units.now in
    let place = c.requires.3 c.if-plan.false in
    let hold = pairs-hold p t c.args.self.now.cut a.k c.requires.1 c.requires.0 _ c.part_length-n.ensures.answer in
    let next : begins_at p a.k + c.part_length-n.result ≡ begins_at p (a.k + 1) = ap (λ (n : ℕ). begins_at p a.k + n) c.part_length-n.ensures.answer ∙ begins-next p t c.args.self.now.cut a.k c.requires.1 in record {
      placed = λ plain. subst (λ (m : ℕ). PlaceAt t m c.lay_pairs.result.unit c.lay_pairs.result.half) next (c.lay_pairs.ensures.by_index_2 (begins_at p a.k) place hold);
      laid_part = pairs-laid p t c.args.self.now.cut a.k c.requires.1 c.requires.0 a.septets.now _ c.requires.2 _ _ c.mark_septets-over.ensures c.part_length-n.ensures.answer (c.lay_pairs.ensures.by_index_3 (begins_at p a.k) place hold);
    }
