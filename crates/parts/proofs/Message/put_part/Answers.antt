-- `put_part` meets its contract: a part of UCS2 is its units, one of 7-bit text the septets in the array. Assumes nothing.
use mathlib.Core.Path.{◌≡◌, sym, ap, ap₂, subst, ◌∙◌}
use mathlib.Core.Bool.{true, false}
use mathlib.Core.List.{List}
use Prim.Native.Nat.{ℕ, ◌+◌, ◌-◌, ◌*◌, ◌≤◌, ◌<◌}
use native.Mathlib.Nat.{mul-le-mul_right}
use native.Mathlib.Omega.{arith}
use lib.ListN.{length, take, drop, replicate, length-take}
use lib.Seq.{length-take-le}
use Rattle.lists.proofs.Below.{Below}
use Rattle.stream.specs.Stream.{octets_for}
use Rattle.headed.specs.declared.Numbers.{Numbers}
use Rattle.lists.specs.Lists.{laid}
use Rattle.headed.specs.Header.{septets_over}
use Rattle.parted.specs.Parts.{mark_size, headed_octets}
use Rattle.parted.specs.declared.Plan.{Plan}
use Rattle.parted.specs.Cutting.{plan_room, part_length}
use Rattle.parted.proofs.Plans.{Cut, length_most, room_most, over-most}
use Rattle.parted.proofs.WriteSteps.{LaidPart, mark_header, over-fits, blank-after, part-septets, part-units, septets-ready, octets-septets, octets-units, units-hold, units-few}
use borrow.Author.Rules.{rules}
use Rattle.parts.proofs.Message.put_part.Goals as goal

true-false : true ≡ false → ⊥
true-false e = let z : ◌≡◌ {A = ℕ} 0 1 = cc in omega arith

-- where a part begins is a small number
begin-small : (plan : Plan) (k room : ℕ) → k ≤ 255 → room ≡ plan_room plan → room * k ≤ 40800
begin-small plan k room few e =
    let r : room ≤ 160 = subst (λ (n : ℕ). n ≤ 160) (sym e) (room_most plan) in
    omega (arith, mul-le-mul_right k r)

pub overflow_mul-begin : goal.overflow_mul-begin
overflow_mul-begin c = let a = c.args in
    record { fits = omega (arith, begin-small a.self.now.plan a.k c.part_room.result (omega (arith, c.requires.0, c.args.self.now.cut.most)) c.part_room.ensures.answer) }

pub overflow_add-begin : goal.overflow_add-begin
overflow_add-begin c = let a = c.args in
    let begin = begin-small a.self.now.plan a.k c.part_room.result (omega (arith, c.requires.0, c.args.self.now.cut.most)) c.part_room.ensures.answer in
    record { fits = omega (arith, begin, c.part_length-n.ensures.answer, length_most a.self.now.plan a.k, room_most a.self.now.plan) }

pub offset_bounds-self-begin : goal.offset_bounds-self-begin
offset_bounds-self-begin c = let a = c.args in
    record { fits = omega (arith, begin-small a.self.now.plan a.k c.part_room.result (omega (arith, c.requires.0, c.args.self.now.cut.most)) c.part_room.ensures.answer) }

-- the units of the part are there
pub slice_bounds-put_units-end : goal.slice_bounds-put_units-end
slice_bounds-put_units-end c = let a = c.args in
    let fit : c.part_room.result * a.k + c.part_length-n.result ≤ length a.self.now.units.now =
    subst (λ (n : ℕ). n ≤ length a.self.now.units.now) (sym (ap₂ (λ (r n : ℕ). r * a.k + n) c.part_room.ensures.answer c.part_length-n.ensures.answer))
    (units-hold a.self.now.plan a.self.now.units.now c.args.self.now.cut a.k c.requires.0 c.if-plan.true) in
    search rules

pub put_units-requires : goal.put_units-requires
put_units-requires c = let a = c.args in
    let p = a.self.now.plan in
    let n : length (take (c.part_room.result * a.k + c.part_length-n.result - c.part_room.result * a.k) (drop (c.part_room.result * a.k) a.self.now.units.now)) ≤ part_length p a.k =
    omega (arith, length-take (c.part_room.result * a.k + c.part_length-n.result - c.part_room.result * a.k) (drop (c.part_room.result * a.k) a.self.now.units.now), c.part_length-n.ensures.answer) in
    (omega (arith, units-few p a.self.now.units.now c.args.self.now.cut a.k c.requires.0 c.if-plan.true), omega (arith, c.requires.2, octets-units p a.self.now.units.now c.args.self.now.cut a.k c.requires.0 c.if-plan.true))

pub returns-then-plan : goal.returns-then-plan
returns-then-plan c = let a = c.args in
    let p = a.self.now.plan in
    let t : List ℕ = a.self.now.units.now in
    let size : c.part_room.result * a.k + c.part_length-n.result - c.part_room.result * a.k ≡ part_length p a.k = omega (arith, c.part_length-n.ensures.answer) in
    let us : take (c.part_room.result * a.k + c.part_length-n.result - c.part_room.result * a.k) (drop (c.part_room.result * a.k) t) ≡ take (part_length p a.k) (drop (plan_room p * a.k) t) =
    ap₂ (λ (i r : ℕ). take i (drop (r * a.k) t)) size c.part_room.ensures.answer in
    record {
      out_after = c.put_units.ensures ∙ ap (λ (l : List ℕ). laid l a.out.now) (part-units p t c.args.self.now.cut a.k c.requires.0 a.self.now.reference c.if-plan.true _ us);
      placed = λ other. absurd (true-false (sym (c.args.self.now.cut.units c.if-plan.true) ∙ other));
      blank = c.requires.1;
    }

pub lay_part-next-requires : goal.lay_part-next-requires
lay_part-next-requires c = (c.if-plan.false, c.requires.0, c.requires.1, c.requires.3)

pub overflow_add-end : goal.overflow_add-end
overflow_add-end c = let a = c.args in
    let over : c.mark_septets.result ≤ 7 = subst (λ (n : ℕ). n ≤ 7) (sym c.mark_septets.ensures) (over-most a.self.now.plan.total) in
    record { fits = omega (arith, c.part_length-n.ensures.answer, length_most a.self.now.plan a.k, room_most a.self.now.plan) }

-- the septets in the array: the zeros and the part behind them
module _ (p : Plan) (t : List ℕ) (cut : Cut p t) (k : ℕ) (h : k < p.total) (seven : p.ucs2 ≡ false) (over n : ℕ) (e : over ≡ septets_over (mark_size p.total)) (f : n ≡ part_length p k) (array : List ℕ) (l : LaidPart p t k array) where
  sum : over + n ≡ septets_over (mark_size p.total) + part_length p k
  sum = ap₂ (λ (i j : ℕ). i + j) e f

  ready : (length (take (over + n) array) ≡ septets_over (mark_size p.total) + part_length p k)
      × Below 128 (take (over + n) array)
      × (take (septets_over (mark_size p.total)) (take (over + n) array) ≡ replicate (septets_over (mark_size p.total)) 0)
  ready = septets-ready p t cut k h seven array _ l (ap (λ (i : ℕ). take i array) sum)

  within : over + n ≤ length array
  within = omega (arith, sum, l.0, over-fits p t cut k h seven)

pub slice_bounds-put_septets-end : goal.slice_bounds-put_septets-end
slice_bounds-put_septets-end c = let a = c.args in
    within a.self.now.plan a.self.now.units.now c.args.self.now.cut a.k c.requires.0 c.if-plan.false _ _ c.mark_septets.ensures c.part_length-n.ensures.answer _ c.lay_part-next.ensures.laid_part

pub slice_bounds-put_septets-end-2 : goal.slice_bounds-put_septets-end-2
slice_bounds-put_septets-end-2 c = let a = c.args in
    sym (length-take-le _ _ (within a.self.now.plan a.self.now.units.now c.args.self.now.cut a.k c.requires.0 c.if-plan.false _ _ c.mark_septets.ensures c.part_length-n.ensures.answer _ c.lay_part-next.ensures.laid_part))

pub put_septets-requires : goal.put_septets-requires
put_septets-requires c = let a = c.args in
    let w = ready a.self.now.plan a.self.now.units.now c.args.self.now.cut a.k c.requires.0 c.if-plan.false _ _ c.mark_septets.ensures c.part_length-n.ensures.answer _ c.lay_part-next.ensures.laid_part in
    let octets = octets-septets a.self.now.plan a.self.now.units.now c.args.self.now.cut a.k c.requires.0 c.if-plan.false in
    let fits = over-fits a.self.now.plan a.self.now.units.now c.args.self.now.cut a.k c.requires.0 c.if-plan.false in
    record {
      septets_len_bound = (omega (arith, w.0), omega (arith, w.0), subst (λ (n : ℕ). n ≤ length a.out.now) (octets ∙ ap octets_for (sym w.0)) c.requires.2, w.1);
      septets_value = w.2;
    }

pub returns : goal.returns
returns c = let a = c.args in
    let p = a.self.now.plan in
    let t : List ℕ = a.self.now.units.now in
    let numbers : Numbers = record { reference = a.self.now.reference; total = p.total; number = a.k + 1 } in
    let array : List ℕ = c.lay_part-next.new.septets in
    let whole = sum p t c.args.self.now.cut a.k c.requires.0 c.if-plan.false _ _ c.mark_septets.ensures c.part_length-n.ensures.answer array c.lay_part-next.ensures.laid_part in
    record {
      out_after = c.put_septets.ensures
          ∙ ap (λ (n : ℕ). laid (headed_octets false (mark_header p.total numbers) (drop (septets_over (mark_size p.total)) (take n array))) a.out.now) whole
          ∙ ap (λ (l : List ℕ). laid l a.out.now) (part-septets p t c.args.self.now.cut a.k c.requires.0 a.self.now.reference c.if-plan.false array c.lay_part-next.ensures.laid_part);
      placed = c.lay_part-next.ensures.placed;
      blank = blank-after p t c.args.self.now.cut a.k c.requires.0 array c.lay_part-next.ensures.laid_part;
    }
