-- `put_all` meets its contract: part by part, each behind those before it. Assumes nothing.
use mathlib.Core.Path.{◌≡◌, sym, ap, subst, ◌∙◌}
use mathlib.Core.Bool.{false}
use mathlib.Core.List.{List}
use Prim.Native.Nat.{ℕ}
use native.Mathlib.Omega.{arith}
use Rattle.lists.specs.Lists.{laid}
use Rattle.letters.specs.Sized.{content_of}
use Rattle.parted.specs.Written.{all_octets, all_sizes}
use Rattle.parted.proofs.WriteSteps.{begins-0, blank_none, none-laid, room-here, octets-laid, sizes-laid}
use Rattle.parted.proofs.Plans.{count_most, octets-most}
use Rattle.parted.proofs.Windows.{PlaceAt, place-begins}
use Rattle.parts.proofs.Message.put_all.Goals as goal

pub loop-k-init : goal.loop-k-init
loop-k-init c = let a = c.args in
    let t : List ℕ = a.self.now.units.now in
    let none = none-laid a.self.now.plan a.self.now.reference (content_of a.self.now.plan.ucs2 t) a.out.now a.sizes.now in
    (none.0, none.1, (λ other. subst (λ (m : ℕ). PlaceAt t m 0 false) (sym (begins-0 a.self.now.plan t c.args.self.now.cut)) (place-begins t)), blank_none a.self.now.plan)

pub put_part-place-requires : goal.put_part-place-requires
put_part-place-requires c = let a = c.args in
    let r = room-here a.self.now.plan a.self.now.units.now c.args.self.now.cut a.self.now.reference c.loop-k.k c.loop-k-test.true a.out.now c.loop-k.out c.requires.0 c.loop-k.invariant.0 in
    (c.loop-k-test.true, c.loop-k.invariant.3, r.1, c.loop-k.invariant.2)

pub overflow_cast-sizes : goal.overflow_cast-sizes
overflow_cast-sizes c = record { fits = omega (arith, c.part_size-size.ensures.0, count_most c.args.self.now.plan c.loop-k.k) }

pub overflow_cast-sizes-in-loop-k : goal.overflow_cast-sizes-in-loop-k
overflow_cast-sizes-in-loop-k c = record { fits = omega (arith, c.part_size-size.ensures.1, octets-most c.args.self.now.plan c.loop-k.k) }

pub loop-k-preserved : goal.loop-k-preserved
loop-k-preserved c = let a = c.args in
    let p = a.self.now.plan in
    let t : List ℕ = a.self.now.units.now in
    let k : ℕ = c.loop-k.k in (
      octets-laid p t c.args.self.now.cut a.self.now.reference k c.loop-k-test.true a.out.now c.loop-k.out _ c.loop-k.invariant.0 c.put_part-place.ensures.out_after,
      sizes-laid p t c.args.self.now.cut a.self.now.reference k c.loop-k-test.true a.sizes.now c.loop-k.sizes _ _ c.requires.1 c.loop-k.invariant.1 c.part_size-size.ensures.0 c.part_size-size.ensures.1,
      c.put_part-place.ensures.placed,
      c.put_part-place.ensures.blank,
    )

pub returns : goal.returns
returns c = let a = c.args in
    let t : List ℕ = a.self.now.units.now in
    let last : c.loop-k.k ≡ a.self.now.plan.total = omega (arith, c.loop-k-test.false, c.loop-k.auto.k-end) in
    record {
      out_after = c.loop-k.invariant.0 ∙ ap (λ (n : ℕ). laid (all_octets a.self.now.plan.ucs2 a.self.now.reference a.self.now.plan.total (content_of a.self.now.plan.ucs2 t) 1 n) a.out.now) last;
      sizes_after = c.loop-k.invariant.1 ∙ ap (λ (n : ℕ). laid (all_sizes a.self.now.plan.ucs2 a.self.now.reference a.self.now.plan.total (content_of a.self.now.plan.ucs2 t) 1 n) a.sizes.now) last;
    }
