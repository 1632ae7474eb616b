-- `write_all` meets its contract: the plan decides, then the room in either buffer. Assumes nothing.
use mathlib.Core.Path.{ap, ◌∙◌}
use mathlib.Core.Bool.{Bool}
use borrow.Author.Rules.{rules}
use Prim.Native.Nat.{ℕ}
use native.Mathlib.Omega.{arith}
use lib.ListN.{length}
use Rattle.parted.specs.Cutting.{planned_as}
use Rattle.parted.specs.Inner.{text_parts}
use Rattle.parted.proofs.Plans.{cut-told, cut-some}
use Rattle.parted.proofs.WriteJudged.{all-refused, all_short, sizes-short, all_done}
use Rattle.parts.proofs.write_all.Goals.{then-out-octets-via-then-out-octets, then-out-octets-via-else-out-octets+then-sizes-plan}
use Rattle.parts.proofs.write_all.Goals as goal

pub all_octets-octets-requires : goal.all_octets-octets-requires
all_octets-octets-requires c = let a = c.args in
    let told = c.in_ok-plan.ensures.answer ∙ ap (λ (b : Bool). planned_as b a.units.now) c.ucs2.ensures.answer in
    let cut = (cut-told a.coding.ucs2 a.units.now _ told).2 in
    (cut-some _ _ cut, cut.most)

pub returns-then-out-octets : goal.returns-then-out-octets
returns-then-out-octets c = let a = c.args in
    let told = c.in_ok-plan.ensures.answer ∙ ap (λ (b : Bool). planned_as b a.units.now) c.ucs2.ensures.answer in
    elim c.then-out-octets.branch [
      | then-out-octets-via-then-out-octets w ↦
          let r = all_short a.coding.ucs2 a.coding.octet a.reference a.units.now _ told a.out.now a.sizes.now (omega (arith, c.all_octets-octets.ensures, w.if-out-octets.true)) in
          record { answer = r.0; buffer = r.1.0; sizes = r.1.1 }
      | then-out-octets-via-else-out-octets+then-sizes-plan w ↦
          let r = sizes-short a.coding.ucs2 a.coding.octet a.reference a.units.now _ told a.out.now a.sizes.now (omega (arith, c.all_octets-octets.ensures, w.if-out-octets.false)) (omega (arith, w.if-sizes-plan.true)) in
          record { answer = r.0; buffer = r.1.0; sizes = r.1.1 }
    ]

pub invariant_of-message : goal.invariant_of-message
invariant_of-message c = let a = c.args in
    record { cut = (cut-told a.coding.ucs2 a.units.now _ (c.in_ok-plan.ensures.answer ∙ ap (λ (b : Bool). planned_as b a.units.now) c.ucs2.ensures.answer)).2 }

pub put_all-requires : goal.put_all-requires
put_all-requires c = (omega (arith, c.all_octets-octets.ensures, c.if-out-octets.false), omega (arith, c.if-sizes-plan.false))

pub returns : goal.returns
returns c = let a = c.args in
    let told = c.in_ok-plan.ensures.answer ∙ ap (λ (b : Bool). planned_as b a.units.now) c.ucs2.ensures.answer in
    let w = all_done a.coding.ucs2 c.octet.result a.reference a.units.now _ told a.out.now a.sizes.now (omega (arith, c.all_octets-octets.ensures, c.if-out-octets.false)) (omega (arith, c.if-sizes-plan.false)) _ c.all_octets-octets.ensures _ _ c.put_all.ensures.out_after c.put_all.ensures.sizes_after in
    record {
      answer = w.0 ∙ ap (λ (o : ℕ). text_parts a.coding.ucs2 o a.reference a.units.now (length a.out.now) (length a.sizes.now)) c.octet.ensures.answer;
      buffer = w.1.0;
      sizes = w.1.1;
    }

pub returns-in_err-plan : goal.returns-in_err-plan
returns-in_err-plan c = let a = c.args in
    let told = c.in_err-plan.ensures.answer ∙ ap (λ (b : Bool). planned_as b a.units.now) c.ucs2.ensures.answer in
    let w = all-refused a.coding.ucs2 a.coding.octet a.reference a.units.now _ told a.out.now a.sizes.now in
    record { answer = search rules ∙ w.0; buffer = w.1.0; sizes = w.1.1 }
