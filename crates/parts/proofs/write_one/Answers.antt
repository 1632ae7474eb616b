-- `write_one` meets its contract: the plan decides, then whether there is such a part, then the room. Assumes nothing.
use mathlib.Core.Path.{ap, ◌∙◌}
use mathlib.Core.Bool.{Bool}
use mathlib.Core.Logic.{⊎_elim}
use Prim.Native.Nat.{ℕ}
use native.Mathlib.Omega.{arith}
use borrow.Author.Tests.{lt-ltb}
use lib.ListN.{length}
use Rattle.filling.proofs.Placing.{lacks-none, lacks-0, lacks-above}
use Rattle.parted.specs.Cutting.{planned_as}
use Rattle.parted.specs.Inner.{text_part}
use Rattle.parted.proofs.Plans.{cut-told}
use Rattle.parted.proofs.WriteJudged.{one-refused, one-lacks, one-short, one-done}
use Rattle.words.proofs.Clauses.{answered, passed}
use borrow.Author.Rules.{rules}
use Rattle.parts.proofs.write_one.Goals as goal

pub returns-then-number-eq0 : goal.returns-then-number-eq0
returns-then-number-eq0 c = let a = c.args in
    let p = c.in_ok-plan.plan in
    let told = c.in_ok-plan.ensures.answer ∙ ap (λ (b : Bool). planned_as b a.units.now) c.ucs2.ensures.answer in
    answered (one-lacks a.coding.ucs2 a.coding.octet a.reference a.units.now p told a.number a.out.now
    (⊎_elim (lacks-0 p.total a.number) (λ w. lacks-above p.total a.number (lt-ltb _ _ w.1)) c.then-number-eq0.either))

pub overflow_cast-k : goal.overflow_cast-k
overflow_cast-k c = let a = c.args in
    let told = c.in_ok-plan.ensures.answer ∙ ap (λ (b : Bool). planned_as b a.units.now) c.ucs2.ensures.answer in
    record { fits = omega (arith, c.if-number-eq0.false, c.if-plan-number.false, (cut-told a.coding.ucs2 a.units.now _ told).2.most) }

pub returns-then-out-size : goal.returns-then-out-size
returns-then-out-size c = let a = c.args in
    let told = c.in_ok-plan.ensures.answer ∙ ap (λ (b : Bool). planned_as b a.units.now) c.ucs2.ensures.answer in
    let there = lacks-none c.in_ok-plan.plan.total a.number (omega (arith, c.if-number-eq0.false)) c.if-plan-number.false in
    answered (one-short a.coding.ucs2 a.coding.octet a.reference a.units.now c.in_ok-plan.plan told a.number a.out.now there (omega (arith, c.part_size-size.ensures.1, c.if-out-size.true)))

pub invariant_of-message : goal.invariant_of-message
invariant_of-message c = let a = c.args in
    record { cut = (cut-told a.coding.ucs2 a.units.now _ (c.in_ok-plan.ensures.answer ∙ ap (λ (b : Bool). planned_as b a.units.now) c.ucs2.ensures.answer)).2 }

pub put_one-requires : goal.put_one-requires
put_one-requires c = (omega (arith, c.if-number-eq0.false, c.if-plan-number.false), omega (arith, c.part_size-size.ensures.1, c.if-out-size.false))

pub returns : goal.returns
returns c = let a = c.args in
    let told = c.in_ok-plan.ensures.answer ∙ ap (λ (b : Bool). planned_as b a.units.now) c.ucs2.ensures.answer in
    let there = lacks-none c.in_ok-plan.plan.total a.number (omega (arith, c.if-number-eq0.false)) c.if-plan-number.false in
    let w = one-done a.coding.ucs2 c.octet.result a.reference a.units.now c.in_ok-plan.plan told a.number a.out.now there (omega (arith, c.part_size-size.ensures.1, c.if-out-size.false)) _ _ c.part_size-size.ensures.1 c.part_size-size.ensures.0 _ c.put_one.ensures in
    record { answer = w.0 ∙ ap (λ (o : ℕ). text_part a.coding.ucs2 o a.reference a.units.now a.number (length a.out.now)) c.octet.ensures.answer; buffer = w.1 }

pub returns-in_err-plan : goal.returns-in_err-plan
returns-in_err-plan c = let a = c.args in
    let told = c.in_err-plan.ensures.answer ∙ ap (λ (b : Bool). planned_as b a.units.now) c.ucs2.ensures.answer in
    passed (search rules) (one-refused a.coding.ucs2 a.coding.octet a.reference a.units.now _ told a.number a.out.now)
