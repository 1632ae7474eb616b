-- Behind a header that is right UCS2 is even or odd by what is left of the octets; of 7-bit text the header takes no more septets than the count.
-- Assumes nothing.
use Prim.Native.Nat.{ℕ, ◌+◌, ◌≤◌}
use mathlib.Core.List.{List}
use mathlib.Core.Path.{◌≡◌, sym, ap, ◌∙◌}
use native.Mathlib.Numerals.{add-one}
use native.Mathlib.Omega.{arith}
use lib.ListN.{length, get_or}
use Rattle.std.specs.Prelude.{Err}
use Rattle.headed.specs.Header.{header_size, septets_over}
use Rattle.headed.proofs.Steps.{header-told, header-refusal}
use Rattle.parted.proofs.OrderSteps.{head-refused, head-units, head-long, head-septets}
use borrow.Author.Rules.{rules}
use Rattle.part_order.proofs.judge_head.Goals as goal

-- how many septets a header takes
over : (o : List ℕ) {n : ℕ} → n ≡ septets_over (get_or o 0 0 + 1) → n ≡ septets_over (header_size o)
over o e = e ∙ ap septets_over (add-one (get_or o 0 0))

pub returns-in_err-header : goal.returns-in_err-header
returns-in_err-header c = let a = c.args in
    let q = header-refusal a.part.now _ c.in_err-header.ensures.answer in
    let is : c.from_residual.result ≡ Err c.in_err-header.field-0.0 = search rules in
    is ∙ ap Err q.1 ∙ sym (head-refused a.ucs2 a.count a.part.now q.0)

pub overflow_sub-result : goal.overflow_sub-result
overflow_sub-result c = let told = header-told c.args.part.now _ _ c.in_ok-header.ensures.answer in omega (arith, told.1, told.3)

pub returns-then-ucs2 : goal.returns-then-ucs2
returns-then-ucs2 c = let a = c.args in
    let told = header-told a.part.now _ _ c.in_ok-header.ensures.answer in
    sym (head-units a.ucs2 a.count a.part.now told.0 c.if-ucs2.true _ told.1)

pub bounds-part-0 : goal.bounds-part-0
bounds-part-0 c = let o : List ℕ = c.args.part.now in
    let known : header_size o ≤ length o = (header-told o _ _ c.in_ok-header.ensures.answer).3 in
    search rules

pub returns-then-count-septets_over : goal.returns-then-count-septets_over
returns-then-count-septets_over c = let a = c.args in
    let told = header-told a.part.now _ _ c.in_ok-header.ensures.answer in
    sym (head-long a.ucs2 a.count a.part.now told.0 c.if-ucs2.false _ (over a.part.now c.septets_over.ensures.answer) c.if-count-septets_over.true)

pub returns : goal.returns
returns c = let a = c.args in
    let told = header-told a.part.now _ _ c.in_ok-header.ensures.answer in
    sym (head-septets a.ucs2 a.count a.part.now told.0 c.if-ucs2.false _ (over a.part.now c.septets_over.ensures.answer) c.if-count-septets_over.false)
