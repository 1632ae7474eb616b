-- The tests are the rules in their order; past them each service stores its octets, and the room is judged there.
use Prim.Native.Nat.{◌≤◌, ◌<◌}
use mathlib.Core.Path.{◌≡◌, refl, sym, ap, ◌∙◌}
use mathlib.Core.Bool.{true, false}
use native.Mathlib.Omega.{arith}
use borrow.Author.Tests.{lt-ltb}
use lib.ListN.{length}
use Rattle.words.specs.declared.Service.TheVariants.{ShortMessage, Broadcast, Ussd}
use Rattle.words.specs.Sizes.{most_units, is_old_page}
use Rattle.words.specs.Judging.{verdict}
use Rattle.stream.specs.UnitCalls.{to_octets_rules, to_octets_answers, to_octets_leaves}
use Rattle.stream.proofs.Calls.{to-octets-passed}
use Rattle.words.proofs.Clauses.{answered}
use Rattle.from_units.proofs.units_to_octets.Goals as goal

pub returns-then-is_old_page : goal.returns-then-is_old_page
unfolding to_octets_rules to_octets_answers to_octets_leaves verdict
returns-then-is_old_page c = let a = c.args in
    let old : is_old_page a.service ≡ true = sym c.is_old_page.ensures.answer ∙ c.if-is_old_page.true in
    answered
    (simp old (refl, refl))

pub returns-then-most_units-units : goal.returns-then-most_units-units
unfolding to_octets_rules to_octets_answers to_octets_leaves verdict
returns-then-most_units-units c = let a = c.args in
    let new : is_old_page a.service ≡ false = sym c.is_old_page.ensures.answer ∙ c.if-is_old_page.false in
    let over : most_units a.service < length a.units.now = omega (arith, c.most_units.ensures.answer) in
    answered
    (simp (new, lt-ltb _ _ over) (refl, refl))

pub returns-in-ShortMessage : goal.returns-in-ShortMessage
returns-in-ShortMessage c = let a = c.args in
    let e = c.in-ShortMessage.is in
    let most : length a.units.now ≤ 70 = omega (arith, c.most_units.ensures.answer, ap most_units e) in
    answered
    (rw e (to-octets-passed ShortMessage a.units.now a.out.now refl most (c.put_units.ensures.answer, c.put_units.ensures.buffer)))

pub returns-in-Broadcast : goal.returns-in-Broadcast
returns-in-Broadcast c = let a = c.args in
    let e = c.in-Broadcast.is in
    let most : length a.units.now ≤ 41 = omega (arith, c.most_units.ensures.answer, ap most_units e) in
    answered
    (rw e (to-octets-passed Broadcast a.units.now a.out.now refl most (c.put_page.ensures.answer, c.put_page.ensures.buffer)))

pub returns-in-Ussd : goal.returns-in-Ussd
returns-in-Ussd c = let a = c.args in
    let e = c.in-Ussd.is in
    let most : length a.units.now ≤ 80 = omega (arith, c.most_units.ensures.answer, ap most_units e) in
    answered
    (rw e (to-octets-passed Ussd a.units.now a.out.now refl most (c.put_units-in-Ussd.ensures.answer, c.put_units-in-Ussd.ensures.buffer)))
