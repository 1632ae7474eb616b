-- Rule 9 is judged whole; past it the septets are their own low bits, and the room is judged where they are stored.
use Prim.Native.Nat.{ℕ, ◌<◌, ◌≤◌}
use mathlib.Core.Path.{refl, ap, subst}
use mathlib.Core.List.{List}
use native.Mathlib.Omega.{arith}
use borrow.Author.Tests.{lt-ltb}
use lib.Dec.{leb}
use lib.ListN.{length}
use Rattle.words.specs.declared.Refusal.TheVariants.{NoSeptet}
use Rattle.lists.specs.Lists.{first_place}
use Rattle.words.specs.Judging.{verdict}
use Rattle.stream.specs.Stream.{packed}
use Rattle.stream.specs.ArrayCalls.{page_rules, page_answers, page_leaves}
use Rattle.stream.proofs.Given.{Gives}
use Rattle.stream.proofs.Calls.{none-high, page-passed}
use Rattle.stream.proofs.LowBits.{low_same}
use Rattle.words.proofs.Clauses.{answered}
use Rattle.packing.proofs.pack_page.Goals as goal
use Rattle.std.specs.Prelude.{Err}

pub returns-then-high-lt93 : goal.returns-then-high-lt93
unfolding page_rules page_answers page_leaves verdict
returns-then-high-lt93 c = let a = c.args in
    let high : first_place (leb 128) a.page < length a.page = omega (arith, c.first_wide-high.ensures.answer, c.if-high-lt93.true) in
    answered
    (simp (lt-ltb _ _ high) (ap (λ (k : ℕ). Err (NoSeptet k)) c.first_wide-high.ensures.answer, refl))

pub returns : goal.returns
returns c = let a = c.args in
    let low : length a.page ≤ first_place (leb 128) a.page = omega (arith, c.first_wide-high.ensures.answer, c.if-high-lt93.false) in
    answered
    (page-passed a.page a.out.now low
    (subst (λ (l : List ℕ). Gives (packed l) a.out.now c.send_page.result c.send_page.new.out) (low_same 7 a.page (none-high a.page low)) (c.send_page.ensures.answer, c.send_page.ensures.buffer)))
