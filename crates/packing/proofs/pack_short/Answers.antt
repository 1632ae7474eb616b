-- The test is the first rule that can refuse here; past it all septets are packed, and the room is judged there. Assumes nothing.
use Prim.Native.Nat.{ℕ, ◌%◌}
use mathlib.Core.Path.{◌≡◌, refl, sym, ◌∙◌, subst}
use mathlib.Core.List.{List}
use native.Mathlib.Omega.{arith}
use borrow.Author.Tests.{lt-ltb}
use lib.ListN.{length, take, length-map}
use lib.Seq.{take_all}
use Rattle.words.specs.declared.Service.TheVariants.{ShortMessage}
use Rattle.words.specs.Judging.{verdict}
use Rattle.stream.specs.Stream.{packed}
use Rattle.stream.specs.Digits.{low_of}
use Rattle.stream.specs.ArrayCalls.{array_rules, array_answers, array_leaves}
use Rattle.stream.proofs.Given.{Gives}
use Rattle.stream.proofs.Calls.{array-passed}
use Rattle.words.proofs.Clauses.{answered}
use Rattle.packing.proofs.pack_short.Goals as goal

pub returns-then-n-gt160 : goal.returns-then-n-gt160
unfolding array_rules array_answers array_leaves verdict
returns-then-n-gt160 c = answered (simp (lt-ltb 160 _ c.if-n-gt160.true) (refl, refl))

pub returns : goal.returns
returns c = let a = c.args in
    let s : List ℕ = a.septets.now in
    let all : take (length s) (low_of 7 s) ≡ low_of 7 s = take_all (length s) (low_of 7 s) (omega (arith, length-map s (λ (x : ℕ). x % 128))) in
    let gives = subst (λ (l : List ℕ). Gives (packed l) a.out.now c.send.result c.send.new.out) (sym all) (c.send.ensures.answer, c.send.ensures.buffer) in
    let p = array-passed ShortMessage s (length s) a.out.now refl c.if-n-gt160.false gives in
    record { answer = c.counted.ensures ∙ p.0; buffer = p.1 }
