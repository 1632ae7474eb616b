-- The headers passed are right, so that the first that is wrong decides, or at the end whether any part was odd. Assumes nothing.
use Prim.Native.Nat.{ℕ, ◌+◌, ◌-◌, ◌≤◌, ◌<◌}
use mathlib.Core.Bool.{Bool, false, ◌&&◌}
use mathlib.Core.List.{List}
use mathlib.Core.Path.{◌≡◌, sym, ap, ◌∙◌}
use native.Mathlib.Omega.{arith}
use lib.ListN.{length, get_or, take, drop}
use Rattle.std.specs.Prelude.{Result, Err}
use Rattle.words.specs.declared.Refusal.{Refusal}
use Rattle.parted.specs.Joined.{octets_asked, start_at, part_in, wrong_counts}
use Rattle.parted.specs.InnerJoined.{head_judged}
use Rattle.parted.proofs.OrderSteps.{part-within, part-is, head-wrong, head-even, heads-none, heads-more, heads-wrong, heads-odd, heads-right}
use borrow.Author.Rules.{rules}
use Rattle.part_order.proofs.Parts.judge_heads.Goals as goal

pub loop-count-init : goal.loop-count-init
loop-count-init c = let p = c.args.self.now in
    heads-none p.ucs2 p.counts.now p.octets.now

module _ (ucs2 : Bool) (cs o : List ℕ) (i at n : ℕ) (start : at ≡ start_at ucs2 cs i) (asked : n ≡ octets_asked ucs2 (get_or cs i 0)) where
  -- part i is within the octets
  within : wrong_counts ucs2 cs o ≡ false → i < length cs → at + n ≤ length o
  within fits h = omega (arith, part-within ucs2 cs o fits i h, start, asked)

  -- and is what is judged, where it begins there
  judged-is : {x : Result Bool Refusal} {b : ℕ} → x ≡ head_judged ucs2 (get_or cs i 0) (take (at + n - b) (drop b o)) → b ≡ at → x ≡ head_judged ucs2 (get_or cs i 0) (part_in ucs2 cs o i)
  judged-is e same =
      e
      ∙ ap (λ (b : ℕ). head_judged ucs2 (get_or cs i 0) (take (at + n - b) (drop b o))) same
      ∙ ap (head_judged ucs2 (get_or cs i 0)) (part-is ucs2 cs o i at n start asked)

pub overflow_add-end : goal.overflow_add-end
overflow_add-end c = let p = c.args.self.now in
    let w : c.loop-count.at + c.octets_asked.result ≤ length p.octets.now = within p.ucs2 p.counts.now p.octets.now _ _ _ c.loop-count.invariant.start c.octets_asked.ensures.0 c.requires c.loop-count-test.true in
    search rules

pub slice_bounds-judge_head-end : goal.slice_bounds-judge_head-end
slice_bounds-judge_head-end c = let p = c.args.self.now in
    let w : c.loop-count.at + c.octets_asked.result ≤ length p.octets.now = within p.ucs2 p.counts.now p.octets.now _ _ _ c.loop-count.invariant.start c.octets_asked.ensures.0 c.requires c.loop-count-test.true in
    search rules

pub returns-in_err-even : goal.returns-in_err-even
returns-in_err-even c = let p = c.args.self.now in
    let wrong = head-wrong p.ucs2 _ _ _ (judged-is p.ucs2 p.counts.now p.octets.now _ _ _ c.loop-count.invariant.start c.octets_asked.ensures.0 c.in_err-even.ensures (grind arith)) in
    let is : c.from_residual.result ≡ Err c.in_err-even.field-0.0 = search rules in
    is ∙ ap Err wrong.1 ∙ sym (heads-wrong p.ucs2 p.counts.now p.octets.now c.loop-count.count-index c.loop-count-test.true wrong.0)

pub loop-count-preserved : goal.loop-count-preserved
loop-count-preserved c = let p = c.args.self.now in
    let even = head-even p.ucs2 _ _ _ (judged-is p.ucs2 p.counts.now p.octets.now _ _ _ c.loop-count.invariant.start c.octets_asked.ensures.0 c.in_ok-even.ensures (grind arith)) in
    heads-more p.ucs2 p.counts.now p.octets.now c.loop-count.invariant c.loop-count-test.true _ c.octets_asked.ensures.0 even.0 _ (ap (λ (b : Bool). c.loop-count.all_even && b) even.1)

pub returns-then-not-all_even : goal.returns-then-not-all_even
returns-then-not-all_even c = let p = c.args.self.now in
    sym (heads-odd p.ucs2 p.counts.now p.octets.now c.loop-count.invariant (omega (arith, c.loop-count-test.false)) c.if-not-all_even.true)

pub returns : goal.returns
returns c = let p = c.args.self.now in
    sym (heads-right p.ucs2 p.counts.now p.octets.now c.loop-count.invariant (omega (arith, c.loop-count-test.false)) c.if-not-all_even.false)
