-- Lemmas here are over a place of the walk by the prover's name: over plain values each would take every value of the place, and be longer than what it says.
-- `part_size` meets its contract: what the header takes and what the part holds, each in its measure. Assumes nothing.
use mathlib.Core.Path.{sym, ap, ap₂, subst, ◌∙◌}
use Prim.Native.Nat.{ℕ, ◌+◌, ◌*◌, ◌≤◌}
use native.Mathlib.Omega.{arith}
use Rattle.stream.specs.Stream.{octets_for}
use Rattle.parted.specs.Inner.{plan_count, plan_octets}
use Rattle.parted.proofs.Plans.{length_most, room_most, size-most, over-most}
use borrow.Author.Rules.{rules}
use Rattle.parts.proofs.part_size.Lts as lts
use Rattle.parts.proofs.part_size.Reads as reads
use Rattle.parts.proofs.part_size.Tie as tie
use Rattle.parts.proofs.part_size.Goals as goal

few : (c : lts.After-part_length tie.the-claims reads.Pre reads.Post tie.handed_clauses) → c.part_length-n.result ≤ 160
few c = omega (arith, c.part_length-n.ensures.answer, length_most c.args.plan c.args.k, room_most c.args.plan)

pub overflow_mul-octets : goal.overflow_mul-octets
overflow_mul-octets c = let n : c.part_length-n.result ≤ 160 = few c.before.before in search rules

pub overflow_add-octets : goal.overflow_add-octets
overflow_add-octets c = let n : c.part_length-n.result ≤ 160 = few c.before.before in
    let m : c.mark_size.result ≤ 6 = subst (λ (k : ℕ). k ≤ 6) (sym c.mark_size.ensures) (size-most c.args.plan.total) in
    search rules

pub returns-then-plan : goal.returns-then-plan
unfolding plan_count plan_octets
returns-then-plan c = let e = c.if-plan.true in
    let sum = ap₂ (λ (m n : ℕ). m + 2 * n) c.mark_size.ensures c.part_length-n.ensures.answer in
    simp e (sum, sum)

pub overflow_add-count : goal.overflow_add-count
overflow_add-count c = let n : c.part_length-n.result ≤ 160 = few c.before.before in
    let m : c.mark_septets.result ≤ 7 = subst (λ (k : ℕ). k ≤ 7) (sym c.mark_septets.ensures) (over-most c.args.plan.total) in
    search rules

pub returns : goal.returns
unfolding plan_count plan_octets
returns c = let e = c.if-plan.false in
    let sum = ap₂ (λ (m n : ℕ). m + n) c.mark_septets.ensures c.part_length-n.ensures.answer in
    simp e (sum, c.octets_for.ensures.answer ∙ ap octets_for sum)
