-- Lemmas here are over a place of the walk by the prover's name: over plain values each would take every value of the place, and be longer than what it says.
-- Each run joins the octets right before those that are joined.
use Prim.Native.Nat.{ℕ, ◌+◌, ◌*◌, ◌%◌, ◌^◌, ◌≤◌}
use mathlib.Core.Path.{refl, sym, ap, ◌∙◌}
use mathlib.Core.List.{List}
use native.Mathlib.Omega.{arith}
use lib.Bits.{bit_or}
use lib.ListN.{length, take, drop, get_or}
use Rattle.lists.proofs.Below.{Below}
use Rattle.stream.specs.Digits.{value}
use Rattle.stream.proofs.Ends.{Taken, taken_none, taken-one, taken-run, taken-same, taken-end}
use borrow.Author.Rules.{rules}
use Rattle.packing.proofs.pieces.take_end.Lts as lts
use Rattle.packing.proofs.pieces.take_end.Reads as reads
use Rattle.packing.proofs.pieces.take_end.Tie as tie
use Rattle.packing.proofs.pieces.take_end.Goals.{else-n-eq1, else-n-ge2, then-n-eq1, then-n-ge2}
use Rattle.packing.proofs.pieces.take_end.Goals as goal

-- after the odd octet
ones : (c : lts.Joined1 tie.the-claims reads.Pre reads.Post) → Below 256 c.args.octets.now → let a = c.args in Taken a.octets.now (a.at + a.n) (a.n % 2) c.if-n-eq1.v c.if-n-eq1.k
ones c known =
    let a = c.args in
    let o : List ℕ = a.octets.now in
    let end : ℕ = a.at + a.n in
    let within : end ≤ length o = search rules in
    elim c.if-n-eq1.branch [
      | then-n-eq1 w ↦ let one : Taken o end 1 c.if-n-eq1.v c.if-n-eq1.k = taken-one o end known within (w.v-is ∙ w.wide-v.ensures ∙ ap (λ (i : ℕ). get_or o i 0) (sym w.k-is)) (omega arith) in
          taken-same o end known within one w.if-n-eq1.true refl refl
      | else-n-eq1 w ↦ taken-same o end known within (taken_none o end known within) (omega arith) w.v-is w.k-is
    ]

-- after the pair
twos : (c : lts.Joined2 tie.the-claims reads.Pre reads.Post) → Below 256 c.args.octets.now → let a = c.args in Taken a.octets.now (a.at + a.n) (a.n % 4) c.if-n-ge2.v c.if-n-ge2.k
twos c known =
    let a = c.args in
    let o : List ℕ = a.octets.now in
    let end : ℕ = a.at + a.n in
    let within : end ≤ length o = search rules in
    let last = ones c.before known in
    elim c.if-n-ge2.branch [
      | then-n-ge2 w ↦ let x : ℕ = w.join_two.result in
          taken-run o end known within 2 x last (omega arith) (omega arith) (omega (arith, last.next)) (w.join_two.ensures ∙ ap (λ (k : ℕ). value 256 (take 2 (drop k o))) (sym w.k-is)) w.v-is
      | else-n-ge2 w ↦ taken-same o end known within last (omega arith) w.v-is w.k-is
    ]

pub overflow_sub-k-then-n-ge2 : goal.overflow_sub-k-then-n-ge2
overflow_sub-k-then-n-ge2 c = omega (arith, (ones c.before.before.before (λ k. (c.type_inv.octets k).fits)).next)

pub join_two-requires : goal.join_two-requires
join_two-requires c = omega (arith, (ones c.before.before.before.before (λ k. (c.type_inv.octets k).fits)).next)

pub join_four-requires : goal.join_four-requires
join_four-requires c = omega arith

pub returns-then-n-ge4 : goal.returns-then-n-ge4
returns-then-n-ge4 c = let a = c.args in
    let o : List ℕ = a.octets.now in
    let end : ℕ = a.at + a.n in
    let within : end ≤ length o = search rules in
    let last = twos c.before.before.before.before (λ k. (c.type_inv.octets k).fits) in
    let all : Taken o end a.n (bit_or (c.if-n-ge2.v * 2 ^ 32 % 2 ^ 64) c.join_four.result) a.at =
    taken-run o end (λ k. (c.type_inv.octets k).fits) within 4 c.join_four.result last (omega arith) (omega arith) (omega (arith, last.next)) c.join_four.ensures refl in
    taken-end o end (λ k. (c.type_inv.octets k).fits) within a.at all refl

pub returns-else-n-ge4 : goal.returns-else-n-ge4
returns-else-n-ge4 c = let a = c.args in
    let o : List ℕ = a.octets.now in
    let end : ℕ = a.at + a.n in
    let within : end ≤ length o = search rules in
    taken-end o end (λ k. (c.type_inv.octets k).fits) within a.at (taken-same o end (λ k. (c.type_inv.octets k).fits) within (twos c.before.before (λ k. (c.type_inv.octets k).fits)) (omega arith) refl refl) refl
