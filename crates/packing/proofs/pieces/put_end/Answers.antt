-- Lemmas here are over a place of the walk by the prover's name: over plain values each would take every value of the place, and be longer than what it says.
-- Each run stores the octets right after those that are stored, and what is left of the number is shifted down by as many.
use Prim.Native.Nat.{ℕ, ◌+◌, ◌*◌, ◌/◌, ◌≤◌}
use mathlib.Core.Path.{◌≡◌, refl, ◌∙◌}
use mathlib.Core.List.{List}
use native.Mathlib.Omega.{arith}
use lib.ListN.{length}
use Rattle.stream.proofs.Ends.{Put, put-none, put-run, put_same, put-long, put-end}
use borrow.Author.Rules.{rules}
use Rattle.packing.proofs.pieces.put_end.Lts as lts
use Rattle.packing.proofs.pieces.put_end.Reads as reads
use Rattle.packing.proofs.pieces.put_end.Tie as tie
use Rattle.packing.proofs.pieces.put_end.Goals.{else-n-ge2, else-n-ge4, then-n-ge2, then-n-ge4}
use Rattle.packing.proofs.pieces.put_end.Goals as goal

-- after the run of four
fours : (c : lts.Joined1 tie.the-claims reads.Pre reads.Post) → let a = c.args in Put a.out.now a.at a.v (4 * (a.n / 4)) c.if-n-ge4.out c.if-n-ge4.w c.if-n-ge4.k
fours c =
    let a = c.args in
    let d : List ℕ = a.out.now in
    let within : a.at ≤ length d = search rules in
    elim c.if-n-ge4.branch [ then-n-ge4 w ↦ put-run d a.at a.v within 4 (put-none d a.at a.v within) (omega arith) (w.out-is ∙ w.put_four.ensures) w.w-is w.k-is | else-n-ge4 w ↦ put_same d a.at a.v within (put-none d a.at a.v within) (omega arith) w.out-is w.w-is w.k-is ]

-- after the run of two
twos : (c : lts.Joined2 tie.the-claims reads.Pre reads.Post) → let a = c.args in Put a.out.now a.at a.v (2 * (a.n / 2)) c.if-n-ge2.out c.if-n-ge2.w c.if-n-ge2.k
twos c =
    let a = c.args in
    let d : List ℕ = a.out.now in
    let within : a.at ≤ length d = search rules in
    elim c.if-n-ge2.branch [ then-n-ge2 w ↦ put-run d a.at a.v within 2 (fours c.before) (omega arith) (w.out-is ∙ w.put_two.ensures) w.w-is w.k-is | else-n-ge2 w ↦ put_same d a.at a.v within (fours c.before) (omega arith) w.out-is w.w-is w.k-is ]

-- nothing is stored past the end
fours-long : (c : lts.Joined1 tie.the-claims reads.Pre reads.Post) → length c.if-n-ge4.out ≡ length c.args.out.now
fours-long c =
    let a = c.args in
    put-long a.out.now a.at a.v (search rules) (fours c) (omega arith)

twos-long : (c : lts.Joined2 tie.the-claims reads.Pre reads.Post) → length c.if-n-ge2.out ≡ length c.args.out.now
twos-long c =
    let a = c.args in
    put-long a.out.now a.at a.v (search rules) (twos c) (omega arith)

pub put_two-requires : goal.put_two-requires
put_two-requires c = omega (arith, fours-long c.before.before, (fours c.before.before).next)

pub overflow_add-k-then-n-ge2 : goal.overflow_add-k-then-n-ge2
overflow_add-k-then-n-ge2 c = omega (arith, (fours c.before.before.before.before.before.before.before.before).next)

pub put_one-requires : goal.put_one-requires
put_one-requires c = omega (arith, twos-long c.before.before, (twos c.before.before).next)

-- after the last octet
ones : (c : lts.After-slice_known4 tie.the-claims reads.Pre reads.Post) → let a = c.args in
    Put a.out.now a.at a.v a.n c.put_one.new.out (c.if-n-ge2.w / 256) (c.if-n-ge2.k + 1)
ones c =
    let a = c.args in
    put-run a.out.now a.at a.v (search rules) 1 (twos c.before.before.before.before.before) (omega arith) c.put_one.ensures refl refl

pub shape_of-out-then-n-eq1 : goal.shape_of-out-then-n-eq1
shape_of-out-then-n-eq1 c = let a = c.args in
    put-long a.out.now a.at a.v (search rules) (ones c.before) (search rules)

pub returns-then-n-eq1 : goal.returns-then-n-eq1
returns-then-n-eq1 c = let a = c.args in
    put-end a.out.now a.at a.v (search rules) (ones c.before)

pub shape_of-out-else-n-eq1 : goal.shape_of-out-else-n-eq1
shape_of-out-else-n-eq1 c = twos-long c.before

pub returns-else-n-eq1 : goal.returns-else-n-eq1
returns-else-n-eq1 c = let a = c.args in
    put-end a.out.now a.at a.v (search rules) (put_same a.out.now a.at a.v (search rules) (twos c.before) (omega arith) refl refl refl)
