-- `to_septets::low_octets` meets its contract: one low octet after the other is laid over the front of the buffer, up to the shorter end.
-- Assumes nothing.
use mathlib.Core.Path.{◌≡◌, ap, ◌∙◌, sym}
use mathlib.Core.List.{List}
use Prim.Native.Nat.{ℕ, ◌%◌, ◌<◌, ◌≤◌, min}
use native.Mathlib.Omega.{arith}
use lib.Bits.{and_mask}
use lib.ListN.{length, get_or, take, drop_of_length-le}
use lib.Seq.{get_or-take, length-take-le}
use Rattle.lists.specs.Lists.{laid}
use Rattle.lists.proofs.Laid.{lay-front, lay-end, take-min}
use Rattle.letters.specs.OwnCodes.{low_octets}
use Rattle.letters.proofs.OwnTexts.{low-length, low-at}
use Rattle.to_septets.proofs.low_octets.Goals as goal

pub loop-i-preserved : goal.loop-i-preserved
loop-i-preserved c =
    let t : List ℕ = c.args.text.now in
    let i : ℕ = c.loop-i.i in
    let n : ℕ = c.min-n.result in
    let size : length (take n t) ≡ n = length-take-le n t (omega (arith, c.min-n.ensures)) in
    let before : i < n = omega (arith, size, c.loop-i-test.true) in
    lay-front (low_octets t) (omega (arith, c.min-n.ensures, low-length t)) (omega (arith, c.min-n.ensures)) c.loop-i.invariant before (and_mask (get_or (take n t) i 0) 8 ∙ ap (λ (x : ℕ). x % 256) (get_or-take n t i 0 before) ∙ sym (low-at t i))

pub returns : goal.returns
returns c =
    let t : List ℕ = c.args.text.now in
    let xs : List ℕ = low_octets t in
    let d : List ℕ = c.args.out.now in
    let n : ℕ = c.min-n.result in
    let many : n ≡ min (length xs) (length d) = omega (arith, c.min-n.ensures, low-length t) in
    let size : length (take n t) ≡ n = length-take-le n t (omega (arith, c.min-n.ensures)) in
    let all : length (take n xs) ≤ c.loop-i.i = omega (arith, size, c.loop-i-test.false, length-take-le n xs (omega (arith, many))) in
    record { buffer = lay-end c.loop-i.invariant (drop_of_length-le (take n xs) {i = c.loop-i.i} all) ∙ ap (λ (l : List ℕ). laid l d) (take-min xs n (length d) many) }
