-- Whole groups are recut, and what is left of the septets, with the CR above it, is stored as the octets after them.
use Prim.Native.Nat.{ℕ, ◌+◌, ◌-◌, ◌*◌, ◌/◌, ◌%◌}
use mathlib.Core.Path.{◌≡◌, sym, ap, ◌∙◌}
use mathlib.Core.List.{List, ◌++◌}
use native.Mathlib.Omega.{arith}
use lib.ListN.{length, take, drop, length-map, length-drop}
use lib.Seq.{take_all}
use Rattle.lists.proofs.Below.{Below, below-drop}
use Rattle.stream.specs.Stream.{octets_for, packed}
use Rattle.stream.specs.Digits.{value, digits, low_of}
use Rattle.stream.specs.Groups.{together, left_over}
use Rattle.stream.specs.UssdPacking.{with_cr}
use Rattle.stream.proofs.Stream.{packed-length}
use Rattle.stream.proofs.LowBits.{low_below, low-drop, together-few}
use Rattle.stream.proofs.Given.{given-short, given-done}
use Rattle.stream.proofs.Sent.{sent-whole, sent-end, over-few}
use Rattle.words.proofs.Clauses.{answered}
use Rattle.packing.proofs.OctetCount.{octets-taken, groups-within}
use Rattle.packing.proofs.septets.send.Goals as goal

-- the septets that are packed are as many as those that were passed
size : (s : List ℕ) → length (low_of 7 s) ≡ length s
size s = length-map s _

pub returns-then-out-octets : goal.returns-then-out-octets
returns-then-out-octets c =
    let a = c.args in
    let t : List ℕ = low_of 7 a.septets.now in
    let octets : c.octets_for-octets.result ≡ octets_for (length (with_cr a.cr t)) = octets-taken t a.cr (size a.septets.now) c.with_cr.ensures c.octets_for-octets.ensures.answer in
    answered (given-short (packed (with_cr a.cr t)) a.out.now (omega (arith, packed-length (with_cr a.cr t))))

pub recut-requires : goal.recut-requires
recut-requires c =
    let a = c.args in
    let t : List ℕ = low_of 7 a.septets.now in
    let w = groups-within t a.cr (size a.septets.now) (octets-taken t a.cr (size a.septets.now) c.with_cr.ensures c.octets_for-octets.ensures.answer) in
    omega (arith, w, c.requires)

pub take_end-requires : goal.take_end-requires
take_end-requires c = omega arith

pub put_end-requires : goal.put_end-requires
put_end-requires c =
    let a = c.args in
    let t : List ℕ = low_of 7 a.septets.now in
    let w = groups-within t a.cr (size a.septets.now) (octets-taken t a.cr (size a.septets.now) c.with_cr.ensures c.octets_for-octets.ensures.answer) in
    omega (arith, w)

pub returns-then-done-octets : goal.returns-then-done-octets
returns-then-done-octets c =
    let a = c.args in
    let d : List ℕ = a.out.now in
    let s : List ℕ = a.septets.now in
    let n : ℕ = length s in
    let g : ℕ = n / 8 in
    let t : List ℕ = low_of 7 s in
    let all : List ℕ = with_cr a.cr t in
    let octets : c.octets_for-octets.result ≡ octets_for (length all) = octets-taken t a.cr (size s) c.with_cr.ensures c.octets_for-octets.ensures.answer in
    let known : Below 256 s = λ k. (c.type_inv.septets k).fits in
    let rest : List ℕ = drop (8 * g) s in
    let v =
    c.squeeze-v.ensures.answer
    ∙ ap together (c.take_end.ensures ∙ ap (value 256) (take_all (n % 8) rest (omega (arith, length-drop (8 * g) s))))
    ∙ together-few rest (below-drop 256 s known (8 * g)) (omega (arith, length-drop (8 * g) s))
    ∙ ap (value 128) (sym (low-drop 7 (8 * g) s)) in
    let left : List ℕ = drop (8 * g) t in
    let size-left : length left ≡ n % 8 = omega (arith, length-drop (8 * g) t, size s) in
    let w =
    c.left_over-w.ensures.answer ∙ ap (λ (x : ℕ). left_over x n a.cr) v ∙ over-few left n a.cr (below-drop 128 t (low_below 7 s) (8 * g)) (omega (arith, size-left))
    ∙ ap (λ (l : List ℕ). value 128 (with_cr a.cr l)) (take_all (n % 8) left (omega (arith, size-left))) in
    answered
    (given-done (packed all) d (octets ∙ sym (packed-length all)) (omega (arith, packed-length all))
    (sent-end t (low_below 7 s) a.cr n (size s) d c.recut.new.out c.recut.ensures _ _ w
    (c.put_end.ensures ∙ ap (λ (k : ℕ). take (7 * g) c.recut.new.out ++ digits 256 (k - 7 * g) c.left_over-w.result ++ drop (7 * g + (k - 7 * g)) c.recut.new.out) octets)))

pub returns-else-done-octets : goal.returns-else-done-octets
returns-else-done-octets c =
    let a = c.args in
    let d : List ℕ = a.out.now in
    let s : List ℕ = a.septets.now in
    let t : List ℕ = low_of 7 s in
    let all : List ℕ = with_cr a.cr t in
    let octets : c.octets_for-octets.result ≡ octets_for (length all) = octets-taken t a.cr (size s) c.with_cr.ensures c.octets_for-octets.ensures.answer in
    answered
    (given-done (packed all) d (octets ∙ sym (packed-length all)) (omega (arith, packed-length all))
    (sent-whole t (low_below 7 s) a.cr (length s) (size s) d c.recut.new.out c.recut.ensures (omega (arith, octets, c.if-done-octets.false))))
