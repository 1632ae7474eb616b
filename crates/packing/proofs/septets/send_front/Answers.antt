-- Whole groups are recut, and what is left of the first n septets, with the CR above it, is stored as the octets after them.
use Prim.Native.Nat.{ℕ, ◌+◌, ◌-◌, ◌*◌, ◌/◌, ◌%◌, ◌≤◌}
use mathlib.Core.Path.{◌≡◌, sym, ap, ◌∙◌}
use mathlib.Core.List.{List, ◌++◌}
use native.Mathlib.Omega.{arith}
use lib.ListN.{length, take, drop, length-map, length-drop}
use lib.Seq.{take-take, length-take-le}
use Rattle.lists.specs.Lists.{laid}
use Rattle.lists.proofs.Below.{Below, below-take, below-drop}
use Rattle.stream.specs.Stream.{octets_for, packed}
use Rattle.stream.specs.Digits.{value, digits, low_of}
use Rattle.stream.specs.Groups.{left_over}
use Rattle.stream.specs.UssdPacking.{with_cr}
use Rattle.stream.proofs.Stream.{packed-length}
use Rattle.stream.proofs.LowBits.{low_below}
use Rattle.stream.proofs.Given.{given-short, given-done}
use Rattle.stream.proofs.Sent.{sent-whole, sent-end, over-few, front_rest}
use Rattle.words.proofs.Clauses.{answered}
use Rattle.packing.proofs.OctetCount.{octets-taken, groups-within}
use Rattle.packing.proofs.septets.send_front.Goals as goal

-- n septets are packed
size : (s : List ℕ) (n : ℕ) → n ≤ length s → length (take n (low_of 7 s)) ≡ n
size s n h = length-take-le n (low_of 7 s) (omega (arith, length-map s (λ (x : ℕ). x % 128)))

below : (s : List ℕ) (n : ℕ) → Below 128 (take n (low_of 7 s))
below s n = below-take 128 (low_of 7 s) (low_below 7 s) n

pub returns-then-out-octets : goal.returns-then-out-octets
returns-then-out-octets c =
    let a = c.args in
    let t : List ℕ = take a.n (low_of 7 a.septets.now) in
    let long : length t ≡ a.n = size a.septets.now a.n (omega arith) in
    let octets : c.octets_for-octets.result ≡ octets_for (length (with_cr a.cr t)) = octets-taken t a.cr long c.with_cr.ensures c.octets_for-octets.ensures.answer in
    answered (given-short (packed (with_cr a.cr t)) a.out.now (omega (arith, packed-length (with_cr a.cr t))))

pub recut-requires : goal.recut-requires
recut-requires c =
    let a = c.args in
    let t : List ℕ = take a.n (low_of 7 a.septets.now) in
    let long : length t ≡ a.n = size a.septets.now a.n (omega arith) in
    let w = groups-within t a.cr long (octets-taken t a.cr long c.with_cr.ensures c.octets_for-octets.ensures.answer) in
    omega (arith, w, c.requires)

pub low_eight-v-requires : goal.low_eight-v-requires
low_eight-v-requires c = omega arith

pub put_end-requires : goal.put_end-requires
put_end-requires c =
    let a = c.args in
    let t : List ℕ = take a.n (low_of 7 a.septets.now) in
    let long : length t ≡ a.n = size a.septets.now a.n (omega arith) in
    let w = groups-within t a.cr long (octets-taken t a.cr long c.with_cr.ensures c.octets_for-octets.ensures.answer) in
    omega (arith, w)

pub returns-then-done-octets : goal.returns-then-done-octets
returns-then-done-octets c =
    let a = c.args in
    let d : List ℕ = a.out.now in
    let s : List ℕ = a.septets.now in
    let n : ℕ = a.n in
    let g : ℕ = n / 8 in
    let u : List ℕ = low_of 7 s in
    let t : List ℕ = take n u in
    let all : List ℕ = with_cr a.cr t in
    let long : length t ≡ n = size s n (omega arith) in
    let octets : c.octets_for-octets.result ≡ octets_for (length all) = octets-taken t a.cr long c.with_cr.ensures c.octets_for-octets.ensures.answer in
    let few : 8 * g + 8 ≤ length u = omega (arith, length-map s (λ (x : ℕ). x % 128)) in
    let eight : List ℕ = take 8 (drop (8 * g) u) in
    let whole : length eight ≡ 8 = length-take-le 8 (drop (8 * g) u) (omega (arith, length-drop (8 * g) u)) in
    let rest : n - 8 * g ≡ n % 8 = omega arith in
    let left : take (n % 8) eight ≡ drop (8 * g) t =
    take-take (n % 8) 8 (drop (8 * g) u) (omega arith)
    ∙ sym (front_rest n (8 * g) u (omega arith) (omega arith) ∙ ap (λ (k : ℕ). take k (drop (8 * g) u)) rest) in
    let w =
    c.left_over-w.ensures.answer ∙ ap (λ (x : ℕ). left_over x n a.cr) c.low_eight-v.ensures
    ∙ over-few eight n a.cr (below-take 128 (drop (8 * g) u) (below-drop 128 u (low_below 7 s) (8 * g)) 8) (omega (arith, whole))
    ∙ ap (λ (l : List ℕ). value 128 (with_cr a.cr l)) left in
    answered
    (given-done (packed all) d (octets ∙ sym (packed-length all)) (omega (arith, packed-length all))
    (sent-end t (below s n) a.cr n long d c.recut.new.out (c.recut.ensures ∙ ap (λ (l : List ℕ). laid (digits 256 (7 * g) (value 128 l)) d) (sym (take-take (8 * g) n u (omega arith)))) _ _ w
    (c.put_end.ensures ∙ ap (λ (k : ℕ). take (7 * g) c.recut.new.out ++ digits 256 (k - 7 * g) c.left_over-w.result ++ drop (7 * g + (k - 7 * g)) c.recut.new.out) octets)))

pub returns-else-done-octets : goal.returns-else-done-octets
returns-else-done-octets c =
    let a = c.args in
    let d : List ℕ = a.out.now in
    let n : ℕ = a.n in
    let s : List ℕ = a.septets.now in
    let u : List ℕ = low_of 7 s in
    let t : List ℕ = take n u in
    let all : List ℕ = with_cr a.cr t in
    let long : length t ≡ n = size s n (omega arith) in
    let octets : c.octets_for-octets.result ≡ octets_for (length all) = octets-taken t a.cr long c.with_cr.ensures c.octets_for-octets.ensures.answer in
    answered
    (given-done (packed all) d (octets ∙ sym (packed-length all)) (omega (arith, packed-length all))
    (sent-whole t (below s n) a.cr n long d c.recut.new.out (c.recut.ensures ∙ ap (λ (l : List ℕ). laid (digits 256 (7 * (n / 8)) (value 128 l)) d) (sym (take-take (8 * (n / 8)) n u (omega arith)))) (omega (arith, octets, c.if-done-octets.false))))
