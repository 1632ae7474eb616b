-- Whole groups and what is left over make up the number that the octets write, so that its septets follow each other.
use Prim.Native.Nat.{ℕ, ◌+◌, ◌*◌, ◌/◌, ◌%◌, ◌≤◌}
use mathlib.Core.Path.{◌≡◌, sym, ap, ap₂, ◌∙◌}
use mathlib.Core.List.{List, ◌++◌, append-nil}
use native.Mathlib.Omega.{arith}
use lib.ListN.{length, take, drop, length-drop, take-append-drop}
use lib.Seq.{take_all, length-take-le}
use Rattle.lists.specs.Lists.{laid}
use Rattle.lists.proofs.Laid.{laid_then}
use Rattle.lists.proofs.Below.{Below, below-take}
use Rattle.stream.specs.Stream.{octets_for, unpacked}
use Rattle.stream.specs.Digits.{value, digits, low_of}
use Rattle.stream.specs.Groups.{apart}
use Rattle.stream.proofs.Numbers.{digits-length, recut-append, digits-front}
use Rattle.stream.proofs.Stream.{unpacked-digits}
use Rattle.stream.proofs.LowBits.{low_same, apart-octets}
use Rattle.packing.proofs.septets.unpack_into.Goals as goal

-- n septets are whole groups and the rest
unpacked-parts : (o : List ℕ) → Below 256 o → (n : ℕ) → length o ≡ octets_for n
    → digits 128 (8 * (n / 8)) (value 256 (take (7 * (n / 8)) o)) ++ digits 128 (n % 8) (value 256 (take (n % 8) (drop (7 * (n / 8)) o))) ≡ unpacked n o
unfolding octets_for
unpacked-parts o h n e =
    let g : ℕ = n / 8 in
    let r : ℕ = n % 8 in
    let parts : 8 * g + r ≡ n = omega arith in
    let size : 8 * length (take (7 * g) o) ≡ 7 * (8 * g) = ap (λ (k : ℕ). 8 * k) (length-take-le (7 * g) o (omega arith)) ∙ omega arith in
    ap (λ (t : List ℕ). digits 128 (8 * g) (value 256 (take (7 * g) o)) ++ digits 128 r (value 256 t)) (take_all r (drop (7 * g) o) (omega (arith, length-drop (7 * g) o)))
    ∙ sym (recut-append 8 7 (8 * g) r (take (7 * g) o) (drop (7 * g) o) (below-take 256 o h (7 * g)) size)
    ∙ ap₂ (λ (k : ℕ) (t : List ℕ). digits 128 k (value 256 t)) parts (take-append-drop (7 * g) o)
    ∙ sym (unpacked-digits n o h)

-- the first octets of septets that lie apart are the septets
first-apart : (v k : ℕ) → k ≤ 8 → digits 256 k (apart v) ≡ digits 128 k v
first-apart v k h = sym (digits-front 256 8 k (apart v) h) ∙ ap (take k) (apart-octets v) ∙ digits-front 128 8 k v h

pub recut-requires : goal.recut-requires
unfolding octets_for
recut-requires c = omega arith

-- whole groups are stored
groups : (o d : List ℕ) (n : ℕ) {left : List ℕ} → Below 256 o → left ≡ laid (digits 128 (8 * (n / 8)) (value 256 (take (7 * (n / 8)) (low_of 8 o)))) d
    → left ≡ laid (digits 128 (8 * (n / 8)) (value 256 (take (7 * (n / 8)) o))) d
groups o d n known e = e ∙ ap (λ (l : List ℕ). laid (digits 128 (8 * (n / 8)) (value 256 (take (7 * (n / 8)) l))) d) (low_same 8 o known)

pub take_end-v-requires : goal.take_end-v-requires
unfolding octets_for
take_end-v-requires c = omega arith

pub returns-then-rest-gt0 : goal.returns-then-rest-gt0
returns-then-rest-gt0 c =
    let a = c.args in
    let o : List ℕ = a.octets.now in
    let known : Below 256 o = λ k. (c.type_inv.octets k).fits in
    let n : ℕ = a.n in
    let g : ℕ = n / 8 in
    let r : ℕ = n % 8 in
    let done : List ℕ = digits 128 (8 * g) (value 256 (take (7 * g) o)) in
    let rest : List ℕ = digits 128 r (value 256 (take r (drop (7 * g) o))) in
    c.put_end.ensures
    ∙ ap₂ (λ (l s : List ℕ). take (8 * g) l ++ s ++ drop (8 * g + r) l) (groups o a.out.now n known c.recut.ensures)
    (ap (digits 256 r) c.stretch.ensures.answer ∙ first-apart c.take_end-v.result r (omega arith) ∙ ap (digits 128 r) c.take_end-v.ensures)
    ∙ laid_then done rest a.out.now (8 * g) r (digits-length 128 (8 * g) (value 256 (take (7 * g) o))) (digits-length 128 r (value 256 (take r (drop (7 * g) o))))
    ∙ ap (λ (l : List ℕ). laid l a.out.now) (unpacked-parts o known n c.requires.0)

pub returns-else-rest-gt0 : goal.returns-else-rest-gt0
unfolding digits
returns-else-rest-gt0 c =
    let a = c.args in
    let o : List ℕ = a.octets.now in
    let known : Below 256 o = λ k. (c.type_inv.octets k).fits in
    let g : ℕ = a.n / 8 in
    let done : List ℕ = digits 128 (8 * g) (value 256 (take (7 * g) o)) in
    let none : 0 ≡ a.n % 8 = omega arith in
    groups o a.out.now a.n known c.recut.ensures
    ∙ ap (λ (l : List ℕ). laid l a.out.now)
    (sym (append-nil done)
    ∙ ap (λ (r : ℕ). done ++ digits 128 r (value 256 (take r (drop (7 * g) o)))) none
    ∙ unpacked-parts o known a.n c.requires.0)
