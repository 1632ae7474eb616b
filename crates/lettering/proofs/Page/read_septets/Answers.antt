-- All septets of the page fill the array: the third is the CR, and the 90 behind it, without closing CRs, are read. Assumes nothing.
use Prim.Native.Nat.{ℕ, ◌+◌, ◌-◌, ◌≤◌}
use mathlib.Core.Path.{◌≡◌, refl, sym, ap, ◌∙◌}
use mathlib.Core.List.{List}
use native.Mathlib.Omega.{arith}
use lib.ListN.{take, drop, get_or, replicate}
use Rattle.words.specs.declared.Service.TheVariants.{Broadcast}
use Rattle.stream.specs.Stream.{unpacked}
use Rattle.stream.specs.ArrayCalls.{kept_count}
use Rattle.lettering.specs.Inner.{behind_letters}
use Rattle.lettering.proofs.Steps.{all-unpacked, read-open, read-text}
use Rattle.lettering.proofs.Arrays.{take-few, kept-few, kept-text}
use Rattle.words.proofs.Clauses.{answered, passed}
use borrow.Author.Rules.{rules}
use Rattle.lettering.proofs.Page.read_septets.Goals as goal

-- no more are left than the 90 that are looked at
few : (s : List ℕ) {n : ℕ} → n ≡ kept_count Broadcast (take 90 s) → n ≤ 90
few s {n} e = kept-few n 90 _ e (take-few 90 s)

pub overflow_add-n : goal.overflow_add-n
overflow_add-n c = record { fits = omega (arith, few (drop 3 c.unpack_all.new.out) c.text_length-n.ensures.answer) }

pub slice_bounds-septets_to_text-end : goal.slice_bounds-septets_to_text-end
slice_bounds-septets_to_text-end c = omega (arith, few (drop 3 c.unpack_all.new.out) c.text_length-n.ensures.answer)

pub returns-in_err-units : goal.returns-in_err-units
returns-in_err-units c =
    let a = c.args in
    let s = c.args.self.now in
    let array : List ℕ = c.unpack_all.new.out in
    let all : array ≡ unpacked 93 s.octets.now = c.unpack_all.ensures.buffer ∙ all-unpacked s.octets.now (replicate 93 0) s.whole refl in
    let r =
    read-text s.letters s.octets.now a.out.now s.whole s.read s.named s.octet
    (sym (ap (λ (s : List ℕ). get_or s 2 0) all) ∙ c.if-septets-eq13.true) (take (3 + c.text_length-n.result - 3) (drop 3 array)) (kept-text s.octets.now array c.text_length-n.result all c.text_length-n.ensures.answer) in
    passed (search rules) (ap (behind_letters s.letters) c.in_err-units.ensures.answer ∙ r.0, c.in_err-units.ensures.buffer ∙ r.1)

pub returns-then-septets-eq13 : goal.returns-then-septets-eq13
returns-then-septets-eq13 c =
    let a = c.args in
    let s = c.args.self.now in
    let array : List ℕ = c.unpack_all.new.out in
    let all : array ≡ unpacked 93 s.octets.now = c.unpack_all.ensures.buffer ∙ all-unpacked s.octets.now (replicate 93 0) s.whole refl in
    let r =
    read-text s.letters s.octets.now a.out.now s.whole s.read s.named s.octet
    (sym (ap (λ (s : List ℕ). get_or s 2 0) all) ∙ c.if-septets-eq13.true) (take (3 + c.text_length-n.result - 3) (drop 3 array)) (kept-text s.octets.now array c.text_length-n.result all c.text_length-n.ensures.answer) in
    record { answer = ap (behind_letters s.letters) c.in_ok-units.ensures.answer ∙ r.0; buffer = c.in_ok-units.ensures.buffer ∙ r.1 }

pub returns : goal.returns
returns c =
    let a = c.args in
    let s = c.args.self.now in
    let all : c.unpack_all.new.out ≡ unpacked 93 s.octets.now = c.unpack_all.ensures.buffer ∙ all-unpacked s.octets.now (replicate 93 0) s.whole refl in
    answered
    (read-open s.letters s.octets.now a.out.now s.whole s.read s.named s.octet
    (λ e. c.if-septets-eq13.false (ap (λ (s : List ℕ). get_or s 2 0) all ∙ e)))
