-- The elements are laid over the front of out, one after the other, once the text is known to be digits, as many as they take, and to have room.
use Prim.Native.Nat.{ℕ, ◌+◌, ◌*◌, ◌/◌, ◌%◌, ◌<◌}
use mathlib.Core.Path.{◌≡◌, refl, sym, ap, ap₂, ◌∙◌, subst}
use mathlib.Core.Bool.{true}
use mathlib.Core.List.{List}
use native.Mathlib.Omega.{arith}
use native.Mathlib.Nat.{mul-zero}
use lib.ListN.{length, get_or, drop}
use Rattle.std.specs.Prelude.{Some, is_some, IsSome}
use Rattle.typed.specs.Spelling.{numbers_in, only_digits}
use Rattle.typed.proofs.Spelling.{chunk-at, chunk-behind, chunk-within, chunks-end, fill-none, other-some, other-none, spelled-part, numbers-length, Filling, fill-more, fill-all, reads-parted, reads_short, reads_other, reads-done}
use Rattle.words.proofs.Clauses.{answered}
use borrow.Author.Rules.{rules}
use Rattle.typed.proofs.read_elements.Goals as goal
use Rattle.typed.proofs.read_elements.Goals.{then-text-DIGITS-ne0-via-then-text-DIGITS-ne0, then-text-DIGITS-ne0-via-else-text-DIGITS-ne0+then-out-n, then-text-DIGITS-ne0-via-else-text-DIGITS-ne0+else-out-n+then-is_some}

-- what is left over, by the numbers that are divided
left-over : {a b s w : ℕ} → a ≡ s → b ≡ w → a % b ≡ s % w
left-over e d = ap₂ ◌%◌ e d

pub returns-then-text-DIGITS-ne0 : goal.returns-then-text-DIGITS-ne0
returns-then-text-DIGITS-ne0 g c =
    let s : List ℕ = c.args.text.now in
    let out = c.args.out.now in
    elim c.then-text-DIGITS-ne0.branch [
      | then-text-DIGITS-ne0-via-then-text-DIGITS-ne0 w ↦
          answered (reads-parted g.T.Element.spelled g.T.Element.DIGITS s out (λ e. w.if-text-DIGITS-ne0.true (left-over (omega arith) (search rules) ∙ e)))
      | then-text-DIGITS-ne0-via-else-text-DIGITS-ne0+then-out-n w ↦
          answered (reads_short g.T.Element.spelled g.T.Element.DIGITS s out (subst (λ (k : ℕ). length out < length s / k) c.DIGITS.ensures w.if-out-n.true))
      | then-text-DIGITS-ne0-via-else-text-DIGITS-ne0+else-out-n+then-is_some w ↦
          answered (reads_other g.T.Element.spelled g.T.Element.DIGITS s out (other-some 16 s (ap is_some (sym w.first_other.ensures.answer) ∙ sym w.is_some.ensures ∙ w.if-is_some.true)))
    ]

pub loop-i-init : goal.loop-i-init
loop-i-init g c =
    let s : List ℕ = c.args.text.now in
    let w : ℕ = g.T.Element.DIGITS in
    let same = c.into_iter-i-iterator.ensures.into_iter_gives in
    let source = c.enumerate-i-items.ensures.source in
    let count : c.into_iter-i-iterator.result.count ≡ 0 = ap (λ i. i.count) same ∙ c.enumerate-i-items.ensures.count in
    let whole : s ≡ drop (w * c.into_iter-i-iterator.result.count) s = rw (count, mul-zero) refl in
    record {
      size = ap (λ i. i.iter.size) same ∙ ap (λ i. i.size) source ∙ c.chunks_exact.ensures.size ∙ search rules;
      rest = ap (λ i. i.iter.rest.now) same ∙ ap (λ i. i.rest.now) source ∙ c.chunks_exact.ensures.rest ∙ whole;
      few = omega arith;
      filled = rw count (fill-none g.T.Element.spelled (numbers_in w (length s / c.DIGITS.result) s) c.args.out.now);
    }

-- the digits that are read spell the next element, since past the tests every octet is a digit
pub unwrap-requires : goal.unwrap-requires
unwrap-requires g c =
    let s : List ℕ = c.args.text.now in
    let w : ℕ = g.T.Element.DIGITS in
    let k : ℕ = c.loop-i.i-iterator.count in
    let step = c.in-Some.ensures.steps in
    let wide : length c.in-Some.digits.now ≡ w = step.0.1.1 ∙ c.loop-i.invariant.size in
    let digits : only_digits 16 s ≡ true = other-none 16 s (ap is_some (sym c.first_other.ensures.answer) ∙ sym c.is_some.ensures ∙ c.if-is_some.false) in
    let next = spelled-part w (length s / w) k s c.in-Some.digits.now c.number_of.result digits g.met.T.Element.some refl
    (chunk-within w k s c.loop-i.i-iterator.iter.rest.now c.in-Some.digits.now c.next.new.self.iter.rest.now g.met.T.Element.some c.loop-i.invariant.rest step.0.1.0 wide)
    (chunk-at w k s c.loop-i.i-iterator.iter.rest.now c.in-Some.digits.now c.next.new.self.iter.rest.now c.loop-i.invariant.rest step.0.1.0 wide)
    c.number_of.ensures.answer in
    subst IsSome (sym next) refl

pub bounds-out-i : goal.bounds-out-i
bounds-out-i g c =
    let s : List ℕ = c.args.text.now in
    let w : ℕ = g.T.Element.DIGITS in
    let step = c.in-Some.ensures.steps in
    let wide : length c.in-Some.digits.now ≡ w = step.0.1.1 ∙ c.loop-i.invariant.size in
    let within : c.loop-i.i-iterator.count < length s / w
    = chunk-within w c.loop-i.i-iterator.count s c.loop-i.i-iterator.iter.rest.now c.in-Some.digits.now c.next.new.self.iter.rest.now g.met.T.Element.some c.loop-i.invariant.rest step.0.1.0 wide
    in
    let n : length s / c.DIGITS.result ≡ length s / w = ap (λ (k : ℕ). length s / k) c.DIGITS.ensures in
    let at : c.in-Some.i ≡ c.loop-i.i-iterator.count = step.1 in
    omega arith

pub loop-i-preserved : goal.loop-i-preserved
loop-i-preserved g c =
    let s : List ℕ = c.args.text.now in
    let w : ℕ = g.T.Element.DIGITS in
    let k : ℕ = c.loop-i.i-iterator.count in
    let rest = c.loop-i.i-iterator.iter.rest.now in
    let x : List ℕ = c.in-Some.digits.now in
    let after = c.next.new.self.iter.rest.now in
    let step = c.in-Some.ensures.steps in
    let wide : length x ≡ w = step.0.1.1 ∙ c.loop-i.invariant.size in
    let within : k < length s / w = chunk-within w k s rest x after g.met.T.Element.some c.loop-i.invariant.rest step.0.1.0 wide in
    let n : length s / c.DIGITS.result ≡ length s / w = ap (λ (k : ℕ). length s / k) c.DIGITS.ensures in
    let at : c.in-Some.i ≡ k = step.1 in
    let count : c.next.new.self.count ≡ k + 1 = step.2 in
    let xs : List ℕ = numbers_in w (length s / c.DIGITS.result) s in
    let size : length xs ≡ length s / c.DIGITS.result = numbers-length w (length s / c.DIGITS.result) s in
    let digits : only_digits 16 s ≡ true = other-none 16 s (ap is_some (sym c.first_other.ensures.answer) ∙ sym c.is_some.ensures ∙ c.if-is_some.false) in
    let next = spelled-part w (length s / c.DIGITS.result) k s x c.number_of.result digits g.met.T.Element.some n (omega arith)
    (chunk-at w k s rest x after c.loop-i.invariant.rest step.0.1.0 wide) c.number_of.ensures.answer in
    let value : Some c.unwrap.result ≡ Some (get_or xs k 0) = sym c.unwrap.ensures ∙ next in
    record {
      size = step.0.0 ∙ c.loop-i.invariant.size;
      rest = chunk-behind w k s rest x after c.loop-i.invariant.rest step.0.1.0 wide ∙ ap (λ (m : ℕ). drop (w * m) s) (sym count);
      few = omega arith;
      filled = rw (c.of.ensures, at, count) (fill-more g.T.Element.spelled xs c.args.out.now c.loop-i.out k c.unwrap.result c.loop-i.invariant.filled (omega arith) (omega arith) (cc));
    }

pub returns : goal.returns
returns g c =
    let s : List ℕ = c.args.text.now in
    let w : ℕ = g.T.Element.DIGITS in
    let n : length s / c.DIGITS.result ≡ length s / w = ap (λ (k : ℕ). length s / k) c.DIGITS.ensures in
    let k : ℕ = c.loop-i.i-iterator.count in
    let step = c.in-None.ensures.steps in
    let short : length c.loop-i.i-iterator.iter.rest.now < w = subst (λ (m : ℕ). length c.loop-i.i-iterator.iter.rest.now < m) c.loop-i.invariant.size step.0.1.0 in
    let end : k ≡ length s / w = chunks-end w (length s / w) k s c.loop-i.i-iterator.iter.rest.now g.met.T.Element.some refl (omega arith) c.loop-i.invariant.rest short in
    let whole : length s % w ≡ 0 = sym (left-over (omega arith) (search rules)) ∙ c.if-text-DIGITS-ne0.false in
    let digits : only_digits 16 s ≡ true = other-none 16 s (ap is_some (sym c.first_other.ensures.answer) ∙ sym c.is_some.ensures ∙ c.if-is_some.false) in
    let out = c.args.out.now in
    let here : Filling g.T.Element.spelled (numbers_in w (length s / c.DIGITS.result) s) out (length s / w) c.loop-i.out
    = subst (λ (k : ℕ). Filling g.T.Element.spelled (numbers_in w (length s / c.DIGITS.result) s) out k c.loop-i.out) end c.loop-i.invariant.filled
    in
    let filled : Filling g.T.Element.spelled (numbers_in w (length s / w) s) out (length s / w) c.loop-i.out
    = subst (λ (k : ℕ). Filling g.T.Element.spelled (numbers_in w k s) out (length s / w) c.loop-i.out) n here
    in
    let laid = fill-all g.T.Element.spelled (numbers_in w (length s / w) s) out c.loop-i.out (length s / w) filled (numbers-length w (length s / w) s) in
    let done = reads-done g.T.Element.spelled w s c.args.out.now whole (omega arith) digits c.loop-i.out laid in
    record { answer = ap Some n ∙ done.0; buffer = done.1 }
