-- `read_behind` meets its contract: the length, the mark and the header each settle one rule, and the text behind them the rest. Assumes nothing.
use mathlib.Core.Bool.{Bool, true, false, cond}
use mathlib.Core.List.{List}
use mathlib.Core.Path.{◌≡◌, refl, sym, ap, ap₂, ◌∙◌}
use Prim.Native.Nat.{ℕ, ◌+◌, ◌≤◌}
use native.Mathlib.Numerals.{add-one}
use native.Mathlib.Omega.{arith}
use lib.ListN.{length, get_or}
use Rattle.headed.specs.Header.{header_reads, header_size, septets_over}
use Rattle.headed.proofs.Steps.{header-told, header-refusal}
use Rattle.parted.specs.Read.{count_fits}
use Rattle.parted.specs.Inner.{tail_reads, tail_leaves, behind_reads, behind_read_leaves, with_numbers}
use Rattle.parted.proofs.ReadSteps.{behind-misfit, behind-alone, behind-headless, behind-headed, head-none, head-right, not-past}
use borrow.Author.Rules.{rules}
use Rattle.words.proofs.Clauses.{answered, passed}
use Rattle.part_reading.proofs.read_behind.Goals as goal
use Rattle.std.specs.Prelude.{Result, Option, Ok, Err, None}
use lib.Dec.{ltb}
use Rattle.words.specs.declared.Refusal.{Refusal}
use Rattle.headed.specs.declared.HeaderRead.{HeaderRead}
use Rattle.headed.specs.declared.Numbers.{Numbers}

-- how many septets it takes
over : (o : List ℕ) {n : ℕ} → n ≡ septets_over (get_or o 0 0 + 1) → n ≡ septets_over (header_size o)
over o e = e ∙ ap septets_over (add-one (get_or o 0 0))

pub returns-then-not-count_fits : goal.returns-then-not-count_fits
returns-then-not-count_fits c =
    let a = c.args in
    let wrong : count_fits a.ucs2 (length a.octets.now) a.count ≡ false = cc in
    answered (behind-misfit a.ucs2 a.marked a.count a.octets.now a.out.now wrong)

pub read_tail-requires : goal.read_tail-requires
unfolding septets_over
read_tail-requires c = record { count_value = ((cc), omega arith, refl); over_le_count = λ e. omega arith }

pub returns-in_err-units : goal.returns-in_err-units
returns-in_err-units c =
    let a = c.args in
    let fit : count_fits a.ucs2 (length a.octets.now) a.count ≡ true = cc in
    let s = behind-alone a.ucs2 a.marked a.count a.octets.now a.out.now fit (cc) in
    passed (search rules) (ap (with_numbers None) c.in_err-units.ensures.answer ∙ s.0, c.in_err-units.ensures.buffer ∙ s.1)

pub returns-then-not-marked : goal.returns-then-not-marked
returns-then-not-marked c =
    let a = c.args in
    let fit : count_fits a.ucs2 (length a.octets.now) a.count ≡ true = cc in
    let s = behind-alone a.ucs2 a.marked a.count a.octets.now a.out.now fit (cc) in
    answered (ap (with_numbers None) c.in_ok-units.ensures.answer ∙ s.0, c.in_ok-units.ensures.buffer ∙ s.1)

pub returns-in_err-header : goal.returns-in_err-header
returns-in_err-header c =
    let a = c.args in
    let fit : count_fits a.ucs2 (length a.octets.now) a.count ≡ true = cc in
    let q = header-refusal a.octets.now _ c.in_err-header.ensures.answer in
    let s = behind-headless a.ucs2 a.marked a.count a.octets.now a.out.now fit (cc) (head-none a.ucs2 a.count a.octets.now q.0) in
    passed (search rules) (ap Err q.1 ∙ s.0, s.1)

pub bounds-octets-0 : goal.bounds-octets-0
bounds-octets-0 c =
    let known : header_size c.args.octets.now ≤ length c.args.octets.now = (header-told c.args.octets.now _ _ c.in_ok-header.ensures.answer).3 in
    search rules

pub returns-then-past_count : goal.returns-then-past_count
returns-then-past_count c =
    let a = c.args in
    let o : List ℕ = a.octets.now in
    let fit : count_fits a.ucs2 (length o) a.count ≡ true = cc in
    let d = header-told o _ _ c.in_ok-header.ensures.answer in
    answered
    (behind-headless a.ucs2 a.marked a.count o a.out.now fit (cc)
    (head-right a.ucs2 a.count o d.0 _ (over o c.septets_over-over.ensures.answer) ∙ sym c.past_count.ensures ∙ c.if-past_count.true))

pub read_tail-requires-2 : goal.read_tail-requires-2
read_tail-requires-2 c =
    let a = c.args in
    let o : List ℕ = a.octets.now in
    let d = header-told o _ _ c.in_ok-header.ensures.answer in
    record {
      count_value = ((cc), omega (arith, d.1, d.3), over o c.septets_over-over.ensures.answer ∙ ap septets_over (sym d.1));
      over_le_count = not-past a.ucs2 a.count o _ (sym c.past_count.ensures ∙ c.if-past_count.false);
    }

-- the text behind the header that was read, with its numbers
headed : (ucs2 marked : Bool) (count : ℕ) (o out : List ℕ) → count_fits ucs2 (length o) count ≡ true → marked ≡ true → {h : HeaderRead} → Ok h ≡ header_reads o → {n : ℕ} → n ≡ septets_over (get_or o 0 0 + 1)
    → {past : Bool} → past ≡ cond ucs2 false (ltb count n) → past ≡ false → {x : Result ℕ Refusal} → x ≡ tail_reads ucs2 h.octets count o (length out) → {left : List ℕ} → left ≡ tail_leaves ucs2 h.octets count o out
    → (with_numbers h.concatenation x ≡ behind_reads ucs2 marked count o (length out)) × (left ≡ behind_read_leaves ucs2 marked count o out)
headed ucs2 marked count o out fit mark {h = h} told n past short {x = x} answer left =
    let d = header-told o _ _ told in
    let s = behind-headed ucs2 marked count o out fit mark (head-right ucs2 count o d.0 _ (over o n) ∙ sym past ∙ short) in (
      ap (with_numbers h.concatenation) answer
          ∙ ap₂ (λ (m : ℕ) (y : Option Numbers). with_numbers y (tail_reads ucs2 m count o (length out))) d.1 d.2
          ∙ s.0,
      left ∙ ap (λ (m : ℕ). tail_leaves ucs2 m count o out) d.1 ∙ s.1,
    )

pub returns-in_err-units-2 : goal.returns-in_err-units-2
returns-in_err-units-2 c =
    let a = c.args in
    passed (search rules)
    (headed a.ucs2 a.marked a.count a.octets.now a.out.now (cc) (cc) c.in_ok-header.ensures.answer c.septets_over-over.ensures.answer c.past_count.ensures c.if-past_count.false
    c.in_err-units-2.ensures.answer c.in_err-units-2.ensures.buffer)

pub returns : goal.returns
returns c =
    let a = c.args in
    answered
    (headed a.ucs2 a.marked a.count a.octets.now a.out.now (cc) (cc) c.in_ok-header.ensures.answer c.septets_over-over.ensures.answer c.past_count.ensures c.if-past_count.false
    c.in_ok-units-2.ensures.answer c.in_ok-units-2.ensures.buffer)
