-- Lemmas here are over a place of the walk by the prover's name: over plain values each would take every value of the place, and be longer than what it says.
-- `to_text::reading::lay_step` meets its contract: what is not marked is shown by the main table, and a mark is read by what it is. A step has a unit to
-- lay, so there is room for it.
-- Assumes nothing.
use mathlib.Core.Path.{◌≡◌, refl, ap, sym, ◌∙◌}
use mathlib.Core.Bool.{Bool, false, cond}
use mathlib.Core.List.{List}
use mathlib.Core.Logic.{⊎_elim}
use Prim.Native.Nat.{ℕ, ◌+◌, ◌<◌}
use native.Mathlib.Omega.{arith}
use lib.ListN.{length, get_or, set}
use Rattle.letters.specs.Reading.{shown, after_escape, old_unit}
use Rattle.letters.specs.Inner.{first_read, Stepped}
use Rattle.letters.proofs.Septets.{step-shown, step-old, step-last, step-pair, stepped-first}
use Rattle.to_text.proofs.Narrow.{masked}
use Rattle.to_text.proofs.reading.lay_step.Lts as lts
use Rattle.to_text.proofs.reading.lay_step.Reads as reads
use Rattle.to_text.proofs.reading.lay_step.Tie as tie
use Rattle.words.proofs.Clauses.{answered}
use Rattle.to_text.proofs.reading.lay_step.Goals.{else-old, then-old}
use Rattle.to_text.proofs.reading.lay_step.Goals as goal

-- the unit u is read, and so many septets are used up
abbrev Reads : lts.Start tie.the-claims reads.Pre reads.Post tie.handed_clauses → ℕ → ℕ → Type 0
Reads start u used = Stepped start.args.old start.args.septets.now start.args.i u (start.args.i + used)

module _ (start : lts.Start tie.the-claims reads.Pre reads.Post tie.handed_clauses) {u next : ℕ} (step : Stepped start.args.old start.args.septets.now start.args.i u next) where
  room : start.args.n < length start.args.out.now
  room = omega (arith, start.requires.i_in_bounds.2, ap length step.reads)

  first : Stepped start.args.old start.args.septets.now start.args.i (first_read start.args.old start.args.septets.now start.args.i) next
      × (set start.args.out.now start.args.n u ≡ set start.args.out.now start.args.n (first_read start.args.old start.args.septets.now start.args.i))
  first = (stepped-first step, ap (set start.args.out.now start.args.n) (sym (ap (λ (xs : List ℕ). get_or xs 0 0) step.reads)))

abbrev mark_of : Bool → ℕ
mark_of old = cond old 0x11 0x1b

marked : (c : lts.Joined1 tie.the-claims reads.Pre reads.Post tie.handed_clauses) → c.if-old.mark ≡ mark_of c.args.old
marked c = elim c.if-old.branch [ then-old w ↦ w.mark-is ∙ ap mark_of (sym w.if-old.true) | else-old w ↦ w.mark-is ∙ ap mark_of (sym w.if-old.false) ]

by-table : (c : lts.After-shown_unit tie.the-claims reads.Pre reads.Post tie.handed_clauses) → Reads c.before.before.before.before.before.before c.shown_unit.result 1
by-table c =
    let s = c.args.septets.now in
    let i = c.args.i in
    let within = c.requires.i_in_bounds.0 in
    step-shown c.args.old s i within c.shown_unit.result c.if-old.mark (marked c.before.before.before) c.if-code-mark.true
    (c.shown_unit.ensures.answer ∙ ap shown (masked s i c.requires.i_in_bounds.1 within))

pub bounds-out-n : goal.bounds-out-n
bounds-out-n c = room c.before.before.before.before.before.before.before (by-table c.before)

pub returns-then-code-mark : goal.returns-then-code-mark
returns-then-code-mark c = answered (first c.before.before.before.before.before.before.before (by-table c.before))

-- a mark that begins no pair
alone : (c : lts.Then3 tie.the-claims reads.Pre reads.Post tie.handed_clauses) → Reads c.before.before.before.before.before.before 0x20 1
unfolding old_unit
alone c =
    let s = c.args.septets.now in
    let i = c.args.i in
    let within = c.requires.i_in_bounds.0 in
    let mark = c.if-code-mark.false ∙ marked c.before.before.before in
    ⊎_elim (λ w. rw w.0 (step-old s i within 0x20 (sym (ap old_unit (mark ∙ ap mark_of w.0)))))
    (λ w. rw w.0 (step-last s i within 0x20 (mark ∙ ap mark_of w.0) (omega (arith, c.if-pairs-next.true, w.1, within)) refl))
    c.requires.fact

pub bounds-out-n-then-pairs-next : goal.bounds-out-n-then-pairs-next
bounds-out-n-then-pairs-next c = room c.before.before.before.before.before.before.before (alone c.before)

pub returns-then-pairs-next : goal.returns-then-pairs-next
returns-then-pairs-next c = answered (first c.before.before.before.before.before.before.before (alone c.before))

-- a mark that begins a pair is no old page's, and is not the last septet
paired : (c : lts.Else3 tie.the-claims reads.Pre reads.Post tie.handed_clauses)
    → (c.args.old ≡ false)
    × (c.args.i + 1 < length c.args.septets.now)
paired c =
    ⊎_elim (λ w. absurd (omega (arith, w.1, c.if-pairs-next.false))) (λ w. (w.0, omega (arith, w.1, c.if-pairs-next.false))) c.requires.fact

pair : (c : lts.After-after_escape tie.the-claims reads.Pre reads.Post tie.handed_clauses)
    → Stepped c.args.old c.args.septets.now
    c.args.i c.after_escape.result (c.args.i + 1 + 1)
pair c =
    let s = c.args.septets.now in
    let i = c.args.i in
    let both = paired c.before.before in
    rw both.0
    (step-pair s i c.requires.i_in_bounds.0 c.after_escape.result (c.if-code-mark.false ∙ marked c.before.before.before.before.before ∙ ap mark_of both.0) both.1
    (c.after_escape.ensures.answer ∙ ap after_escape (masked s (i + 1) c.requires.i_in_bounds.1 both.1)))

pub bounds-out-n-2 : goal.bounds-out-n-2
bounds-out-n-2 c = room c.before.before.before.before.before.before.before.before.before (pair c.before)

pub returns : goal.returns
returns c = answered (first c.before.before.before.before.before.before.before.before.before (pair c.before))
