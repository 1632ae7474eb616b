-- `run_of` meets its contract: each septet that is no escape is counted, and the last tells whether a pair is open. Assumes nothing.
use mathlib.Core.Path.{◌≡◌, sym, ap, ◌∙◌}
use mathlib.Core.Bool.{Bool, cond}
use mathlib.Core.List.{List}
use Prim.Native.Nat.{ℕ, ◌+◌, ◌≤◌}
use native.Mathlib.Nat.{add-zero}
use native.Mathlib.Omega.{arith}
use borrow.Author.Tests.{eq-eqb, ne_eqb}
use lib.ListN.{get_or, take}
use lib.Seq.{take_all, length-take-le}
use Rattle.letters.specs.Tables.{escape}
use Rattle.parted.specs.Inner.{codes_in}
use Rattle.parted.proofs.Windows.{none-counted, codes-more, codes-most}
use borrow.Author.Rules.{rules}
use Rattle.parts.proofs.run_of.Goals.{then-septet-ne27, else-septet-ne27}
use Rattle.parts.proofs.run_of.Goals as goal

pub loop-septet-init : goal.loop-septet-init
loop-septet-init c = none-counted c.args.septets.now

pub overflow_add-codes : goal.overflow_add-codes
overflow_add-codes c = let s : List ℕ = c.args.septets.now in
    let i : ℕ = c.loop-septet.septet-index in
    let few : c.loop-septet.codes ≤ i = omega (arith, c.loop-septet.invariant, codes-most (take i s), length-take-le i s (omega (arith, c.loop-septet-test.true))) in
    search rules

pub loop-septet-preserved : goal.loop-septet-preserved
loop-septet-preserved c = let s : List ℕ = c.args.septets.now in
    let i : ℕ = c.loop-septet.septet-index in
    let more = codes-more s i c.loop-septet-test.true in
    elim c.if-septet-ne27.branch [
      | then-septet-ne27 w ↦ w.codes-is ∙ ap (λ (n : ℕ). n + 1) c.loop-septet.invariant ∙ sym (more ∙ ap (λ (b : Bool). codes_in (take i s) + cond b 0 1) (ne_eqb (get_or s i 0) escape w.if-septet-ne27.true))
      | else-septet-ne27 w ↦ w.codes-is ∙ c.loop-septet.invariant ∙ sym (more ∙ ap (λ (b : Bool). codes_in (take i s) + cond b 0 1) (eq-eqb (get_or s i 0) escape w.if-septet-ne27.false) ∙ add-zero (codes_in (take i s)))
    ]

-- all of them are counted
all : (c : goal.After-loop-septet) → c.loop-septet.codes ≡ codes_in c.args.septets.now
all c = c.loop-septet.invariant ∙ ap codes_in (take_all c.loop-septet.septet-index c.args.septets.now c.loop-septet-test.false)

pub overflow_cast-result : goal.overflow_cast-result
overflow_cast-result c = record { fits = omega (arith, all c, codes-most c.args.septets.now, c.requires) }

pub returns : goal.returns
returns c = (c.loop-septet.invariant ∙ ap codes_in (take_all c.loop-septet.septet-index c.args.septets.now c.loop-septet-test.false), c.ends_half.ensures)
