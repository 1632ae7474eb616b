-- `to_text::reading::next_place` meets its contract: its four ways out are the four steps that a reading can take.
-- Assumes nothing.
use mathlib.Core.Path.{refl}
use native.Mathlib.Omega.{arith}
use Rattle.letters.proofs.Septets.{step-old, step-plain, step-last, step-pair, stepped-first}
use Rattle.to_text.proofs.reading.next_place.Goals as goal

pub returns-then-old : goal.returns-then-old
returns-then-old c = record { answer = rw c.if-old.true (stepped-first (step-old c.args.septets.now c.args.i c.requires _ refl)) }

pub returns-then-septets-i-ne27 : goal.returns-then-septets-i-ne27
returns-then-septets-i-ne27 c = record { answer = rw c.if-old.false (stepped-first (step-plain c.args.septets.now c.args.i c.requires _ c.if-septets-i-ne27.true refl)) }

pub returns-then-j-septets : goal.returns-then-j-septets
returns-then-j-septets c = record { answer = rw c.if-old.false (stepped-first (step-last c.args.septets.now c.args.i c.requires _ c.if-septets-i-ne27.false c.if-j-septets.true refl)) }

pub returns : goal.returns
returns c = record {
  answer = rw c.if-old.false
      (stepped-first (step-pair c.args.septets.now c.args.i c.requires _ c.if-septets-i-ne27.false (omega (arith, c.if-j-septets.false)) refl));
}
