-- `shown::shown_unit` meets its contract: the code's unit stands at its place among the four of its number.
-- Assumes nothing.
use mathlib.Core.Path.{◌∙◌, ap}
use Prim.Native.Nat.{ℕ}
use Rattle.letters.specs.Reading.{shown}
use Rattle.letters.proofs.Entries.{shown-wide}
use Rattle.shown.proofs.Fours.{at_place, at-place, shown-stands}
use Rattle.shown.proofs.shown_unit.Goals as goal

pub returns : goal.returns
returns c = record {
  answer = let code = c.args.code in
      c.unit_at.ensures ∙ ap (λ (four : ℕ). at_place four code) c.main_four-four.ensures ∙ at-place shown shown-wide shown-stands code;
}
