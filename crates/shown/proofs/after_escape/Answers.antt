-- `shown::after_escape` meets its contract: the code's unit stands at its place among the four of its number.
-- Assumes nothing.
use mathlib.Core.Path.{◌∙◌, ap}
use Prim.Native.Nat.{ℕ}
use Rattle.letters.specs.Reading.{after_escape}
use Rattle.letters.proofs.Entries.{escaped-wide}
use Rattle.shown.proofs.Fours.{at_place, at-place, escaped-stands}
use Rattle.shown.proofs.after_escape.Goals as goal

pub returns : goal.returns
returns c = record {
  answer = let code = c.args.code in
      c.unit_at.ensures ∙ ap (λ (four : ℕ). at_place four code) c.escaped_four-four.ensures ∙ at-place after_escape escaped-wide escaped-stands code;
}
