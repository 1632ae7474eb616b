-- `wikuay_write_parts` meets its contract: the library's call does, for what the numbers name. Assumes nothing.
use Rattle.part_answers.proofs.MostParts.{parts_within}
use Rattle.wikuay.specs.PartCalls.{write_parts_gives, write_parts_keeps, write_parts_lists}
use Rattle.parted.specs.declared.PartsWritten.{PartsWritten}
use Rattle.parted.specs.Reports.{parts_parts}
use Prim.Native.Nat.{◌≤◌}
use mathlib.Core.Path.{sym, subst}
use Rattle.wikuay.proofs.long_messages.wikuay_write_parts.Goals as goal
use Rattle.std.specs.Prelude.{Result}
use Rattle.words.specs.declared.Refusal.{Refusal}

pub parts_written-requires : goal.parts_written-requires
parts_written-requires c = subst (λ (a : Result PartsWritten Refusal). parts_parts a ≤ 255) (sym c.write_parts.ensures.answer) (parts_within _ _ _ _ _)

pub returns : goal.returns
unfolding write_parts_gives write_parts_keeps write_parts_lists
returns c =
    let n = sym c.in-Some.ensures.answer in
    record {
      answer = simp (c.parts_written.ensures, c.write_parts.ensures.answer, n);
      buffer = simp (c.write_parts.ensures.buffer, n);
      sizes = simp (c.write_parts.ensures.sizes, n);
    }

pub returns-in_default : goal.returns-in_default
unfolding write_parts_gives write_parts_keeps write_parts_lists
returns-in_default c =
    let n = sym c.in_default.ensures.answer in
    record { answer = simp (c.parts_refused.ensures.answer, n); buffer = simp n; sizes = simp n }
