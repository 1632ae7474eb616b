-- `wikuay_write_part` meets its contract: the library's call does, for what the numbers name. Assumes nothing.
use Rattle.part_answers.proofs.MostParts.{written-within, count-within}
use Rattle.wikuay.specs.PartCalls.{write_part_gives, write_part_keeps}
use Rattle.parted.specs.declared.PartWritten.{PartWritten}
use Rattle.parted.specs.Reports.{part_travels, part_parts}
use Prim.Native.Nat.{◌≤◌}
use mathlib.Core.Path.{sym, subst}
use Rattle.wikuay.proofs.long_messages.wikuay_write_part.Goals as goal
use Rattle.std.specs.Prelude.{Result}
use Rattle.words.specs.declared.Refusal.{Refusal}

pub part_written-requires : goal.part_written-requires
part_written-requires c = subst (λ (a : Result PartWritten Refusal). (part_parts a ≤ 255) × (part_travels a ≤ 160)) (sym c.write_part.ensures.answer) (written-within _ _ _ _ _, count-within _ _ _ _ _)

pub returns : goal.returns
unfolding write_part_gives write_part_keeps
returns c = let n = sym c.in-Some.ensures.answer in
    record { answer = simp (c.part_written.ensures, c.write_part.ensures.answer, n); buffer = simp (c.write_part.ensures.buffer, n) }

pub returns-in_default : goal.returns-in_default
unfolding write_part_gives write_part_keeps
returns-in_default c = let n = sym c.in_default.ensures.answer in
    record { answer = simp (c.parts_refused.ensures.answer, n); buffer = simp n }
