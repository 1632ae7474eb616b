-- `wikuay_count_parts` meets its contract: the library's call does, for what the numbers name. Assumes nothing.
use Rattle.part_answers.proofs.MostParts.{counted-within}
use Rattle.wikuay.specs.PartCalls.{count_parts_gives}
use Rattle.parted.specs.Reports.{counted_parts}
use Prim.Native.Nat.{◌≤◌}
use mathlib.Core.Path.{sym, subst}
use Rattle.wikuay.proofs.long_messages.wikuay_count_parts.Goals as goal
use Rattle.std.specs.Prelude.{ℕ, Result}
use Rattle.words.specs.declared.Refusal.{Refusal}

pub counted-requires : goal.counted-requires
counted-requires c = subst (λ (a : Result ℕ Refusal). counted_parts a ≤ 255) (sym c.count_parts.ensures.answer) (counted-within _ _)

pub returns : goal.returns
unfolding count_parts_gives
returns c = record {
  answer = let n = sym c.in-Some.ensures.answer in
      simp (c.counted.ensures, c.count_parts.ensures.answer, n);
}

pub returns-in_default : goal.returns-in_default
unfolding count_parts_gives
returns-in_default c = record { answer = simp (c.parts_refused.ensures.answer, sym c.in_default.ensures.answer) }
