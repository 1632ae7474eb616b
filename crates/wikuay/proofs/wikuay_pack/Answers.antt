-- `wikuay_pack` meets its contract: the library's call does, for what the numbers name. Assumes nothing.
use Rattle.wikuay.proofs.Counts.{pack-count}
use Rattle.wikuay.specs.Calls.{pack_gives, pack_keeps}
use Rattle.stream.specs.declared.Packed.{Packed}
use Rattle.stream.specs.Answers.{packed_count}
use Prim.Native.Nat.{◌≤◌}
use mathlib.Core.Path.{sym, subst}
use Rattle.wikuay.proofs.wikuay_pack.Goals as goal
use Rattle.std.specs.Prelude.{Result}
use Rattle.words.specs.declared.Refusal.{Refusal}

pub packed-requires : goal.packed-requires
packed-requires c = subst (λ (a : Result Packed Refusal). packed_count a ≤ 160) (sym c.pack.ensures.answer) (pack-count _ _ _)

pub returns : goal.returns
unfolding pack_gives pack_keeps
returns c =
    record { answer = simp (c.packed.ensures, c.pack.ensures.answer, sym c.in-Some.ensures.answer); buffer = simp (c.pack.ensures.buffer, sym c.in-Some.ensures.answer) }

pub returns-in_default : goal.returns-in_default
unfolding pack_gives pack_keeps
returns-in_default c =
    record { answer = simp (c.refused.ensures.answer, sym c.in_default.ensures.answer); buffer = simp (sym c.in_default.ensures.answer) }
