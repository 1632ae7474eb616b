-- `wikuay_join_parts` meets its contract: the library's call does. Assumes nothing.
use Rattle.part_answers.proofs.MostParts.{joined-within}
use Rattle.wikuay.specs.PartCalls.{join_parts_gives}
use Rattle.parted.specs.declared.PartsJoined.{PartsJoined}
use Rattle.parted.specs.Reports.{join_parts}
use Prim.Native.Nat.{◌≤◌}
use mathlib.Core.Path.{sym, subst}
use Rattle.wikuay.proofs.long_messages.wikuay_join_parts.Goals as goal
use Rattle.std.specs.Prelude.{Result}
use Rattle.words.specs.declared.Refusal.{Refusal}

pub joined-requires : goal.joined-requires
joined-requires c = subst (λ (a : Result PartsJoined Refusal). join_parts a ≤ 255) (sym c.join_parts.ensures.answer)
    (joined-within _ _ _ _ (λ k. (c.type_inv.octets k).fits))

pub returns : goal.returns
unfolding join_parts_gives
returns c =
    record { answer = simp (c.joined.ensures, c.join_parts.ensures.answer); buffer = c.join_parts.ensures.buffer }
