-- `wikuay_unpack` meets its contract: the library's call does, for what the numbers name. Assumes nothing.
use Rattle.wikuay.specs.Calls.{unpack_gives, unpack_keeps}
use mathlib.Core.Path.{sym}
use Rattle.wikuay.proofs.wikuay_unpack.Goals as goal

pub returns : goal.returns
unfolding unpack_gives unpack_keeps
returns c =
    record { answer = simp (c.filled.ensures.answer, c.unpack.ensures.answer, sym c.in-Some.ensures.answer); buffer = simp (c.unpack.ensures.buffer, sym c.in-Some.ensures.answer) }

pub returns-in_default : goal.returns-in_default
unfolding unpack_gives unpack_keeps
returns-in_default c =
    record { answer = simp (c.refused.ensures.answer, sym c.in_default.ensures.answer); buffer = simp (sym c.in_default.ensures.answer) }
