-- `wikuay_write_coding` meets its contract: the library's call does, for what the numbers name. Assumes nothing.
use Rattle.wikuay.specs.Calls.{write_coding_gives}
use mathlib.Core.Path.{sym}
use Rattle.wikuay.proofs.wikuay_write_coding.Goals as goal

pub returns : goal.returns
unfolding write_coding_gives
returns c = record { answer = simp (c.octet_written.ensures.answer, c.write.ensures.answer, sym c.in-Some-reading.ensures.answer, sym c.in-Some.ensures.answer) }

pub returns-in_default-reading : goal.returns-in_default-reading
unfolding write_coding_gives
returns-in_default-reading c = record { answer = simp (c.refused-in_default-reading.ensures.answer, sym c.in_default-reading.ensures.answer, sym c.in-Some.ensures.answer) }

pub returns-in_default : goal.returns-in_default
unfolding write_coding_gives
returns-in_default c = record { answer = simp (c.refused.ensures.answer, sym c.in_default.ensures.answer) }
