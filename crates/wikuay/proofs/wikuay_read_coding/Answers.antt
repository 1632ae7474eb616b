-- `wikuay_read_coding` meets its contract: the library's call does, for what the numbers name. Assumes nothing.
use Rattle.wikuay.specs.Calls.{read_coding_gives}
use mathlib.Core.Path.{sym}
use Rattle.wikuay.proofs.wikuay_read_coding.Goals as goal

pub returns : goal.returns
unfolding read_coding_gives
returns c = record { answer = simp (c.octet_read.ensures.answer, c.read_octet.ensures.answer, sym c.in-Some.ensures.answer) }

pub returns-in_default : goal.returns-in_default
unfolding read_coding_gives
returns-in_default c = record { answer = simp (c.read_refused.ensures.answer, sym c.in_default.ensures.answer) }
