-- `wikuay_read_part` meets its contract: the library's call does, for the mark that the number names. Assumes nothing.
use Rattle.wikuay.specs.PartCalls.{read_part_gives, read_part_keeps}
use borrow.Author.Tests.{le-leb, lt-leb}
use Rattle.wikuay.proofs.long_messages.wikuay_read_part.Goals as goal

pub returns-then-mark-ge2 : goal.returns-then-mark-ge2
unfolding read_part_gives read_part_keeps
returns-then-mark-ge2 c = let n = le-leb _ _ c.if-mark-ge2.true in
    record { answer = simp (c.part_refused.ensures.answer, n); buffer = simp n }

pub returns : goal.returns
unfolding read_part_gives read_part_keeps
returns c = let n = lt-leb _ _ c.if-mark-ge2.false in
    record { answer = simp (c.part_read.ensures.answer, c.read_part.ensures.answer, n); buffer = simp (c.read_part.ensures.buffer, n) }
