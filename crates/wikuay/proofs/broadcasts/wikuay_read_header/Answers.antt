-- `wikuay_read_header` meets its contract: the library's call does. Assumes nothing.
use Rattle.wikuay.specs.PageCalls.{read_header_gives}
use Rattle.wikuay.proofs.broadcasts.wikuay_read_header.Goals as goal

pub returns : goal.returns
unfolding read_header_gives
returns c = record { answer = simp (c.header.ensures.answer, c.read_header.ensures.answer) }
