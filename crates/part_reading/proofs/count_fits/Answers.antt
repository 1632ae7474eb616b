-- `count_fits` meets its contract: each alphabet has its own test. Assumes nothing.
use borrow.Author.Tests.{le-leb, lt-leb}
use Rattle.parted.specs.Read.{count_fits}
use Rattle.part_reading.proofs.count_fits.Goals as goal

pub returns-then-octets-le140 : goal.returns-then-octets-le140
unfolding count_fits
returns-then-octets-le140 c = simp (c.if-ucs2.true, le-leb _ _ c.if-octets-le140.true)

pub returns-else-octets-le140 : goal.returns-else-octets-le140
unfolding count_fits
returns-else-octets-le140 c = simp (c.if-ucs2.true, lt-leb _ _ c.if-octets-le140.false)

pub returns-else-ucs2 : goal.returns-else-ucs2
unfolding count_fits
returns-else-ucs2 c = simp c.if-ucs2.false c.fits.ensures.answer
