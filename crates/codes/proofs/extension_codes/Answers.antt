-- `codes::extension_codes` meets its contract: a computed test for each range of units.
-- Assumes nothing.
use native.Mathlib.Omega.{arith}
use Rattle.lists.specs.Lists.{first_place}
use Rattle.letters.specs.Tables.{extension, among}
use Rattle.codes.specs.Inner.{septets_down}
use Rattle.codes.proofs.Search.{suffices-by}
use Rattle.codes.proofs.extension_codes.Goals as goal

pub returns-then-unit-lt96 : goal.returns-then-unit-lt96
unfolding septets_down among first_place extension
returns-then-unit-lt96 c = suffices-by extension _ 0 0x60 c.args.unit tt (omega arith) (omega arith)

pub returns-then-unit-lt128 : goal.returns-then-unit-lt128
unfolding septets_down among first_place extension
returns-then-unit-lt128 c = suffices-by extension _ 0x60 0x80 c.args.unit tt (omega arith) (omega arith)

pub returns : goal.returns
unfolding septets_down among first_place extension
returns c = suffices-by extension _ 0x80 0x10000 c.args.unit tt (omega arith) c.ranges.unit.fits
