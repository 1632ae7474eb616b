-- `codes::main_codes` meets its contract: a computed test for each range of units.
-- Assumes nothing.
use native.Mathlib.Omega.{arith}
use Rattle.lists.specs.Lists.{first_place}
use Rattle.letters.specs.Tables.{main_table, among}
use Rattle.codes.specs.Inner.{septets_down}
use Rattle.codes.proofs.Search.{suffices-by}
use Rattle.codes.proofs.main_codes.Goals as goal

pub returns-then-unit-lt96 : goal.returns-then-unit-lt96
unfolding septets_down among first_place main_table
returns-then-unit-lt96 c = suffices-by main_table _ 0 0x60 c.args.unit tt (omega arith) (omega arith)

pub returns-then-unit-lt128 : goal.returns-then-unit-lt128
unfolding septets_down among first_place main_table
returns-then-unit-lt128 c = suffices-by main_table _ 0x60 0x80 c.args.unit tt (omega arith) (omega arith)

pub returns-then-unit-lt192 : goal.returns-then-unit-lt192
unfolding septets_down among first_place main_table
returns-then-unit-lt192 c = suffices-by main_table _ 0x80 0xc0 c.args.unit tt (omega arith) (omega arith)

pub returns-then-unit-lt208 : goal.returns-then-unit-lt208
unfolding septets_down among first_place main_table
returns-then-unit-lt208 c = suffices-by main_table _ 0xc0 0xd0 c.args.unit tt (omega arith) (omega arith)

pub returns-then-unit-lt224 : goal.returns-then-unit-lt224
unfolding septets_down among first_place main_table
returns-then-unit-lt224 c = suffices-by main_table _ 0xd0 0xe0 c.args.unit tt (omega arith) (omega arith)

pub returns-then-unit-lt240 : goal.returns-then-unit-lt240
unfolding septets_down among first_place main_table
returns-then-unit-lt240 c = suffices-by main_table _ 0xe0 0xf0 c.args.unit tt (omega arith) (omega arith)

pub returns-then-unit-lt256 : goal.returns-then-unit-lt256
unfolding septets_down among first_place main_table
returns-then-unit-lt256 c = suffices-by main_table _ 0xf0 0x100 c.args.unit tt (omega arith) (omega arith)

pub returns-then-unit-lt928 : goal.returns-then-unit-lt928
unfolding septets_down among first_place main_table
returns-then-unit-lt928 c = suffices-by main_table _ 0x100 0x3a0 c.args.unit tt (omega arith) (omega arith)

pub returns-then-unit-lt944 : goal.returns-then-unit-lt944
unfolding septets_down among first_place main_table
returns-then-unit-lt944 c = suffices-by main_table _ 0x3a0 0x3b0 c.args.unit tt (omega arith) (omega arith)

pub returns : goal.returns
unfolding septets_down among first_place main_table
returns c = suffices-by main_table _ 0x3b0 0x10000 c.args.unit tt (omega arith) c.ranges.unit.fits
