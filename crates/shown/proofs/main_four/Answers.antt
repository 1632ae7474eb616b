-- `shown::main_four` meets its contract: each arm is what is printed for its four codes, and the rest are no codes.
-- Assumes nothing.
use Rattle.std.proofs.Common.{ap, arith, sym}
use Rattle.lists.specs.Lists.{first_place}
use Rattle.letters.specs.Tables.{main_table, beside}
use Rattle.letters.specs.Reading.{unit_in, shown}
use Rattle.letters.proofs.Entries.{shown-wide}
use Rattle.shown.specs.Inner.{four_of}
use Rattle.shown.proofs.Fours.{four-wide}
use Rattle.shown.proofs.main_four.Goals as goal

pub returns-in-0 : goal.returns-in-0
unfolding four_of shown unit_in beside main_table first_place
returns-in-0 c = sym (ap (four_of shown) c.in-0.is)

pub returns-in-1 : goal.returns-in-1
unfolding four_of shown unit_in beside main_table first_place
returns-in-1 c = sym (ap (four_of shown) c.in-1.is)

pub returns-in-2 : goal.returns-in-2
unfolding four_of shown unit_in beside main_table first_place
returns-in-2 c = sym (ap (four_of shown) c.in-2.is)

pub returns-in-3 : goal.returns-in-3
unfolding four_of shown unit_in beside main_table first_place
returns-in-3 c = sym (ap (four_of shown) c.in-3.is)

pub returns-in-4 : goal.returns-in-4
unfolding four_of shown unit_in beside main_table first_place
returns-in-4 c = sym (ap (four_of shown) c.in-4.is)

pub returns-in-5 : goal.returns-in-5
unfolding four_of shown unit_in beside main_table first_place
returns-in-5 c = sym (ap (four_of shown) c.in-5.is)

pub returns-in-6 : goal.returns-in-6
unfolding four_of shown unit_in beside main_table first_place
returns-in-6 c = sym (ap (four_of shown) c.in-6.is)

pub returns-in-7 : goal.returns-in-7
unfolding four_of shown unit_in beside main_table first_place
returns-in-7 c = sym (ap (four_of shown) c.in-7.is)

pub returns-in-8 : goal.returns-in-8
unfolding four_of shown unit_in beside main_table first_place
returns-in-8 c = sym (ap (four_of shown) c.in-8.is)

pub returns-in-9 : goal.returns-in-9
unfolding four_of shown unit_in beside main_table first_place
returns-in-9 c = sym (ap (four_of shown) c.in-9.is)

pub returns-in-10 : goal.returns-in-10
unfolding four_of shown unit_in beside main_table first_place
returns-in-10 c = sym (ap (four_of shown) c.in-10.is)

pub returns-in-11 : goal.returns-in-11
unfolding four_of shown unit_in beside main_table first_place
returns-in-11 c = sym (ap (four_of shown) c.in-11.is)

pub returns-in-12 : goal.returns-in-12
unfolding four_of shown unit_in beside main_table first_place
returns-in-12 c = sym (ap (four_of shown) c.in-12.is)

pub returns-in-13 : goal.returns-in-13
unfolding four_of shown unit_in beside main_table first_place
returns-in-13 c = sym (ap (four_of shown) c.in-13.is)

pub returns-in-14 : goal.returns-in-14
unfolding four_of shown unit_in beside main_table first_place
returns-in-14 c = sym (ap (four_of shown) c.in-14.is)

pub returns-in-15 : goal.returns-in-15
unfolding four_of shown unit_in beside main_table first_place
returns-in-15 c = sym (ap (four_of shown) c.in-15.is)

pub returns-in-16 : goal.returns-in-16
unfolding four_of shown unit_in beside main_table first_place
returns-in-16 c = sym (ap (four_of shown) c.in-16.is)

pub returns-in-17 : goal.returns-in-17
unfolding four_of shown unit_in beside main_table first_place
returns-in-17 c = sym (ap (four_of shown) c.in-17.is)

pub returns-in-18 : goal.returns-in-18
unfolding four_of shown unit_in beside main_table first_place
returns-in-18 c = sym (ap (four_of shown) c.in-18.is)

pub returns-in-19 : goal.returns-in-19
unfolding four_of shown unit_in beside main_table first_place
returns-in-19 c = sym (ap (four_of shown) c.in-19.is)

pub returns-in-20 : goal.returns-in-20
unfolding four_of shown unit_in beside main_table first_place
returns-in-20 c = sym (ap (four_of shown) c.in-20.is)

pub returns-in-21 : goal.returns-in-21
unfolding four_of shown unit_in beside main_table first_place
returns-in-21 c = sym (ap (four_of shown) c.in-21.is)

pub returns-in-22 : goal.returns-in-22
unfolding four_of shown unit_in beside main_table first_place
returns-in-22 c = sym (ap (four_of shown) c.in-22.is)

pub returns-in-23 : goal.returns-in-23
unfolding four_of shown unit_in beside main_table first_place
returns-in-23 c = sym (ap (four_of shown) c.in-23.is)

pub returns-in-24 : goal.returns-in-24
unfolding four_of shown unit_in beside main_table first_place
returns-in-24 c = sym (ap (four_of shown) c.in-24.is)

pub returns-in-25 : goal.returns-in-25
unfolding four_of shown unit_in beside main_table first_place
returns-in-25 c = sym (ap (four_of shown) c.in-25.is)

pub returns-in-26 : goal.returns-in-26
unfolding four_of shown unit_in beside main_table first_place
returns-in-26 c = sym (ap (four_of shown) c.in-26.is)

pub returns-in-27 : goal.returns-in-27
unfolding four_of shown unit_in beside main_table first_place
returns-in-27 c = sym (ap (four_of shown) c.in-27.is)

pub returns-in-28 : goal.returns-in-28
unfolding four_of shown unit_in beside main_table first_place
returns-in-28 c = sym (ap (four_of shown) c.in-28.is)

pub returns-in-29 : goal.returns-in-29
unfolding four_of shown unit_in beside main_table first_place
returns-in-29 c = sym (ap (four_of shown) c.in-29.is)

pub returns-in-30 : goal.returns-in-30
unfolding four_of shown unit_in beside main_table first_place
returns-in-30 c = sym (ap (four_of shown) c.in-30.is)

pub returns-in-31 : goal.returns-in-31
unfolding four_of shown unit_in beside main_table first_place
returns-in-31 c = sym (ap (four_of shown) c.in-31.is)

pub returns-in_default : goal.returns-in_default
returns-in_default c = four-wide shown shown-wide c.args.k (omega arith)
