-- `to_text::reading::lay_text` meets its contract. The invariant: the front holds the units read so far, and what is left is the text of the septets not yet read.
-- Assumes nothing.
use mathlib.Core.Path.{ap}
use native.Mathlib.Omega.{arith}
use lib.ListN.{length}
use Rattle.lists.proofs.Laid.{lay-end, lay-count}
use Rattle.letters.proofs.Septets.{read-over}
use Rattle.letters.proofs.OwnCodes.{laying-front}
use Rattle.to_text.proofs.reading.lay_text.Goals.{else-old, then-old}
use Rattle.to_text.proofs.reading.lay_text.Goals as goal

pub loop-i-init : goal.loop-i-init
loop-i-init c = let a = c.args in
    (c.requires.front_in_bounds.0, omega arith, omega arith, laying-front a.old a.septets.now a.out.now a.front c.requires.front_in_bounds.1 c.requires.front_in_bounds.2 c.requires.out_value)

pub returns : goal.returns
returns c = let over = read-over c.args.old c.args.septets.now c.loop-i.i c.loop-i-test.false in
    record { answer = omega (arith, lay-count c.loop-i.invariant.3, ap length over); buffer = lay-end c.loop-i.invariant.3 over }
