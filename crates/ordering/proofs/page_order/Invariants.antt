-- After each block the table holds the places of the numbers so far: a number that has a place already is repeated, and in the end the table is the
-- defined one. Assumes nothing.
use Rattle.pages.proofs.Table.{BlocksPlaced}
use Rattle.ordering.proofs.page_order.Given as goal

abbrev pub invariant-loop-i : goal.invariant-loop-i
invariant-loop-i l = BlocksPlaced l.blocks l.i l.places
