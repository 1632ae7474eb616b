-- `room_behind` meets its contract: the four rooms are the definition's. Assumes nothing.
use mathlib.Core.Path.{sym}
use Rattle.parted.proofs.Rooms.{alone-room, part_room}
use Rattle.cutting.proofs.room_behind.Goals as goal

pub returns-in-true-true : goal.returns-in-true-true
returns-in-true-true c = simp (c.in-true-true.is-0, c.in-true-true.is-1) (sym part_room.1)

pub returns-in-true-false : goal.returns-in-true-false
returns-in-true-false c = simp (c.in-true-false.is-0, c.in-true-false.is-1) (sym alone-room.1)

pub returns-in-false-true : goal.returns-in-false-true
returns-in-false-true c = simp (c.in-false-true.is-0, c.in-false-true.is-1) (sym part_room.0)

pub returns-in-false-false : goal.returns-in-false-false
returns-in-false-false c = simp (c.in-false-false.is-0, c.in-false-false.is-1) (sym alone-room.0)
