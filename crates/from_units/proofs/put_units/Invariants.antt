-- The octets of the units passed are laid over the front of out, two a turn.
use lib.ListN.{drop}
use Prim.Native.Nat.{◌*◌}
use Rattle.lists.proofs.Laid.{Laying}
use Rattle.stream.specs.Ucs2.{unit_octets}
use Rattle.from_units.proofs.put_units.Given as goal

abbrev pub invariant-loop-i : goal.invariant-loop-i
invariant-loop-i l = Laying l.initial.out (unit_octets l.units) (unit_octets (drop l.i l.units)) (2 * l.i) l.out
