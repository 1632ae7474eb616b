-- The first n units are laid over the front of out, one after the other.
use lib.ListN.{take, drop}
use Rattle.lists.proofs.Laid.{Laying}
use Rattle.stream.specs.Ucs2.{octet_units}
use Rattle.to_units.proofs.get_few.Given as goal

abbrev pub invariant-loop-i : goal.invariant-loop-i
invariant-loop-i l = Laying l.initial.out (take l.n (octet_units l.octets)) (drop l.i (take l.n (octet_units l.octets))) l.i l.out
