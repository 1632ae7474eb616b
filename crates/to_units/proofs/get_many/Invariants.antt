-- The groups passed are laid over the front of out, and each turn lays eight more units right after them.
use Prim.Native.Nat.{◌*◌}
use mathlib.Core.Path.{◌≡◌}
use lib.ListN.{take}
use Rattle.lists.specs.Lists.{laid}
use Rattle.stream.specs.Ucs2.{octet_units}
use Rattle.to_units.proofs.get_many.Given as goal

abbrev pub invariant-loop-group : goal.invariant-loop-group
invariant-loop-group l = l.out ≡ laid (take (8 * l.group) (octet_units l.octets)) l.initial.out
