-- The units passed are laid over the front of the eight, one after the other.
use lib.ListN.{take, drop, replicate}
use Rattle.lists.proofs.Laid.{Laying}
use Rattle.stream.specs.Ucs2.{octet_units}
use Rattle.to_units.proofs.eight_units.Given as goal

abbrev pub invariant-loop-k : goal.invariant-loop-k
invariant-loop-k l = Laying (replicate 8 0) (take 8 (drop l.at (octet_units l.octets))) (drop l.k (take 8 (drop l.at (octet_units l.octets)))) l.k l.eight
