-- The first n units are laid over the front of out, one after the other.
use Prim.Native.Nat.{ℕ}
use mathlib.Core.Path.{◌≡◌}
use mathlib.Core.List.{List}
use native.Mathlib.Omega.{arith}
use lib.ListN.{length, take, drop_of_length-le}
use lib.Seq.{length-take-le}
use Rattle.lists.proofs.Laid.{lay-front, lay-end}
use Rattle.stream.specs.Ucs2.{octet_units}
use Rattle.stream.proofs.UnitOctets.{octet-units-length}
use borrow.Author.Rules.{rules}
use Rattle.to_units.proofs.get_few.Goals as goal

pub loop-i-preserved : goal.loop-i-preserved
loop-i-preserved c =
    let us : List ℕ = octet_units c.args.octets.now in
    lay-front us (omega (arith, octet-units-length c.args.octets.now, c.requires)) (search rules) c.loop-i.invariant (search rules) c.unit_at.ensures

pub returns : goal.returns
returns c = let a = c.args in
    let xs : List ℕ = take a.n (octet_units a.octets.now) in
    let size : length xs ≡ a.n = length-take-le a.n (octet_units a.octets.now) (omega (arith, octet-units-length a.octets.now, c.requires)) in
    lay-end c.loop-i.invariant (drop_of_length-le xs {i = c.loop-i.i} (omega arith))
