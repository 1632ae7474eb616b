-- The room is judged, and then the units are laid over the front of out, few or many.
use Prim.Native.Nat.{ℕ, ◌≤◌, ◌*◌}
use mathlib.Core.Path.{◌≡◌, sym}
use mathlib.Core.List.{List}
use native.Mathlib.Omega.{arith}
use lib.ListN.{length, take}
use lib.Seq.{length-take-le}
use Rattle.lists.specs.Lists.{laid}
use Rattle.stream.specs.Ucs2.{octet_units}
use Rattle.stream.proofs.UnitOctets.{octet-units-length}
use Rattle.stream.proofs.Given.{Gives, given-short, given-done}
use Rattle.words.proofs.Clauses.{answered}
use Rattle.to_units.proofs.get_units.Goals as goal
use Rattle.std.specs.Prelude.{Ok}

-- there are n units
size : (o : List ℕ) (n : ℕ) → 2 * n ≤ length o → length (take n (octet_units o)) ≡ n
size o n h = length-take-le n (octet_units o) (omega (arith, octet-units-length o))

-- where there is room
done : (o d left : List ℕ) (n : ℕ) → 2 * n ≤ length o → n ≤ length d → left ≡ laid (take n (octet_units o)) d → Gives (take n (octet_units o)) d (Ok n) left
done o d left n h room e = given-done (take n (octet_units o)) d (sym (size o n h)) (omega (arith, size o n h)) e

pub returns-then-out-n : goal.returns-then-out-n
returns-then-out-n c =
    let a = c.args in
    answered (given-short (take a.n (octet_units a.octets.now)) a.out.now (omega (arith, size a.octets.now a.n c.requires, c.if-out-n.true)))

pub returns-then-n-lt8 : goal.returns-then-n-lt8
returns-then-n-lt8 c = answered (done c.args.octets.now c.args.out.now c.get_few.new.out c.args.n c.requires c.if-out-n.false c.get_few.ensures)

pub returns-else-n-lt8 : goal.returns-else-n-lt8
returns-else-n-lt8 c = answered (done c.args.octets.now c.args.out.now c.get_many.new.out c.args.n c.requires c.if-out-n.false c.get_many.ensures)
