-- The octets of the units passed are laid over the front of out, two a turn.
use mathlib.Core.Path.{◌≡◌, sym, ap, ap₂, ◌∙◌}
use mathlib.Core.List.{List}
use Prim.Native.Nat.{ℕ, ◌≤◌, ◌<◌, ◌+◌, ◌*◌, ◌/◌, ◌%◌}
use native.Mathlib.Omega.{arith}
use lib.ListN.{length, get_or, drop, set, drop_of_length-le}
use Rattle.lists.proofs.Laid.{Laying, lay-left, lay-one, lay-moved, lay-end}
use Rattle.stream.specs.Ucs2.{unit_octets}
use Rattle.stream.proofs.Given.{given-short, given-done}
use Rattle.stream.proofs.UnitOctets.{unit-octets-length, unit-octets-next}
use Rattle.words.proofs.Clauses.{answered}
use Rattle.from_units.proofs.put_units.Goals as goal

pub returns-then-out-n : goal.returns-then-out-n
returns-then-out-n c =
    let us : List ℕ = c.args.units.now in
    answered (given-short (unit_octets us) c.args.out.now (omega (arith, unit-octets-length us)))

-- the octets of unit i are stored
unit-stored : (us start out : List ℕ) (i high low : ℕ) → length (unit_octets us) ≤ length start → i < length us → Laying start (unit_octets us) (unit_octets (drop i us)) (2 * i) out
    → high ≡ get_or us i 0 / 256 → low ≡ get_or us i 0 % 256 → Laying start (unit_octets us) (unit_octets (drop (i + 1) us)) (2 * (i + 1)) (set (set out (2 * i) high) (2 * i + 1) low)
unit-stored us start out i high low fits h l p q =
    let next : 2 * (i + 1) ≡ 2 * i + 1 + 1 = omega arith in
    lay-moved (lay-one (lay-one (lay-left l (unit-octets-next us i h)) fits) fits) next (ap₂ (λ (x y : ℕ). set (set out (2 * i) x) (2 * i + 1) y) p q)

pub loop-i-preserved : goal.loop-i-preserved
loop-i-preserved c =
    let us : List ℕ = c.args.units.now in
    let small : get_or us c.loop-i.i 0 < 65536 = (c.type_inv.units c.loop-i.i).fits in
    let pair = c.to_be_bytes.ensures in
    unit-stored us c.args.out.now c.loop-i.out c.loop-i.i (get_or c.to_be_bytes.result 0 0) (get_or c.to_be_bytes.result 1 0) (omega (arith, unit-octets-length us)) c.loop-i-test.true c.loop-i.invariant
    (ap (λ (l : List ℕ). get_or l 0 0) pair ∙ omega (arith, small)) (ap (λ (l : List ℕ). get_or l 1 0) pair ∙ omega arith)

pub returns : goal.returns
unfolding unit_octets
returns c =
    let us : List ℕ = c.args.units.now in
    let size : length (unit_octets us) ≡ 2 * length us = unit-octets-length us in
    answered (given-done (unit_octets us) c.args.out.now (sym size) (omega arith) (lay-end c.loop-i.invariant (ap unit_octets (drop_of_length-le us {i = c.loop-i.i} (omega arith)))))
