-- The octets, high one first, are the unit.
use native.Mathlib.Omega.{arith}
use Rattle.stream.proofs.UnitOctets.{octet-units-at}
use Rattle.to_units.proofs.unit_at.Goals as goal

pub returns : goal.returns
returns c = omega (arith, c.from_be_bytes.ensures, octet-units-at c.args.octets.now c.args.i c.requires)
