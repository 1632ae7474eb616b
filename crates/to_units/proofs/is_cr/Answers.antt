-- A unit is 13 where its high octet is 0 and its low octet is 13.
-- Assumes nothing.
use Prim.Native.Nat.{ℕ}
use mathlib.Core.Path.{sym, ap, ◌∙◌}
use native.Mathlib.Omega.{arith}
use borrow.Author.Tests.{ne_eqb}
use lib.Dec.{eqb}
use Rattle.stream.proofs.UnitOctets.{octet-units-at}
use Rattle.to_units.proofs.is_cr.Goals as goal

pub returns-then-octets-i-eq0 : goal.returns-then-octets-i-eq0
returns-then-octets-i-eq0 c = ap (λ (x : ℕ). eqb x 13) (omega (arith, octet-units-at c.args.octets.now c.args.i c.requires, c.if-octets-i-eq0.true))

pub returns-else-octets-i-eq0 : goal.returns-else-octets-i-eq0
returns-else-octets-i-eq0 c =
    ne_eqb _ 0 c.if-octets-i-eq0.false
    ∙ sym (ne_eqb _ 13 (λ e. omega (arith, e, octet-units-at c.args.octets.now c.args.i c.requires, c.if-octets-i-eq0.false)))
