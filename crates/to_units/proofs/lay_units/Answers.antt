-- The units that there is room for are laid over the front of out. Assumes nothing.
use mathlib.Core.Path.{◌≡◌, ap, ◌∙◌}
use mathlib.Core.List.{List}
use Prim.Native.Nat.{ℕ, min}
use native.Mathlib.Omega.{arith}
use lib.ListN.{length}
use Rattle.lists.specs.Lists.{laid}
use Rattle.lists.proofs.Laid.{take-min, min-length}
use Rattle.stream.specs.Ucs2.{octet_units}
use Rattle.stream.proofs.UnitOctets.{octet-units-length}
use Rattle.to_units.proofs.lay_units.Goals as goal

pub returns : goal.returns
returns c =
    let us : List ℕ = octet_units c.args.octets.now in
    let d : List ℕ = c.args.out.now in
    let many : c.min-n.result ≡ min (length us) (length d) = omega (arith, c.min-n.ensures, octet-units-length c.args.octets.now) in
    record { answer = min-length us c.min-n.result (length d) many; buffer = c.get_few.ensures ∙ ap (λ (l : List ℕ). laid l d) (take-min us c.min-n.result (length d) many) }
