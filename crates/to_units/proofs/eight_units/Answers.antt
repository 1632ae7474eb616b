-- The units passed are laid over the front of the eight, one after the other.
use Prim.Native.Nat.{ℕ, ◌≤◌}
use mathlib.Core.Path.{sym, ◌∙◌}
use mathlib.Core.List.{List}
use native.Mathlib.Omega.{arith}
use lib.ListN.{length, drop, length-drop}
use lib.Seq.{get_or-drop}
use Rattle.lists.proofs.Laid.{lay-front}
use Rattle.stream.specs.Ucs2.{octet_units}
use Rattle.stream.proofs.UnitOctets.{octet-units-length}
use borrow.Author.Rules.{rules}
use Rattle.to_units.proofs.eight_units.Goals as goal

pub loop-k-preserved : goal.loop-k-preserved
loop-k-preserved c =
    let at : ℕ = c.args.at in
    let us : List ℕ = octet_units c.args.octets.now in
    let within : 8 ≤ length (drop at us) = omega (arith, length-drop at us, octet-units-length c.args.octets.now, c.requires) in
    lay-front (drop at us) within (search rules) c.loop-k.invariant (search rules) (c.unit_at.ensures ∙ sym (get_or-drop at us c.loop-k.k 0))
