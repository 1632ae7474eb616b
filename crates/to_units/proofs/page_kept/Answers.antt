-- The units from n on are 000D, so that the first n decide what is left.
use Prim.Native.Nat.{ℕ, ◌-◌}
use mathlib.Core.Path.{◌≡◌, sym, ap, ◌∙◌}
use mathlib.Core.List.{List}
use native.Mathlib.Decide.{dec_le}
use native.Mathlib.Omega.{arith}
use borrow.Author.Tests.{eqb-true, eqb-false}
use lib.ListN.{get_or}
use Rattle.lists.proofs.Closing.{closing_last, closing_none}
use Rattle.stream.specs.Ucs2.{octet_units}
use Rattle.stream.proofs.UnitOctets.{octet-units-length}
use Rattle.to_units.proofs.page_kept.Goals as goal

pub loop-n-init : goal.loop-n-init
loop-n-init c k h l = absurd (omega (arith, octet-units-length c.args.octets.now, c.requires))

pub returns-then-not-is_cr : goal.returns-then-not-is_cr
returns-then-not-is_cr c =
    let us : List ℕ = octet_units c.args.octets.now in
    sym (closing_last 13 us (c.loop-n.n - 1) (omega (arith, octet-units-length c.args.octets.now, c.requires, c.loop-n.auto)) (eqb-false _ 13 (sym c.is_cr.ensures ∙ c.if-not-is_cr.true)) (λ k h l. c.loop-n.invariant k (omega arith) l))

pub loop-n-preserved : goal.loop-n-preserved
loop-n-preserved c k h l =
    let us : List ℕ = octet_units c.args.octets.now in
    elim (dec_le c.loop-n.n k) [
      | yes m ↦ c.loop-n.invariant k m l
      | no m ↦ let last : k ≡ c.loop-n.n - 1 = omega arith in ap (λ (i : ℕ). get_or us i 0) last ∙ eqb-true _ 13 (sym c.is_cr.ensures ∙ c.if-not-is_cr.false)
    ]

pub returns : goal.returns
returns c = sym (closing_none 13 (octet_units c.args.octets.now) (λ k l. c.loop-n.invariant k (omega arith) l))
