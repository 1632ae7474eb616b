-- Seven octets are a number of eight septets, and stretched its octets are those.
use Prim.Native.Nat.{ℕ, ◌+◌}
use mathlib.Core.Path.{◌≡◌, sym, ap, ◌∙◌}
use mathlib.Core.List.{List, ◌++◌}
use lib.ListN.{take, drop}
use Rattle.stream.specs.Digits.{value, digits}
use Rattle.stream.proofs.LowBits.{low_same, apart-seven, apart-octets}
use Rattle.packing.proofs.pieces.UnpackRegroup.group.Goals.{else-from-octets, then-from-octets}
use Rattle.packing.proofs.pieces.UnpackRegroup.group.Goals as goal

pub returns : goal.returns
returns c =
    let a = c.args in
    -- by either way its septets are those of the seven octets
    let seven : digits 128 8 c.if-from-octets.v ≡ digits 128 8 (value 256 (take 7 (drop a.from a.octets.now))) =
    elim c.if-from-octets.branch [
      | then-from-octets w ↦ ap (digits 128 8) (w.v-is ∙ w.join_eight-v.ensures) ∙ apart-seven a.octets.now a.from (λ k. (c.type_inv.octets k).fits) w.if-from-octets.true
      | else-from-octets w ↦ ap (digits 128 8) (w.v-is ∙ w.join_seven-v.ensures)
    ] in
    c.put_eight.ensures
    ∙ ap (λ (s : List ℕ). take a.to a.out.now ++ s ++ drop (a.to + 8) a.out.now)
    (ap (digits 256 8) c.stretch-x.ensures.answer ∙ apart-octets c.if-from-octets.v
    ∙ seven
    ∙ ap (λ (o : List ℕ). digits 128 8 (value 256 (take 7 (drop a.from o)))) (sym (low_same 8 a.octets.now (λ k. (c.type_inv.octets k).fits))))
