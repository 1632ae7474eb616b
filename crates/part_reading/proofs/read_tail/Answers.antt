-- `read_tail` meets its contract: UCS2 is read as units, the rest by septets. Assumes nothing.
use mathlib.Core.List.{List}
use mathlib.Core.Path.{◌≡◌, ap, subst, ◌∙◌}
use mathlib.Core.Bool.{Bool, true}
use native.Mathlib.Omega.{arith}
use Prim.Native.Nat.{ℕ, ◌-◌}
use lib.ListN.{length, take, drop, length-drop}
use lib.Seq.{take_all}
use Rattle.std.specs.Prelude.{Result}
use Rattle.words.specs.declared.Refusal.{Refusal}
use Rattle.parted.specs.Read.{count_fits}
use Rattle.parted.specs.Inner.{tail_reads, tail_leaves}
use Rattle.parted.proofs.ReadSteps.{units-behind, septets-behind}
use Rattle.words.proofs.Clauses.{answered}
use Rattle.part_reading.proofs.read_tail.Goals as goal

-- what is read of the octets behind a header, by the name of the alphabet
units : (ucs2 : Bool) → ucs2 ≡ true → (size count : ℕ) (o out : List ℕ) {x : Result ℕ Refusal} {left : List ℕ}
    → x ≡ tail_reads true 0 0 (take (length o - size) (drop size o)) (length out) → left ≡ tail_leaves true 0 0 (take (length o - size) (drop size o)) out
    → (x ≡ tail_reads ucs2 size count o (length out)) × (left ≡ tail_leaves ucs2 size count o out)
units ucs2 e size count o out answer buffer =
    let b = units-behind size count o out in
    let rest : take (length o - size) (drop size o) ≡ drop size o = take_all (length o - size) (drop size o) (omega (arith, length-drop size o)) in
    rw e (answer ∙ ap (λ (l : List ℕ). tail_reads true 0 0 l (length out)) rest ∙ b.0, buffer ∙ ap (λ (l : List ℕ). tail_leaves true 0 0 l out) rest ∙ b.1)

pub returns-then-ucs2 : goal.returns-then-ucs2
returns-then-ucs2 c = let a = c.args in
    answered (units a.ucs2 c.if-ucs2.true a.size a.count a.octets.now a.out.now c.read_units.ensures.answer c.read_units.ensures.buffer)

pub read_septets-requires : goal.read_septets-requires
read_septets-requires c = let seven = c.if-ucs2.false in
    let a = c.args in
    (subst (λ (t : Bool). count_fits t (length a.octets.now) a.count ≡ true) seven c.requires.count_value.0, c.requires.over_le_count seven)

pub returns : goal.returns
returns c = let a = c.args in
    let b = septets-behind a.size a.count a.octets.now a.out.now a.over c.requires.count_value.2 in
    answered (rw c.if-ucs2.false (c.read_septets.ensures.answer ∙ b.0, c.read_septets.ensures.buffer ∙ b.1))
