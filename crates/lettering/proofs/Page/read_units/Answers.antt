-- The 40 units behind the letters fill the array, and those that are left without closing 000D are stored. Assumes nothing.
use Prim.Native.Nat.{ℕ, ◌≤◌, ◌-◌}
use mathlib.Core.Path.{◌≡◌, refl, sym, ap, ◌∙◌}
use mathlib.Core.List.{List}
use native.Mathlib.Omega.{arith}
use lib.ListN.{length, take, drop, replicate}
use lib.Seq.{length-take-le}
use Rattle.lists.specs.Closing.{without_closing}
use Rattle.lists.proofs.Closing.{closing-front, closing-length}
use Rattle.stream.specs.Ucs2.{octet_units}
use Rattle.to_units.specs.Laying.{laid_units}
use Rattle.lettering.specs.Inner.{behind_letters}
use Rattle.lettering.proofs.Steps.{read-stored}
use Rattle.lettering.proofs.Arrays.{text-units}
use Rattle.words.proofs.Clauses.{passed}
use borrow.Author.Rules.{rules}
use Rattle.lettering.proofs.Page.read_units.Goals as goal

-- the units that are left are the front of the array
within : (array : List ℕ) {n : ℕ} → n ≡ length (without_closing 13 array) → n ≤ length array
within array e = omega (arith, e, closing-length 13 array)

pub slice_bounds-units-end : goal.slice_bounds-units-end
slice_bounds-units-end c = within c.lay_units.new.out c.kept-n.ensures.answer

pub slice_bounds-store-end : goal.slice_bounds-store-end
slice_bounds-store-end c = sym (length-take-le _ _ (within c.lay_units.new.out c.kept-n.ensures.answer))

-- the units that are left of the page
run : (o array : List ℕ) {n : ℕ} → length o ≡ 82 → n ≡ length (without_closing 13 array) → array ≡ laid_units (take (length o - 2) (drop 2 o)) (replicate 40 0) → take n array ≡ without_closing 13 (octet_units (drop 2 o))
run o array whole e all = ap (λ (n : ℕ). take n array) e ∙ closing-front 13 array ∙ ap (without_closing 13) (all ∙ text-units o (replicate 40 0) whole refl)

pub returns-in_err-units : goal.returns-in_err-units
returns-in_err-units c =
    let a = c.args in
    let s = c.args.self.now in
    let r = read-stored s.letters s.octets.now a.out.now s.whole s.read s.named _ (run s.octets.now c.lay_units.new.out s.whole c.kept-n.ensures.answer c.lay_units.ensures.buffer) in
    passed (search rules) (ap (behind_letters s.letters) c.in_err-units.ensures.answer ∙ r.0, c.in_err-units.ensures.buffer ∙ r.1)

pub returns : goal.returns
returns c =
    let a = c.args in
    let s = c.args.self.now in
    let r = read-stored s.letters s.octets.now a.out.now s.whole s.read s.named _ (run s.octets.now c.lay_units.new.out s.whole c.kept-n.ensures.answer c.lay_units.ensures.buffer) in
    record { answer = ap (behind_letters s.letters) c.in_ok-units.ensures.answer ∙ r.0; buffer = c.in_ok-units.ensures.buffer ∙ r.1 }
