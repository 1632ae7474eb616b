-- The octets of the letters are stored in front, by shifts that lay the seven bits of each side by side, and those of the text behind them, one after
-- the other. Assumes nothing.
use Prim.Native.Nat.{◌≤◌, ℕ, ◌+◌, ◌*◌, ◌/◌, ◌%◌, ◌^◌}
use mathlib.Core.Path.{◌≡◌, refl, sym, ap, ◌∙◌}
use mathlib.Core.Bool.{true}
use mathlib.Core.List.{List, [], ◌∷◌, ◌++◌, append_assoc}
use native.Mathlib.Omega.{arith}
use lib.Bits.{bit_and, bit_or, and_mask, or_shifted_r}
use lib.ListN.{length, take, drop, set, length-set, length-append, length-drop}
use lib.Seq.{length-take-le, drop-drop}
use Rattle.stream.specs.Stream.{packed}
use Rattle.lists.specs.Lists.{laid}
use Rattle.lists.proofs.Laid.{laid-copy}
use Rattle.fields.specs.declared.Letters.{Letters}
use Rattle.fields.specs.Letters.{are_letters}
use Rattle.lettered.proofs.Bits.{letters-below, letters-packed}
use Rattle.lettering.proofs.Arrays.{units-laid}
use Rattle.lettering.proofs.Steps.{write-long, write-short, write_done}
use borrow.Author.Rules.{rules}
use Rattle.words.proofs.Clauses.{answered}
use Rattle.lettering.proofs.write_units.Goals as goal

-- the first octet: the lowest bit of the second letter above the first
abbrev high : Letters → ℕ
high l = bit_or l.first (bit_and l.second 1 * 2 ^ 7 % 2 ^ 8)

letters-shifted : (l : Letters) → are_letters l ≡ true → high l ∷ l.second / 2 ∷ [] ≡ packed (l.first ∷ l.second ∷ [])
letters-shifted l named =
    let low = letters-below l named in
    let fits : l.second % 2 * 2 ^ 7 % 2 ^ 8 ≡ l.second % 2 * 2 ^ 7 = omega arith in
    let one : high l ≡ l.first + 128 * (l.second % 2) =
    ap (λ (m : ℕ). bit_or l.first (m * 2 ^ 7 % 2 ^ 8)) (and_mask l.second 1)
    ∙ ap (bit_or l.first) fits
    ∙ or_shifted_r (l.second % 2) 7 l.first low.0
    ∙ omega arith in
    ap (λ (x : ℕ). x ∷ l.second / 2 ∷ []) one ∙ sym (letters-packed l.first l.second low.0 low.1)

pub returns-then-units-gt40 : goal.returns-then-units-gt40
returns-then-units-gt40 c = let a = c.args in
    answered
    (write-long a.letters a.units.now a.out.now c.requires c.if-units-gt40.true)

pub returns-then-out-lt82 : goal.returns-then-out-lt82
returns-then-out-lt82 c = let a = c.args in
    answered
    (write-short a.letters a.units.now a.out.now c.requires c.if-units-gt40.false c.if-out-lt82.true)

pub bounds-out-0 : goal.bounds-out-0
bounds-out-0 c = omega (arith, c.if-out-lt82.false)

pub bounds-out-1 : goal.bounds-out-1
bounds-out-1 c = simp length-set (omega (arith, c.if-out-lt82.false))

-- the letters' octets are stored in front, and those of the text right behind them
module _ (out o : List ℕ) (x y : ℕ) (room : 82 ≤ length out) (size : length o ≡ 82) where
  long : length (set (set out 0 x) 1 y) ≡ length out
  long = simp length-set refl

  text : length (take 80 o) ≡ 80
  text = length-take-le 80 o (omega (arith, size))

  place : length (take 80 (drop 2 (set (set out 0 x) 1 y))) ≡ length (take 80 o)
  place = length-take-le 80 (drop 2 (set (set out 0 x) 1 y)) (omega (arith, long, room, length-drop 2 (set (set out 0 x) 1 y))) ∙ sym text

  copied : take 2 (set (set out 0 x) 1 y) ++ (take 80 o ++ drop 80 (drop 2 (set (set out 0 x) 1 y))) ≡ laid (take 2 (set (set out 0 x) 1 y) ++ take 80 o) (set (set out 0 x) 1 y)
  copied =
      let start : List ℕ = set (set out 0 x) 1 y in
      sym (append_assoc (take 2 start) (take 80 o) (drop 80 (drop 2 start)))
      ∙ ap (λ (l : List ℕ). take 2 start ++ take 80 o ++ l) (drop-drop 80 2 start)
      ∙ laid-copy (take 2 start ++ take 80 o) start 82 (omega (arith, length-append (take 2 start) (take 80 o), length-take-le 2 start (omega (arith, long, room)), text))

pub slice_bounds-copy_from_slice-end-2 : goal.slice_bounds-copy_from_slice-end-2
slice_bounds-copy_from_slice-end-2 c = let size : length c.page_octets-octets.result ≡ 82 = search rules in sym (length-take-le 80 _ (omega (arith, size)))

pub copy_from_slice-requires : goal.copy_from_slice-requires
copy_from_slice-requires c = place c.args.out.now c.page_octets-octets.result _ _ c.if-out-lt82.false (search rules)

pub returns : goal.returns
returns c =
    let a = c.args in
    let start : List ℕ = set (set a.out.now 0 (high a.letters)) 1 (a.letters.second / 2) in
    let o : List ℕ = c.page_octets-octets.result in
    let few = c.if-units-gt40.false in
    answered
    (write_done a.letters a.units.now a.out.now c.requires few c.if-out-lt82.false _
    (ap (λ (m : List ℕ). take 2 start ++ (m ++ drop 80 (drop 2 start))) c.copy_from_slice.ensures.after
    ∙ copied a.out.now o _ _ c.if-out-lt82.false (search rules)
    ∙ units-laid a.letters a.units.now a.out.now _ _ few c.if-out-lt82.false (letters-shifted a.letters c.requires) o c.page_octets-octets.ensures.answer))
