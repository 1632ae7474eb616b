-- The tests stand in the order of the definition, and the first that fails decides. Assumes nothing.
use Prim.Native.Nat.{ℕ}
use mathlib.Core.Path.{◌≡◌, refl}
use mathlib.Core.Bool.{Bool, true, false, not, ◌&&◌}
use borrow.Author.Tests.{eq-eqb, ne_eqb, le-leb, lt-leb, ltb-true, ltb-false}
use lib.Dec.{eqb, leb, ltb}
use Rattle.filling.specs.Numbered.{lacks}
use Rattle.part_order.proofs.belongs.Goals as goal

-- the tests in a row: the two references, the two totals, the number
abbrev judged : ℕ → ℕ → ℕ → ℕ → ℕ → Bool
judged r s t u k = (eqb r s && eqb t u) && not (lacks u k)

other-reference : {r s : ℕ} (t u k : ℕ) → (r ≡ s → ⊥) → eqb r s ≡ judged r s t u k
other-reference {r} {s} t u k e = rw (ne_eqb r s e)

other-total : {r s t u : ℕ} (k : ℕ) → r ≡ s → (t ≡ u → ⊥) → eqb t u ≡ judged r s t u k
other-total {r} {s} {t} {u} k e f = rw (eq-eqb r s e, ne_eqb t u f)

number-0 : {r s t u k : ℕ} → r ≡ s → t ≡ u → k ≡ 0 → not (eqb k 0) ≡ judged r s t u k
number-0 {r} {s} {t} {u} {k} e f g = rw (eq-eqb r s e, eq-eqb t u f, eq-eqb k 0 g)

number_more : {r s t u k : ℕ} → r ≡ s → t ≡ u → (k ≡ 0 → ⊥) → leb k u ≡ judged r s t u k
number_more {r} {s} {t} {u} {k} e f g = rw (eq-eqb r s e, eq-eqb t u f, ne_eqb k 0 g) (go (ltb u k) refl)
  where
    go : (b : Bool) → ltb u k ≡ b → leb k u ≡ not (ltb u k)
    go true h = rw h (lt-leb k u (ltb-true u k h))
    go false h = rw h (le-leb k u (ltb-false u k h))

pub returns-then-numbers-ne0 : goal.returns-then-numbers-ne0
returns-then-numbers-ne0 c = number_more c.if-first-numbers.true c.if-first-numbers-2.true c.if-numbers-ne0.true

pub returns-else-numbers-ne0 : goal.returns-else-numbers-ne0
returns-else-numbers-ne0 c = number-0 c.if-first-numbers.true c.if-first-numbers-2.true c.if-numbers-ne0.false

pub returns-else-first-numbers-2 : goal.returns-else-first-numbers-2
returns-else-first-numbers-2 c = let a = c.args in
    other-total a.numbers.number c.if-first-numbers.true c.if-first-numbers-2.false

pub returns-else-first-numbers : goal.returns-else-first-numbers
returns-else-first-numbers c = let a = c.args in
    other-reference a.first.total a.numbers.total a.numbers.number c.if-first-numbers.false
