-- `codes::look` meets its contract: what is left of the codes answers as all of them do.
-- Assumes nothing.
use mathlib.Core.Path.{◌≡◌, sym, ap, ◌∙◌}
use mathlib.Core.List.{List, ◌∷◌}
use Prim.Native.Nat.{ℕ, ◌/◌}
use native.Mathlib.Omega.{arith}
use lib.Bits.{bit_and, and_mask}
use Rattle.codes.specs.Inner.{septets_down, codes_in, looked}
use Rattle.codes.proofs.Search.{codes-more, looked-here, looked-on}
use Rattle.codes.proofs.look.Goals as goal

-- the code that is looked at is the first of those that are left
first : (left : ℕ) → (left ≡ 0 → ⊥) → codes_in left ≡ bit_and left 0x7f ∷ codes_in (left / 128)
first left some = codes-more left some ∙ ap (λ (code : ℕ). code ∷ codes_in (left / 128)) (sym (and_mask left 7))

pub returns-then-table-unit : goal.returns-then-table-unit
returns-then-table-unit g c f shows =
    let left = c.loop-left.left in
    let code = bit_and left 0x7f in
    sym (looked-here f code (codes_in (left / 128)) c.args.unit (sym (shows code c.table.result c.table.ensures) ∙ c.if-table-unit.true))
    ∙ ap (λ (l : List ℕ). looked f l c.args.unit) (sym (first left (λ none. omega (arith, c.loop-left-test.true, none))))
    ∙ c.loop-left.invariant f shows

pub loop-left-preserved : goal.loop-left-preserved
loop-left-preserved g c f shows =
    let left = c.loop-left.left in
    let code = bit_and left 0x7f in
    sym (looked-on f code (codes_in (left / 128)) c.args.unit (λ e. c.if-table-unit.false (shows code c.table.result c.table.ensures ∙ e)))
    ∙ ap (λ (l : List ℕ). looked f l c.args.unit) (sym (first left (λ none. omega (arith, c.loop-left-test.true, none))))
    ∙ c.loop-left.invariant f shows

pub returns : goal.returns
unfolding looked septets_down
returns g c f shows =
    let ended : 0 ≡ c.loop-left.left = omega (arith, c.loop-left-test.false) in
    ap (λ (n : ℕ). looked f (codes_in n) c.args.unit) ended ∙ c.loop-left.invariant f shows
