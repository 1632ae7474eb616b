-- `to_text::own::own_septets` meets its contract: the blocks at the front, the eights behind them, and the last eight of all.
-- Assumes nothing.
use mathlib.Core.Path.{◌≡◌, refl, ap, sym, ◌∙◌, subst}
use mathlib.Core.Bool.{Bool, true}
use mathlib.Core.List.{List, []}
use Prim.Native.Nat.{ℕ, ◌+◌, ◌-◌, ◌*◌, ◌/◌, ◌<◌, ◌≤◌}
use native.Mathlib.Omega.{arith}
use lib.ListN.{length, get_or, take, drop, length-drop}
use lib.Seq.{take_all}
use borrow.Author.Rules.{rules}
use borrow.Author.Tests.{eqb-true}
use Rattle.std.specs.Simd.{first_chunks}
use Rattle.letters.specs.OwnCodes.{own_text}
use Rattle.letters.specs.Inner.{OwnFrom}
use Rattle.letters.proofs.OwnCodes.{own-chunks, own-behind, own-join, own-part}
use Rattle.to_text.proofs.own.own_septets.Goals.{then-is_empty, else-is_empty}
use Rattle.to_text.proofs.own.own_septets.Goals as goal

-- as many are behind the first n
size : (s : List ℕ) (n : ℕ) → length (take (length s - n) (drop n s)) ≡ length s - n
size s n = omega (arith, ap length (take_all (length s - n) (drop n s) (omega (arith, length-drop n s))), length-drop n s)

-- the first n, and m eights behind them
front : (s tail : List ℕ) (eights : List (List ℕ)) (n m : ℕ) → (n ≤ length s) × OwnFrom s 0 n → tail ≡ take (length s - n) (drop n s) → eights ≡ first_chunks 8 (length tail / 8) tail
    → m ≤ length tail / 8 → ((j : ℕ) → j < m → own_text (get_or eights j []) ≡ true) → (n + 8 * m ≤ length s) × OwnFrom s 0 (n + 8 * m)
front s tail eights n m own behind e few all =
    let rest : tail ≡ drop n s = behind ∙ take_all (length s - n) (drop n s) (omega (arith, length-drop n s)) in
    let long : length tail ≡ length s - n = omega (arith, ap length rest, length-drop n s) in
    let run : OwnFrom tail 0 (8 * m) = own-chunks 8 (length tail / 8) m tail (omega arith) few (λ j h. ap (λ (l : List (List ℕ)). own_text (get_or l j [])) (sym e) ∙ all j h) in
    (omega (arith, long, few, own.0), own-join s n (n + 8 * m) own.1 (own-behind s n (8 * m) (subst (λ (l : List ℕ). OwnFrom l 0 (8 * m)) rest run)))

-- the last eight of all, which reach to the end from n or from before
end : (s : List ℕ) (n : ℕ) {r : Bool} → OwnFrom s 0 n → 8 ≤ length s → length s ≤ n + 8 → r ≡ own_text (take (length s - (length s - 8)) (drop (length s - 8) s)) → r ≡ true
    → (length s ≤ length s) × OwnFrom s 0 (length s)
end s n own long near told last =
    let eight = own-part s (length s - 8) (length s) (omega arith) told last in
    (omega arith, own-join s n (length s) own (λ k l m. eight k l (omega arith)))

pub returns-in-Some : goal.returns-in-Some
returns-in-Some c =
    let eights : List (List ℕ) = c.as_chunks.result.0.now in
    let e = c.as_chunks.ensures in
    let within : c.in-Some.k < length eights = search rules in
    front c.args.septets.now _ eights c.own_blocks-n.result c.in-Some.k c.own_blocks-n.ensures refl e.front (omega (arith, within, e.front_len)) (search rules)

pub returns-in-None : goal.returns-in-None
returns-in-None c =
    let s : List ℕ = c.args.septets.now in
    let eights : List (List ℕ) = c.as_chunks.result.0.now in
    let n : ℕ = c.own_blocks-n.result in
    let e = c.as_chunks.ensures in
    let f = front s _ eights n (length eights) c.own_blocks-n.ensures refl e.front (omega (arith, e.front_len)) (search rules) in
    elim c.if-is_empty.branch [
      | then-is_empty w ↦ let none : length c.as_chunks.result.1.now ≡ 0 = eqb-true _ _ (sym c.is_empty.ensures ∙ w.if-is_empty.true) in
          (omega arith, λ k l. f.1 k (omega (arith, l, none, size s n, e.front_len, e.back_len, c.own_blocks-n.ensures.0)))
      | else-is_empty w ↦ end s (n + 8 * length eights) f.1 (omega (arith, c.if-len-lt8.false)) (omega (arith, size s n, e.front_len, e.back_len, c.own_blocks-n.ensures.0)) w.all_own.ensures (sym w.value-is ∙ c.if-all_own.true)
    ]

pub returns-in-None-2 : goal.returns-in-None-2
returns-in-None-2 c =
    let eights : List (List ℕ) = c.as_chunks.result.0.now in
    let e = c.as_chunks.ensures in
    front c.args.septets.now _ eights c.own_blocks-n.result (length eights) c.own_blocks-n.ensures refl e.front (omega (arith, e.front_len)) (search rules)
