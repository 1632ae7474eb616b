-- `to_septets::own::own_front` meets its contract: the blocks before the first that has another unit, or all of them and what was found behind them.
-- Assumes nothing.
use mathlib.Core.Path.{◌≡◌, ap, sym, ◌∙◌}
use mathlib.Core.Bool.{Bool, true}
use mathlib.Core.List.{List, []}
use Prim.Native.Nat.{ℕ, ◌+◌, ◌-◌, ◌*◌, ◌/◌, ◌<◌, ◌≤◌}
use native.Mathlib.Omega.{arith}
use lib.ListN.{length, get_or, take, drop}
use borrow.Author.Rules.{rules}
use Rattle.std.specs.Simd.{first_chunks}
use Rattle.letters.specs.OwnCodes.{own_text}
use Rattle.letters.specs.Inner.{OwnFrom}
use Rattle.letters.proofs.OwnCodes.{own-chunks, own-join, own-part}
use Rattle.to_septets.proofs.own.own_front.Goals.{else-rest-gt0-via-then-rest-gt0+else-not-all_own, else-rest-gt0-via-else-rest-gt0, else-rest-gt8-via-then-rest-gt8+else-not-all_own-3, else-rest-gt8-via-else-rest-gt8}
use Rattle.to_septets.proofs.own.own_front.Goals as goal

-- the first m blocks of 16
front : (t : List ℕ) (blocks : List (List ℕ)) (m : ℕ) → blocks ≡ first_chunks 16 (length t / 16) t → m ≤ length t / 16 → ((j : ℕ) → j < m → own_text (get_or blocks j []) ≡ true)
    → (16 * m ≤ length t) × OwnFrom t 0 (16 * m)
front t blocks m e few all =
    (omega arith, own-chunks 16 (length t / 16) m t (omega arith) few (λ j h. ap (λ (l : List (List ℕ)). own_text (get_or l j [])) (sym e) ∙ all j h))

pub returns-in-Some : goal.returns-in-Some
returns-in-Some c =
    let blocks : List (List ℕ) = c.as_chunks.result.0.now in
    let within : c.in-Some.k < length blocks = search rules in
    front c.args.text.now blocks c.in-Some.k c.as_chunks.ensures.front (omega (arith, within, c.as_chunks.ensures.front_len)) (search rules)

pub returns-then-all_own : goal.returns-then-all_own
returns-then-all_own c =
    let t = c.args.text.now in
    let n = 16 * c.in-Some.k in
    let blocks : List (List ℕ) = c.as_chunks.result.0.now in
    let within : c.in-Some.k < length blocks = search rules in
    let f = front t blocks c.in-Some.k c.as_chunks.ensures.front (omega (arith, within, c.as_chunks.ensures.front_len)) (search rules) in
    (omega (arith, within, c.as_chunks.ensures.front_len), own-join t n (n + 8) f.1 (own-part t n (n + 8) (omega (arith, within, c.as_chunks.ensures.front_len)) c.all_own.ensures c.if-all_own.true))

-- the first n, and the last eight of all, which reach to the end from n or from before
end : (t : List ℕ) (n : ℕ) {r : Bool} → OwnFrom t 0 n → 8 ≤ length t → length t ≤ n + 8 → r ≡ own_text (take (length t - (length t - 8)) (drop (length t - 8) t)) → r ≡ true
    → (length t ≤ length t) × OwnFrom t 0 (length t)
end t n own long near told last =
    let eight = own-part t (length t - 8) (length t) (omega arith) told last in
    (omega arith, own-join t n (length t) own (λ k l m. eight k l (omega arith)))

pub returns-then-not-all_own : goal.returns-then-not-all_own
returns-then-not-all_own c =
    let blocks : List (List ℕ) = c.as_chunks.result.0.now in
    front c.args.text.now blocks (length blocks) c.as_chunks.ensures.front (omega (arith, c.as_chunks.ensures.front_len)) (search rules)

pub returns-then-rest-lt8 : goal.returns-then-rest-lt8
returns-then-rest-lt8 c =
    let t = c.args.text.now in
    let e = c.as_chunks.ensures in
    let blocks : List (List ℕ) = c.as_chunks.result.0.now in
    let n = 16 * length blocks in
    let f = front t blocks (length blocks) e.front (omega (arith, e.front_len)) (search rules) in
    elim c.else-rest-gt0.branch [
      | else-rest-gt0-via-then-rest-gt0+else-not-all_own w ↦ end t n f.1 (omega (arith, c.if-len-lt8.false)) (omega (arith, e.front_len, e.back_len, c.if-rest-lt8.true)) w.all_own-then-rest-gt0.ensures w.if-not-all_own.false
      | else-rest-gt0-via-else-rest-gt0 w ↦ (omega arith, λ k l. f.1 k (omega (arith, l, e.front_len, e.back_len, w.if-rest-gt0.false)))
    ]

pub returns-then-not-all_own-2 : goal.returns-then-not-all_own-2
returns-then-not-all_own-2 c =
    let blocks : List (List ℕ) = c.as_chunks.result.0.now in
    front c.args.text.now blocks (length blocks) c.as_chunks.ensures.front (omega (arith, c.as_chunks.ensures.front_len)) (search rules)

pub returns-then-not-all_own-3 : goal.returns-then-not-all_own-3
returns-then-not-all_own-3 c =
    let t = c.args.text.now in
    let e = c.as_chunks.ensures in
    let blocks : List (List ℕ) = c.as_chunks.result.0.now in
    let n = 16 * length blocks in
    let f = front t blocks (length blocks) e.front (omega (arith, e.front_len)) (search rules) in
    let room : n + 8 ≤ length t = omega (arith, e.front_len, e.back_len, c.if-rest-lt8.false) in
    (room, own-join t n (n + 8) f.1 (own-part t n (n + 8) room c.all_own-2.ensures c.if-not-all_own-2.false))

pub returns : goal.returns
returns c =
    let t = c.args.text.now in
    let e = c.as_chunks.ensures in
    let blocks : List (List ℕ) = c.as_chunks.result.0.now in
    let n = 16 * length blocks in
    let f = front t blocks (length blocks) e.front (omega (arith, e.front_len)) (search rules) in
    let room : n + 8 ≤ length t = omega (arith, e.front_len, e.back_len, c.if-rest-lt8.false) in
    let own = own-join t n (n + 8) f.1 (own-part t n (n + 8) room c.all_own-2.ensures c.if-not-all_own-2.false) in
    elim c.else-rest-gt8.branch [
      | else-rest-gt8-via-then-rest-gt8+else-not-all_own-3 w ↦ end t (n + 8) own (omega (arith, c.if-len-lt8.false)) (omega (arith, e.front_len, e.back_len)) w.all_own-then-rest-gt8.ensures w.if-not-all_own-3.false
      | else-rest-gt8-via-else-rest-gt8 w ↦ (omega arith, λ k l. own k (omega (arith, l, e.front_len, e.back_len, w.if-rest-gt8.false)))
    ]
