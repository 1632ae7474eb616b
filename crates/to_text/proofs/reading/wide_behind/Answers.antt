-- `to_text::reading::wide_behind` meets its contract: septets that are their own units are below 128, and up to sixteen others are among the first eight
-- and the last eight of them.
-- Assumes nothing.
use mathlib.Core.Path.{◌≡◌, ap, ◌∙◌, sym}
use mathlib.Core.List.{List}
use Prim.Native.Nat.{ℕ, ◌+◌, ◌-◌, ◌≤◌, ◌<◌}
use native.Mathlib.Decide.{dec_le}
use native.Mathlib.Omega.{arith}
use lib.Dec.{leb}
use lib.ListN.{length, get_or, take, drop, length-drop}
use lib.Seq.{take_all}
use borrow.Author.Tests.{lt-leb}
use Rattle.lists.specs.Lists.{first_wide}
use Rattle.lists.proofs.Places.{place-most, place_none}
use Rattle.letters.specs.Inner.{OwnFrom}
use Rattle.letters.proofs.OwnCodes.{own-narrow}
use Rattle.to_text.proofs.Narrow.{or_left, or_right, narrow-part}
use Rattle.to_text.proofs.reading.wide_behind.Goals as goal

-- none is 128 or more where none behind the front is
narrow : (s : List ℕ) (front : ℕ) → OwnFrom s 0 front → ((k : ℕ) → k < length s → front ≤ k → get_or s k 0 < 128) → length s ≡ first_wide s
narrow s front own behind =
    sym (place_none (leb 128) s (λ k l. lt-leb 128 (get_or s k 0)
    (elim (dec_le front k) [
      | yes h ↦ behind k l h
      | no h ↦ (own k (omega (arith, h)) (omega arith)).below
    ])))

pub returns-then-front-len : goal.returns-then-front-len
returns-then-front-len c = record { answer = narrow c.args.septets.now c.args.front c.requires.1 (λ k l h. absurd (omega (arith, c.if-front-len.true))) }

pub returns-then-all_bits-lt128 : goal.returns-then-all_bits-lt128
returns-then-all_bits-lt128 c =
    let s = c.args.septets.now in
    record {
      answer = narrow s c.args.front c.requires.1 (λ k l h. narrow-part s (length s - 8) (length s) c.all_bits.result (omega arith) c.all_bits.ensures.answer c.if-all_bits-lt128.true k l (omega arith));
    }

pub returns-then-all_bits-lt128-2 : goal.returns-then-all_bits-lt128-2
returns-then-all_bits-lt128-2 c =
    let s = c.args.septets.now in
    let front : ℕ = c.args.front in
    let first : ℕ = c.all_bits-then-left-le16.result in
    let last : ℕ = c.all_bits-then-left-le16-2.result in
    record {
      answer = narrow s front c.requires.1 (λ k l h.
          elim (dec_le (front + 8) k) [
            | yes m ↦ narrow-part s (length s - 8) (length s) last (omega arith) c.all_bits-then-left-le16-2.ensures.answer (or_right first last c.if-all_bits-lt128-2.true) k l (omega arith)
            | no m ↦ narrow-part s front (front + 8) first (omega arith) c.all_bits-then-left-le16.ensures.answer (or_left first last c.if-all_bits-lt128-2.true) k (omega arith) h
          ]);
    }

-- the septets that were looked at are the rest
rest : (s : List ℕ) (front found : ℕ) → found ≡ first_wide (take (length s - front) (drop front s)) → found ≡ first_wide (drop front s)
rest s front found e = e ∙ ap first_wide (take_all (length s - front) (drop front s) (omega (arith, length-drop front s)))

pub overflow_add-result : goal.overflow_add-result
overflow_add-result c =
    let s = c.args.septets.now in
    omega (arith, rest s c.args.front c.first_wide-wide.result c.first_wide-wide.ensures.answer, place-most (leb 128) (drop c.args.front s), length-drop c.args.front s, c.requires.0)

pub returns : goal.returns
returns c =
    let s = c.args.septets.now in
    let front : ℕ = c.args.front in
    record { answer = ap (λ (k : ℕ). front + k) (rest s front c.first_wide-wide.result c.first_wide-wide.ensures.answer) ∙ sym (own-narrow s front c.requires.0 c.requires.1) }
