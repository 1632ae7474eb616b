-- All behind the last septet that is no filling is filling: it is among the last sixteen, or the last of those before them.
-- Assumes nothing.
use Prim.Native.Nat.{ℕ, ◌+◌, ◌-◌, ◌≤◌, ◌<◌}
use mathlib.Core.Path.{◌≡◌, sym, ap, ◌∙◌}
use mathlib.Core.List.{List}
use native.Mathlib.Decide.{dec_le}
use native.Mathlib.Omega.{arith}
use lib.ListN.{length, get_or, take}
use lib.Seq.{length-take-le, get_or-take}
use Rattle.std.proofs.Common.{rules}
use Rattle.lists.specs.Closing.{without_closing}
use Rattle.lists.proofs.Closing.{closing_none, closing_last}
use Rattle.closing.proofs.kept.Goals as goal

-- what the front of septets says of them all, where those behind it are filling
module _ (x front : ℕ) (s : List ℕ) (within : front ≤ length s) (behind : (k : ℕ) → front ≤ k → k < length s → get_or s k 0 ≡ x) where
  last-in-front : (i : ℕ) → i < length (take front s) → (get_or (take front s) i 0 ≡ x → ⊥)
      → ((k : ℕ) → i < k → k < length (take front s) → get_or (take front s) k 0 ≡ x) → i + 1 ≡ length (without_closing x s)
  last-in-front i low other rest =
      let size : length (take front s) ≡ front = length-take-le front s within in
      sym (closing_last x s i (omega (arith, low, size)) (λ e. other (get_or-take front s i 0 (omega (arith, low, size)) ∙ e))
      (λ k h l. elim (dec_le front k) [
        | yes m ↦ behind k m l
        | no m ↦ sym (get_or-take front s k 0 (omega (arith, m))) ∙ rest k h (omega (arith, m, size))
      ]))

  none-in-front : ((k : ℕ) → k < length (take front s) → get_or (take front s) k 0 ≡ x) → 0 ≡ length (without_closing x s)
  none-in-front rest =
      let size : length (take front s) ≡ front = length-take-le front s within in
      sym (closing_none x s
      (λ k l. elim (dec_le front k) [
        | yes m ↦ behind k m l
        | no m ↦ sym (get_or-take front s k 0 (omega (arith, m))) ∙ rest k (omega (arith, m, size))
      ]))

pub loop-n-init : goal.loop-n-init
loop-n-init c k h l = absurd (omega (arith, h, l))

pub returns-then-septets-n : goal.returns-then-septets-n
returns-then-septets-n c =
    sym (closing_last c.args.filling c.args.septets.now (c.loop-n.n - 1) (search rules) (search rules) (λ k h l. c.loop-n.invariant k (omega arith) l))

pub loop-n-preserved : goal.loop-n-preserved
loop-n-preserved c k h l =
    elim (dec_le c.loop-n.n k) [
      | yes m ↦ c.loop-n.invariant k m l
      | no m ↦ let last : k ≡ c.loop-n.n - 1 = omega arith in ap (λ (i : ℕ). get_or c.args.septets.now i 0) last ∙ search rules
    ]

pub returns-in-Some : goal.returns-in-Some
returns-in-Some c =
    last-in-front c.args.filling c.saturating_sub-front.result c.args.septets.now (omega arith) (λ k h l. c.loop-n.invariant k (omega (arith, h)) l)
    c.in-Some.last (search rules) (search rules) (search rules)

pub returns-in-None : goal.returns-in-None
returns-in-None c =
    none-in-front c.args.filling c.saturating_sub-front.result c.args.septets.now (omega arith) (λ k h l. c.loop-n.invariant k (omega (arith, h)) l) (search rules)
