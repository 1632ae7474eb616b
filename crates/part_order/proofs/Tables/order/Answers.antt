-- Each pass judges by one rule or two, before the next, and the tables are clear until the last. Assumes nothing.
use mathlib.Core.Path.{◌≡◌, sym, ◌∙◌}
use borrow.Author.Tests.{not-true, not-false}
use borrow.Author.Rules.{rules}
use Prim.Native.Nat.{ℕ}
use mathlib.Core.Bool.{Bool, true, false, true≢false}
use mathlib.Core.List.{List}
use lib.ListN.{replicate}
use Rattle.std.specs.Prelude.{Result, Ok, Err, IfOk, is_err}
use Rattle.words.specs.declared.Refusal.{Refusal}
use Rattle.parted.specs.Ordered.{places_of, starts_of, part_order_of, places_left, starts_left}
use Rattle.parted.proofs.OrderSteps.{heads-told, order-misfit, order-headless, left-refused, left-right}
use Rattle.part_order.proofs.Tables.order.Goals as goal

pub returns-then-not-counts_fit : goal.returns-then-not-counts_fit
returns-then-not-counts_fit c = let p = c.args.parts.now in
    let is = sym (order-misfit p.ucs2 p.counts.now p.octets.now (not-false _ (sym c.counts_fit.ensures ∙ c.if-not-counts_fit.true))) in
    let left = left-refused p.ucs2 p.counts.now p.octets.now _ is in
    record { answer = is; numbers = c.new.ensures.numbers ∙ left.0; beginnings = c.new.ensures.beginnings ∙ left.1; few = tt }

pub returns-in_err-judge_heads : goal.returns-in_err-judge_heads
returns-in_err-judge_heads c = let p = c.args.parts.now in
    let is = sym (order-headless p.ucs2 p.counts.now p.octets.now _ (not-true _ (sym c.counts_fit.ensures ∙ c.if-not-counts_fit.false)) c.in_err-judge_heads.ensures) in
    let left = left-refused p.ucs2 p.counts.now p.octets.now _ is in
    let told : c.from_residual.result ≡ Err c.in_err-judge_heads.field-0.0 = search rules in
    record { answer = told ∙ is; numbers = c.new.ensures.numbers ∙ left.0; beginnings = c.new.ensures.beginnings ∙ left.1; few = search rules }

pub place-order-requires-clause-octets_value : goal.place-order-requires-clause-octets_value
place-order-requires-clause-octets_value c = let p = c.args.parts.now in
    let heads = heads-told p.ucs2 p.counts.now p.octets.now c.in_ok-judge_heads.ensures in
    (not-true _ (sym c.counts_fit.ensures ∙ c.if-not-counts_fit.false), heads.0, heads.1)

module _ (ucs2 : Bool) (cs o : List ℕ) where
  left-err : (x : Result ℕ Refusal) → is_err x ≡ true → x ≡ part_order_of ucs2 cs o → (replicate 256 0 ≡ places_left ucs2 cs o) × (replicate 256 0 ≡ starts_left ucs2 cs o)
  left-err (Ok n) e d = absurd (true≢false (sym e))
  left-err (Err q) e d = left-refused ucs2 cs o q d

  left-ok : (x : Result ℕ Refusal) {places starts : List ℕ} → is_err x ≡ false → x ≡ part_order_of ucs2 cs o → IfOk x (λ _. (places ≡ places_of ucs2 cs o) × (starts ≡ starts_of ucs2 cs))
      → (places ≡ places_left ucs2 cs o) × (starts ≡ starts_left ucs2 cs o)
  left-ok (Ok n) e d t = let left = left-right ucs2 cs o n d in (t.0 ∙ left.0, t.1 ∙ left.1)
  left-ok (Err q) e d t = absurd (true≢false e)

pub returns-then-is_err : goal.returns-then-is_err
returns-then-is_err c = let p = c.args.parts.now in
    let left = left-err p.ucs2 p.counts.now p.octets.now _ (sym c.is_err.ensures.value ∙ c.if-is_err.true) c.place-order.ensures.value in
    record { answer = c.place-order.ensures.value; numbers = c.new-then-is_err.ensures.numbers ∙ left.0; beginnings = c.new-then-is_err.ensures.beginnings ∙ left.1; few = c.place-order.ensures.few }

pub returns-else-is_err : goal.returns-else-is_err
returns-else-is_err c = let p = c.args.parts.now in
    let left = left-ok p.ucs2 p.counts.now p.octets.now _ (sym c.is_err.ensures.value ∙ c.if-is_err.false) c.place-order.ensures.value c.place-order.ensures.tables_after in
    record { answer = c.place-order.ensures.value; numbers = left.0; beginnings = left.1; few = c.place-order.ensures.few }
