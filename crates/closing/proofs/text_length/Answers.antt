-- By the service that is told; under USSD the tests are those of a CR that closes whole groups, one after the other.
use mathlib.Core.Path.{◌≡◌, sym, ap, ◌∙◌}
use mathlib.Core.List.{List, [], ◌∷◌, ◌++◌}
use Prim.Native.Nat.{ℕ, ◌+◌, ◌-◌, ◌%◌}
use native.Mathlib.Omega.{arith}
use borrow.Author.Tests.{eq-eqb, ne_eqb}
use lib.Dec.{eqb}
use lib.ListN.{length}
use lib.Seq.{get_or_at}
use Rattle.stream.specs.UssdPacking.{last}
use Rattle.stream.specs.ArrayCalls.{closes_groups}
use Rattle.stream.proofs.Arrays.{closes-eight, closes-broken, kept-closed, kept-open}
use Rattle.closing.proofs.text_length.Goals as goal

-- whole groups close in the last septet that is told
closes : (s text : List ℕ) (x : ℕ) → (s ≡ text ++ x ∷ []) × (length text + 1 ≡ length s) → length s % 8 ≡ 0 → closes_groups s ≡ eqb x 13
unfolding last
closes s text x e whole =
    closes-eight s (omega arith) whole
    ∙ ap (λ (y : ℕ). eqb y 13) (ap last e.0 ∙ get_or_at text x [] 0 (length (text ++ x ∷ []) - 1) (omega (arith, ap length e.0, e.1)))

pub returns-in-Some : goal.returns-in-Some
returns-in-Some c =
    let s : List ℕ = c.args.septets.now in
    let e = c.in-Some.ensures.cases in
    let less : length c.in-Some.text.now ≡ length s - 1 = omega (arith, e.1) in
    record { answer = rw c.in-Ussd.is (less ∙ sym (kept-closed s (closes s c.in-Some.text.now c.in-Some.last.now e c.if-septets-eq0.true ∙ eq-eqb _ _ c.if-last-eq13.true))) }

pub returns-in_default : goal.returns-in_default
returns-in_default c =
    let s : List ℕ = c.args.septets.now in
    record { answer = rw c.in-Ussd.is (sym (kept-open s (closes s c.in-Some.text.now c.in-Some.last.now c.in-Some.ensures.cases c.if-septets-eq0.true ∙ ne_eqb _ _ c.if-last-eq13.false))) }

pub returns-in_default-2 : goal.returns-in_default-2
returns-in_default-2 c =
    record { answer = rw c.in-Ussd.is (sym (kept-open c.args.septets.now (closes-broken c.args.septets.now c.if-septets-eq0.false))) }
