-- `to_septets::gather` meets its contract: what the pass tells decides between 6, 5 and success, and a refused array is cleared.
-- Assumes nothing.
use mathlib.Core.Path.{◌≡◌, refl, ap, ◌∙◌}
use mathlib.Core.Bool.{Bool, true, false}
use mathlib.Core.List.{List}
use Prim.Native.Nat.{ℕ}
use lib.ListN.{length, replicate}
use Rattle.std.specs.Prelude.{Result, Ok, Err}
use Rattle.std.specs.Result.{is_err}
use Rattle.words.specs.declared.Refusal.{Refusal}
use Rattle.words.specs.Judging.{Verdict, refused, accepted, verdict, settle}
use Rattle.letters.specs.Writing.{encoded_leaves}
use Rattle.letters.specs.Inner.{told_rules}
use Rattle.letters.proofs.Gathering.{picked-refused, picked-accepted, gathers}
use borrow.Author.Rules.{rules}
use Rattle.to_septets.proofs.gather.Goals as goal

-- an answer is an error where the verdict refuses, if it is the one that the verdict settles
told : (v : Verdict) (n : ℕ) {answer : Result ℕ Refusal} {b : Bool} → b ≡ is_err answer → answer ≡ settle v Err (Ok n) → b ≡ settle v (λ (q : Refusal). true) false
told v n f e = f ∙ ap is_err e ∙ go v
  where
    go : (v : Verdict) → is_err (settle v Err (Ok n)) ≡ settle v (λ (q : Refusal). true) false
    go (refused q) = refl
    go accepted = refl

pub returns-then-is_err : goal.returns-then-is_err
returns-then-is_err c =
    let t : List ℕ = c.args.text.now in
    let e = c.encode-told.result in
    let v : Verdict = verdict (told_rules e.units e.septets (length t)) in
    let zeros : List ℕ = replicate 184 0 in
    record {
      answer = gathers t c.encode-told.ensures.answer _ _ c.judged-answer.ensures (picked-refused v _ (told v e.septets c.is_err.ensures.value (search rules)) zeros (encoded_leaves t zeros) c.if-is_err.true);
    }

pub returns-else-is_err : goal.returns-else-is_err
returns-else-is_err c =
    let t : List ℕ = c.args.text.now in
    let e = c.encode-told.result in
    let v : Verdict = verdict (told_rules e.units e.septets (length t)) in
    let zeros : List ℕ = replicate 184 0 in
    record {
      answer =
          gathers t c.encode-told.ensures.answer _ _ c.judged-answer.ensures
          (c.encode-told.ensures.buffer ∙ picked-accepted v _ (told v e.septets c.is_err.ensures.value (search rules)) zeros (encoded_leaves t zeros) c.if-is_err.false);
    }
