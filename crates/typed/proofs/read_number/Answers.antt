-- Each test of the text gives one outcome; the digits of a text that passes them make the number.
use Prim.Native.Nat.{ℕ, ◌<◌}
use mathlib.Core.Path.{◌≡◌, sym, ◌∙◌}
use mathlib.Core.Bool.{false}
use mathlib.Core.List.{List}
use native.Mathlib.Omega.{arith}
use lib.ListN.{length}
use Rattle.std.specs.Prelude.{Some, None}
use Rattle.typed.specs.Spelling.{number_spelled, zero_led}
use Rattle.typed.proofs.Spelling.{spelled-is, spelled-none, number-none, number-long, number-led, number-other, number-converted}
use borrow.Author.Rules.{rules}
use Rattle.typed.proofs.read_number.Goals as goal
use Rattle.typed.proofs.read_number.Goals.{then-is_empty-via-then-is_empty, then-is_empty-via-else-is_empty+then-text-gt10, then-is_empty-via-else-is_empty+else-text-gt10+then-padded}

pub returns-then-is_empty : goal.returns-then-is_empty
returns-then-is_empty c =
    let s : List ℕ = c.args.text.now in
    record {
      answer = elim c.then-is_empty.branch [
        | then-is_empty-via-then-is_empty w ↦ (let none : length s ≡ 0 = grind arith in sym (number-none s (omega arith)))
        | then-is_empty-via-else-is_empty+then-text-gt10 w ↦ sym (number-long s w.if-text-gt10.true)
        | then-is_empty-via-else-is_empty+else-text-gt10+then-padded w ↦ (let some : 0 < length s = grind arith in sym (number-led s some w.if-text-gt10.false (sym w.padded.ensures ∙ w.if-padded.true)))
      ];
    }

pub returns-in_err-number_of : goal.returns-in_err-number_of
returns-in_err-number_of c =
    let s : List ℕ = c.args.text.now in
    let some : 0 < length s = grind arith in
    let plain : zero_led s ≡ false = sym c.padded.ensures ∙ c.if-padded.false in
    let unspelled : number_spelled 10 s ≡ None = search rules in
    let none : c.from_residual.result ≡ None = search rules in
    record { answer = none ∙ sym (number-other s some c.if-text-gt10.false plain (spelled-none 10 s unspelled)) }

pub returns : goal.returns
returns c =
    let s : List ℕ = c.args.text.now in
    let some : 0 < length s = grind arith in
    let plain : zero_led s ≡ false = sym c.padded.ensures ∙ c.if-padded.false in
    let spelled : number_spelled 10 s ≡ Some c.in_ok-number_of.field-0 = search rules in
    let is = spelled-is 10 s _ spelled in
    record { answer = c.ok.ensures.value ∙ number-converted s some c.if-text-gt10.false plain is.0 _ _ is.1 c.try_from.ensures }
