-- `to_septets::text_to_septets` meets its contract: what a first pass tells decides between 6, 7 and success, and a second one stores.
-- Assumes nothing.
use mathlib.Core.Path.{◌≡◌, ap, ◌∙◌, sym}
use mathlib.Core.Bool.{false}
use mathlib.Core.List.{List}
use Prim.Native.Nat.{ℕ, ◌<◌, ◌≤◌}
use native.Mathlib.Omega.{arith}
use lib.Dec.{ltb}
use lib.ListN.{length}
use borrow.Author.Tests.{lt-ltb, le-ltb}
use Rattle.words.proofs.Filling.{fills-refused, fills-short, fills-done}
use Rattle.letters.specs.declared.Encoded.{Encoded}
use Rattle.letters.specs.Writing.{encoded_as, first_unlisted, septets_of, septets_rules, septets_answers, septets_leaves}
use Rattle.letters.proofs.Encodings.{told-unlisted, told-codable, told-septets, told-stored}
use Rattle.words.proofs.Clauses.{answered}
use Rattle.to_septets.proofs.text_to_septets.Goals as goal

pub returns-then-told-text : goal.returns-then-told-text
unfolding septets_rules septets_answers septets_leaves
returns-then-told-text c = let a = c.args in
    let stopped = told-unlisted a.text.now c.encode-told.ensures.answer in
    let within : first_unlisted a.text.now < length a.text.now = omega (arith, c.if-told-text.true, stopped) in
    answered
    (rw stopped (fills-refused _ _ (septets_of a.text.now) a.out.now (lt-ltb _ _ within)))

-- every unit is listed, and the septets are counted
counted : (t : List ℕ) (told : Encoded) → told ≡ encoded_as t → length t ≤ told.units → (ltb (first_unlisted t) (length t) ≡ false) × (told.septets ≡ length (septets_of t))
counted t told e whole = (le-ltb (first_unlisted t) (length t) (omega (arith, told-codable t e whole)), told-septets t e whole)

pub returns-then-out-told : goal.returns-then-out-told
unfolding septets_rules septets_answers septets_leaves
returns-then-out-told c = let a = c.args in
    let all = counted a.text.now c.encode-told.result c.encode-told.ensures.answer (omega (arith, c.if-told-text.false)) in
    let few : length a.out.now < length (septets_of a.text.now) = omega (arith, c.if-out-told.true, all.1) in
    answered
    (fills-short _ _ (septets_of a.text.now) a.out.now all.0 few)

pub returns : goal.returns
unfolding septets_rules septets_answers septets_leaves
returns c = let a = c.args in
    let whole : length a.text.now ≤ c.encode-told.result.units = omega (arith, c.if-told-text.false) in
    let all = counted a.text.now c.encode-told.result c.encode-told.ensures.answer whole in
    let fits : length (septets_of a.text.now) ≤ length a.out.now = omega (arith, c.if-out-told.false, all.1) in
    let same : c.encode-done.result ≡ c.encode-told.result = c.encode-done.ensures.answer ∙ sym c.encode-told.ensures.answer in
    answered
    (fills-done _ _ (septets_of a.text.now) a.out.now all.0 fits _ _
    (ap (λ (e : Encoded). e.septets) same ∙ all.1)
    (c.encode-done.ensures.buffer ∙ told-stored a.text.now c.encode-told.ensures.answer whole a.out.now fits))
