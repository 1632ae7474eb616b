-- The room left and the writer: the number of a meter is below zero exactly where the whole writer refuses the text that was typed with 5.
-- Assumes nothing.
--   writer-over-iff == of the text of any keys, under every reading of 7-bit text without the prefix mark that is written under the service
use mathlib.Core.Path.{◌≡◌, refl, sym, ap, ◌∙◌}
use mathlib.Core.Bool.{true, false}
use mathlib.Core.List.{List, [], ◌∷◌, ◌++◌}
use mathlib.Core.Logic.{◌↔◌}
use Prim.Native.Nat.{ℕ}
use native.Mathlib.Omega.{arith}
use lib.Dec.{ltb}
use lib.IntN.{pos}
use lib.ListN.{length}
use lib.Signed.{◌<ℤ◌}
use borrow.Author.Tests.{le-ltb}
use Rattle.words.specs.declared.Service.{Service}
use Rattle.words.specs.declared.Refusal.TheVariants.{Unlisted, TooLong, NoRoom}
use Rattle.words.specs.Judging.{when, Verdict, verdict, settle}
use Rattle.words.proofs.Judging.{verdict-accepted-first}
use Rattle.words.proofs.Rules.{gives, given-iff, accepted-iff}
use Rattle.coding.specs.declared.Reading.{Reading}
use Rattle.coding.specs.OctetWritten.{smallest}
use Rattle.coding.specs.Holding.{is_ucs2}
use Rattle.coding.specs.LanguageLetters.{coding_rules, coding_writes}
use Rattle.letters.specs.Writing.{first_unlisted}
use Rattle.letters.proofs.Theorems.{Codable}
use Rattle.demands.specs.Demands.{HoldsText}
use Rattle.demands.specs.MessageWritten.{over_size, text_octets, text_size_rules, mark_rules, size_rules, write_rules, write_answers, message_octets, message_count}
use Rattle.demands.proofs.Steps.{coding-verdict}
use Rattle.demands.proofs.Accepting.{text-accepts, write-verdict}
use Rattle.demands.proofs.Unlettered.{unmarked, mark-rules, size-rules}
use Rattle.metered.specs.Metered.{new_meter, remains}
use Rattle.metered.specs.Typed.{Step, Types, last_meter, last_text}
use Rattle.metered.proofs.Theorems.{text-codable, shown-over-iff}
use Rattle.std.specs.Prelude.{Ok, Err}
use Rattle.demands.specs.Successes.{ok_message_written}

module _ (s : Service) (r : Reading) (o : ℕ) (written-as : Ok o ≡ coding_writes s r) (holds : HoldsText r) (seven : is_ucs2 r.alphabet ≡ false) (t : List ℕ) (codable : Codable t) (room : ℕ) where
  -- what is left to judge of such a text: 6 does not meet it
  sized : verdict (write_rules s r t room) ≡ verdict (when (ltb (first_unlisted t) (length t)) (Unlisted (first_unlisted t)) ∷ when (over_size s false t) TooLong ∷ when (ltb room (length (text_octets s false t))) NoRoom ∷ [])
  unfolding write_rules text_size_rules
  sized =
      let plain = unmarked s r holds.unmarked in
      verdict-accepted-first (coding_rules s r) (mark_rules s r ++ size_rules s r t room) (coding-verdict s r (Ok o) written-as)
      ∙ verdict-accepted-first (mark_rules s r) (size_rules s r t room) (ap verdict (mark-rules s r plain) ∙ text-accepts s r holds)
      ∙ ap verdict (size-rules s r plain t room) ∙ rw seven refl

  text-over-iff : (write_answers s r t room ≡ Err TooLong) ↔ (over_size s false t ≡ true)
  unfolding write_answers gives verdict
  text-over-iff =
      let six = when (ltb (first_unlisted t) (length t)) (Unlisted (first_unlisted t)) in
      let rule = given-iff (six ∷ []) (over_size s false t) TooLong (when (ltb room (length (text_octets s false t))) NoRoom ∷ []) refl refl in
      let listed = (accepted-iff (ltb (first_unlisted t) (length t)) (Unlisted (first_unlisted t)) []).1 (le-ltb (first_unlisted t) (length t) (omega (arith, codable)), refl) in
      let whole = ok_message_written (length (message_octets s r t)) (message_count s r t) (smallest s r) in
      (λ e. (rule.0 (sym sized ∙ write-verdict s r t room (Err TooLong) (sym e))).1, λ e. ap (λ (v : Verdict). settle v Err whole) (sized ∙ rule.1 (listed, e)))

pub writer-over-iff : (s : Service) (steps : List Step) → Types (new_meter s) [] steps → (r : Reading) (o : ℕ) → Ok o ≡ coding_writes s r → HoldsText r → is_ucs2 r.alphabet ≡ false → (room : ℕ)
    → (remains (last_meter (new_meter s) steps) <ℤ pos 0) ↔ (write_answers s r (last_text [] steps) room ≡ Err TooLong)
writer-over-iff s steps types r o written-as holds seven room =
    let shown = shown-over-iff s steps types in
    let wrote = text-over-iff s r o written-as holds seven (last_text [] steps) (text-codable s steps types) room in
    (λ h. wrote.1 (shown.0 h), λ e. shown.1 (wrote.0 e))
