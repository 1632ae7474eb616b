-- No length count is over 160, so that it crosses to C in 32 bits: an accepted text is not over its service's size.
-- Assumes nothing.
use mathlib.Core.Path.{◌≡◌, refl, ap, sym, ◌∙◌}
use mathlib.Core.Bool.{Bool, true, false, cond}
use mathlib.Core.List.{List}
use Prim.Native.Nat.{ℕ, ◌≤◌}
use native.Mathlib.Omega.{arith}
use lib.Dec.{ltb, leb}
use lib.ListN.{length}
use borrow.Author.Tests.{ltb-false}
use Rattle.words.specs.declared.Service.{Service}
use Rattle.words.specs.declared.Service.TheVariants.{ShortMessage, Broadcast, Ussd, OldPage}
use Rattle.words.specs.declared.Refusal.TheVariants.{Unwritable, NoSeptet, TooLong, Unlisted}
use Rattle.words.specs.Sizes.{most_septets, most_units, is_old_page}
use Rattle.lists.specs.Lists.{first_place}
use Rattle.words.specs.Judging.{Verdict, refused, accepted, verdict, settle}
use Rattle.words.proofs.Judging.{accepted-rule, accepted-parts}
use Rattle.coding.specs.declared.Reading.{Reading}
use Rattle.coding.specs.Holding.{is_ucs2}
use Rattle.coding.specs.LanguageLetters.{is_lettered, coding_rules}
use Rattle.letters.specs.Writing.{septets_of, first_unlisted}
use Rattle.stream.proofs.UnitOctets.{unit-octets-length}
use Rattle.stream.specs.Answers.{packed_count}
use Rattle.stream.specs.SeptetCalls.{count_of, pack_rules, pack_answers}
use Rattle.stream.specs.UnitCalls.{unit_count_of}
use Rattle.demands.specs.MessageWritten.{text_size_rules, not_codable, over_size, message_count, size_rules, mark_rules, write_rules, write_answers}
use Rattle.demands.proofs.LetteredSteps.{page-count}
use Rattle.demands.proofs.Unlettered.{size-rules}
use Rattle.demands.specs.Reports.{write_count}
use Rattle.names.specs.declared.ReadingNumbers.{ReadingNumbers}
use Rattle.words.specs.Services.{named_service, under_service}
use Rattle.names.specs.Names.{named_reading, under_reading}
use Rattle.answers.specs.Answers.{refused_answer, message_written_answer}
use Rattle.wikuay.specs.Calls.{write_message_gives}
use Rattle.std.specs.Prelude.{Option, Err, Some, None}
use Rattle.stream.specs.Successes.{ok_packed}
use Rattle.demands.specs.Successes.{ok_message_written}

septets-count : (service : Service) (s : List ℕ) → ltb (most_septets service) (length s) ≡ false → count_of service s ≤ 160
septets-count ShortMessage s e = ltb-false _ _ e
septets-count Broadcast s e = omega arith
septets-count Ussd s e = omega arith
septets-count OldPage s e = omega arith

units-count : (service : Service) (us : List ℕ) → ltb (most_units service) (length us) ≡ false → unit_count_of service us ≤ 160
units-count ShortMessage us e = omega (arith, ltb-false 70 (length us) e, unit-octets-length us)
units-count Broadcast us e = omega arith
units-count Ussd us e = omega arith
units-count OldPage us e = omega arith

text-count : (ucs2 : Bool) (service : Service) (us : List ℕ)
    → cond ucs2 (ltb (most_units service) (length us)) (ltb (most_septets service) (length (septets_of us))) ≡ false
    → cond ucs2 (unit_count_of service us) (count_of service (septets_of us)) ≤ 160
text-count true service us e = units-count service us e
text-count false service us e = septets-count service (septets_of us) e

-- a count that is given only where the verdict is accepted
packed-within : (v : Verdict) (octets count : ℕ) → (v ≡ accepted → count ≤ 160) → packed_count (settle v Err (ok_packed octets count)) ≤ 160
packed-within (refused q) octets count h = omega arith
packed-within accepted octets count h = h refl

written-within : (v : Verdict) (octets count coding : ℕ) → (v ≡ accepted → count ≤ 160) → write_count (settle v Err (ok_message_written octets count coding)) ≤ 160
written-within (refused q) octets count coding h = omega arith
written-within accepted octets count coding h = h refl

pub pack-count : (service : Service) (s : List ℕ) (room : ℕ) → packed_count (pack_answers service s room) ≤ 160
unfolding pack_answers pack_rules
pack-count service s room =
    packed-within (verdict (pack_rules service s room)) _ _ (λ e.
    let two = (accepted-rule (is_old_page service) Unwritable _ e).1 in
    let three = (accepted-rule (ltb (first_place (leb 128) s) (length s)) (NoSeptet (first_place (leb 128) s)) _ two).1 in
    septets-count service s (accepted-rule (ltb (most_septets service) (length s)) TooLong _ three).0)

pub write-count : (service : Service) (r : Reading) (us : List ℕ) (room : ℕ) → write_count (write_answers service r us room) ≤ 160
unfolding write_answers write_rules text_size_rules
write-count service r us room = written-within (verdict (write_rules service r us room)) _ _ _ (λ e. go (is_lettered service r) refl e)
  where
    go : (b : Bool) → is_lettered service r ≡ b → verdict (write_rules service r us room) ≡ accepted → message_count service r us ≤ 160
    go true l e = omega (arith, page-count service r us l)
    go false l e =
        let sized = ap verdict (sym (size-rules service r l us room)) ∙ (accepted-parts (mark_rules service r) (size_rules service r us room) (accepted-parts (coding_rules service r) _ e).1).1 in
        let two = (accepted-rule (not_codable (is_ucs2 r.alphabet) us) (Unlisted (first_unlisted us)) _ sized).1 in
        text-count (is_ucs2 r.alphabet) service us (accepted-rule (over_size service (is_ucs2 r.alphabet) us) TooLong _ two).0

-- what is told of a message is what its own answer tells
pub gives-count : (n : ℕ) (x : ReadingNumbers) (us : List ℕ) (room : ℕ) → (write_message_gives n x us room).count ≤ 160
unfolding write_message_gives
gives-count n x us room = of-service (named_service n)
  where
    of-reading : (s : Service) (v : Option Reading) → (under_reading v (refused_answer Unwritable) (λ r. message_written_answer (write_answers s r us room))).count ≤ 160
    of-reading s (Some r) = write-count s r us room
    of-reading s None = omega arith

    of-service : (v : Option Service)
        → (under_service v (refused_answer Unwritable) (λ s. under_reading (named_reading x) (refused_answer Unwritable) (λ r. message_written_answer (write_answers s r us room)))).count ≤ 160
    of-service (Some s) = of-reading s (named_reading x)
    of-service None = omega arith
