-- Demand 2: the writer accepts exactly when no rule of document 01 refuses, and then gives exactly the packed octets; the reader likewise.
-- Assumes nothing.
--   write-accepts, write-accepted    the writer accepts exactly where the text is Writable, with these octets, this count and this coding octet
--   read-accepts, read-accepted      the reader accepts exactly where the octets are Readable, with these units and this reading
-- Both of every reading but those of a page with letters in front of its text, which Lettered.antt has.
use Rattle.words.proofs.Rules.{verdict_of}
use mathlib.Core.Path.{◌≡◌, refl, ap, ◌∙◌, sym, subst}
use mathlib.Core.Bool.{Bool, true, false, not}
use mathlib.Core.List.{List, [], ◌∷◌, ◌++◌}
use Prim.Native.Nat.{ℕ, ◌≤◌}
use lib.Dec.{ltb}
use lib.ListN.{length}
use borrow.Author.Tests.{le-ltb, ltb-false}
use Rattle.words.specs.declared.Service.{Service}
use Rattle.words.specs.declared.Refusal.TheVariants.{WrongLength, TooLong, Unlisted, NoRoom}
use Rattle.lists.specs.Lists.{laid}
use Rattle.words.specs.Judging.{when, Verdict, refused, accepted, verdict}
use Rattle.words.proofs.Judging.{accepted-rule, accepted-parts, accepted-both, settle-told, settle-given}
use Rattle.coding.specs.declared.Reading.{Reading}
use Rattle.coding.specs.OctetRead.{read_under, octet_reads, octet_rules}
use Rattle.coding.specs.OctetWritten.{smallest}
use Rattle.coding.specs.LanguageLetters.{is_lettered, coding_rules, coding_writes}
use Rattle.coding.specs.Holding.{is_ucs2, text_rules}
use Rattle.coding.proofs.TextOctet.{coding-written, coding-read, coding-complete}
use Rattle.coding.proofs.Theorems.{settled}
use Rattle.letters.specs.Writing.{first_unlisted}
use Rattle.demands.specs.declared.MessageRead.{MessageRead}
use Rattle.demands.specs.declared.MessageWritten.{MessageWritten}
use Rattle.demands.specs.MessageRead.{held_text, text_length_rules, fits_reading, text_of_message, length_rules, reading_of_message, heard_rules, read_rules, read_answers, read_leaves}
use Rattle.demands.specs.MessageWritten.{text_octets, text_size_rules, not_codable, over_size, message_octets, message_count, size_rules, mark_rules, write_rules, write_answers, write_leaves}
use Rattle.demands.specs.Demands.{HoldsText, Writable, Readable}
use Rattle.demands.proofs.Unlettered.{unmarked, mark-rules, size-rules, octets-same, heard-rules, length-rules, text_same, reading-same}
use Rattle.coding.proofs.Prefixed.{read-given}
use Rattle.demands.proofs.Steps.{text-accepted, octet-verdict, coding-verdict}
use Rattle.std.specs.Prelude.{Result, Ok, Err}
use Rattle.words.specs.declared.Refusal.{Refusal}
use Rattle.demands.specs.Successes.{ok_message_written}
use Rattle.demands.specs.Successes.{ok_message_read}

pub text-accepts : (s : Service) (r : Reading) → HoldsText r → verdict (text_rules s r) ≡ accepted
unfolding text_rules verdict
text-accepts s r h = simp (h.clear, h.text, h.unmarked, h.unheaded)

-- ---- the writer

pub write-verdict : (service : Service) (r : Reading) (t : List ℕ) (room : ℕ) (a : Result MessageWritten Refusal) → a ≡ write_answers service r t room → verdict (write_rules service r t room) ≡ verdict_of a
unfolding write_answers
write-verdict service r t room a e =
    settle-told verdict_of Err (ok_message_written (length (message_octets service r t)) (message_count service r t) (smallest service r)) (λ q. refl) refl (verdict (write_rules service r t room)) a e

module _ (service : Service) (r : Reading) (t : List ℕ) where
  size-accepts : (room : ℕ) → Writable service r t room → verdict (size_rules service r t room) ≡ accepted
  unfolding text_size_rules verdict
  size-accepts room w =
      let l = unmarked service r w.holds.unmarked in
      ap verdict (size-rules service r l t room)
      ∙ simp (w.codable, w.sized, le-ltb _ _ (subst (λ (x : List ℕ). length x ≤ room) (octets-same service r l t) w.fits))

  rules-accept : (room : ℕ) → Writable service r t room → verdict (write_rules service r t room) ≡ accepted
  unfolding write_rules
  rules-accept room w =
      let k = coding-complete service r w.octet.0 w.new w.plain w.octet.1.0 w.octet.1.1 in
      accepted-both (coding_rules service r) (mark_rules service r ++ size_rules service r t room) (coding-verdict service r (Ok k.0) (sym k.1))
      (accepted-both (mark_rules service r) (size_rules service r t room) (ap verdict (mark-rules service r (unmarked service r w.holds.unmarked)) ∙ text-accepts service r w.holds) (size-accepts room w))

  pub write-accepts : (out : List ℕ) → Writable service r t (length out)
      → (write_answers service r t (length out) ≡ ok_message_written (length (message_octets service r t)) (message_count service r t) (smallest service r))
      × (write_leaves service r t out ≡ laid (message_octets service r t) out)
  unfolding write_answers write_leaves
  write-accepts out w = (settle-given _ Err _ (rules-accept (length out) w), settle-given _ (λ q. out) _ (rules-accept (length out) w))

  pub write-accepted : (room octets count coding : ℕ) → is_lettered service r ≡ false → write_answers service r t room ≡ ok_message_written octets count coding → Writable service r t room
  unfolding write_rules text_size_rules coding_writes
  write-accepted room octets count coding l e =
      let v = accepted-parts (coding_rules service r) (mark_rules service r ++ size_rules service r t room) (write-verdict service r t room (ok_message_written octets count coding) (sym e)) in
      let w = accepted-parts (mark_rules service r) (size_rules service r t room) v.1 in
      let c : coding_writes service r ≡ Ok (smallest service r) = settle-given (verdict (coding_rules service r)) Err (Ok (smallest service r)) v.0 in
      let s = settled service r (smallest service r) (coding-written service r (smallest service r) c).1 in
      let h = text-accepted service r (ap verdict (sym (mark-rules service r l)) ∙ w.0) in
      let ucs2 = is_ucs2 r.alphabet in
      let six = accepted-rule (not_codable ucs2 t) (Unlisted (first_unlisted t)) (when (over_size service ucs2 t) TooLong ∷ when (ltb room (length (text_octets service ucs2 t))) NoRoom ∷ []) (ap verdict (sym (size-rules service r l t room)) ∙ w.1) in
      let five = accepted-rule (over_size service ucs2 t) TooLong (when (ltb room (length (text_octets service ucs2 t))) NoRoom ∷ []) six.1 in
      let seven = accepted-rule (ltb room (length (text_octets service ucs2 t))) NoRoom [] five.1 in
      record {
        new = s.new;
        plain = s.plain;
        octet = (smallest service r, (s.within, coding-read service r (smallest service r) h.unmarked c));
        holds = h;
        codable = six.0;
        sized = five.0;
        fits = subst (λ (x : List ℕ). length x ≤ room) (sym (octets-same service r l t)) (ltb-false _ _ seven.0);
      }

-- ---- the reader

pub read-verdict : (service : Service) (coding count : ℕ) (o : List ℕ) (room : ℕ) (a : Result MessageRead Refusal) → a ≡ read_answers service coding count o room → verdict (read_rules service coding count o room) ≡ verdict_of a
unfolding read_answers
read-verdict service coding count o room a e =
    settle-told verdict_of Err (ok_message_read (length (text_of_message service (read_under service coding) count o)) (reading_of_message service (read_under service coding) o)) (λ q. refl) refl (verdict (read_rules service coding count o room)) a e

module _ (service : Service) (coding count : ℕ) (o : List ℕ) (r : Reading) where
  length-accepts : (room : ℕ) → Readable service coding count o room r → verdict (length_rules service r count o room) ≡ accepted
  unfolding text_length_rules verdict
  length-accepts room w =
      let l = unmarked service r w.holds.unmarked in
      ap verdict (length-rules service r l count o room) ∙ simp (w.sized, le-ltb _ _ (subst (λ (x : List ℕ). length x ≤ room) (text_same service r l count o) w.fits))

  all-accept : (room : ℕ) → Readable service coding count o room r → verdict (read_rules service coding count o room) ≡ accepted
  unfolding read_rules
  all-accept room w =
      let same : read_under service coding ≡ r = read-given service coding r (sym w.reads) in
      accepted-both (octet_rules service coding) (heard_rules service (read_under service coding) ++ length_rules service (read_under service coding) count o room) (octet-verdict service coding (Ok r) (sym w.reads))
      (ap (λ (x : Reading). verdict (heard_rules service x ++ length_rules service x count o room)) same
      ∙ accepted-both (heard_rules service r) (length_rules service r count o room) (ap verdict (heard-rules service r (unmarked service r w.holds.unmarked)) ∙ text-accepts service r w.holds) (length-accepts room w))

  pub read-accepts : (out : List ℕ) → Readable service coding count o (length out) r
      → (read_answers service coding count o (length out) ≡ ok_message_read (length (text_of_message service r count o)) r)
      × (read_leaves service coding count o out ≡ laid (text_of_message service r count o) out)
  unfolding read_answers read_leaves
  read-accepts out w =
      let same : read_under service coding ≡ r = read-given service coding r (sym w.reads) in (
        settle-given _ Err _ (all-accept (length out) w)
            ∙ ap (λ (x : Reading). ok_message_read (length (text_of_message service x count o)) (reading_of_message service x o)) same
            ∙ ap (λ (x : Reading). ok_message_read (length (text_of_message service r count o)) x) (reading-same service r (unmarked service r w.holds.unmarked) o),
        settle-given _ (λ q. out) _ (all-accept (length out) w) ∙ ap (λ (x : Reading). laid (text_of_message service x count o) out) same,
      )

pub read-accepted : (service : Service) (coding count : ℕ) (o : List ℕ) (room units : ℕ) (r : Reading) → is_lettered service (read_under service coding) ≡ false
    → read_answers service coding count o room ≡ ok_message_read units r → Readable service coding count o room (read_under service coding)
unfolding read_rules text_length_rules octet_reads
read-accepted service coding count o room units r l e =
    let x : Reading = read_under service coding in
    let held : List ℕ = held_text service (is_ucs2 x.alphabet) count o in
    let v = accepted-parts (octet_rules service coding) (heard_rules service x ++ length_rules service x count o room) (read-verdict service coding count o room (ok_message_read units r) (sym e)) in
    let w = accepted-parts (heard_rules service x) (length_rules service x count o room) v.1 in
    let four = accepted-rule (not (fits_reading service x (length o) count)) WrongLength (when (ltb room (length held)) NoRoom ∷ []) (ap verdict (sym (length-rules service x l count o room)) ∙ w.1) in
    let seven = accepted-rule (ltb room (length held)) NoRoom [] four.1 in
    record {
      reads = settle-given (verdict (octet_rules service coding)) Err (Ok x) v.0;
      holds = text-accepted service x (ap verdict (sym (heard-rules service x l)) ∙ w.0);
      sized = fitting (fits_reading service x (length o) count) four.0;
      fits = subst (λ (y : List ℕ). length y ≤ room) (sym (text_same service x l count o)) (ltb-false _ _ seven.0);
    }
  where
    fitting : (b : Bool) → not b ≡ false → b ≡ true
    fitting true e = refl
    fitting false e = sym e
