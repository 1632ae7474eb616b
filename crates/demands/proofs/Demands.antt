-- The regulator's third question, and the round trip, of the calls themselves: two calls of the whole writer, each lent a buffer of its own,
-- that both accepted their text. A carriage return is 000D. Pages with letters in front are Lettered.antt's. Assumes nothing.
--   coding-same          one coding octet only for one reading: texts under the same service and data coding are under one reading
--   short-one-to-one     short messages, 7-bit and UCS2: equal octets and equal count only if they are the same text
--   ussd-same-iff        7-bit USSD: equal octets exactly when they are the same, or one is the other with a single carriage return added and
--                        the shorter fills a non-zero multiple of eight septets and ends in a carriage return
--   ussd-ucs2-one-to-one UCS2 USSD: equal octets only if they are the same text
--   page-same-iff        one broadcast page without letters in front, 7-bit and UCS2: equal octets exactly when they are the same once all closing carriage returns are dropped
--   short_back, ussd-back, ussd-back-filled, ussd-ucs2-back, page-back
--                        the reader accepts what was written, answers with the reading, and leaves this text in any buffer with room for it
use mathlib.Core.Path.{◌≡◌, refl, ap, ap₂, ◌∙◌, sym, subst}
use mathlib.Core.Bool.{true, false}
use mathlib.Core.List.{List, [], ◌∷◌, ◌++◌}
use mathlib.Core.Logic.{◌↔◌, ◌⊎◌}
use Prim.Native.Nat.{ℕ, ◌≤◌}
use native.Mathlib.Omega.{arith}
use lib.ListN.{length, take, drop}
use lib.Seq.{take-append_seam}
use Rattle.words.specs.declared.Service.{Service}
use Rattle.words.specs.declared.Service.TheVariants.{ShortMessage, Broadcast, Ussd}
use Rattle.lists.specs.Lists.{laid}
use Rattle.lists.specs.Closing.{without_closing}
use Rattle.words.proofs.Numbers.{number-above-0}
use Rattle.coding.specs.declared.Reading.{Reading}
use Rattle.coding.specs.OctetRead.{octet_reads}
use Rattle.coding.specs.OctetWritten.{smallest}
use Rattle.coding.specs.LanguageLetters.{is_lettered}
use Rattle.coding.specs.Holding.{is_ucs2}
use Rattle.coding.specs.Answers.{read_reading}
use Rattle.demands.specs.declared.MessageWritten.{MessageWritten}
use Rattle.demands.specs.MessageRead.{fits_reading, text_of_message}
use Rattle.demands.specs.MessageWritten.{message_octets, message_count, write_answers}
use Rattle.demands.specs.Reports.{write_number, write_written, write_count, write_coding}
use Rattle.demands.specs.Demands.{Writable, Accepted, sent, sent_count, sent_coding, Comes, FilledByCr, OneCrMore}
use Rattle.demands.proofs.Accepting.{write-accepts, write-accepted, read-accepts}
use Rattle.demands.proofs.Octets as octets
use Rattle.std.specs.Prelude.{Result, Ok, Err}
use Rattle.words.specs.declared.Refusal.{Refusal}
use Rattle.demands.specs.Successes.{ok_message_written}
use Rattle.demands.specs.Successes.{ok_message_read}

-- ---- what a call that accepted its text has sent

pub take-laid : (xs out : List ℕ) → take (length xs) (laid xs out) ≡ xs
unfolding laid
take-laid xs out = take-append_seam xs (drop (length xs) out)

module _ (service : Service) (r : Reading) (t out : List ℕ) (l : is_lettered service r ≡ false) (a : Accepted service r t out) where
  pub accepted-writable : Writable service r t (length out)
  accepted-writable = go (write_answers service r t (length out)) refl a
    where
      go : (x : Result MessageWritten Refusal) → write_answers service r t (length out) ≡ x → write_number x ≡ 0 → Writable service r t (length out)
      go (Ok w) e z = write-accepted service r t (length out) w.octets w.count w.coding l e
      go (Err q) e z = absurd (omega (arith, number-above-0 q))

  pub sent-octets : sent service r t out ≡ message_octets service r t
  sent-octets =
      let w = write-accepts service r t out accepted-writable in
      ap₂ take (ap write_written w.0) w.1 ∙ take-laid (message_octets service r t) out

  pub sent-count : sent_count service r t out ≡ message_count service r t
  sent-count = ap write_count (write-accepts service r t out accepted-writable).0

  pub sent-coding : sent_coding service r t out ≡ smallest service r
  sent-coding = ap write_coding (write-accepts service r t out accepted-writable).0

  -- the octet that is written reads as the reading
  pub sent-reads : octet_reads service (sent_coding service r t out) ≡ Ok r
  sent-reads = ap (octet_reads service) sent-coding ∙ (octets.write-reads service r t (length out) accepted-writable).0

  -- what is read back, by the text that the octets hold
  comes : (text : List ℕ) → octets.read_back service r t ≡ text → Comes service (sent_coding service r t out) (sent_count service r t out) (sent service r t out) r text
  comes text e back room =
      let held : text_of_message service r (sent_count service r t out) (sent service r t out) ≡ text = ap₂ (text_of_message service r) sent-count sent-octets ∙ e in
      let w =
      read-accepts service (sent_coding service r t out) (sent_count service r t out) (sent service r t out) r back
      record {
        reads = sent-reads;
        holds = accepted-writable.holds;
        sized = ap₂ (λ (o : List ℕ) (n : ℕ). fits_reading service r (length o) n) sent-octets sent-count ∙ (octets.write-reads service r t (length out) accepted-writable).1;
        fits = subst (λ (l : List ℕ). length l ≤ length back) (sym held) room;
      } in
      (w.0 ∙ ap (λ (l : List ℕ). ok_message_read (length l) r) held, w.1 ∙ ap (λ (l : List ℕ). laid l back) held)

pub coding-same : (service : Service) (r s : Reading) (t u out lent : List ℕ) → is_lettered service r ≡ false → is_lettered service s ≡ false
    → Accepted service r t out → Accepted service s u lent → sent_coding service r t out ≡ sent_coding service s u lent → r ≡ s
coding-same service r s t u out lent l m a b e =
    ap read_reading (sym (sent-reads service r t out l a) ∙ ap (octet_reads service) e ∙ sent-reads service s u lent m b)

module _ (r : Reading) (t u out lent : List ℕ) where
  same-octets : {A : Type 0} (service : Service) → is_lettered service r ≡ false → Accepted service r t out → Accepted service r u lent
      → ((message_octets service r t ≡ message_octets service r u) ↔ A) → ((sent service r t out ≡ sent service r u lent) ↔ A)
  same-octets service l a b iff = (
    λ e. iff.0 (sym (sent-octets service r t out l a) ∙ e ∙ sent-octets service r u lent l b),
    λ x. sent-octets service r t out l a ∙ iff.1 x ∙ sym (sent-octets service r u lent l b),
  )

  pub short-one-to-one : Accepted ShortMessage r t out → Accepted ShortMessage r u lent
      → sent ShortMessage r t out ≡ sent ShortMessage r u lent → sent_count ShortMessage r t out ≡ sent_count ShortMessage r u lent → t ≡ u
  short-one-to-one a b e n =
      octets.short-one-to-one r t u (length out) (length lent) (accepted-writable ShortMessage r t out refl a) (accepted-writable ShortMessage r u lent refl b)
      (sym (sent-octets ShortMessage r t out refl a) ∙ e ∙ sent-octets ShortMessage r u lent refl b)
      (sym (sent-count ShortMessage r t out refl a) ∙ n ∙ sent-count ShortMessage r u lent refl b)

  pub ussd-same-iff : is_ucs2 r.alphabet ≡ false → Accepted Ussd r t out → Accepted Ussd r u lent
      → (sent Ussd r t out ≡ sent Ussd r u lent) ↔ ((t ≡ u) ⊎ (OneCrMore t u ⊎ OneCrMore u t))
  ussd-same-iff seven a b =
      same-octets Ussd refl a b (octets.ussd-same-iff r t u (length out) (length lent) seven (accepted-writable Ussd r t out refl a) (accepted-writable Ussd r u lent refl b))

  pub ussd-ucs2-one-to-one : is_ucs2 r.alphabet ≡ true → Accepted Ussd r t out → Accepted Ussd r u lent → sent Ussd r t out ≡ sent Ussd r u lent → t ≡ u
  ussd-ucs2-one-to-one ucs2 a b e =
      octets.ussd-ucs2-one-to-one r t u (length out) (length lent) ucs2 (sym (sent-octets Ussd r t out refl a) ∙ e ∙ sent-octets Ussd r u lent refl b)

  pub page-same-iff : r.prefix ≡ false → Accepted Broadcast r t out → Accepted Broadcast r u lent
      → (sent Broadcast r t out ≡ sent Broadcast r u lent) ↔ (without_closing 0x000d t ≡ without_closing 0x000d u)
  page-same-iff l a b =
      same-octets Broadcast l a b (octets.page-same-iff r t u (length out) (length lent) (accepted-writable Broadcast r t out l a) (accepted-writable Broadcast r u lent l b))

-- ---- the round trip

module _ (r : Reading) (t out : List ℕ) where
  pub short_back : (a : Accepted ShortMessage r t out) → Comes ShortMessage (sent_coding ShortMessage r t out) (sent_count ShortMessage r t out) (sent ShortMessage r t out) r t
  short_back a = comes ShortMessage r t out refl a t (octets.short_back r t (length out) (accepted-writable ShortMessage r t out refl a))

  pub ussd-back : is_ucs2 r.alphabet ≡ false → Accepted Ussd r t out → (FilledByCr t → ⊥) → Comes Ussd (sent_coding Ussd r t out) (sent_count Ussd r t out) (sent Ussd r t out) r t
  ussd-back seven a n = comes Ussd r t out refl a t (octets.ussd-back r t (length out) seven (accepted-writable Ussd r t out refl a) n)

  -- C6 comes back as C7
  pub ussd-back-filled : is_ucs2 r.alphabet ≡ false → Accepted Ussd r t out → FilledByCr t
      → Comes Ussd (sent_coding Ussd r t out) (sent_count Ussd r t out) (sent Ussd r t out) r (t ++ (0x000d ∷ []))
  ussd-back-filled seven a f = comes Ussd r t out refl a _ (octets.ussd-back-filled r t (length out) seven (accepted-writable Ussd r t out refl a) f)

  pub ussd-ucs2-back : is_ucs2 r.alphabet ≡ true → Accepted Ussd r t out → Comes Ussd (sent_coding Ussd r t out) (sent_count Ussd r t out) (sent Ussd r t out) r t
  ussd-ucs2-back ucs2 a = comes Ussd r t out refl a t (octets.ussd-ucs2-back r t (length out) ucs2)

  pub page-back : r.prefix ≡ false → Accepted Broadcast r t out → Comes Broadcast (sent_coding Broadcast r t out) (sent_count Broadcast r t out) (sent Broadcast r t out) r (without_closing 0x000d t)
  page-back l a = comes Broadcast r t out l a _ (octets.page-back r t (length out) (accepted-writable Broadcast r t out l a))
