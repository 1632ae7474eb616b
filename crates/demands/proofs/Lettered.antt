-- The demands for one broadcast page that begins with the letters of its language, of the calls themselves: each call is that of the page by itself
-- behind its coding octet, and the page's letters and text come back. A carriage return is 000D. Assumes nothing.
--   write-lettered-iff        the writer accepts a page with the prefix mark exactly where it is LetteredWritable
--   read-lettered-iff         the reader accepts one exactly where it is LetteredReadable
--   lettered-same-iff         equal octets under the same data coding exactly when the letters are the same and the texts are once all closing carriage
--                             returns are dropped, 7-bit and UCS2
--   lettered-back             the reader accepts what was written, answers with the letters, and leaves the text without closing carriage returns
--   lettered-coding-same      one coding octet only for one reading, but for the letters
--   write-refuses-11-iff      the writer gives 11 exactly on a page with the prefix mark, where 8 is not given, and a letter is absent or not a to z
--   read-refuses-11-iff       the reader gives 11 exactly under 10 and 11 of a broadcast (hexadecimal), where 4 is not given, and a letter is not a to z or
--                             the carriage return behind them is missing in 7-bit text
use mathlib.Core.Path.{◌≡◌, refl, ap, ap₂, ◌∙◌, sym, subst}
use mathlib.Core.Bool.{Bool, true, false, false≢true}
use mathlib.Core.List.{List, ◌++◌}
use mathlib.Core.Logic.{◌↔◌, ◌⊎◌}
use Prim.Native.Nat.{ℕ, ◌≤◌, ◌<◌}
use native.Mathlib.Omega.{arith}
use lib.ListN.{length, take}
use Rattle.lists.specs.Lists.{laid}
use Rattle.lists.specs.Closing.{without_closing}
use Rattle.words.specs.declared.Service.{Service}
use Rattle.words.specs.declared.Service.TheVariants.{ShortMessage, Broadcast, Ussd, OldPage}
use Rattle.words.specs.declared.Refusal.{Refusal}
use Rattle.words.specs.declared.Refusal.TheVariants.{WrongLetters}
use Rattle.words.specs.Judging.{Rule, refused, accepted, verdict}
use Rattle.words.proofs.Judging.{accepted-parts, settle-given}
use Rattle.words.proofs.Numbers.{number-above-0}
use Rattle.fields.specs.Letters.{are_letters}
use Rattle.coding.specs.declared.Reading.{Reading}
use Rattle.coding.specs.Readings.{without_letters}
use Rattle.coding.specs.OctetRead.{octet_rules, read_under, octet_reads}
use Rattle.coding.specs.OctetWritten.{smallest, octet_writes, write_rules as alone_rules}
use Rattle.coding.specs.LanguageLetters.{is_lettered, stray_letters, coding_rules, coding_writes}
use Rattle.coding.specs.Holding.{is_ucs2, text_rules}
use Rattle.coding.specs.Answers.{read_reading}
use Rattle.coding.proofs.TextOctet.{coding-written, coding-bare}
use Rattle.coding.proofs.Theorems.{settled, reads_all, write_read, write-complete}
use Rattle.lettered.specs.declared.LetteredRead.{LetteredRead}
use Rattle.lettered.specs.LetteredPage.{lettered_octets, lettered_writes, letters_in, wrong_letters, lettered_text, lettered_reads}
use Rattle.words.proofs.Rules.{gives, given-not, ok-inside, err-inside, ok-or-err}
use Rattle.lettered.proofs.Theorems.{WritablePage, ReadablePage, lettered-length, write-accepts-iff, write-leaves, write-refuses-letters-iff, read-accepts-iff, read-refuses-letters-iff, lettered-written-read}
use Rattle.lettered.proofs.Theorems as page
use Rattle.demands.specs.declared.MessageWritten.{MessageWritten}
use Rattle.demands.specs.MessageRead.{text_length_rules, lettered_as, page_reads, read_rules, read_answers, read_leaves}
use Rattle.demands.specs.MessageWritten.{text_size_rules, size_rules, mark_rules, page_as, write_rules, write_answers, write_leaves}
use Rattle.demands.specs.Reports.{write_number, write_written, write_count, write_coding, read_number}
use Rattle.demands.specs.Demands.{LetteredWritable, LetteredReadable, Accepted, sent, sent_count, sent_coding, Comes}
use Rattle.demands.proofs.Accepting.{write-verdict, read-verdict}
use Rattle.demands.proofs.Demands.{take-laid}
use Rattle.coding.proofs.Prefixed.{lettered-octets}
use Rattle.demands.proofs.LetteredSteps.{lettered-reads, lettered-writes}
use Rattle.demands.proofs.Steps.{coding-verdict, write-refused}
use Rattle.demands.proofs.Unlettered.{mark-rules, size-rules, heard-rules, length-rules}
use Rattle.std.specs.Prelude.{Result, Ok, Err}
use Rattle.demands.specs.Successes.{ok_message_written}
use Rattle.demands.specs.Successes.{ok_message_read}

-- ---- an answer, and the answer of the page that it was made of

written-filled : (coding : ℕ) (a : Result ℕ Refusal) (o c k : ℕ) → page_as coding a ≡ ok_message_written o c k → a ≡ Ok o
written-filled coding (Ok n) o c k e = ap (λ (m : MessageWritten). Ok m.octets) (ok-inside e)
written-filled coding (Err q) o c k e = absurd (ok-or-err (sym e))

refused-filled : (coding : ℕ) (a : Result ℕ Refusal) (q : Refusal) → page_as coding a ≡ Err q → a ≡ Err q
refused-filled coding (Ok n) q e = let z : ◌≡◌ {A = ℕ} 0 1 = cc in absurd (omega arith)
refused-filled coding (Err p) q e = let f : p ≡ q = cc in ap Err f

refused-lettered : (r : Reading) (a : Result LetteredRead Refusal) (q : Refusal) → lettered_as r a ≡ Err q → a ≡ Err q
refused-lettered r (Ok m) q e = let z : ◌≡◌ {A = ℕ} 0 1 = cc in absurd (omega arith)
refused-lettered r (Err p) q e = let f : p ≡ q = cc in ap Err f

-- ---- the writer

-- a page with the prefix mark has no letter in another coding
unstray : (s : Service) (r : Reading) → is_lettered s r ≡ true → stray_letters r ≡ false
unstray ShortMessage r e = absurd (false≢true e)
unstray Broadcast r e = simp e
unstray Ussd r e = absurd (false≢true e)
unstray OldPage r e = absurd (false≢true e)

-- the coding octet of an accepted message is written
octet-of : (s : Service) (r : Reading) (t : List ℕ) (room : ℕ) → verdict (write_rules s r t room) ≡ accepted → coding_writes s r ≡ Ok (smallest s r)
unfolding write_rules coding_writes
octet-of s r t room e =
    settle-given (verdict (coding_rules s r)) Err (Ok (smallest s r)) (accepted-parts (coding_rules s r) (mark_rules s r ++ size_rules s r t room) e).0

module _ (r : Reading) (t out : List ℕ) (mark : r.prefix ≡ true) where
  abbrev ucs2 : Bool
  ucs2 = is_ucs2 r.alphabet

  -- the page that an accepted text is
  pub record Sent : Type 0 where
    pub coding : coding_writes Broadcast r ≡ Ok (smallest Broadcast r)
    pub page : WritablePage ucs2 r.letters t
    pub room : 82 ≤ length out

  pub accepted-page : Accepted Broadcast r t out → Sent
  accepted-page a = go (write_answers Broadcast r t (length out)) refl a
    where
      go : (x : Result MessageWritten Refusal) → write_answers Broadcast r t (length out) ≡ x → write_number x ≡ 0 → Sent
      go (Ok m) e z =
          let w = octet-of Broadcast r t (length out) (write-verdict Broadcast r t (length out) (Ok m) (sym e)) in
          let p = (lettered-writes Broadcast r (smallest Broadcast r) t out (sym w) mark).0 ∙ e in
          let f = (write-accepts-iff ucs2 r.letters t (length out) m.octets).0 (written-filled (smallest Broadcast r) (lettered_writes ucs2 r.letters t (length out)) m.octets m.count m.coding p) in
          record { coding = w; page = f.0; room = f.1 }
      go (Err q) e z = absurd (omega (arith, number-above-0 q))

  module _ (s : Sent) where
    answered : write_answers Broadcast r t (length out) ≡ ok_message_written 82 0 (smallest Broadcast r)
    answered =
        sym (lettered-writes Broadcast r (smallest Broadcast r) t out (sym s.coding) mark).0
        ∙ ap (page_as (smallest Broadcast r)) ((write-accepts-iff ucs2 r.letters t (length out) 82).1 (s.page, s.room, refl))

    pub sent-page : sent Broadcast r t out ≡ lettered_octets ucs2 r.letters t
    sent-page =
        let left : write_leaves Broadcast r t out ≡ laid (lettered_octets ucs2 r.letters t) out = sym (lettered-writes Broadcast r (smallest Broadcast r) t out (sym s.coding) mark).1 ∙ write-leaves ucs2 r.letters t out s.page s.room in
        ap₂ take (ap write_written answered ∙ sym (lettered-length ucs2 r.letters t s.page.sized)) left ∙ take-laid (lettered_octets ucs2 r.letters t) out

    pub sent-reads-page : octet_reads Broadcast (sent_coding Broadcast r t out) ≡ Ok (without_letters r)
    sent-reads-page = ap (λ (a : Result MessageWritten Refusal). octet_reads Broadcast (write_coding a)) answered ∙ write_read Broadcast r (smallest Broadcast r) (coding-written Broadcast r (smallest Broadcast r) s.coding).1

  pub write-lettered-iff : (Accepted Broadcast r t out) ↔ LetteredWritable r t (length out)
  write-lettered-iff = (to, from)
    where
      to : Accepted Broadcast r t out → LetteredWritable r t (length out)
      to a =
          let s = accepted-page a in
          let o = (coding-written Broadcast r (smallest Broadcast r) s.coding).1 in
          let w = settled Broadcast r (smallest Broadcast r) o in
          record {
            mark = mark;
            plain = w.plain;
            octet = (smallest Broadcast r, (w.within, write_read Broadcast r (smallest Broadcast r) o));
            letters = s.page.letters;
            codable = s.page.codable;
            sized = s.page.sized;
            fits = s.room;
          }

      from : LetteredWritable r t (length out) → Accepted Broadcast r t out
      from w =
          let k = write-complete Broadcast r w.octet.0 refl w.plain w.octet.1.0 w.octet.1.1 in
          let c = coding-bare Broadcast r (unstray Broadcast r mark) ∙ k.1 in
          let first : smallest Broadcast r ≡ k.0 = (settled Broadcast r k.0 k.1).first in
          ap write_number
          (answered
          record {
            coding = c ∙ ap Ok (sym first);
            page = record { letters = w.letters; codable = w.codable; sized = w.sized };
            room = w.fits;
          })

-- ---- which pages are the same

pub lettered-coding-same : (r s : Reading) (t u out lent : List ℕ) → r.prefix ≡ true → s.prefix ≡ true → Accepted Broadcast r t out → Accepted Broadcast s u lent
    → sent_coding Broadcast r t out ≡ sent_coding Broadcast s u lent → without_letters r ≡ without_letters s
lettered-coding-same r s t u out lent p q a b e =
    ap read_reading (sym (sent-reads-page r t out p (accepted-page r t out p a)) ∙ ap (octet_reads Broadcast) e ∙ sent-reads-page s u lent q (accepted-page s u lent q b))

pub lettered-same-iff : (r s : Reading) (t u out lent : List ℕ) → r.prefix ≡ true → s.prefix ≡ true → Accepted Broadcast r t out → Accepted Broadcast s u lent
    → sent_coding Broadcast r t out ≡ sent_coding Broadcast s u lent
    → (sent Broadcast r t out ≡ sent Broadcast s u lent) ↔ ((r.letters ≡ s.letters) × (without_closing 0x000d t ≡ without_closing 0x000d u))
lettered-same-iff r s t u out lent p q a b e =
    let x = accepted-page r t out p a in
    let y = accepted-page s u lent q b in
    let same : is_ucs2 s.alphabet ≡ is_ucs2 r.alphabet = ap (λ (z : Reading). is_ucs2 z.alphabet) (sym (lettered-coding-same r s t u out lent p q a b e)) in
    let iff = page.lettered-same-iff (is_ucs2 r.alphabet) r.letters s.letters t u x.page (subst (λ (z : Bool). WritablePage z s.letters u) same y.page) in
    let there = sent-page r t out p x in
    let here = sent-page s u lent q y ∙ ap (λ (z : Bool). lettered_octets z s.letters u) same in
    (λ f. iff.0 (sym there ∙ f ∙ here), λ f. there ∙ iff.1 f ∙ sym here)

-- ---- the round trip

-- octets are read into a lent buffer as this reading and text
abbrev Came : Reading → List ℕ → List ℕ → ℕ → ℕ → List ℕ → Type 0
Came r text back coding count o =
    (read_answers Broadcast coding count o (length back) ≡ ok_message_read (length text) r) × (read_leaves Broadcast coding count o back ≡ laid text back)

pub lettered-back : (r : Reading) (t out : List ℕ) → r.prefix ≡ true → Accepted Broadcast r t out
    → Comes Broadcast (sent_coding Broadcast r t out) (sent_count Broadcast r t out) (sent Broadcast r t out) r (without_closing 0x000d t)
lettered-back r t out mark a back room =
    let s = accepted-page r t out mark a in
    let o = (coding-written Broadcast r (smallest Broadcast r) s.coding).1 in
    let ucs2 = is_ucs2 r.alphabet in
    let d = answered r t out mark s in
    let octets = lettered_octets ucs2 r.letters t in
    let w = lettered-written-read ucs2 r.letters t back s.page room in
    let l = lettered-reads Broadcast (smallest Broadcast r) 0 octets back (without_letters r) (settled Broadcast r (smallest Broadcast r) o).within (sym (write_read Broadcast r (smallest Broadcast r) o)) mark in
    let given : Came r (without_closing 0x000d t) back (smallest Broadcast r) 0 octets = (sym l.0 ∙ ap (lettered_as (without_letters r)) w.0, sym l.1 ∙ w.1) in
    subst (λ (x : List ℕ). Came r (without_closing 0x000d t) back (sent_coding Broadcast r t out) (sent_count Broadcast r t out) x) (sym (sent-page r t out mark s))
    (subst (λ (x : ℕ). Came r (without_closing 0x000d t) back (sent_coding Broadcast r t out) x octets) (sym (ap write_count d))
    (subst (λ (x : ℕ). Came r (without_closing 0x000d t) back x 0 octets) (sym (ap write_coding d)) given))

-- ---- refusal 11 on writing

-- the coding octet's own rules give no 11
coding-not-11 : (s : Service) (r : Reading) (rest : List Rule) → gives 11 rest ≡ false → gives 11 (coding_rules s r ++ rest) ≡ false
unfolding coding_rules alone_rules gives
coding-not-11 s r rest e = e

octet-not-11 : (s : Service) (r : Reading) → verdict (coding_rules s r) ≡ refused WrongLetters → ⊥
unfolding coding_rules alone_rules gives
octet-not-11 s r e = given-not (coding_rules s r) WrongLetters refl e

-- nor do the rules of a text by itself
plain-not-11 : (s : Service) (r : Reading) (t : List ℕ) (room : ℕ) → is_lettered s r ≡ false → verdict (write_rules s r t room) ≡ refused WrongLetters → ⊥
unfolding write_rules text_rules text_size_rules gives
plain-not-11 s r t room l e =
    given-not (coding_rules s r ++ (text_rules s r ++ text_size_rules s (is_ucs2 r.alphabet) t room)) WrongLetters
    (coding-not-11 s r (text_rules s r ++ text_size_rules s (is_ucs2 r.alphabet) t room) refl)
    (ap₂ (λ (a b : List Rule). verdict (coding_rules s r ++ (a ++ b))) (sym (mark-rules s r l)) (sym (size-rules s r l t room)) ∙ e)

pub write-refuses-11-iff : (s : Service) (r : Reading) (t out : List ℕ)
    → (write_answers s r t (length out) ≡ Err WrongLetters)
    ↔ ((is_lettered s r ≡ true) × (((o : ℕ) × (octet_writes s r ≡ Ok o)) × (are_letters r.letters ≡ false)))
write-refuses-11-iff s r t out = (to, from)
  where
    ucs2 : Bool
    ucs2 = is_ucs2 r.alphabet

    to : write_answers s r t (length out) ≡ Err WrongLetters → (is_lettered s r ≡ true) × (((o : ℕ) × (octet_writes s r ≡ Ok o)) × (are_letters r.letters ≡ false))
    to e = by (is_lettered s r) refl (coding_writes s r) refl
      where
        told : verdict (write_rules s r t (length out)) ≡ refused WrongLetters
        told = write-verdict s r t (length out) (Err WrongLetters) (sym e)

        by : (b : Bool) → is_lettered s r ≡ b → (w : Result ℕ Refusal) → coding_writes s r ≡ w → (is_lettered s r ≡ true) × (((o : ℕ) × (octet_writes s r ≡ Ok o)) × (are_letters r.letters ≡ false))
        by false l w c = absurd (plain-not-11 s r t (length out) l told)
        by true l (Ok o) c =
            let p = (lettered-writes s r o t out (sym c) l).0 ∙ e in
            (l, ((o, (coding-written s r o c).1), (write-refuses-letters-iff ucs2 r.letters t (length out)).0 (refused-filled o (lettered_writes ucs2 r.letters t (length out)) WrongLetters p)))
        by true l (Err q) c =
            absurd (octet-not-11 s r (coding-verdict s r (Err q) (sym c) ∙ ap refused (err-inside ((write-refused s r t out q (sym c)).0 ∙ e))))

    from : (is_lettered s r ≡ true) × (((o : ℕ) × (octet_writes s r ≡ Ok o)) × (are_letters r.letters ≡ false)) → write_answers s r t (length out) ≡ Err WrongLetters
    from h =
        let o = h.1.0.0 in
        let c = coding-bare s r (unstray s r h.0) ∙ h.1.0.1 in
        sym (lettered-writes s r o t out (sym c) h.0).0 ∙ ap (page_as o) ((write-refuses-letters-iff ucs2 r.letters t (length out)).1 h.1.1)

-- ---- the reader

-- a service whose message may begin with letters refuses no octet
lettered-octet : (s : Service) (coding : ℕ) → is_lettered s (read_under s coding) ≡ true → octet_reads s coding ≡ Ok (read_under s coding)
lettered-octet ShortMessage coding e = absurd (false≢true e)
lettered-octet Broadcast coding e = reads_all Broadcast coding refl
lettered-octet Ussd coding e = absurd (false≢true e)
lettered-octet OldPage coding e = absurd (false≢true e)

-- the rules of a text by itself give no 11
heard-not-11 : (s : Service) (coding count : ℕ) (o : List ℕ) (room : ℕ) → is_lettered s (read_under s coding) ≡ false → verdict (read_rules s coding count o room) ≡ refused WrongLetters → ⊥
unfolding read_rules text_rules text_length_rules octet_rules gives
heard-not-11 s coding count o room l e =
    let r = read_under s coding in
    given-not (octet_rules s coding ++ (text_rules s r ++ text_length_rules s (is_ucs2 r.alphabet) count o room)) WrongLetters (none s)
    (ap₂ (λ (a b : List Rule). verdict (octet_rules s coding ++ (a ++ b))) (sym (heard-rules s r l)) (sym (length-rules s r l count o room)) ∙ e)
  where
    none : (s : Service) → gives 11 (octet_rules s coding ++ (text_rules s (read_under s coding) ++ text_length_rules s (is_ucs2 (read_under s coding).alphabet) count o room)) ≡ false
    none ShortMessage = refl
    none Broadcast = refl
    none Ussd = refl
    none OldPage = refl

module _ (coding count : ℕ) (o out : List ℕ) (octet : coding < 256) where
  abbrev ucs2_under : Service → Bool
  ucs2_under s = is_ucs2 (read_under s coding).alphabet

  pub read-refuses-11-iff : (s : Service)
      → (read_answers s coding count o (length out) ≡ Err WrongLetters)
      ↔ ((is_lettered s (read_under s coding) ≡ true) × ((length o ≡ 82) × (count ≡ 0) × (wrong_letters (ucs2_under s) o ≡ true)))
  read-refuses-11-iff s = (λ e. by e (is_lettered s (read_under s coding)) refl, from)
    where
      page-answer : is_lettered s (read_under s coding) ≡ true → page_reads (read_under s coding) count o (length out) ≡ read_answers s coding count o (length out)
      page-answer l = (lettered-reads s coding count o out (read_under s coding) octet (sym (lettered-octet s coding l)) l).0

      by : read_answers s coding count o (length out) ≡ Err WrongLetters → (b : Bool) → is_lettered s (read_under s coding) ≡ b
          → (is_lettered s (read_under s coding) ≡ true) × ((length o ≡ 82) × (count ≡ 0) × (wrong_letters (ucs2_under s) o ≡ true))
      by e false l = absurd (heard-not-11 s coding count o (length out) l (read-verdict s coding count o (length out) (Err WrongLetters) (sym e)))
      by e true l =
          (l, (read-refuses-letters-iff (ucs2_under s) count o (length out)).0 (refused-lettered (read_under s coding) (lettered_reads (ucs2_under s) count o (length out)) WrongLetters (page-answer l ∙ e)))

      from : (is_lettered s (read_under s coding) ≡ true) × ((length o ≡ 82) × (count ≡ 0) × (wrong_letters (ucs2_under s) o ≡ true)) → read_answers s coding count o (length out) ≡ Err WrongLetters
      from h = sym (page-answer h.0) ∙ ap (lettered_as (read_under s coding)) ((read-refuses-letters-iff (ucs2_under s) count o (length out)).1 h.1)

  pub read-lettered-iff : (coding ≡ 0b0001_0000) ⊎ (coding ≡ 0b0001_0001) → (read_number (read_answers Broadcast coding count o (length out)) ≡ 0) ↔ LetteredReadable coding count o (length out)
  read-lettered-iff mark = (λ e. by (lettered_reads ucs2 count o (length out)) refl (ap read_number page-answer ∙ e), from)
    where
      ucs2 : Bool
      ucs2 = ucs2_under Broadcast

      page-answer : page_reads (read_under Broadcast coding) count o (length out) ≡ read_answers Broadcast coding count o (length out)
      page-answer = let l = (lettered-octets coding octet).1 mark in (lettered-reads Broadcast coding count o out (read_under Broadcast coding) octet (sym (lettered-octet Broadcast coding l)) l).0

      by : (x : Result LetteredRead Refusal) → lettered_reads ucs2 count o (length out) ≡ x → read_number (lettered_as (read_under Broadcast coding) (lettered_reads ucs2 count o (length out))) ≡ 0 → LetteredReadable coding count o (length out)
      by (Ok m) e z =
          let w = ((read-accepts-iff ucs2 count o (length out) m.units m.letters).0 e).0 in
          record { mark = mark; whole = w.whole; uncounted = w.uncounted; right = w.right; fits = w.fits }
      by (Err q) e z = absurd (omega (arith, number-above-0 q, ap (λ (x : Result LetteredRead Refusal). read_number (lettered_as (read_under Broadcast coding) x)) e))

      from : LetteredReadable coding count o (length out) → read_number (read_answers Broadcast coding count o (length out)) ≡ 0
      from w =
          let p : ReadablePage ucs2 count o (length out) = record { whole = w.whole; uncounted = w.uncounted; right = w.right; fits = w.fits } in
          let d = (read-accepts-iff ucs2 count o (length out) (length (lettered_text ucs2 o)) (letters_in o)).1 (p, refl, refl) in
          ap read_number (sym page-answer ∙ ap (lettered_as (read_under Broadcast coding)) d)
