-- What a text is written and read with, by what the numbers name. Assumes nothing.
--   plain-heard, plain-reading-heard: what plain text is read with
--   lettered-heard, clear-heard: what a page behind letters is read with, and every other message
--   old-plain: what an old page reads as
--   plain-coded: what is settled of plain text that is written
--   named-coded, unnamed-coded: what is settled of a message that is written, by what the numbers name
use mathlib.Core.Path.{◌≡◌, refl, ap, sym, ◌∙◌}
use mathlib.Core.Bool.{Bool, true, false, not, cond}
use Prim.Native.Nat.{ℕ, ◌<◌}
use lib.Dec.{eqb}
use Rattle.words.specs.declared.Service.{Service}
use Rattle.words.specs.declared.Service.TheVariants.{ShortMessage, Broadcast, Ussd, OldPage}
use Rattle.words.specs.declared.Refusal.TheVariants.{Unwritable}
use Rattle.words.specs.Judging.{verdict}
use Rattle.coding.specs.declared.Reading.{Reading}
use Rattle.coding.specs.OctetRead.{read_under, octet_reads}
use Rattle.coding.specs.LanguageLetters.{is_lettered, lettered_in}
use Rattle.coding.proofs.Prefixed.{lettered-read, read-given, read-clear}
use Rattle.coding.specs.Holding.{is_ucs2, text_rules, holds_text}
use Rattle.coding.specs.Readings.{plain_in}
use Rattle.writer.specs.Settled.{settled_as}
use Rattle.writer.specs.Coded.{text_by, coded_as}
use Rattle.names.specs.declared.ReadingNumbers.{ReadingNumbers}
use Rattle.names.specs.declared.said.Heard.TheVariants as heard
use Rattle.names.specs.Names.{numbers_of, named_reading, under_reading}
use Rattle.names.specs.Joined.{joined_numbers}
use Rattle.names.specs.Said.{coded_in, held_by, reading_heard, heard_by}
use Rattle.names.proofs.Named.{never}
use Rattle.std.specs.Prelude.{Option, Result, Ok, Err, Some, None}
use Rattle.std.specs.Result.{is_ok}
use Rattle.words.specs.declared.Refusal.{Refusal}

-- ---- plain text

pub plain-heard : (s : Service) (ucs2 : Bool) → Ok (heard.Text ucs2 (joined_numbers (numbers_of (plain_in ucs2)))) ≡ held_by (holds_text s (plain_in ucs2)) (plain_in ucs2)
unfolding holds_text text_rules verdict
plain-heard s true = refl
plain-heard s false = refl

-- an old page that is read is plain 7-bit text
pub old-plain : (o : ℕ) (r : Reading) (ucs2 : Bool) → octet_reads OldPage o ≡ Ok r → not ucs2 ≡ true → octet_reads OldPage o ≡ Ok (plain_in ucs2)
old-plain o r true e f = never f
old-plain o r false e f = e ∙ ap Ok (sym (read-given OldPage o r (sym e)))

pub old-read : (o : ℕ) (ucs2 : Bool) → ucs2 ≡ false → is_ok (octet_reads OldPage o) ≡ true → octet_reads OldPage o ≡ Ok (plain_in ucs2)
old-read o ucs2 f t = go (octet_reads OldPage o) refl
  where
    go : (x : Result Reading Refusal) → octet_reads OldPage o ≡ x → octet_reads OldPage o ≡ Ok (plain_in ucs2)
    go (Ok r) e = old-plain o r ucs2 e (ap not f)
    go (Err q) e = never (sym (ap is_ok e) ∙ t)

-- ---- a reading in numbers

pub named-coded : (s : Service) (x : ReadingNumbers) {r : Reading} → named_reading x ≡ Some r → coded_in s x ≡ coded_as s r
unfolding coded_in
named-coded s x e = ap (λ (v : Option Reading). under_reading v (Err Unwritable) (λ r. coded_as s r)) e

pub unnamed-coded : (s : Service) (x : ReadingNumbers) → named_reading x ≡ None → coded_in s x ≡ Err Unwritable
unfolding coded_in
unnamed-coded s x e = ap (λ (v : Option Reading). under_reading v (Err Unwritable) (λ r. coded_as s r)) e

-- plain text has no letters in front of it, under any service
pub plain-coded : (s : Service) (ucs2 : Bool) → coded_as s (plain_in ucs2) ≡ text_by (settled_as s (plain_in ucs2))
unfolding coded_as
plain-coded ShortMessage ucs2 = refl
plain-coded Broadcast ucs2 = refl
plain-coded Ussd ucs2 = refl
plain-coded OldPage ucs2 = refl

pub plain-reading-heard : (s : Service) (ucs2 : Bool) → held_by (holds_text s (plain_in ucs2)) (plain_in ucs2) ≡ reading_heard s (plain_in ucs2)
plain-reading-heard ShortMessage ucs2 = refl
plain-reading-heard Broadcast ucs2 = refl
plain-reading-heard Ussd ucs2 = refl
plain-reading-heard OldPage ucs2 = refl

-- a page behind letters is told by its octet
page-heard : (ucs2 : Bool) → Ok (heard.Lettered ucs2) ≡ reading_heard Broadcast (lettered_in ucs2)
page-heard true = refl
page-heard false = refl

pub lettered-heard : (s : Service) (o : ℕ) → o < 256 → is_lettered s (read_under s o) ≡ true → Ok (heard.Lettered (eqb o 0x11)) ≡ heard_by s (octet_reads s o)
lettered-heard ShortMessage o h l = never l
lettered-heard Broadcast o h l = page-heard (eqb o 0x11) ∙ ap (heard_by Broadcast) (sym (lettered-read Broadcast o h l))
lettered-heard Ussd o h l = never l
lettered-heard OldPage o h l = never l

-- and every other message by what its reading holds
pub clear-heard : (s : Service) (o : ℕ) (r : Reading) → is_lettered s (read_under s o) ≡ false → octet_reads s o ≡ Ok r → held_by (holds_text s r) r ≡ heard_by s (octet_reads s o)
clear-heard s o r l e =
    ap (λ (b : Bool). cond b (Ok (heard.Lettered (is_ucs2 r.alphabet))) (held_by (holds_text s r) r)) (sym (read-clear s o r l (sym e))) ∙ ap (heard_by s) (sym e)
