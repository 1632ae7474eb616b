-- How the whole reader and the whole writer come to their verdict on a page with letters in front of its text: its coding octet is one of two, which
-- say neither compressed text nor data. Assumes nothing.
--   lettered-clear     what reads so is neither compressed nor data
--   lettered-reads     the reader of such a page is the reader of the page by itself
--   lettered-writes    the writer of such a page is the writer of the page by itself
--   page-count         and has no count
use mathlib.Core.Path.{◌≡◌, refl, ap, ap₂, ◌∙◌, sym, subst}
use mathlib.Core.Bool.{Bool, true, false, cond, false≢true}
use mathlib.Core.List.{List, ◌++◌}
use mathlib.Core.Logic.{◌⊎◌, inl, inr}
use Prim.Native.Nat.{ℕ, ◌<◌}
use lib.ListN.{length}
use Rattle.lists.specs.Bits.{bit_of, gather, bits_of}
use Rattle.words.specs.declared.Service.{Service}
use Rattle.words.specs.declared.Service.TheVariants.{ShortMessage, Broadcast, Ussd, OldPage}
use Rattle.words.specs.Judging.{Rule, Verdict, refused, accepted, verdict, settle}
use Rattle.words.proofs.Judging.{verdict-accepted-first}
use Rattle.fields.specs.declared.Letters.{Letters}
use Rattle.coding.specs.declared.Reading.{Reading}
use Rattle.coding.specs.Readings.{with_letters, without_letters}
use Rattle.coding.specs.OctetRead.{read_page, read_under, octet_reads}
use Rattle.coding.specs.LanguageLetters.{is_lettered, coding_writes}
use Rattle.coding.specs.Holding.{is_ucs2, is_data, text_rules}
use Rattle.coding.proofs.Prefixed.{lettered-octets, read-given}
use Rattle.coding.proofs.TextOctet.{coding-written}
use Rattle.coding.proofs.Theorems.{settled, write_read}
use Rattle.lettered.specs.LetteredPage.{lettered_octets, lettered_size_rules, lettered_write_rules, lettered_writes, lettered_write_leaves, letters_in, lettered_text, lettered_read_rules, lettered_reads, lettered_read_leaves}
use Rattle.demands.specs.MessageRead.{held_text, text_length_rules, lettered_as, page_reads, page_read_leaves, clear_rules, read_answers, read_leaves}
use Rattle.demands.specs.MessageWritten.{text_octets, text_size_rules, message_count, letter_rules, page_as, page_writes, page_write_leaves, write_answers, write_leaves}
use Rattle.demands.proofs.Steps.{read_held, write-held}
use Rattle.std.specs.Prelude.{Ok, Err}
use Rattle.demands.specs.Successes.{ok_message_written}
use Rattle.lettered.specs.Successes.{ok_lettered_read}
use Rattle.demands.specs.Successes.{ok_message_read}

-- ---- the two coding octets

-- neither 1 nor 2 refuses what begins with letters
pub record Clear (r : Reading) : Type 0 where
  pub clear : r.compressed ≡ false
  pub text : is_data r.alphabet ≡ false

clear_at : (o : ℕ) → (o ≡ 0x10) ⊎ (o ≡ 0x11) → Clear (read_page o)
unfolding read_page bits_of gather bit_of
clear_at o (inl e) = subst (λ (k : ℕ). Clear (read_page k)) (sym e) record { clear = refl; text = refl }
clear_at o (inr e) = subst (λ (k : ℕ). Clear (read_page k)) (sym e) record { clear = refl; text = refl }

pub lettered-clear : (s : Service) (o : ℕ) → o < 256 → is_lettered s (read_under s o) ≡ true → Clear (read_under s o)
lettered-clear ShortMessage o h e = absurd (false≢true e)
lettered-clear Broadcast o h e = clear_at o ((lettered-octets o h).0 e)
lettered-clear Ussd o h e = absurd (false≢true e)
lettered-clear OldPage o h e = absurd (false≢true e)

-- ---- reading

read-settle : (v : Verdict) (n : ℕ) (t : Letters) (r : Reading) → lettered_as r (settle v Err (ok_lettered_read n t)) ≡ settle v Err (ok_message_read n (with_letters t r))
read-settle (refused q) n t r = refl
read-settle accepted n t r = refl

clear-accepts : (r : Reading) → Clear r → verdict (clear_rules r) ≡ accepted
unfolding clear_rules verdict
clear-accepts r c = simp (c.clear, c.text)

pub lettered-reads : (service : Service) (coding count : ℕ) (o out : List ℕ) (r : Reading) → coding < 256 → Ok r ≡ octet_reads service coding → is_lettered service r ≡ true
    → (page_reads r count o (length out) ≡ read_answers service coding count o (length out))
    × (page_read_leaves r count o out ≡ read_leaves service coding count o out)
unfolding lettered_reads lettered_read_leaves
lettered-reads service coding count o out r h e l =
    let ucs2 = is_ucs2 r.alphabet in
    let c : Clear r = subst Clear (read-given service coding r e) (lettered-clear service coding h (ap (is_lettered service) (read-given service coding r e) ∙ l)) in
    let w =
    read_held service coding count o r (with_letters (letters_in o) r) (lettered_text ucs2 o) (verdict (lettered_read_rules ucs2 count o (length out))) out e
    (ap₂ (λ (x y : List Rule). verdict (x ++ y)) (ap (λ (b : Bool). cond b (clear_rules r) (text_rules service r)) l) (ap (λ (b : Bool). cond b (lettered_read_rules ucs2 count o (length out)) (text_length_rules service ucs2 count o (length out))) l)
    ∙ verdict-accepted-first (clear_rules r) (lettered_read_rules ucs2 count o (length out)) (clear-accepts r c))
    (ap (λ (b : Bool). cond b (lettered_text ucs2 o) (held_text service ucs2 count o)) l)
    (ap (λ (b : Bool). cond b (with_letters (letters_in o) r) r) l)
    in
    (read-settle (verdict (lettered_read_rules ucs2 count o (length out))) (length (lettered_text ucs2 o)) (letters_in o) r ∙ w.0, w.1)

-- ---- writing

write-settle : (v : Verdict) (n coding : ℕ) → page_as coding (settle v Err (Ok n)) ≡ settle v Err (ok_message_written n 0 coding)
write-settle (refused q) n coding = refl
write-settle accepted n coding = refl

-- a page behind letters has no count
pub page-count : (s : Service) (r : Reading) (t : List ℕ) → is_lettered s r ≡ true → message_count s r t ≡ 0
page-count ShortMessage r t e = absurd (false≢true e)
page-count Broadcast r t e = go (is_ucs2 r.alphabet)
  where
    go : (b : Bool) → ◌≡◌ {A = ℕ} (cond b 0 0) 0
    go true = refl
    go false = refl
page-count Ussd r t e = absurd (false≢true e)
page-count OldPage r t e = absurd (false≢true e)

letters-judged : (r : Reading) (t : List ℕ) (room : ℕ) → Clear r
    → verdict (letter_rules r ++ lettered_size_rules (is_ucs2 r.alphabet) r.letters t room) ≡ verdict (lettered_write_rules (is_ucs2 r.alphabet) r.letters t room)
unfolding letter_rules lettered_write_rules verdict
letters-judged r t room c = simp (c.clear, c.text)

-- the coding octet of what begins with letters reads so, and so the reading is neither compressed nor data
pub written-clear : (service : Service) (r : Reading) (coding : ℕ) → Ok coding ≡ coding_writes service r → is_lettered service r ≡ true → Clear r
written-clear service r coding e l =
    let w = (coding-written service r coding (sym e)).1 in
    let same : read_under service coding ≡ without_letters r = read-given service coding (without_letters r) (sym (write_read service r coding w)) in
    let c = subst Clear same (lettered-clear service coding (settled service r coding w).within (ap (is_lettered service) same ∙ past service l)) in
    record { clear = c.clear; text = c.text }
  where
    past : (s : Service) → is_lettered s r ≡ true → is_lettered s (without_letters r) ≡ true
    past ShortMessage e = e
    past Broadcast e = e
    past Ussd e = e
    past OldPage e = e

pub lettered-writes : (service : Service) (r : Reading) (coding : ℕ) (units out : List ℕ) → Ok coding ≡ coding_writes service r → is_lettered service r ≡ true
    → (page_writes (is_ucs2 r.alphabet) r.letters coding units (length out) ≡ write_answers service r units (length out))
    × (page_write_leaves (is_ucs2 r.alphabet) r.letters units out ≡ write_leaves service r units out)
unfolding lettered_writes lettered_write_leaves
lettered-writes service r coding units out e l =
    let ucs2 = is_ucs2 r.alphabet in
    let v = verdict (lettered_write_rules ucs2 r.letters units (length out)) in
    let x = lettered_octets ucs2 r.letters units in
    let w =
    write-held service r units out coding x v e
    (ap₂ (λ (a b : List Rule). verdict (a ++ b)) (ap (λ (b : Bool). cond b (letter_rules r) (text_rules service r)) l) (ap (λ (b : Bool). cond b (lettered_size_rules ucs2 r.letters units (length out)) (text_size_rules service ucs2 units (length out))) l)
    ∙ letters-judged r units (length out) (written-clear service r coding e l))
    (ap (λ (b : Bool). cond b x (text_octets service ucs2 units)) l)
    in
    (write-settle v (length x) coding ∙ ap (λ (n : ℕ). settle v Err (ok_message_written (length x) n coding)) (sym (page-count service r units l)) ∙ w.0, w.1)
