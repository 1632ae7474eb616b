-- What is settled of a message before it is written or read settles it: the text by itself, or the page behind letters, is then the whole message's.
-- Assumes nothing.
--   gives-coded, gives-heard: writing what is settled, and reading a text by itself or a page behind letters, gives what the exported calls do
--   gives-unnamed: so does the refusal of a number that names no service, on reading
use mathlib.Core.Path.{◌≡◌, refl, ap, sym, subst, ◌∙◌}
use mathlib.Core.Bool.{Bool, true, false, cond}
use mathlib.Core.List.{List}
use Prim.Native.Nat.{ℕ, ◌<◌}
use native.Mathlib.Omega.{arith}
use lib.Dec.{lit<}
use lib.ListN.{length}
use Rattle.words.specs.declared.Service.{Service}
use Rattle.words.specs.declared.Refusal.{Refusal}
use Rattle.words.specs.declared.Refusal.TheVariants.{Unwritable}
use Rattle.words.specs.Refusals.{number_of, position_of}
use Rattle.coding.specs.declared.Reading.{Reading}
use Rattle.coding.specs.declared.Held.{Held}
use Rattle.coding.specs.OctetRead.{octet_reads}
use Rattle.coding.specs.Readings.{unmentioned, with_letters}
use Rattle.coding.specs.LanguageLetters.{is_lettered, lettered_in}
use Rattle.coding.specs.Holding.{is_ucs2, holds_text}
use Rattle.coding.proofs.Letterless.{octet-letterless}
use Rattle.coding.proofs.Prefixed.{lettered-reading}
use Rattle.fields.specs.declared.Letters.{Letters}
use Rattle.fields.specs.Letters.{no_letters, are_letters}
use Rattle.lettered.specs.declared.LetteredRead.{LetteredRead}
use Rattle.lettered.specs.LetteredPage.{lettered_reads, lettered_read_leaves}
use Rattle.lettered.proofs.Bits.{letters-below}
use Rattle.lettered.proofs.Theorems.{right-letters-iff, read-accepts-iff}
use Rattle.demands.specs.MessageRead.{text_reads, text_read_leaves, lettered_as, read_answers, read_leaves}
use Rattle.demands.specs.MessageWritten.{write_answers, write_leaves}
use Rattle.demands.specs.Inner.{shown_as}
use Rattle.demands.proofs.Steps.{text-reads, none_reads, read-refused}
use Rattle.demands.proofs.LetteredSteps.{lettered-reads}
use Rattle.writer.specs.declared.MessageCoding.TheVariants as message
use Rattle.writer.specs.Coded.{coded_as, coded_writes, coded_leaves}
use Rattle.writer.proofs.Settling.{coded-writes}
use Rattle.names.specs.declared.ReadingNumbers.{ReadingNumbers}
use Rattle.answers.specs.declared.MessageTold.{MessageTold}
use Rattle.names.specs.declared.said.Heard.{Heard}
use Rattle.names.specs.declared.said.Heard.TheVariants as heard
use Rattle.words.specs.Services.{named_service}
use Rattle.names.specs.Names.{numbers_of, named_reading, under_reading}
use Rattle.names.specs.Joined.{joined_numbers}
use Rattle.names.proofs.Parting.{parted-own}
use Rattle.answers.specs.Answers.{read_refused_answer, message_written_answer, message_read_answer, refused_told, shown_told, lettered_told, told_answer}
use Rattle.wikuay.specs.Calls.{read_message_gives, read_message_keeps, write_message_gives, write_message_keeps}
use Rattle.names.specs.Said.{coded_in, held_by, heard_by}
use Rattle.std.specs.Prelude.{Result, Option, Ok, Err, Some, None}
use Rattle.coding.specs.declared.Held.TheVariants as held
use Rattle.demands.specs.Successes.{ok_message_read}

-- ---- writing

pub gives-coded : (n : ℕ) (x : ReadingNumbers) (s : Service) → named_service n ≡ Some s → (us out : List ℕ)
    → (message_written_answer (coded_writes (coded_in s x) us (length out)) ≡ write_message_gives n x us (length out)) × (coded_leaves (coded_in s x) us out ≡ write_message_keeps n x us out)
unfolding write_message_gives write_message_keeps coded_in
gives-coded n x s named us out = simp named (go (named_reading x))
  where
    go : (v : Option Reading)
        → (message_written_answer (coded_writes (under_reading v (Err Unwritable) (λ r. coded_as s r)) us (length out))
        ≡ under_reading v (message_written_answer (Err Unwritable)) (λ r. message_written_answer (write_answers s r us (length out))))
        × (coded_leaves (under_reading v (Err Unwritable) (λ r. coded_as s r)) us out ≡ under_reading v out (λ r. write_leaves s r us out))
    go (Some r) =
        let w = coded-writes s r us out in
        (ap message_written_answer w.0, w.1)
    go None = (refl, refl)

-- ---- reading

abbrev pub read_by : Service → ℕ → List ℕ → ℕ → Result Heard Refusal → MessageTold
read_by s count o room (Ok (heard.Text ucs2 x)) = shown_told x (text_reads s ucs2 count o room)
read_by s count o room (Ok (heard.Lettered ucs2)) = lettered_told ucs2 (lettered_reads ucs2 count o room)
read_by s count o room (Err q) = refused_told q

abbrev pub kept_by : Service → ℕ → List ℕ → List ℕ → Result Heard Refusal → List ℕ
kept_by s count o out (Ok (heard.Text ucs2 x)) = text_read_leaves s ucs2 count o out
kept_by s count o out (Ok (heard.Lettered ucs2)) = lettered_read_leaves ucs2 count o out
kept_by s count o out (Err q) = out

-- a septet is an octet
octet : {n : ℕ} → n < 128 → n < 256
octet {n} h = omega arith

-- an answer with these numbers, which are joined and parted on their way
told-numbers : (n : ℕ) (r : Reading) → r.letters.first < 256 → r.letters.second < 256
    → told_answer (record { refusal = 0; position = 0; written = n; reading = joined_numbers (numbers_of r) }) ≡ message_read_answer (ok_message_read n r)
told-numbers n r p q = ap (λ (x : ReadingNumbers). record { refusal = 0; position = 0; written = n; holds = 0; reading = x }) (parted-own r p q)

told-refused : (q : Refusal) → told_answer (refused_told q) ≡ read_refused_answer q
told-refused q =
    ap (λ (x : ReadingNumbers). record { refusal = number_of q; position = position_of q; written = 0; holds = 0; reading = x }) (parted-own unmentioned (lit< tt) (lit< tt))

-- a reading without letters
shown-numbers : (r : Reading) → r.letters ≡ no_letters → (a : Result ℕ Refusal) → told_answer (shown_told (joined_numbers (numbers_of r)) a) ≡ message_read_answer (shown_as r a)
shown-numbers r e (Ok units) =
    told-numbers units r (subst (λ (l : Letters). l.first < 256) (sym e) (lit< tt)) (subst (λ (l : Letters). l.second < 256) (sym e) (lit< tt))
shown-numbers r e (Err q) = told-refused q

-- the letters of a page that is read are a to z
page-numbers : (ucs2 : Bool) (count : ℕ) (o : List ℕ) (room : ℕ)
    → told_answer (lettered_told ucs2 (lettered_reads ucs2 count o room)) ≡ message_read_answer (lettered_as (lettered_in ucs2) (lettered_reads ucs2 count o room))
page-numbers ucs2 count o room = go (lettered_reads ucs2 count o room) refl
  where
    go : (a : Result LetteredRead Refusal) → lettered_reads ucs2 count o room ≡ a → told_answer (lettered_told ucs2 a) ≡ message_read_answer (lettered_as (lettered_in ucs2) a)
    go (Err q) e = told-refused q
    go (Ok m) e =
        let w = (read-accepts-iff ucs2 count o room m.units m.letters).0 e in
        let b = letters-below m.letters (ap are_letters w.2 ∙ ((right-letters-iff ucs2 o).0 w.0.right).0) in
        told-numbers m.units (with_letters m.letters (lettered_in ucs2)) (octet b.0) (octet b.1)

heard-reads : (s : Service) (coding count : ℕ) (o out : List ℕ) → coding < 256
    → (told_answer (read_by s count o (length out) (heard_by s (octet_reads s coding))) ≡ message_read_answer (read_answers s coding count o (length out)))
    × (kept_by s count o out (heard_by s (octet_reads s coding)) ≡ read_leaves s coding count o out)
heard-reads s coding count o out h = go (octet_reads s coding) refl
  where
    of-held : (r : Reading) → Ok r ≡ octet_reads s coding → is_lettered s r ≡ false → (h : Result Held Refusal) → h ≡ holds_text s r
        → (told_answer (read_by s count o (length out) (held_by h r)) ≡ message_read_answer (read_answers s coding count o (length out))) × (kept_by s count o out (held_by h r) ≡ read_leaves s coding count o out)
    of-held r e l (Ok held.Septets) f =
        let t = text-reads s coding count o out r false e f in
        (shown-numbers r (octet-letterless s coding r (sym e)) (text_reads s false count o (length out)) ∙ ap message_read_answer t.0, t.1)
    of-held r e l (Ok held.Units) f =
        let t = text-reads s coding count o out r true e f in
        (shown-numbers r (octet-letterless s coding r (sym e)) (text_reads s true count o (length out)) ∙ ap message_read_answer t.0, t.1)
    of-held r e l (Err q) f =
        let t = none_reads s coding count o out r q e l f in
        (told-refused q ∙ ap message_read_answer t.0, t.1)

    of-reading : (r : Reading) → Ok r ≡ octet_reads s coding → (b : Bool) → is_lettered s r ≡ b
        → (told_answer (read_by s count o (length out) (cond b (Ok (heard.Lettered (is_ucs2 r.alphabet))) (held_by (holds_text s r) r))) ≡ message_read_answer (read_answers s coding count o (length out)))
        × (kept_by s count o out (cond b (Ok (heard.Lettered (is_ucs2 r.alphabet))) (held_by (holds_text s r) r)) ≡ read_leaves s coding count o out)
    of-reading r e true l =
        let ucs2 : Bool = is_ucs2 r.alphabet in
        let t = lettered-reads s coding count o out r h e l in (
          page-numbers ucs2 count o (length out)
              ∙ ap (λ (x : Reading). message_read_answer (lettered_as x (lettered_reads ucs2 count o (length out)))) (sym (lettered-reading s coding r h e l))
              ∙ ap message_read_answer t.0,
          t.1,
        )
    of-reading r e false l = of-held r e l (holds_text s r) refl

    go : (d : Result Reading Refusal) → d ≡ octet_reads s coding
        → (told_answer (read_by s count o (length out) (heard_by s d)) ≡ message_read_answer (read_answers s coding count o (length out))) × (kept_by s count o out (heard_by s d) ≡ read_leaves s coding count o out)
    go (Ok r) e = of-reading r e (is_lettered s r) refl
    go (Err q) e =
        let t = read-refused s coding count o q out e in
        (told-refused q ∙ ap message_read_answer t.0, t.1)

pub gives-heard : (n : ℕ) (s : Service) → named_service n ≡ Some s → (coding count : ℕ) (o out : List ℕ) → coding < 256 → (a : Result Heard Refusal) → a ≡ heard_by s (octet_reads s coding)
    → (told_answer (read_by s count o (length out) a) ≡ read_message_gives n coding count o (length out)) × (kept_by s count o out a ≡ read_message_keeps n coding count o out)
unfolding read_message_gives read_message_keeps
gives-heard n s named coding count o out h a e =
    let w = heard-reads s coding count o out h in
    simp named (ap (λ (x : Result Heard Refusal). told_answer (read_by s count o (length out) x)) e ∙ w.0, ap (kept_by s count o out) e ∙ w.1)

-- a number that names no service is refused 8
pub gives-unnamed : (n coding count : ℕ) (o out : List ℕ) → named_service n ≡ None
    → (told_answer (refused_told Unwritable) ≡ read_message_gives n coding count o (length out)) × (out ≡ read_message_keeps n coding count o out)
unfolding read_message_gives read_message_keeps
gives-unnamed n coding count o out e = simp e (told-refused Unwritable, refl)
