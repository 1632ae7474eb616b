-- Demand 1 of the exported calls: a refusal carries one of the numbers that document 01 lists for its call, reports nothing, and leaves the lent
-- buffer as it came; every other answer is a success. The number that names no service, or nothing of a reading, is 8.
-- Assumes nothing.
--   wikuay-read-coding-refuses, wikuay-write-coding-refuses, wikuay-holds-text-refuses, wikuay-pack-refuses, wikuay-unpack-refuses,
--   wikuay-text-to-septets-refuses, wikuay-septets-to-text-refuses, wikuay-read-message-refuses, wikuay-write-message-refuses
use mathlib.Core.Path.{◌≡◌, refl}
use mathlib.Core.Bool.{Bool, true, false, cond, ◌&&◌}
use mathlib.Core.List.{List, [], ◌∷◌, ◌++◌}
use mathlib.Core.Logic.{inl, inr}
use Prim.Native.Nat.{ℕ}
use lib.ListN.{length}
use Rattle.words.specs.declared.Service.{Service}
use Rattle.words.specs.declared.Service.TheVariants.{ShortMessage, Broadcast, Ussd, OldPage}
use Rattle.words.specs.declared.Refusal.{Refusal}
use Rattle.words.specs.declared.Refusal.TheVariants.{Unwritable}
use Rattle.words.specs.Refusals.{number_of}
use Rattle.words.specs.Judging.{Rule, when, Verdict, refused, accepted, verdict, settle}
use Rattle.lists.proofs.Tests.{and_left, and_right}
use Rattle.coding.specs.declared.Reading.{Reading}
use Rattle.coding.specs.OctetRead.{octet_rules, octet_reads, read_under}
use Rattle.coding.specs.OctetWritten.{octet_writes, write_rules as alone_rules}
use Rattle.coding.specs.LanguageLetters.{is_lettered, coding_rules}
use Rattle.coding.specs.Holding.{is_ucs2, holds_text, text_rules}
use Rattle.letters.specs.Writing.{septets_rules, septets_answers, septets_leaves}
use Rattle.letters.specs.Reading.{text_of, text_rules as septet_rules, text_answers, text_leaves}
use Rattle.stream.specs.SeptetCalls.{pack_rules, pack_answers, pack_leaves, unpack_rules, unpack_answers, unpack_leaves}
use Rattle.demands.specs.MessageRead.{text_length_rules, clear_rules, read_rules, read_answers, read_leaves}
use Rattle.demands.specs.MessageWritten.{text_size_rules, letter_rules, write_rules, write_answers, write_leaves}
use Rattle.lettered.specs.LetteredPage.{lettered_size_rules, lettered_read_rules}
use Rattle.answers.specs.declared.Answer.{Answer}
use Rattle.answers.specs.declared.ReadAnswer.{ReadAnswer}
use Rattle.names.specs.declared.ReadingNumbers.{ReadingNumbers}
use Rattle.words.specs.Services.{named_service, under_service}
use Rattle.names.specs.Names.{named_reading, under_reading}
use Rattle.answers.specs.Answers.{refused_answer, read_refused_answer, filled_answer, packed_answer, octet_written_answer, message_written_answer, octet_read_answer, held_answer, message_read_answer}
use Rattle.wikuay.specs.Calls.{read_coding_gives, write_coding_gives, holds_text_gives, pack_gives, pack_keeps, unpack_gives, unpack_keeps, text_to_septets_gives, text_to_septets_keeps, septets_to_text_gives, septets_to_text_keeps, read_message_gives, read_message_keeps, write_message_gives, write_message_keeps}
use Rattle.wikuay.specs.Refusing.{among, Judged}
use Rattle.std.specs.Prelude.{Option, Ok, Some, None}
use Rattle.coding.specs.declared.Held.TheVariants as held

-- ---- said once, of any rules

-- the refusals of the rules have these numbers
abbrev pub rules_among : List ℕ → List Rule → Bool
rules_among numbers [] = true
rules_among numbers (when t q ∷ rules) = among numbers (number_of q) && rules_among numbers rules

abbrev pub VerdictAmong : List ℕ → Verdict → Type 0
VerdictAmong numbers (refused q) = among numbers (number_of q) ≡ true
VerdictAmong numbers accepted = true ≡ true

pub verdict-among : (numbers : List ℕ) (rules : List Rule) → rules_among numbers rules ≡ true → VerdictAmong numbers (verdict rules)
unfolding verdict
verdict-among numbers [] h = refl
verdict-among numbers (when true q ∷ rules) h = and_left (among numbers (number_of q)) (rules_among numbers rules) h
verdict-among numbers (when false q ∷ rules) h = verdict-among numbers rules (and_right (among numbers (number_of q)) (rules_among numbers rules) h)

pub judged : {A B : Type 0} (number : A → ℕ) (tell : Refusal → A) (numbers : List ℕ) (rules : List Rule) → rules_among numbers rules ≡ true
    → (answer : B → A) (refuse : Refusal → B) (given : B) → ((q : Refusal) → answer (refuse q) ≡ tell q) → number (answer given) ≡ 0
    → (out x : List ℕ) → Judged number tell numbers (answer (settle (verdict rules) refuse given)) out (settle (verdict rules) (λ q. out) x)
judged number tell numbers rules h answer refuse given told zero out x = go (verdict rules) (verdict-among numbers rules h)
  where
    go : (v : Verdict) → VerdictAmong numbers v → Judged number tell numbers (answer (settle v refuse given)) out (settle v (λ q. out) x)
    go (refused q) k = inr (q, (told q, (k, refl)))
    go accepted k = inl zero

-- the same of a call that is lent no buffer
pub judged-alone : {A B : Type 0} (number : A → ℕ) (tell : Refusal → A) (numbers : List ℕ) (rules : List Rule) → rules_among numbers rules ≡ true
    → (answer : B → A) (refuse : Refusal → B) (given : B) → ((q : Refusal) → answer (refuse q) ≡ tell q) → number (answer given) ≡ 0
    → Judged number tell numbers (answer (settle (verdict rules) refuse given)) [] []
judged-alone number tell numbers rules h answer refuse given told zero = go (verdict rules) (verdict-among numbers rules h)
  where
    go : (v : Verdict) → VerdictAmong numbers v → Judged number tell numbers (answer (settle v refuse given)) [] []
    go (refused q) k = inr (q, (told q, (k, refl)))
    go accepted k = inl zero

abbrev answer_number : Answer → ℕ
answer_number a = a.refusal

abbrev read_number : ReadAnswer → ℕ
read_number a = a.refusal

-- ---- the calls without a lent buffer

pub wikuay-read-coding-refuses : (n coding : ℕ) → Judged read_number read_refused_answer (8 ∷ 2 ∷ []) (read_coding_gives n coding) [] []
unfolding read_coding_gives octet_reads octet_rules
wikuay-read-coding-refuses n coding = of-service (named_service n)
  where
    of : (s : Service) → rules_among (8 ∷ 2 ∷ []) (octet_rules s coding) ≡ true
    of ShortMessage = refl
    of Broadcast = refl
    of Ussd = refl
    of OldPage = refl

    of-service : (v : Option Service) → Judged read_number read_refused_answer (8 ∷ 2 ∷ []) (under_service v (read_refused_answer Unwritable) (λ s. octet_read_answer (octet_reads s coding))) [] []
    of-service (Some s) = judged-alone read_number read_refused_answer (8 ∷ 2 ∷ []) (octet_rules s coding) (of s) octet_read_answer _ _ (λ q. refl) refl
    of-service None = inr (Unwritable, (refl, (refl, refl)))

pub wikuay-write-coding-refuses : (n : ℕ) (x : ReadingNumbers) → Judged answer_number refused_answer (8 ∷ []) (write_coding_gives n x) [] []
unfolding write_coding_gives octet_writes alone_rules
wikuay-write-coding-refuses n x = of-service (named_service n)
  where
    of-reading : (s : Service) (v : Option Reading) → Judged answer_number refused_answer (8 ∷ []) (under_reading v (refused_answer Unwritable) (λ r. octet_written_answer (octet_writes s r))) [] []
    of-reading s (Some r) = judged-alone answer_number refused_answer (8 ∷ []) (alone_rules s r) refl octet_written_answer _ _ (λ q. refl) refl
    of-reading s None = inr (Unwritable, (refl, (refl, refl)))

    of-service : (v : Option Service)
        → Judged answer_number refused_answer (8 ∷ [])
        (under_service v (refused_answer Unwritable) (λ s. under_reading (named_reading x) (refused_answer Unwritable) (λ r. octet_written_answer (octet_writes s r)))) [] []
    of-service (Some s) = of-reading s (named_reading x)
    of-service None = inr (Unwritable, (refl, (refl, refl)))

pub wikuay-holds-text-refuses : (x : ReadingNumbers) → Judged read_number read_refused_answer (8 ∷ 1 ∷ 2 ∷ 3 ∷ []) (holds_text_gives x) [] []
unfolding holds_text_gives holds_text text_rules
wikuay-holds-text-refuses x = of-reading (named_reading x)
  where
    held-number : (b : Bool) → (held_answer (Ok (cond b held.Units held.Septets))).refusal ≡ 0
    held-number true = refl
    held-number false = refl

    of-reading : (v : Option Reading) → Judged read_number read_refused_answer (8 ∷ 1 ∷ 2 ∷ 3 ∷ []) (under_reading v (read_refused_answer Unwritable) (λ r. held_answer (holds_text ShortMessage r))) [] []
    of-reading (Some r) =
        judged-alone read_number read_refused_answer (8 ∷ 1 ∷ 2 ∷ 3 ∷ []) (text_rules ShortMessage r) refl held_answer _ _ (λ q. refl) (held-number (is_ucs2 r.alphabet))
    of-reading None = inr (Unwritable, (refl, (refl, refl)))

-- ---- packing and the alphabet

pub wikuay-pack-refuses : (n : ℕ) (septets out : List ℕ) → Judged answer_number refused_answer (8 ∷ 9 ∷ 5 ∷ 7 ∷ []) (pack_gives n septets (length out)) out (pack_keeps n septets out)
unfolding pack_gives pack_keeps pack_answers pack_leaves pack_rules
wikuay-pack-refuses n septets out = of-service (named_service n)
  where
    of-service : (v : Option Service)
        → Judged answer_number refused_answer (8 ∷ 9 ∷ 5 ∷ 7 ∷ []) (under_service v (refused_answer Unwritable) (λ s. packed_answer (pack_answers s septets (length out)))) out
        (under_service v out (λ s. pack_leaves s septets out))
    of-service (Some s) = judged answer_number refused_answer (8 ∷ 9 ∷ 5 ∷ 7 ∷ []) (pack_rules s septets (length out)) refl packed_answer _ _ (λ q. refl) refl out _
    of-service None = inr (Unwritable, (refl, (refl, refl)))

pub wikuay-unpack-refuses : (n : ℕ) (o : List ℕ) (count : ℕ) (out : List ℕ)
    → Judged answer_number refused_answer (8 ∷ 4 ∷ 7 ∷ []) (unpack_gives n o count (length out)) out (unpack_keeps n o count out)
unfolding unpack_gives unpack_keeps unpack_answers unpack_leaves unpack_rules
wikuay-unpack-refuses n o count out = of-service (named_service n)
  where
    of-service : (v : Option Service)
        → Judged answer_number refused_answer (8 ∷ 4 ∷ 7 ∷ []) (under_service v (refused_answer Unwritable) (λ s. filled_answer (unpack_answers s o count (length out)))) out
        (under_service v out (λ s. unpack_leaves s o count out))
    of-service (Some s) = judged answer_number refused_answer (8 ∷ 4 ∷ 7 ∷ []) (unpack_rules s o count (length out)) refl filled_answer _ _ (λ q. refl) refl out _
    of-service None = inr (Unwritable, (refl, (refl, refl)))

pub wikuay-text-to-septets-refuses : (text out : List ℕ) → Judged answer_number refused_answer (6 ∷ 7 ∷ []) (text_to_septets_gives text (length out)) out (text_to_septets_keeps text out)
unfolding text_to_septets_gives septets_answers septets_leaves septets_rules
wikuay-text-to-septets-refuses text out = judged answer_number refused_answer (6 ∷ 7 ∷ []) (septets_rules text (length out)) refl filled_answer _ _ (λ q. refl) refl out _

pub wikuay-septets-to-text-refuses : (septets out : List ℕ)
    → Judged answer_number refused_answer (9 ∷ 7 ∷ []) (septets_to_text_gives septets (length out)) out (septets_to_text_keeps septets out)
unfolding septets_to_text_gives text_answers text_leaves septet_rules
wikuay-septets-to-text-refuses septets out =
    judged answer_number refused_answer (9 ∷ 7 ∷ []) (septet_rules septets (text_of septets) (length out)) refl filled_answer _ _ (λ q. refl) refl out _

-- ---- whole messages

pub wikuay-read-message-refuses : (n coding count : ℕ) (o out : List ℕ)
    → Judged read_number read_refused_answer (8 ∷ 1 ∷ 2 ∷ 3 ∷ 4 ∷ 11 ∷ 7 ∷ []) (read_message_gives n coding count o (length out)) out (read_message_keeps n coding count o out)
unfolding read_message_gives read_message_keeps read_answers read_leaves read_rules octet_rules text_rules text_length_rules clear_rules lettered_read_rules
wikuay-read-message-refuses n coding count o out = of-service (named_service n)
  where
    of : (s : Service) → rules_among (8 ∷ 1 ∷ 2 ∷ 3 ∷ 4 ∷ 11 ∷ 7 ∷ []) (read_rules s coding count o (length out)) ≡ true
    of ShortMessage = refl
    of Broadcast = page (read_under Broadcast coding).prefix
      where
        r : Reading
        r = read_under Broadcast coding

        page : (b : Bool) → rules_among (8 ∷ 1 ∷ 2 ∷ 3 ∷ 4 ∷ 11 ∷ 7 ∷ []) (octet_rules Broadcast coding ++ (cond b (clear_rules r) (text_rules Broadcast r) ++ cond b (lettered_read_rules (is_ucs2 r.alphabet) count o (length out)) (text_length_rules Broadcast (is_ucs2 r.alphabet) count o (length out)))) ≡ true
        page true = refl
        page false = refl
    of Ussd = refl
    of OldPage = refl

    of-service : (v : Option Service)
        → Judged read_number read_refused_answer (8 ∷ 1 ∷ 2 ∷ 3 ∷ 4 ∷ 11 ∷ 7 ∷ []) (under_service v (read_refused_answer Unwritable) (λ s. message_read_answer (read_answers s coding count o (length out)))) out
        (under_service v out (λ s. read_leaves s coding count o out))
    of-service (Some s) =
        judged read_number read_refused_answer (8 ∷ 1 ∷ 2 ∷ 3 ∷ 4 ∷ 11 ∷ 7 ∷ []) (read_rules s coding count o (length out)) (of s) message_read_answer _ _ (λ q. refl) refl out _
    of-service None = inr (Unwritable, (refl, (refl, refl)))

pub wikuay-write-message-refuses : (n : ℕ) (x : ReadingNumbers) (text out : List ℕ)
    → Judged answer_number refused_answer (8 ∷ 1 ∷ 2 ∷ 3 ∷ 11 ∷ 6 ∷ 5 ∷ 7 ∷ []) (write_message_gives n x text (length out)) out (write_message_keeps n x text out)
unfolding write_message_gives write_message_keeps write_answers write_leaves write_rules coding_rules alone_rules text_rules text_size_rules letter_rules lettered_size_rules
wikuay-write-message-refuses n x text out = of-service (named_service n)
  where
    of : (s : Service) (r : Reading) (b : Bool) → rules_among (8 ∷ 1 ∷ 2 ∷ 3 ∷ 11 ∷ 6 ∷ 5 ∷ 7 ∷ []) (coding_rules s r ++ (cond b (letter_rules r) (text_rules s r) ++ cond b (lettered_size_rules (is_ucs2 r.alphabet) r.letters text (length out)) (text_size_rules s (is_ucs2 r.alphabet) text (length out)))) ≡ true
    of s r true = refl
    of s r false = refl

    of-reading : (s : Service) (v : Option Reading)
        → Judged answer_number refused_answer (8 ∷ 1 ∷ 2 ∷ 3 ∷ 11 ∷ 6 ∷ 5 ∷ 7 ∷ [])
        (under_reading v (refused_answer Unwritable) (λ r. message_written_answer (write_answers s r text (length out)))) out
        (under_reading v out (λ r. write_leaves s r text out))
    of-reading s (Some r) =
        judged answer_number refused_answer (8 ∷ 1 ∷ 2 ∷ 3 ∷ 11 ∷ 6 ∷ 5 ∷ 7 ∷ []) (write_rules s r text (length out)) (of s r (is_lettered s r)) message_written_answer _ _ (λ q. refl) refl out _
    of-reading s None = inr (Unwritable, (refl, (refl, refl)))

    of-service : (v : Option Service)
        → Judged answer_number refused_answer (8 ∷ 1 ∷ 2 ∷ 3 ∷ 11 ∷ 6 ∷ 5 ∷ 7 ∷ [])
        (under_service v (refused_answer Unwritable) (λ s. under_reading (named_reading x) (refused_answer Unwritable) (λ r. message_written_answer (write_answers s r text (length out))))) out
        (under_service v out (λ s. under_reading (named_reading x) out (λ r. write_leaves s r text out)))
    of-service (Some s) = of-reading s (named_reading x)
    of-service None = inr (Unwritable, (refl, (refl, refl)))
