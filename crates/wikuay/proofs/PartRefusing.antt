-- Demand 1 of the exported calls for long short messages: a refusal carries one of the numbers that document 02 lists for its call, reports nothing, and leaves
-- the lent buffers as they came; every other answer is a success. A number that names nothing of a reading, and a mark that is neither 0 nor 1, are 8. No coding
-- octet of a short message has a mark that gives 3.
-- Assumes nothing.
--   wikuay-read-part-refuses, wikuay-count-parts-refuses, wikuay-write-part-refuses, wikuay-write-parts-refuses, wikuay-join-parts-refuses
--   wikuay-write-parts-sizes-refuses: the same of the second buffer of write_parts
use mathlib.Core.Path.{◌≡◌, refl}
use mathlib.Core.Bool.{Bool, true, false, cond, ◌||◌}
use mathlib.Core.List.{List, [], ◌∷◌}
use mathlib.Core.Logic.{inl, inr}
use Prim.Native.Nat.{ℕ, ◌<◌}
use lib.Dec.{ltb, leb, eqb}
use lib.ListN.{length}
use Rattle.words.specs.declared.Service.TheVariants.{ShortMessage}
use Rattle.words.specs.declared.Refusal.{Refusal}
use Rattle.words.specs.declared.Refusal.TheVariants.{Compressed, NoText, Prefixed, WrongLength, TooLong, Unlisted, NoRoom, Unwritable, NoSeptet, WrongPages, WrongLetters, WrongHeader, NoTable, IllFormed}
use Rattle.words.specs.Judging.{Rule, when, Verdict, refused, accepted, verdict, settle}
use Rattle.words.proofs.Judging.{verdict-refused-first}
use Rattle.words.proofs.Rules.{gives}
use Rattle.coding.specs.declared.Reading.{Reading}
use Rattle.coding.specs.OctetRead.{read_under}
use Rattle.coding.specs.OctetWritten.{write_rules as alone_rules}
use Rattle.coding.specs.LanguageLetters.{coding_rules}
use Rattle.coding.specs.Holding.{is_ucs2, text_rules}
use Rattle.names.specs.declared.ReadingNumbers.{ReadingNumbers}
use Rattle.names.specs.Names.{named_reading, under_reading}
use Rattle.filling.specs.Numbered.{lacks}
use Rattle.parted.specs.Written.{reading_parts, octets_as, octets_of_all, sizes_of_all, size_rules, count_rules, count_answers, part_rules, part_answers, part_leaves, all_rules, all_answers, all_leaves, sizes_leaves}
use Rattle.parted.specs.Read.{behind_rules, part_read_rules, part_reads, part_read_leaves}
use Rattle.parted.specs.Joined.{parts_rules, join_rules, join_answers, join_leaves}
use Rattle.parted.proofs.Refusing.{in-front, refused-settles, count-never-3, read-never-3}
use Rattle.part_answers.specs.declared.PartsAnswer.{PartsAnswer}
use Rattle.part_answers.specs.declared.PartAnswer.{PartAnswer}
use Rattle.part_answers.specs.declared.PartsJoinAnswer.{PartsJoinAnswer}
use Rattle.part_answers.specs.PartAnswers.{counted_answer, part_written_answer, parts_written_answer, parts_refused_answer, part_read_answer, part_refused_answer, parts_joined_answer, parts_join_refused_answer}
use Rattle.wikuay.specs.PartCalls.{read_part_gives, read_part_keeps, count_parts_gives, write_part_gives, write_part_keeps, write_parts_gives, write_parts_keeps, write_parts_lists, join_parts_gives, join_parts_keeps}
use Rattle.wikuay.specs.Refusing.{Judged}
use Rattle.wikuay.proofs.Refusing.{rules_among, VerdictAmong, verdict-among}
use Rattle.std.specs.Prelude.{Option, Ok, Err, Some, None}

-- ---- 3 does not come

without-3 : (numbers : List ℕ) (v : Verdict) → VerdictAmong (3 ∷ numbers) v → (v ≡ refused Prefixed → ⊥) → VerdictAmong numbers v
without-3 numbers accepted k never = refl
without-3 numbers (refused Compressed) k never = k
without-3 numbers (refused NoText) k never = k
without-3 numbers (refused Prefixed) k never = absurd (never refl)
without-3 numbers (refused WrongLength) k never = k
without-3 numbers (refused TooLong) k never = k
without-3 numbers (refused (Unlisted unit)) k never = k
without-3 numbers (refused NoRoom) k never = k
without-3 numbers (refused Unwritable) k never = k
without-3 numbers (refused (NoSeptet septet)) k never = k
without-3 numbers (refused WrongPages) k never = k
without-3 numbers (refused WrongLetters) k never = k
without-3 numbers (refused WrongHeader) k never = k
without-3 numbers (refused NoTable) k never = k
without-3 numbers (refused (IllFormed place)) k never = k

-- a call whose rules have 3 among them, which does not come; `leaves` is what a verdict leaves in a lent buffer
judged : {A B : Type 0} (number : A → ℕ) (tell : Refusal → A) (numbers : List ℕ) (rules : List Rule) → rules_among (3 ∷ numbers) rules ≡ true → (verdict rules ≡ refused Prefixed → ⊥)
    → (answer : B → A) (refuse : Refusal → B) (given : B) → ((q : Refusal) → answer (refuse q) ≡ tell q) → number (answer given) ≡ 0
    → (out : List ℕ) (leaves : Verdict → List ℕ) → ((q : Refusal) → leaves (refused q) ≡ out)
    → Judged number tell numbers (answer (settle (verdict rules) refuse given)) out (leaves (verdict rules))
judged number tell numbers rules h never answer refuse given told zero out leaves left =
    go (verdict rules) (without-3 numbers (verdict rules) (verdict-among (3 ∷ numbers) rules h) never)
  where
    go : (v : Verdict) → VerdictAmong numbers v → Judged number tell numbers (answer (settle v refuse given)) out (leaves v)
    go (refused q) k = inr (q, (told q, (k, left q)))
    go accepted k = inl zero

-- of a buffer that is lent
judged-lent : {A B : Type 0} (number : A → ℕ) (tell : Refusal → A) (numbers : List ℕ) (rules : List Rule) → rules_among (3 ∷ numbers) rules ≡ true → (verdict rules ≡ refused Prefixed → ⊥)
    → (answer : B → A) (refuse : Refusal → B) (given : B) → ((q : Refusal) → answer (refuse q) ≡ tell q) → number (answer given) ≡ 0
    → (out x : List ℕ) → Judged number tell numbers (answer (settle (verdict rules) refuse given)) out (settle (verdict rules) (λ q. out) x)
judged-lent number tell numbers rules h never answer refuse given told zero out x =
    judged number tell numbers rules h never answer refuse given told zero out (λ v. settle v (λ q. out) x) (λ q. refl)

counting : (r : Reading) (t : List ℕ) → verdict (count_rules r t) ≡ refused Prefixed → ⊥
unfolding count_answers
counting r t e = count-never-3 r t (refused-settles (verdict (count_rules r t)) Err (Ok (reading_parts r t)) Prefixed e)

reading-text : (coding : ℕ) → coding < 256 → verdict (text_rules ShortMessage (read_under ShortMessage coding)) ≡ refused Prefixed → ⊥
unfolding part_reads part_read_rules
reading-text coding small e =
    let r : Reading = read_under ShortMessage coding in
    read-never-3 coding false 0 [] 0 small
    (refused-settles (verdict (part_read_rules r false 0 [] 0)) Err _ Prefixed
    (verdict-refused-first (text_rules ShortMessage r) (behind_rules (is_ucs2 r.alphabet) false 0 [] 0) Prefixed e))

abbrev parts_number : PartsAnswer → ℕ
parts_number a = a.refusal

abbrev part_number : PartAnswer → ℕ
part_number a = a.refusal

abbrev join_number : PartsJoinAnswer → ℕ
join_number a = a.refusal

-- ---- reading

pub wikuay-read-part-refuses : (coding count mark : ℕ) (o out : List ℕ) → coding < 256
    → Judged part_number part_refused_answer (8 ∷ 1 ∷ 2 ∷ 4 ∷ 12 ∷ 7 ∷ []) (read_part_gives coding count mark o (length out)) out (read_part_keeps coding count mark o out)
unfolding read_part_gives read_part_keeps part_reads part_read_leaves part_read_rules text_rules behind_rules gives
wikuay-read-part-refuses coding count mark o out small = of-mark (leb 2 mark)
  where
    r : Reading
    r = read_under ShortMessage coding

    of-mark : (b : Bool)
        → Judged part_number part_refused_answer (8 ∷ 1 ∷ 2 ∷ 4 ∷ 12 ∷ 7 ∷ []) (cond b (part_refused_answer Unwritable) (part_read_answer (part_reads coding (eqb mark 1) count o (length out)))) out
        (cond b out (part_read_leaves coding (eqb mark 1) count o out))
    of-mark true = inr (Unwritable, (refl, (refl, refl)))
    of-mark false =
        judged-lent part_number part_refused_answer (8 ∷ 1 ∷ 2 ∷ 4 ∷ 12 ∷ 7 ∷ []) (part_read_rules r (eqb mark 1) count o (length out)) refl
        (λ e. reading-text coding small (in-front (text_rules ShortMessage r) (behind_rules (is_ucs2 r.alphabet) (eqb mark 1) count o (length out)) Prefixed refl e))
        part_read_answer _ _ (λ q. refl) refl out _

-- ---- counting and writing

pub wikuay-count-parts-refuses : (x : ReadingNumbers) (text : List ℕ)
    → Judged parts_number parts_refused_answer (8 ∷ 1 ∷ 2 ∷ 6 ∷ 5 ∷ []) (count_parts_gives x text) [] []
unfolding count_parts_gives count_answers count_rules coding_rules alone_rules text_rules size_rules
wikuay-count-parts-refuses x text = of-reading (named_reading x)
  where
    of-reading : (v : Option Reading)
        → Judged parts_number parts_refused_answer (8 ∷ 1 ∷ 2 ∷ 6 ∷ 5 ∷ []) (under_reading v (parts_refused_answer Unwritable) (λ r. counted_answer (count_answers r text))) [] []
    of-reading (Some r) =
        judged parts_number parts_refused_answer (8 ∷ 1 ∷ 2 ∷ 6 ∷ 5 ∷ []) (count_rules r text) refl (counting r text) counted_answer _ _ (λ q. refl) refl [] (λ v. []) (λ q. refl)
    of-reading None = inr (Unwritable, (refl, (refl, refl)))

pub wikuay-write-part-refuses : (x : ReadingNumbers) (reference : ℕ) (text : List ℕ) (k : ℕ) (out : List ℕ)
    → Judged parts_number parts_refused_answer (8 ∷ 1 ∷ 2 ∷ 6 ∷ 5 ∷ 10 ∷ 7 ∷ []) (write_part_gives x reference text k (length out)) out (write_part_keeps x reference text k out)
unfolding write_part_gives write_part_keeps part_answers part_leaves part_rules count_rules coding_rules alone_rules text_rules size_rules gives
wikuay-write-part-refuses x reference text k out = of-reading (named_reading x)
  where
    of-reading : (v : Option Reading)
        → Judged parts_number parts_refused_answer (8 ∷ 1 ∷ 2 ∷ 6 ∷ 5 ∷ 10 ∷ 7 ∷ [])
        (under_reading v (parts_refused_answer Unwritable) (λ r. part_written_answer (part_answers r reference text k (length out)))) out
        (under_reading v out (λ r. part_leaves r reference text k out))
    of-reading (Some r) =
        judged-lent parts_number parts_refused_answer (8 ∷ 1 ∷ 2 ∷ 6 ∷ 5 ∷ 10 ∷ 7 ∷ []) (part_rules r reference text k (length out)) refl
        (λ e. counting r text (in-front (count_rules r text) (when (lacks (reading_parts r text) k) WrongPages ∷ when (ltb (length out) (length (octets_as r reference text k))) NoRoom ∷ []) Prefixed refl e))
        part_written_answer _ _ (λ q. refl) refl out _
    of-reading None = inr (Unwritable, (refl, (refl, refl)))

-- the second rule of write_parts is of both buffers
writing : (r : Reading) (reference : ℕ) (text : List ℕ) (room list : ℕ) → verdict (all_rules r reference text room list) ≡ refused Prefixed → ⊥
unfolding all_rules gives
writing r reference text room list e =
    counting r text
    (in-front (count_rules r text) (when (ltb room (length (octets_of_all r reference text)) || ltb list (length (sizes_of_all r reference text))) NoRoom ∷ []) Prefixed refl e)

module _ (x : ReadingNumbers) (reference : ℕ) (text out sizes : List ℕ) where
  pub wikuay-write-parts-refuses : Judged parts_number parts_refused_answer (8 ∷ 1 ∷ 2 ∷ 6 ∷ 5 ∷ 7 ∷ []) (write_parts_gives x reference text (length out) (length sizes)) out
      (write_parts_keeps x reference text (length sizes) out)
  unfolding write_parts_gives write_parts_keeps all_answers all_leaves all_rules count_rules coding_rules alone_rules text_rules size_rules
  wikuay-write-parts-refuses = of-reading (named_reading x)
    where
      of-reading : (v : Option Reading)
          → Judged parts_number parts_refused_answer (8 ∷ 1 ∷ 2 ∷ 6 ∷ 5 ∷ 7 ∷ [])
          (under_reading v (parts_refused_answer Unwritable) (λ r. parts_written_answer (all_answers r reference text (length out) (length sizes)))) out
          (under_reading v out (λ r. all_leaves r reference text (length sizes) out))
      of-reading (Some r) =
          judged-lent parts_number parts_refused_answer (8 ∷ 1 ∷ 2 ∷ 6 ∷ 5 ∷ 7 ∷ []) (all_rules r reference text (length out) (length sizes)) refl
          (writing r reference text (length out) (length sizes)) parts_written_answer _ _ (λ q. refl) refl out _
      of-reading None = inr (Unwritable, (refl, (refl, refl)))

  pub wikuay-write-parts-sizes-refuses : Judged parts_number parts_refused_answer (8 ∷ 1 ∷ 2 ∷ 6 ∷ 5 ∷ 7 ∷ []) (write_parts_gives x reference text (length out) (length sizes)) sizes
      (write_parts_lists x reference text (length out) sizes)
  unfolding write_parts_gives write_parts_lists all_answers sizes_leaves all_rules count_rules coding_rules alone_rules text_rules size_rules
  wikuay-write-parts-sizes-refuses = of-reading (named_reading x)
    where
      of-reading : (v : Option Reading)
          → Judged parts_number parts_refused_answer (8 ∷ 1 ∷ 2 ∷ 6 ∷ 5 ∷ 7 ∷ [])
          (under_reading v (parts_refused_answer Unwritable) (λ r. parts_written_answer (all_answers r reference text (length out) (length sizes)))) sizes
          (under_reading v sizes (λ r. sizes_leaves r reference text (length out) sizes))
      of-reading (Some r) =
          judged-lent parts_number parts_refused_answer (8 ∷ 1 ∷ 2 ∷ 6 ∷ 5 ∷ 7 ∷ []) (all_rules r reference text (length out) (length sizes)) refl
          (writing r reference text (length out) (length sizes)) parts_written_answer _ _ (λ q. refl) refl sizes _
      of-reading None = inr (Unwritable, (refl, (refl, refl)))

-- ---- joining

pub wikuay-join-parts-refuses : (coding : ℕ) (counts o out : List ℕ) → coding < 256
    → Judged join_number parts_join_refused_answer (1 ∷ 2 ∷ 4 ∷ 12 ∷ 10 ∷ 7 ∷ []) (join_parts_gives coding counts o (length out)) out (join_parts_keeps coding counts o out)
unfolding join_parts_gives join_answers join_leaves join_rules text_rules parts_rules gives
wikuay-join-parts-refuses coding counts o out small =
    let r : Reading = read_under ShortMessage coding in
    judged-lent join_number parts_join_refused_answer (1 ∷ 2 ∷ 4 ∷ 12 ∷ 10 ∷ 7 ∷ []) (join_rules r counts o (length out)) refl
    (λ e. reading-text coding small (in-front (text_rules ShortMessage r) (parts_rules (is_ucs2 r.alphabet) counts o (length out)) Prefixed refl e))
    parts_joined_answer _ _ (λ q. refl) refl out _
