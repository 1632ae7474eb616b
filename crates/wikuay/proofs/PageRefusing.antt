-- Demand 1 of the exported calls with pages: a refusal carries one of the numbers that document 02 lists for its call, reports nothing, holds a block of
-- zeros where it holds one, and leaves the lent buffer as it came; every other answer is a success. A number that names nothing of a reading is 8.
-- Assumes nothing.
--   wikuay-count-pages-refuses, wikuay-build-page-refuses, wikuay-write-pages-refuses, wikuay-join-pages-refuses
use mathlib.Core.Path.{refl}
use mathlib.Core.List.{List, [], ◌∷◌}
use mathlib.Core.Logic.{inl, inr}
use Prim.Native.Nat.{ℕ}
use lib.ListN.{length, replicate}
use Rattle.words.specs.declared.Refusal.TheVariants.{Unwritable}
use Rattle.words.specs.Judging.{Verdict, refused, accepted, verdict, settle}
use Rattle.coding.specs.OctetWritten.{write_rules as alone_rules}
use Rattle.coding.specs.LanguageLetters.{coding_rules}
use Rattle.coding.specs.Holding.{text_rules}
use Rattle.names.specs.declared.ReadingNumbers.{ReadingNumbers}
use Rattle.names.specs.Names.{named_reading, under_reading}
use Rattle.pages.specs.Blocks.{block_size}
use Rattle.pages.specs.Written.{size_rules, count_rules, count_answers, build_rules, built_as, pages_rules, pages_answers, pages_leaves}
use Rattle.pages.specs.Joined.{page_rules, join_rules, join_answers, join_leaves}
use Rattle.page_answers.specs.declared.PagesAnswer.{PagesAnswer}
use Rattle.page_answers.specs.declared.PageAnswer.{PageAnswer}
use Rattle.page_answers.specs.declared.JoinAnswer.{JoinAnswer}
use Rattle.page_answers.specs.PageAnswers.{counted_answer, pages_refused_answer, pages_written_answer, built_answer, page_refused_answer, joined_answer, join_refused_answer}
use Rattle.wikuay.specs.PageCalls.{count_pages_gives, build_page_gives, write_pages_gives, write_pages_keeps, join_pages_gives, join_pages_keeps}
use Rattle.wikuay.specs.Refusing.{Judged}
use Rattle.wikuay.proofs.Refusing.{VerdictAmong, verdict-among, judged, judged-alone}
use Rattle.std.specs.Prelude.{Option, Ok, Err, Some, None}
use Rattle.coding.specs.declared.Reading.{Reading}

abbrev pages_number : PagesAnswer → ℕ
pages_number a = a.refusal

abbrev page_number : PageAnswer → ℕ
page_number a = a.refusal

abbrev join_number : JoinAnswer → ℕ
join_number a = a.refusal

pub wikuay-count-pages-refuses : (x : ReadingNumbers) (text : List ℕ)
    → Judged pages_number pages_refused_answer (8 ∷ 1 ∷ 2 ∷ 3 ∷ 6 ∷ 5 ∷ []) (count_pages_gives x text) [] []
unfolding count_pages_gives count_answers count_rules coding_rules alone_rules text_rules size_rules
wikuay-count-pages-refuses x text = of-reading (named_reading x)
  where
    of-reading : (v : Option Reading)
        → Judged pages_number pages_refused_answer (8 ∷ 1 ∷ 2 ∷ 3 ∷ 6 ∷ 5 ∷ []) (under_reading v (pages_refused_answer Unwritable) (λ r. counted_answer (count_answers r text))) [] []
    of-reading (Some r) =
        judged-alone pages_number pages_refused_answer (8 ∷ 1 ∷ 2 ∷ 3 ∷ 6 ∷ 5 ∷ []) (count_rules r text) refl counted_answer _ _ (λ q. refl) refl
    of-reading None = inr (Unwritable, (refl, (refl, refl)))

-- the answer and the block of a page are settled by one verdict
built : (numbers : List ℕ) (v : Verdict) → VerdictAmong numbers v → (n : ℕ) (block : List ℕ)
    → Judged page_number page_refused_answer numbers
    (built_answer (record { answer = settle v Err (Ok n); block = settle v (λ q. replicate block_size 0) block })) [] []
built numbers (refused q) k n block = inr (q, (refl, (k, refl)))
built numbers accepted k n block = inl refl

pub wikuay-build-page-refuses : (sequence identifier : ℕ) (x : ReadingNumbers) (text : List ℕ) (k : ℕ)
    → Judged page_number page_refused_answer (8 ∷ 1 ∷ 2 ∷ 3 ∷ 6 ∷ 5 ∷ 10 ∷ []) (build_page_gives sequence identifier x text k) [] []
unfolding build_page_gives built_as build_rules count_rules coding_rules alone_rules text_rules size_rules
wikuay-build-page-refuses sequence identifier x text k = of-reading (named_reading x)
  where
    of-reading : (v : Option Reading)
        → Judged page_number page_refused_answer (8 ∷ 1 ∷ 2 ∷ 3 ∷ 6 ∷ 5 ∷ 10 ∷ [])
        (under_reading v (page_refused_answer Unwritable) (λ r. built_answer (built_as sequence identifier r text k))) [] []
    of-reading (Some r) =
        built (8 ∷ 1 ∷ 2 ∷ 3 ∷ 6 ∷ 5 ∷ 10 ∷ []) (verdict (build_rules r text k)) (verdict-among (8 ∷ 1 ∷ 2 ∷ 3 ∷ 6 ∷ 5 ∷ 10 ∷ []) (build_rules r text k) refl) _ _
    of-reading None = inr (Unwritable, (refl, (refl, refl)))

pub wikuay-write-pages-refuses : (sequence identifier : ℕ) (x : ReadingNumbers) (text out : List ℕ)
    → Judged pages_number pages_refused_answer (8 ∷ 1 ∷ 2 ∷ 3 ∷ 6 ∷ 5 ∷ 7 ∷ []) (write_pages_gives sequence identifier x text (length out)) out
    (write_pages_keeps sequence identifier x text out)
unfolding write_pages_gives write_pages_keeps pages_answers pages_leaves pages_rules count_rules coding_rules alone_rules text_rules size_rules
wikuay-write-pages-refuses sequence identifier x text out = of-reading (named_reading x)
  where
    of-reading : (v : Option Reading)
        → Judged pages_number pages_refused_answer (8 ∷ 1 ∷ 2 ∷ 3 ∷ 6 ∷ 5 ∷ 7 ∷ [])
        (under_reading v (pages_refused_answer Unwritable) (λ r. pages_written_answer (pages_answers sequence identifier r text (length out)))) out
        (under_reading v out (λ r. pages_leaves sequence identifier r text out))
    of-reading (Some r) =
        judged pages_number pages_refused_answer (8 ∷ 1 ∷ 2 ∷ 3 ∷ 6 ∷ 5 ∷ 7 ∷ []) (pages_rules sequence identifier r text (length out)) refl pages_written_answer _ _
        (λ q. refl) refl out _
    of-reading None = inr (Unwritable, (refl, (refl, refl)))

pub wikuay-join-pages-refuses : (blocks out : List ℕ)
    → Judged join_number join_refused_answer (4 ∷ 10 ∷ 1 ∷ 2 ∷ 3 ∷ 7 ∷ []) (join_pages_gives blocks (length out)) out (join_pages_keeps blocks out)
unfolding join_pages_gives join_answers join_leaves join_rules text_rules page_rules
wikuay-join-pages-refuses blocks out =
    judged join_number join_refused_answer (4 ∷ 10 ∷ 1 ∷ 2 ∷ 3 ∷ 7 ∷ []) (join_rules blocks (length out)) refl joined_answer _ _ (λ q. refl) refl out _
