-- Messages of several pages know no letters: a coding with the prefix mark is 3 also for a text of one page, whatever its letters, and a letter in
-- another coding is 8. The codings of clause 5 that hold no text are refused as one message of theirs is. The rules in front decide. Assumes nothing.
--   pages-prefixed   counting, building and writing pages refuse a writable reading with the prefix mark with 3
--   pages-stray      and a reading with a letter and no prefix mark with 8
--   pages-headed, pages-i1   and a writable reading with the header mark with 2 or 3, one of the alphabet I1 with 2
--   join-headed, join-i1     joining refuses blocks whose first has such a coding octet so
use mathlib.Core.Path.{◌≡◌, refl, ap, ◌∙◌}
use mathlib.Core.Bool.{true, false, cond}
use mathlib.Core.List.{List, [], ◌∷◌, ◌++◌, append_assoc}
use Prim.Native.Nat.{ℕ, ◌<◌, ◌/◌, ◌%◌}
use lib.Dec.{eqb, ltb}
use lib.ListN.{length}
use Rattle.words.specs.declared.Service.TheVariants.{Broadcast}
use Rattle.words.specs.declared.Refusal.{Refusal}
use Rattle.words.specs.declared.Refusal.TheVariants.{NoText, Prefixed, Unwritable, WrongPages, NoRoom}
use Rattle.words.specs.Judging.{Rule, when, refused, verdict}
use Rattle.words.proofs.Judging.{verdict-refused-first}
use Rattle.filling.specs.Numbered.{lacks}
use Rattle.fields.specs.declared.Alphabet.TheVariants.{I1}
use Rattle.coding.specs.declared.Reading.{Reading}
use Rattle.coding.specs.OctetWritten.{octet_writes}
use Rattle.coding.specs.LanguageLetters.{stray_letters, coding_rules, coding_writes}
use Rattle.coding.specs.Holding.{is_ucs2, text_rules}
use Rattle.coding.proofs.Headed.{headed, is_i1, header-judged, i1-judged}
use Rattle.demands.proofs.Prefixed.{judged-first, prefixed-first, stray-first}
use Rattle.demands.proofs.Headed.{broadcast-by-pages, header-written, i1-written}
use Rattle.pages.specs.Blocks.{block_size}
use Rattle.pages.specs.Joined.{header_at, joined_reading, page_rules, join_rules, join_answers}
use Rattle.pages.specs.Written.{blocks_as, reading_pages, size_rules, count_rules, count_answers, build_rules, built_as, pages_rules, pages_answers}
use Rattle.std.specs.Prelude.{Ok, Err}

module _ (r : Reading) (t : List ℕ) where
  -- each of the calls refuses with q
  pub record Refuse (q : Refusal) : Type 0 where
    pub count : count_answers r t ≡ Err q
    pub build : (sequence identifier k : ℕ) → (built_as sequence identifier r t k).answer ≡ Err q
    pub write : (sequence identifier room : ℕ) → pages_answers sequence identifier r t room ≡ Err q

  -- rules behind the count's
  behind : (x : List Rule) → count_rules r t ++ x ≡ coding_rules Broadcast r ++ (text_rules Broadcast r ++ (size_rules (is_ucs2 r.alphabet) t ++ x))
  unfolding count_rules
  behind x =
      append_assoc (coding_rules Broadcast r) (text_rules Broadcast r ++ size_rules (is_ucs2 r.alphabet) t) x
      ∙ ap (λ (l : List Rule). coding_rules Broadcast r ++ l) (append_assoc (text_rules Broadcast r) (size_rules (is_ucs2 r.alphabet) t) x)

  by_front : (q : Refusal) → ((rest : List Rule) → verdict (coding_rules Broadcast r ++ (text_rules Broadcast r ++ rest)) ≡ refused q) → Refuse q
  unfolding count_answers count_rules built_as build_rules pages_answers pages_rules
  by_front q f =
      record {
        count = simp (f (size_rules (is_ucs2 r.alphabet) t));
        build = λ sequence identifier k. simp (ap verdict (behind (when (lacks (reading_pages r t) k) WrongPages ∷ [])) ∙ f (size_rules (is_ucs2 r.alphabet) t ++ (when (lacks (reading_pages r t) k) WrongPages ∷ [])));
        write = λ sequence identifier room. simp (ap verdict (behind (when (ltb room (length (blocks_as sequence identifier r t))) NoRoom ∷ [])) ∙ f (size_rules (is_ucs2 r.alphabet) t ++ (when (ltb room (length (blocks_as sequence identifier r t))) NoRoom ∷ [])));
      }

  pub pages-prefixed : (o : ℕ) → r.prefix ≡ true → octet_writes Broadcast r ≡ Ok o → Refuse Prefixed
  pages-prefixed o p w = by_front Prefixed (prefixed-first Broadcast (λ k. refl) r p o w)

  pub pages-stray : stray_letters r ≡ true → Refuse Unwritable
  pages-stray e = by_front Unwritable (λ rest. stray-first Broadcast r e (text_rules Broadcast r ++ rest))

  pub pages-headed : (o : ℕ) → r.header ≡ true → coding_writes Broadcast r ≡ Ok o → Refuse (cond (eqb (o / 4) 0x25) NoText Prefixed)
  pages-headed o e w = by_front _ (judged-first Broadcast r o _ w (header-written Broadcast broadcast-by-pages r o w e))

  pub pages-i1 : (o : ℕ) → r.alphabet ≡ I1 → coding_writes Broadcast r ≡ Ok o → Refuse NoText
  pages-i1 o e w = by_front _ (judged-first Broadcast r o _ w (i1-written Broadcast broadcast-by-pages r o w e))

-- whole blocks, and one at least
module _ (o : List ℕ) (room : ℕ) (whole : length o % block_size ≡ 0) (some : eqb (length o) 0 ≡ false) (h : (header_at o 0).coding < 256) where
  join-judged : (q : Refusal) → verdict (text_rules Broadcast (joined_reading o)) ≡ refused q → join_answers o room ≡ Err q
  unfolding join_answers join_rules verdict
  join-judged q v =
      simp (whole, some, verdict-refused-first (text_rules Broadcast (joined_reading o)) (page_rules (is_ucs2 (joined_reading o).alphabet) o room) q v)

  pub join-headed : headed (header_at o 0).coding ≡ true → join_answers o room ≡ Err (cond (eqb ((header_at o 0).coding / 4) 0x25) NoText Prefixed)
  join-headed e = join-judged _ (header-judged (header_at o 0).coding h Broadcast e)

  pub join-i1 : is_i1 (header_at o 0).coding ≡ true → join_answers o room ≡ Err NoText
  join-i1 e = join-judged _ (i1-judged (header_at o 0).coding h Broadcast e)
