-- Each call with pages accepts exactly where no rule of its list refuses, and then answers with what the definitions give; the first rule that
-- applies is the refusal, so that each theorem takes the list apart rule by rule.
-- Assumes nothing.
--   count-accepts, count-accepted   count_pages accepts exactly where the text is PagesWritable
--   build-accepts, build-accepted   build_page, exactly where page k is PageBuildable
--   write-accepts, write-accepted   write_pages, exactly where the pages are PagesStorable
--   built-of                        what build_page answers, as C gets it
--   join-accepts, join-accepted     join_pages, exactly where the blocks are PagesJoinable
--   count-verdict, build-verdict, write-verdict, join-verdict   the verdict that each answer tells
--   coding-back          the coding octet that is written reads as the reading
--   blocks-as-length     all pages take 88 octets each
use Rattle.words.proofs.Rules.{verdict_of}
use mathlib.Core.Path.{◌≡◌, refl, ap, ◌∙◌, sym, subst}
use mathlib.Core.Bool.{not}
use mathlib.Core.List.{List, [], ◌∷◌, ◌++◌}
use Prim.Native.Nat.{ℕ, ◌*◌, ◌%◌, ◌≤◌, ◌<◌}
use native.Mathlib.Omega.{arith}
use lib.Dec.{ltb, eqb}
use lib.ListN.{length, replicate}
use borrow.Author.Tests.{le-ltb, ltb-false, eq-eqb, ne_eqb, eqb-true, eqb-false, not-false}
use Rattle.words.specs.declared.Service.TheVariants.{Broadcast}
use Rattle.words.specs.declared.Refusal.TheVariants.{WrongLength, TooLong, Unlisted, NoRoom, WrongPages}
use Rattle.lists.specs.Lists.{laid}
use Rattle.filling.specs.Numbered.{lacks}
use Rattle.filling.proofs.Placing.{lacks-none, none-lacks}
use Rattle.words.specs.Judging.{when, Verdict, refused, accepted, verdict, settle}
use Rattle.words.proofs.Judging.{accepted-rule, accepted-parts, accepted-both, settle-told, settle-given}
use Rattle.coding.specs.declared.Reading.{Reading}
use Rattle.coding.specs.OctetRead.{read_under}
use Rattle.coding.specs.OctetWritten.{smallest}
use Rattle.coding.specs.LanguageLetters.{coding_rules, coding_writes}
use Rattle.coding.specs.Holding.{is_ucs2, text_rules}
use Rattle.coding.proofs.TextOctet.{coding-written, coding-read, coding-complete}
use Rattle.coding.proofs.Theorems.{settled}
use Rattle.letters.specs.Writing.{first_unlisted}
use Rattle.demands.specs.MessageWritten.{not_codable}
use Rattle.demands.proofs.Accepting.{text-accepts}
use Rattle.coding.proofs.Prefixed.{read-given}
use Rattle.demands.proofs.Steps.{text-accepted, coding-verdict}
use Rattle.pages.specs.declared.Page.{Page}
use Rattle.pages.specs.declared.PagesWritten.{PagesWritten}
use Rattle.pages.specs.Blocks.{block_size}
use Rattle.pages.specs.declared.Joined.{Joined}
use Rattle.pages.specs.Parts.{most_pages}
use Rattle.pages.specs.Written.{reading_pages, reading_content, block_as, blocks_as, size_rules, count_rules, count_answers, build_rules, build_answers, built_of, built_as, pages_rules, pages_answers, pages_leaves}
use Rattle.pages.specs.Joined.{header_at, total_at, wrong_pages, joined_text, joined_reading, page_rules, join_rules, join_answers, join_leaves}
use Rattle.pages.specs.Messages.{PagesWritable, PageBuildable, PagesStorable, PagesJoinable}
use Rattle.pages.proofs.Blocks.{blocks-length}
use Rattle.std.specs.Prelude.{Result, Ok, Err}
use Rattle.words.specs.declared.Refusal.{Refusal}
use Rattle.pages.specs.Successes.{ok_joined}
use Rattle.pages.specs.Successes.{ok_page, ok_pages_written}

-- ---- the verdict that an answer tells

pub count-verdict : (r : Reading) (t : List ℕ) (a : Result ℕ Refusal) → a ≡ count_answers r t → verdict (count_rules r t) ≡ verdict_of a
unfolding count_answers
count-verdict r t a e = settle-told verdict_of Err (Ok (reading_pages r t)) (λ q. refl) refl (verdict (count_rules r t)) a e

pub build-verdict : (sequence identifier : ℕ) (r : Reading) (t : List ℕ) (k : ℕ) (a : Result ℕ Refusal) → a ≡ (built_as sequence identifier r t k).answer → verdict (build_rules r t k) ≡ verdict_of a
unfolding built_as
build-verdict sequence identifier r t k a e = settle-told verdict_of Err (Ok (reading_pages r t)) (λ q. refl) refl (verdict (build_rules r t k)) a e

pub write-verdict : (sequence identifier : ℕ) (r : Reading) (t : List ℕ) (room : ℕ) (a : Result PagesWritten Refusal) → a ≡ pages_answers sequence identifier r t room → verdict (pages_rules sequence identifier r t room) ≡ verdict_of a
unfolding pages_answers
write-verdict sequence identifier r t room a e =
    settle-told verdict_of Err (ok_pages_written (length (blocks_as sequence identifier r t)) (reading_pages r t)) (λ q. refl) refl (verdict (pages_rules sequence identifier r t room)) a e

pub join-verdict : (o : List ℕ) (room : ℕ) (a : Result Joined Refusal) → a ≡ join_answers o room → verdict (join_rules o room) ≡ verdict_of a
unfolding join_answers
join-verdict o room a e =
    settle-told verdict_of Err (ok_joined (length (joined_text (is_ucs2 (joined_reading o).alphabet) o)) (joined_reading o) (header_at o 0).sequence (header_at o 0).identifier (total_at o 0)) (λ q. refl) refl (verdict (join_rules o room)) a e

-- ---- counting

-- the coding octet that is written reads as the reading
pub coding-back : (r : Reading) (t : List ℕ) → PagesWritable r t → (smallest Broadcast r < 256) × (read_under Broadcast (smallest Broadcast r) ≡ r)
coding-back r t w =
    let k = coding-complete Broadcast r w.octet.0 refl w.plain w.octet.1.0 w.octet.1.1 in
    let s = settled Broadcast r k.0 (coding-written Broadcast r k.0 k.1).1 in
    (subst (λ (o : ℕ). o < 256) (sym s.first) s.within, ap (read_under Broadcast) s.first ∙ read-given Broadcast k.0 r (sym (coding-read Broadcast r k.0 w.holds.unmarked k.1)))

module _ (r : Reading) (t : List ℕ) where
  size-accepts : PagesWritable r t → verdict (size_rules (is_ucs2 r.alphabet) t) ≡ accepted
  unfolding size_rules verdict
  size-accepts w = simp (w.codable, le-ltb _ _ w.sized)

  rules-accept : PagesWritable r t → verdict (count_rules r t) ≡ accepted
  unfolding count_rules
  rules-accept w =
      let k = coding-complete Broadcast r w.octet.0 refl w.plain w.octet.1.0 w.octet.1.1 in
      accepted-both (coding_rules Broadcast r) (text_rules Broadcast r ++ size_rules (is_ucs2 r.alphabet) t) (coding-verdict Broadcast r (Ok k.0) (sym k.1))
      (accepted-both (text_rules Broadcast r) (size_rules (is_ucs2 r.alphabet) t) (text-accepts Broadcast r w.holds) (size-accepts w))

  rules-accepted : verdict (count_rules r t) ≡ accepted → PagesWritable r t
  unfolding count_rules size_rules coding_writes
  rules-accepted e =
      let v = accepted-parts (coding_rules Broadcast r) (text_rules Broadcast r ++ size_rules (is_ucs2 r.alphabet) t) e in
      let w = accepted-parts (text_rules Broadcast r) (size_rules (is_ucs2 r.alphabet) t) v.1 in
      let o : coding_writes Broadcast r ≡ Ok (smallest Broadcast r) = settle-given (verdict (coding_rules Broadcast r)) Err (Ok (smallest Broadcast r)) v.0 in
      let s = settled Broadcast r (smallest Broadcast r) (coding-written Broadcast r (smallest Broadcast r) o).1 in
      let h = text-accepted Broadcast r w.0 in
      let six = accepted-rule (not_codable (is_ucs2 r.alphabet) t) (Unlisted (first_unlisted t)) (when (ltb most_pages (reading_pages r t)) TooLong ∷ []) w.1 in
      let five = accepted-rule (ltb most_pages (reading_pages r t)) TooLong [] six.1 in
      record {
        plain = s.plain;
        octet = (smallest Broadcast r, (s.within, coding-read Broadcast r (smallest Broadcast r) h.unmarked o));
        holds = h;
        codable = six.0;
        sized = ltb-false _ _ five.0;
      }

  pub count-accepts : PagesWritable r t → count_answers r t ≡ Ok (reading_pages r t)
  unfolding count_answers
  count-accepts w = settle-given _ Err _ (rules-accept w)

  pub count-accepted : (n : ℕ) → count_answers r t ≡ Ok n → PagesWritable r t
  count-accepted n e = rules-accepted (count-verdict r t (Ok n) (sym e))

-- ---- building one page

-- as C gets it
pub built-of : (sequence identifier : ℕ) (r : Reading) (t : List ℕ) (k : ℕ) (a : Result Page Refusal) → a ≡ build_answers sequence identifier r t k → built_of a ≡ built_as sequence identifier r t k
unfolding build_answers built_as
built-of sequence identifier r t k a e = ap built_of e ∙ go (verdict (build_rules r t k))
  where
    go : (v : Verdict) → built_of (settle v Err (ok_page (block_as sequence identifier r t k) (reading_pages r t)))
        ≡ record { answer = settle v Err (Ok (reading_pages r t)); block = settle v (λ q. replicate block_size 0) (block_as sequence identifier r t k) }
    go accepted = refl
    go (refused q) = refl

module _ (sequence identifier : ℕ) (r : Reading) (t : List ℕ) (k : ℕ) where
  build-rules-accept : PageBuildable r t k → verdict (build_rules r t k) ≡ accepted
  unfolding build_rules verdict
  build-rules-accept w =
      accepted-both (count_rules r t) (when (lacks (reading_pages r t) k) WrongPages ∷ []) (rules-accept r t w.writable) (simp (lacks-none (reading_pages r t) k w.some w.most))

  pub build-accepts : PageBuildable r t k
      → ((built_as sequence identifier r t k).answer ≡ Ok (reading_pages r t)) × ((built_as sequence identifier r t k).block ≡ block_as sequence identifier r t k)
  unfolding built_as
  build-accepts w = (settle-given _ Err _ (build-rules-accept w), settle-given _ (λ q. replicate 88 0) _ (build-rules-accept w))

  pub build-accepted : (n : ℕ) → (built_as sequence identifier r t k).answer ≡ Ok n → PageBuildable r t k
  unfolding build_rules
  build-accepted n e =
      let v = accepted-parts (count_rules r t) (when (lacks (reading_pages r t) k) WrongPages ∷ []) (build-verdict sequence identifier r t k (Ok n) (sym e)) in
      let ten = accepted-rule (lacks (reading_pages r t) k) WrongPages [] v.1 in
      let l = none-lacks (reading_pages r t) k ten.0 in
      record { writable = rules-accepted r t v.0; some = l.0; most = l.1 }

-- ---- writing all pages

pub blocks-as-length : (sequence identifier : ℕ) (r : Reading) (t : List ℕ) → length (blocks_as sequence identifier r t) ≡ 88 * reading_pages r t
unfolding blocks_as
blocks-as-length sequence identifier r t = blocks-length sequence identifier (smallest Broadcast r) (reading_pages r t) (is_ucs2 r.alphabet) (reading_content r t) 1 (reading_pages r t)

module _ (sequence identifier : ℕ) (r : Reading) (t : List ℕ) where
  write-rules-accept : (room : ℕ) → PagesStorable r t room → verdict (pages_rules sequence identifier r t room) ≡ accepted
  unfolding pages_rules verdict
  write-rules-accept room w =
      let fits : length (blocks_as sequence identifier r t) ≤ room = omega (arith, blocks-as-length sequence identifier r t, w.fits) in
      accepted-both (count_rules r t) (when (ltb room (length (blocks_as sequence identifier r t))) NoRoom ∷ []) (rules-accept r t w.writable) (simp (le-ltb _ _ fits))

  pub write-accepts : (out : List ℕ) → PagesStorable r t (length out)
      → (pages_answers sequence identifier r t (length out) ≡ ok_pages_written (length (blocks_as sequence identifier r t)) (reading_pages r t))
      × (pages_leaves sequence identifier r t out ≡ laid (blocks_as sequence identifier r t) out)
  unfolding pages_answers pages_leaves
  write-accepts out w = (settle-given _ Err _ (write-rules-accept (length out) w), settle-given _ (λ q. out) _ (write-rules-accept (length out) w))

  pub write-accepted : (room octets pages : ℕ) → pages_answers sequence identifier r t room ≡ ok_pages_written octets pages → PagesStorable r t room
  unfolding pages_rules
  write-accepted room octets pages e =
      let v = accepted-parts (count_rules r t) (when (ltb room (length (blocks_as sequence identifier r t))) NoRoom ∷ []) (write-verdict sequence identifier r t room (ok_pages_written octets pages) (sym e)) in
      let seven = accepted-rule (ltb room (length (blocks_as sequence identifier r t))) NoRoom [] v.1 in
      record { writable = rules-accepted r t v.0; fits = omega (arith, ltb-false room (length (blocks_as sequence identifier r t)) seven.0, blocks-as-length sequence identifier r t) }

-- ---- joining

module _ (o : List ℕ) where
  page-rules-accept : (room : ℕ) → PagesJoinable o room → verdict (page_rules (is_ucs2 (joined_reading o).alphabet) o room) ≡ accepted
  unfolding page_rules verdict
  page-rules-accept room w = simp (w.right, le-ltb _ _ w.fits)

  join-rules-accept : (room : ℕ) → PagesJoinable o room → verdict (join_rules o room) ≡ accepted
  unfolding join_rules verdict
  join-rules-accept room w =
      simp (eq-eqb _ _ w.whole, ne_eqb (length o) 0 (omega (arith, w.some)))
      (accepted-both (text_rules Broadcast (joined_reading o)) (page_rules (is_ucs2 (joined_reading o).alphabet) o room) (text-accepts Broadcast (joined_reading o) w.holds) (page-rules-accept room w))

  pub join-accepts : (out : List ℕ) → PagesJoinable o (length out)
      → (join_answers o (length out) ≡ ok_joined (length (joined_text (is_ucs2 (joined_reading o).alphabet) o)) (joined_reading o) (header_at o 0).sequence (header_at o 0).identifier (total_at o 0))
      × (join_leaves o out ≡ laid (joined_text (is_ucs2 (joined_reading o).alphabet) o) out)
  unfolding join_answers join_leaves
  join-accepts out w = (settle-given _ Err _ (join-rules-accept (length out) w), settle-given _ (λ q. out) _ (join-rules-accept (length out) w))

  pub join-accepted : (room units : ℕ) (r : Reading) (sequence identifier pages : ℕ) → join_answers o room ≡ ok_joined units r sequence identifier pages → PagesJoinable o room
  unfolding join_rules page_rules
  join-accepted room units read sequence identifier pages e =
      let r : Reading = joined_reading o in
      let text : List ℕ = joined_text (is_ucs2 (joined_reading o).alphabet) o in
      let four = accepted-rule (not (eqb (length o % 88) 0)) WrongLength (when (eqb (length o) 0) WrongPages ∷ (text_rules Broadcast r ++ page_rules (is_ucs2 r.alphabet) o room)) (join-verdict o room (ok_joined units read sequence identifier pages) (sym e)) in
      let none = accepted-rule (eqb (length o) 0) WrongPages (text_rules Broadcast r ++ page_rules (is_ucs2 r.alphabet) o room) four.1 in
      let v = accepted-parts (text_rules Broadcast r) (page_rules (is_ucs2 r.alphabet) o room) none.1 in
      let ten = accepted-rule (wrong_pages o) WrongPages (when (ltb room (length text)) NoRoom ∷ []) v.1 in
      let seven = accepted-rule (ltb room (length text)) NoRoom [] ten.1 in
      let some : length o ≡ 0 → ⊥ = eqb-false (length o) 0 none.0 in
      record {
        whole = eqb-true _ _ (not-false _ four.0);
        some = omega arith;
        holds = text-accepted Broadcast r v.0;
        right = ten.0;
        fits = ltb-false _ _ seven.0;
      }
