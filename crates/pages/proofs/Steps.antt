-- How the calls that count, build and write pages come to their verdict, one step after the other. Assumes nothing.
--   paged-over, paged-sum                   how many pages n take, by the code's own sums
--   sized-units, sized-septets, sized-unlisted   the verdict on a text by itself: 6, 5
use Rattle.words.proofs.Rules.{verdict_of}
use mathlib.Core.Path.{◌≡◌, refl, ap, ap₂, ◌∙◌, sym, subst}
use mathlib.Core.Bool.{Bool, true, false, cond}
use mathlib.Core.List.{List, [], ◌∷◌, ◌++◌}
use mathlib.Core.Logic.{◌⊎◌, inl, inr}
use Prim.Native.Nat.{ℕ, ◌+◌, ◌-◌, ◌*◌, ◌/◌, ◌%◌, ◌≤◌, ◌<◌, min, max}
use native.Mathlib.Nat.{mul_comm, mul-suc, mul-le-mul_left}
use Rattle.std.proofs.lemmas.Grind.{div_ceil_times}
use native.Mathlib.Decide.{dec_le}
use native.Mathlib.Omega.{arith}
use borrow.Author.Tests.{lt-ltb, le-ltb, ltb-false}
use lib.Dec.{ltb, leb, lit<}
use lib.ListN.{length, take}
use lib.Seq.{take_all}
use Rattle.lists.specs.Lists.{first_place, laid}
use Rattle.lists.proofs.Below.{Below}
use Rattle.lists.proofs.Laid.{laid-length, laid-full}
use Rattle.filling.specs.Numbered.{lacks}
use Rattle.filling.proofs.Parts.{fewest-over, fewest-are, fewest-some, fewest-hold, fewest-begun}
use Rattle.letters.proofs.Theorems.{septets-below}
use Rattle.words.specs.declared.Refusal.{Refusal}
use Rattle.words.specs.declared.Refusal.TheVariants.{Unlisted, TooLong, NoRoom, WrongPages}
use Rattle.words.specs.Judging.{Rule, when, verdict, refused, accepted}
use Rattle.words.proofs.Judging.{verdict-refused-first, verdict-accepted-first, accepted-rule, settle-told, settle-given}
use Rattle.letters.specs.declared.Encoded.{Encoded}
use Rattle.letters.specs.Writing.{septets_of, first_unlisted, listed_front, encoded_as, encoded_leaves, measured}
use Rattle.stream.specs.Stream.{packed}
use Rattle.stream.specs.Pages.{page, page_octets}
use Rattle.stream.specs.ArrayCalls.{page_rules, page_leaves}
use Rattle.stream.proofs.Pages.{page-below}
use Rattle.stream.proofs.Sent.{low_narrow}
use Rattle.stream.proofs.Theorems.{page-octets-length}
use Rattle.demands.specs.MessageWritten.{not_codable}
use Rattle.demands.proofs.Demands.{take-laid}
use Rattle.pages.specs.declared.Page.{Page}
use Rattle.pages.specs.Parts.{most_pages, page_room, content_of, pages_holding, pages_of}
use Rattle.pages.specs.Written.{page_block, blocks_from, size_rules}
use Rattle.pages.specs.Inner.{sized_as, paged_as, text_builds, text_blocks, text_pages, text_pages_leaves}
use Rattle.pages.proofs.Blocks.{blocks-length}
use Rattle.std.specs.Prelude.{Result, Ok, Err}
use Rattle.pages.specs.Successes.{ok_page, ok_pages_written}

-- ---- how many pages

paged-are : (room n k : ℕ) → pages_holding room n ≡ k → k ≤ 15 → paged_as room n ≡ Ok k
unfolding paged_as verdict
paged-are room n k e h = simp (e, le-ltb 15 k h)

-- the rounded quotient, but 1 of nothing: it holds n, and one less does not
rounded : (room n k : ℕ) → 0 < room → k ≡ max (n / room + min 1 (n % room)) 1 → (n ≤ room * k) × ((k ≡ 1) ⊎ (room * (k - 1) < n))
rounded room n k some e =
    let w = div_ceil_times n room some in
    elim (dec_le (n / room + min 1 (n % room)) 0) [
      | yes none ↦
          let zero : n / room + min 1 (n % room) ≡ 0 = omega arith in
          (omega (arith, w.0, ap (λ (q : ℕ). q * room) zero), inl (omega arith))
      | no more ↦
          let is : k * room ≡ (n / room + min 1 (n % room)) * room = ap (λ (q : ℕ). q * room) (omega arith) in
          let before : room * k ≡ room * (k - 1) + room = ap (λ (j : ℕ). room * j) (omega arith) ∙ mul-suc room (k - 1) in
          (omega (arith, w.0, is, mul_comm k room), inr (omega (arith, w.1, is, mul_comm k room, before)))
    ]

pub paged-over : (room n k : ℕ) → 0 < room → k ≡ max (n / room + min 1 (n % room)) 1 → 15 < k → paged_as room n ≡ Err TooLong
unfolding paged_as verdict
paged-over room n k some e h =
    let more : room * 15 < n = elim (rounded room n k some e).1 as (λ w. room * 15 < n) [ inl one ↦ absurd (omega arith) | inr less ↦ omega (arith, less, mul-le-mul_left {m = 15} {n = k - 1} room (omega arith)) ] in
    simp (lt-ltb 15 (pages_holding room n) ((fewest-over 15 room n (omega arith)).1 more))

pub paged-sum : (room n k : ℕ) → 0 < room → k ≡ max (n / room + min 1 (n % room)) 1 → k ≤ 15 → paged_as room n ≡ Ok k
paged-sum room n k some e h = let w = rounded room n k some e in paged-are room n k (fewest-are 15 room n k (omega arith) h w.0 w.1) h

-- ---- the verdict on a text by itself

pub sized-units : (units : List ℕ) → sized_as true units ≡ paged_as 41 (length units)
unfolding sized_as paged_as size_rules verdict
sized-units units = refl

pub sized-septets : (units : List ℕ) → length units ≤ first_unlisted units → sized_as false units ≡ paged_as 93 (length (septets_of units))
unfolding sized_as paged_as size_rules verdict
sized-septets units h = simp (le-ltb (first_unlisted units) (length units) h)

pub sized-unlisted : (units : List ℕ) → first_unlisted units < length units → sized_as false units ≡ Err (Unlisted (first_unlisted units))
unfolding sized_as size_rules verdict
sized-unlisted units h = simp (lt-ltb (first_unlisted units) (length units) h)

-- ---- a text as it is measured and encoded

-- how many pages a 7-bit text takes, by what it measures
abbrev sized_by : Result ℕ ℕ → Result ℕ Refusal
sized_by (Ok n) = paged_as 93 n
sized_by (Err u) = Err (Unlisted u)

pub measured-sized : (t : List ℕ) (m : Result ℕ ℕ) → m ≡ measured t → sized_by m ≡ sized_as false t
unfolding measured
measured-sized t m e = elim (dec_le (length t) (first_unlisted t)) [
  | yes h ↦ let whole : m ≡ Ok (length (septets_of t)) = e ∙ simp (le-ltb (first_unlisted t) (length t) h) in ap sized_by whole ∙ sym (sized-septets t h)
  | no h ↦
      let less : first_unlisted t < length t = omega arith in
      let stop : m ≡ Err (first_unlisted t) = e ∙ simp (lt-ltb (first_unlisted t) (length t) less) in
      ap sized_by stop ∙ sym (sized-unlisted t less)
]

pub encoded-stopped : (t : List ℕ) (w : Encoded) → w ≡ encoded_as t → w.units < length t → (Err (Unlisted w.units) ≡ sized_as false t) × (w.septets ≡ length (septets_of (listed_front t)))
unfolding encoded_as
encoded-stopped t w e h =
    let u : w.units ≡ first_unlisted t = ap (λ (x : Encoded). x.units) e in
    (ap (λ (n : ℕ). Err (Unlisted n)) u ∙ sym (sized-unlisted t (omega arith)), ap (λ (x : Encoded). x.septets) e)

-- a text without an unlisted unit is encoded whole
pub front-whole : (t : List ℕ) → length t ≤ first_unlisted t → listed_front t ≡ t
unfolding listed_front
front-whole t h = take_all (first_unlisted t) t h

pub encoded-whole : (t : List ℕ) (w : Encoded) → w ≡ encoded_as t → length t ≤ w.units → (paged_as 93 w.septets ≡ sized_as false t) × (w.septets ≡ length (septets_of (listed_front t)))
unfolding encoded_as
encoded-whole t w e h =
    let u : w.units ≡ first_unlisted t = ap (λ (x : Encoded). x.units) e in
    let n : w.septets ≡ length (septets_of (listed_front t)) = ap (λ (x : Encoded). x.septets) e in
    (ap (paged_as 93) (n ∙ ap (λ (l : List ℕ). length (septets_of l)) (front-whole t (omega arith))) ∙ sym (sized-septets t (omega arith)), n)

-- ---- a text whose pages are counted

-- what an accepted count says
pub record Fits (ucs2 : Bool) (t : List ℕ) (total : ℕ) : Type 0 where
  pub pages : total ≡ pages_of ucs2 t
  pub some : 1 ≤ total
  pub most : total ≤ 15
  pub holds : length (content_of ucs2 t) ≤ page_room ucs2 * total
  -- every page but the last is full
  pub full : page_room ucs2 * total ≤ length (content_of ucs2 t) + page_room ucs2
  pub codable : not_codable ucs2 t ≡ false
  pub allowed : verdict (size_rules ucs2 t) ≡ accepted

pub sized-fits : (ucs2 : Bool) (t : List ℕ) (total : ℕ) → Ok total ≡ sized_as ucs2 t → Fits ucs2 t total
unfolding sized_as size_rules
sized-fits ucs2 t total e =
    let room : ℕ = page_room ucs2 in
    let n : ℕ = length (content_of ucs2 t) in
    let v : verdict (size_rules ucs2 t) ≡ accepted = settle-told verdict_of Err (Ok (pages_of ucs2 t)) (λ q. refl) refl (verdict (size_rules ucs2 t)) (Ok total) e in
    let same : Ok total ≡ Ok (pages_of ucs2 t) = e ∙ settle-given (verdict (size_rules ucs2 t)) Err (Ok (pages_of ucs2 t)) v in
    let pages : total ≡ pages_holding room n = cc in
    let first = accepted-rule (not_codable ucs2 t) (Unlisted (first_unlisted t)) (when (ltb most_pages (pages_of ucs2 t)) TooLong ∷ []) v in
    let most : pages_holding room n ≤ 15 = ltb-false most_pages (pages_holding room n) (accepted-rule (ltb most_pages (pages_of ucs2 t)) TooLong [] first.1).0 in
    let some : 1 ≤ pages_holding room n = fewest-some 15 room n in
    let holds : n ≤ room * pages_holding room n = fewest-hold 15 room n most in
    record {
      pages = pages;
      some = omega arith;
      most = omega arith;
      holds = subst (λ (k : ℕ). n ≤ room * k) (sym pages) holds;
      full = subst (λ (k : ℕ). room * k ≤ n + room) (sym pages) (fewest-begun 15 room n);
      codable = first.0;
      allowed = v;
    }

-- what a pass over a text that fits leaves: its first n septets in the array are the text's content, and of UCS2 the units are
pub record Gathered (ucs2 : Bool) (t : List ℕ) (total n : ℕ) (a : List ℕ) : Type 0 where
  pub fits : Fits ucs2 t total
  pub within : n ≤ length a
  pub low : Below 128 (take n a)
  pub content : cond ucs2 t (take n a) ≡ content_of ucs2 t

pub gathered : (ucs2 : Bool) (t : List ℕ) (n : ℕ) (z a : List ℕ) → length z ≡ 1395 → n ≡ cond ucs2 0 (length (septets_of (listed_front t))) → a ≡ cond ucs2 z (encoded_leaves t z)
    → (total : ℕ) → sized_as ucs2 t ≡ Ok total → Gathered ucs2 t total n a
unfolding encoded_leaves
gathered true t n z a long en ea total e =
    record { fits = sized-fits true t total (sym e); within = omega arith; low = subst (λ (k : ℕ). Below 128 (take k a)) (sym en) (λ k. lit< tt); content = refl }
gathered false t n z a long en ea total e =
    let f : Fits false t total = sized-fits false t total (sym e) in
    let s : List ℕ = septets_of (listed_front t) in
    let whole : listed_front t ≡ t = front-whole t (ltb-false (first_unlisted t) (length t) f.codable) in
    let same : s ≡ septets_of t = ap septets_of whole in
    let few : length s ≤ length z = omega (arith, f.holds, f.most, ap length same) in
    let laid-s : a ≡ laid s z = ea ∙ ap (λ (l : List ℕ). laid l z) (take_all (length z) s few) in
    let front : take n a ≡ s = ap₂ take en laid-s ∙ take-laid s z in
    record { fits = f; within = omega (arith, ap length laid-s, laid-length s z few); low = subst (Below 128) (sym front) (septets-below (listed_front t)); content = front ∙ same }

-- ---- the text of one page

-- a page that is packed into 82 octets
pub page-left : (s out : List ℕ) → length s ≤ 93 → Below 128 s → length out ≡ 82 → page_leaves (page s) out ≡ page_octets s
unfolding page_leaves page_rules page_octets verdict
page-left s out few low long =
    let full : length (packed (page s)) ≡ 82 = page-octets-length s few in
    simp (le-ltb (first_place (leb 128) (page s)) (length (page s)) (low_narrow (page s) (page-below s low)), le-ltb (length out) (length (packed (page s))) (omega arith))
    (laid-full (packed (page s)) out (omega arith))

-- ---- one page and all pages of a text by itself

sized-refused : (ucs2 : Bool) (t : List ℕ) (q : Refusal) → Err q ≡ sized_as ucs2 t → verdict (size_rules ucs2 t) ≡ refused q
unfolding sized_as
sized-refused ucs2 t q e = settle-told verdict_of Err (Ok (pages_of ucs2 t)) (λ q. refl) refl (verdict (size_rules ucs2 t)) (Err q) e

module _ (sequence identifier coding : ℕ) (ucs2 : Bool) (t : List ℕ) where
  pub built-refused : (k : ℕ) (q : Refusal) → Err q ≡ sized_as ucs2 t → Err q ≡ text_builds sequence identifier coding ucs2 t k
  unfolding text_builds
  built-refused k q e =
      let x : List Rule = when (lacks (pages_of ucs2 t) k) WrongPages ∷ [] in
      let v : verdict (size_rules ucs2 t ++ x) ≡ refused q = verdict-refused-first (size_rules ucs2 t) x q (sized-refused ucs2 t q e) in
      sym (simp v)

  pub pages-refused : (out : List ℕ) (q : Refusal) → Err q ≡ sized_as ucs2 t
      → (Err q ≡ text_pages sequence identifier coding ucs2 t (length out)) × (out ≡ text_pages_leaves sequence identifier coding ucs2 t out)
  unfolding text_pages text_pages_leaves
  pages-refused out q e =
      let x : List Rule = when (ltb (length out) (length (text_blocks sequence identifier coding ucs2 t))) NoRoom ∷ [] in
      let v : verdict (size_rules ucs2 t ++ x) ≡ refused q = verdict-refused-first (size_rules ucs2 t) x q (sized-refused ucs2 t q e) in
      (sym (simp v), sym (simp v))

  -- page k of so many
  abbrev made : ℕ → ℕ → Result Page Refusal
  made total k = ok_page (page_block sequence identifier coding total ucs2 (content_of ucs2 t) k) total

  module _ (total : ℕ) (f : Fits ucs2 t total) where
    pub built-lacks : (k : ℕ) → lacks total k ≡ true → Err WrongPages ≡ text_builds sequence identifier coding ucs2 t k
    unfolding text_builds verdict
    built-lacks k e =
        let x : List Rule = when (lacks (pages_of ucs2 t) k) WrongPages ∷ [] in
        let absent : lacks (pages_of ucs2 t) k ≡ true = ap (λ (n : ℕ). lacks n k) (sym f.pages) ∙ e in
        let v : verdict (size_rules ucs2 t ++ x) ≡ refused WrongPages = verdict-accepted-first (size_rules ucs2 t) x f.allowed ∙ simp absent in
        sym (simp v)

    pub built-page : (k : ℕ) → lacks total k ≡ false
        → made total k ≡ text_builds sequence identifier coding ucs2 t k
    unfolding text_builds verdict
    built-page k e =
        let x : List Rule = when (lacks (pages_of ucs2 t) k) WrongPages ∷ [] in
        let there : lacks (pages_of ucs2 t) k ≡ false = ap (λ (n : ℕ). lacks n k) (sym f.pages) ∙ e in
        let v : verdict (size_rules ucs2 t ++ x) ≡ accepted = verdict-accepted-first (size_rules ucs2 t) x f.allowed ∙ simp there in
        ap (λ (n : ℕ). made n k) f.pages ∙ sym (simp v)

    -- the blocks by the count
    blocks-by : blocks_from sequence identifier coding total ucs2 (content_of ucs2 t) 1 total ≡ text_blocks sequence identifier coding ucs2 t
    blocks-by = ap (λ (n : ℕ). blocks_from sequence identifier coding n ucs2 (content_of ucs2 t) 1 n) f.pages

    long : length (text_blocks sequence identifier coding ucs2 t) ≡ 88 * total
    long = ap length (sym blocks-by) ∙ blocks-length sequence identifier coding total ucs2 (content_of ucs2 t) 1 total

    pub pages-short : (out : List ℕ) → length out < 88 * total
        → (Err NoRoom ≡ text_pages sequence identifier coding ucs2 t (length out)) × (out ≡ text_pages_leaves sequence identifier coding ucs2 t out)
    unfolding text_pages text_pages_leaves verdict
    pages-short out h =
        let b : List ℕ = text_blocks sequence identifier coding ucs2 t in
        let x : List Rule = when (ltb (length out) (length b)) NoRoom ∷ [] in
        let less : ltb (length out) (length b) ≡ true = lt-ltb (length out) (length b) (omega (arith, long)) in
        let v : verdict (size_rules ucs2 t ++ x) ≡ refused NoRoom = verdict-accepted-first (size_rules ucs2 t) x f.allowed ∙ simp less in
        (sym (simp v), sym (simp v))

    pub pages-stored : (out : List ℕ) → 88 * total ≤ length out
        → (ok_pages_written (88 * total) total ≡ text_pages sequence identifier coding ucs2 t (length out))
        × (laid (blocks_from sequence identifier coding total ucs2 (content_of ucs2 t) 1 total) out ≡ text_pages_leaves sequence identifier coding ucs2 t out)
    unfolding text_pages text_pages_leaves verdict
    pages-stored out h =
        let b : List ℕ = text_blocks sequence identifier coding ucs2 t in
        let x : List Rule = when (ltb (length out) (length b)) NoRoom ∷ [] in
        let room : ltb (length out) (length b) ≡ false = le-ltb (length out) (length b) (omega (arith, long)) in
        let v : verdict (size_rules ucs2 t ++ x) ≡ accepted = verdict-accepted-first (size_rules ucs2 t) x f.allowed ∙ simp room in
        (ap₂ ok_pages_written (sym long) f.pages ∙ sym (simp v), ap (λ (l : List ℕ). laid l out) blocks-by ∙ sym (simp v))
