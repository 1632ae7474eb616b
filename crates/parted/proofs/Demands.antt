-- The regulator's third question, and the way there and back, of short messages with a header or without, of the calls themselves: the mark says whether
-- the octets begin with a header, and a header says where it ends, so that octets, count and mark together tell header and content.
-- That messages without a mark are the base's is in Base.antt. Assumes nothing.
--   sent-writable, sent-octets, sent-count, sent-mark, sent-coding, sent-parts   what a call that accepted its text says of it, and has sent
--   part-same-iff        two parts under one reading: equal octets, counts and marks exactly when their headers (or none) and contents are the same
--   lone-one-to-one      two lone messages: equal octets and counts only if they are the same text
--   marked-same          two parts of several: equal octets and counts only if reference, total, number and content are the same
--   part-back            what write_part sent is read back by read_part with the mark: the part's content as text, and its numbers
--   lone-back            a lone message is read back as its text, without numbers
use mathlib.Core.Path.{◌≡◌, refl, ap, ap₂, ◌∙◌, sym, subst}
use mathlib.Core.Bool.{Bool, true, false, cond, true≢false}
use mathlib.Core.List.{List}
use mathlib.Core.Logic.{◌↔◌}
use Prim.Native.Nat.{ℕ, ◌≤◌}
use native.Mathlib.Omega.{arith}
use borrow.Author.Tests.{ltb-false, eqb-true, not-false}
use lib.ListN.{length, take}
use Rattle.words.specs.declared.Service.TheVariants.{ShortMessage}
use Rattle.lists.specs.Lists.{laid}
use Rattle.lists.proofs.Below.{Below}
use Rattle.words.proofs.Numbers.{number-above-0}
use Rattle.coding.specs.declared.Reading.{Reading}
use Rattle.coding.specs.OctetRead.{read_under}
use Rattle.coding.specs.OctetWritten.{smallest}
use Rattle.coding.specs.Holding.{is_ucs2}
use Rattle.letters.specs.Sized.{content_of, not_codable}
use Rattle.letters.proofs.Theorems.{septets-below, text-septets}
use Rattle.letters.proofs.Texts.{codable-told}
use Rattle.demands.specs.Demands.{HoldsText}
use Rattle.demands.proofs.Demands.{take-laid}
use Rattle.parted.specs.declared.PartWritten.{PartWritten}
use Rattle.parted.specs.Parts.{is_marked, part_header, part_content, headed_octets, headed_count, part_octets, part_count}
use Rattle.parted.specs.Written.{reading_parts, reading_content, octets_as, count_as, part_answers}
use Rattle.parted.specs.Read.{count_fits, head_size, wrong_head, odd_behind, text_behind, marked_numbers, shown_as}
use Rattle.parted.specs.Reports.{part_number, part_written, part_travels, part_marked, part_coding, part_parts}
use Rattle.parted.specs.Messages.{header_as, content_as, numbers_as, PartsWritable, PartWritable, SendsPart, sent_part, sent_count, sent_mark, sent_coding, sent_parts, ComesPart}
use Rattle.parted.proofs.Rooms.{parts-1-iff}
use Rattle.parted.proofs.Headed.{headed-same, headed-header}
use Rattle.parted.proofs.Parts.{header-own, header-long, header-none, numbers-same, content-below, part-fits, part_right, part-even, part-numbers, part-content, lone-content}
use Rattle.parted.proofs.Accepting.{coding-back, write-accepts, write-accepted, read-accepts}
use Rattle.std.specs.Prelude.{Result, Option, Ok, Err, None}
use Rattle.words.specs.declared.Refusal.{Refusal}
use Rattle.headed.specs.declared.Numbers.{Numbers}
use Rattle.parted.specs.Successes.{ok_part_read}
use Rattle.parted.specs.Successes.{ok_part_written}

-- ---- what a text is laid into parts as

pub septets-content : (ucs2 : Bool) (t : List ℕ) → ucs2 ≡ false → Below 128 (content_of ucs2 t)
septets-content true t e = absurd (true≢false e)
septets-content false t e = septets-below t

pub content-text : (ucs2 : Bool) (t : List ℕ) → not_codable ucs2 t ≡ false → shown_as ucs2 (content_of ucs2 t) ≡ t
content-text true t c = refl
content-text false t c = text-septets t (codable-told t (ltb-false _ _ c))

-- ---- what a call that accepted its text has sent

module _ (r : Reading) (reference : ℕ) (t : List ℕ) (k : ℕ) (out : List ℕ) (a : SendsPart r reference t k out) where
  pub sent-writable : PartWritable r reference t k (length out)
  sent-writable = go (part_answers r reference t k (length out)) refl a
    where
      go : (x : Result PartWritten Refusal) → part_answers r reference t k (length out) ≡ x → part_number x ≡ 0 → PartWritable r reference t k (length out)
      go (Ok w) e z = write-accepted r reference t k (length out) w.octets w.count w.marked w.coding w.parts e
      go (Err q) e z = absurd (omega (arith, number-above-0 q))

  answer : part_answers r reference t k (length out)
      ≡ ok_part_written (length (octets_as r reference t k)) (count_as r reference t k) (is_marked (reading_parts r t)) (smallest ShortMessage r) (reading_parts r t)
  answer = (write-accepts r reference t k out sent-writable).0

  pub sent-octets : sent_part r reference t k out ≡ octets_as r reference t k
  sent-octets = ap₂ take (ap part_written answer) (write-accepts r reference t k out sent-writable).1 ∙ take-laid (octets_as r reference t k) out

  pub sent-count : sent_count r reference t k out ≡ count_as r reference t k
  sent-count = ap part_travels answer

  pub sent-mark : sent_mark r reference t k out ≡ is_marked (reading_parts r t)
  sent-mark = ap part_marked answer

  pub sent-coding : sent_coding r reference t k out ≡ smallest ShortMessage r
  sent-coding = ap part_coding answer

  pub sent-parts : sent_parts r reference t k out ≡ reading_parts r t
  sent-parts = ap part_parts answer

-- a lone part holds all of the text
lone-whole : (r : Reading) (reference : ℕ) (t : List ℕ) (k room : ℕ) → PartWritable r reference t k room → is_marked (reading_parts r t) ≡ false → content_as r t k ≡ reading_content r t
lone-whole r reference t k room w m =
    let ucs2 : Bool = is_ucs2 r.alphabet in
    let one : reading_parts r t ≡ 1 = eqb-true (reading_parts r t) 1 (not-false _ m) in
    let first : k ≡ 1 = omega (arith, w.some, w.most) in
    ap₂ (λ (n j : ℕ). part_content ucs2 n (reading_content r t) j) one first ∙ lone-content ucs2 (reading_content r t) ((parts-1-iff ucs2 (length (reading_content r t))).0 one)

-- ---- demand 3

-- a part by its octets, its count and its mark
module _ (ucs2 : Bool) (i n : ℕ) (s : List ℕ) (k i' n' : ℕ) (s' : List ℕ) (k' : ℕ) where
  part-told : (ucs2 ≡ false → Below 128 s) → (ucs2 ≡ false → Below 128 s') → part_octets ucs2 i n s k ≡ part_octets ucs2 i' n' s' k' → part_count ucs2 i n s k ≡ part_count ucs2 i' n' s' k'
      → is_marked n ≡ is_marked n' → (part_header i n k ≡ part_header i' n' k') × (part_content ucs2 n s k ≡ part_content ucs2 n' s' k')
  unfolding part_octets part_count
  part-told b b' e c m =
      let same : part_header i n k ≡ part_header i' n' k' = header (is_marked n) refl in
      let octets : headed_octets ucs2 (part_header i n k) (part_content ucs2 n s k) ≡ headed_octets ucs2 (part_header i n k) (part_content ucs2 n' s' k') =
      e ∙ ap (λ (h : List ℕ). headed_octets ucs2 h (part_content ucs2 n' s' k')) (sym same) in
      let counts : headed_count ucs2 (part_header i n k) (part_content ucs2 n s k) ≡ headed_count ucs2 (part_header i n k) (part_content ucs2 n' s' k') =
      c ∙ ap (λ (h : List ℕ). headed_count ucs2 h (part_content ucs2 n' s' k')) (sym same) in
      (same, headed-same ucs2 (part_header i n k) (part_content ucs2 n s k) (part_content ucs2 n' s' k') (content-below ucs2 i n s k b) (content-below ucs2 i' n' s' k' b') octets counts)
    where
      header : (mark : Bool) → is_marked n ≡ mark → part_header i n k ≡ part_header i' n' k'
      header true p =
          headed-header ucs2 (part_header i n k) (part_header i' n' k') (part_content ucs2 n s k) (part_content ucs2 n' s' k') (header-own i n k p) (header-own i' n' k' (sym m ∙ p)) e
      header false p = header-none i n k p ∙ sym (header-none i' n' k' (sym m ∙ p))

  -- a header is there exactly where the mark is
  same-mark : part_header i n k ≡ part_header i' n' k' → is_marked n ≡ is_marked n'
  same-mark e = go (is_marked n) (is_marked n') (sym (header-long i n k) ∙ ap length e ∙ header-long i' n' k')
    where
      go : (a b : Bool) → ◌≡◌ {A = ℕ} (cond a 6 0) (cond b 6 0) → a ≡ b
      go true true z = refl
      go true false z = absurd (omega arith)
      go false true z = absurd (omega arith)
      go false false z = refl

module _ (r : Reading) (i : ℕ) (t : List ℕ) (k : ℕ) (out : List ℕ) (i' : ℕ) (u : List ℕ) (k' : ℕ) (lent : List ℕ) (a : SendsPart r i t k out) (b : SendsPart r i' u k' lent) where
  -- "Demand 3 takes the mark in beside octets and count, and reads on header (or none) and text together"
  pub part-same-iff : ((sent_part r i t k out ≡ sent_part r i' u k' lent) × (sent_count r i t k out ≡ sent_count r i' u k' lent) × (sent_mark r i t k out ≡ sent_mark r i' u k' lent))
      ↔ ((header_as r i t k ≡ header_as r i' u k') × (content_as r t k ≡ content_as r u k'))
  unfolding part_octets part_count
  part-same-iff = (to, from)
    where
      to : (sent_part r i t k out ≡ sent_part r i' u k' lent) × (sent_count r i t k out ≡ sent_count r i' u k' lent) × (sent_mark r i t k out ≡ sent_mark r i' u k' lent)
          → (header_as r i t k ≡ header_as r i' u k') × (content_as r t k ≡ content_as r u k')
      to (e, c, m) =
          part-told (is_ucs2 r.alphabet) i (reading_parts r t) (reading_content r t) k i' (reading_parts r u) (reading_content r u) k'
          (septets-content (is_ucs2 r.alphabet) t) (septets-content (is_ucs2 r.alphabet) u)
          (sym (sent-octets r i t k out a) ∙ e ∙ sent-octets r i' u k' lent b)
          (sym (sent-count r i t k out a) ∙ c ∙ sent-count r i' u k' lent b)
          (sym (sent-mark r i t k out a) ∙ m ∙ sent-mark r i' u k' lent b)

      from : (header_as r i t k ≡ header_as r i' u k') × (content_as r t k ≡ content_as r u k')
          → (sent_part r i t k out ≡ sent_part r i' u k' lent) × (sent_count r i t k out ≡ sent_count r i' u k' lent) × (sent_mark r i t k out ≡ sent_mark r i' u k' lent)
      from (h, s) = (
        sent-octets r i t k out a ∙ ap₂ (headed_octets (is_ucs2 r.alphabet)) h s ∙ sym (sent-octets r i' u k' lent b),
        sent-count r i t k out a ∙ ap₂ (headed_count (is_ucs2 r.alphabet)) h s ∙ sym (sent-count r i' u k' lent b),
        sent-mark r i t k out a
            ∙ same-mark (is_ucs2 r.alphabet) i (reading_parts r t) (reading_content r t) k i' (reading_parts r u) (reading_content r u) k' h
            ∙ sym (sent-mark r i' u k' lent b),
      )

  -- under marks
  pub marked-same : sent_mark r i t k out ≡ true → sent_mark r i' u k' lent ≡ true → sent_part r i t k out ≡ sent_part r i' u k' lent → sent_count r i t k out ≡ sent_count r i' u k' lent
      → (i ≡ i') × (reading_parts r t ≡ reading_parts r u) × (k ≡ k') × (content_as r t k ≡ content_as r u k')
  marked-same m m' e c =
      let w = part-same-iff.0 (e, c, m ∙ sym m') in
      let n = numbers-same i (reading_parts r t) k i' (reading_parts r u) k' (sym (sent-mark r i t k out a) ∙ m) (sym (sent-mark r i' u k' lent b) ∙ m') w.0 in
      (n.0, n.1, n.2, w.1)

  -- and without
  pub lone-one-to-one : sent_mark r i t k out ≡ false → sent_mark r i' u k' lent ≡ false → sent_part r i t k out ≡ sent_part r i' u k' lent → sent_count r i t k out ≡ sent_count r i' u k' lent → t ≡ u
  lone-one-to-one m m' e c =
      let ucs2 : Bool = is_ucs2 r.alphabet in
      let v = sent-writable r i t k out a in
      let w = sent-writable r i' u k' lent b in
      sym (content-text ucs2 t v.writable.codable)
      ∙ ap (shown_as ucs2)
      (sym (lone-whole r i t k (length out) v (sym (sent-mark r i t k out a) ∙ m))
      ∙ (part-same-iff.0 (e, c, m ∙ sym m')).1
      ∙ lone-whole r i' u k' (length lent) w (sym (sent-mark r i' u k' lent b) ∙ m'))
      ∙ content-text ucs2 u w.writable.codable

-- ---- the way there and back

module _ (r : Reading) (reference : ℕ) (t : List ℕ) (k : ℕ) (w : PartsWritable r t) where
  abbrev ucs2 : Bool
  ucs2 = is_ucs2 r.alphabet

  abbrev marked : Bool
  marked = is_marked (reading_parts r t)

  abbrev octets : List ℕ
  octets = octets_as r reference t k

  abbrev count : ℕ
  count = count_as r reference t k

  same : read_under ShortMessage (smallest ShortMessage r) ≡ r
  same = coding-back r w.reading

  held : text_behind (is_ucs2 (read_under ShortMessage (smallest ShortMessage r)).alphabet) (head_size marked octets) count octets ≡ shown_as ucs2 (content_as r t k)
  held =
      ap (λ (x : Reading). text_behind (is_ucs2 x.alphabet) (head_size marked octets) count octets) same
      ∙ ap (shown_as ucs2) (part-content ucs2 reference (reading_parts r t) (reading_content r t) k (septets-content ucs2 t))

  comes : ComesPart (smallest ShortMessage r) marked count octets r (numbers_as r reference t k) (shown_as ucs2 (content_as r t k))
  comes out room =
      let a =
      read-accepts (smallest ShortMessage r) marked count octets out
      record {
        holds = subst HoldsText (sym same) w.reading.holds;
        whole = ap (λ (x : Reading). count_fits (is_ucs2 x.alphabet) (length octets) count) same ∙ part-fits ucs2 reference (reading_parts r t) (reading_content r t) k;
        right = λ m. ap (λ (x : Reading). wrong_head (is_ucs2 x.alphabet) count octets) same ∙ part_right ucs2 reference (reading_parts r t) (reading_content r t) k m;
        even = ap (λ (x : Reading). odd_behind (is_ucs2 x.alphabet) (head_size marked octets) octets) same ∙ part-even ucs2 reference (reading_parts r t) (reading_content r t) k;
        fits = subst (λ (l : List ℕ). length l ≤ length out) (sym held) room;
      } in (
        a.0
            ∙ ap₂ (λ (l : List ℕ) (x : Reading). ok_part_read (length l) x (marked_numbers marked octets)) held same
            ∙ ap (ok_part_read (length (shown_as ucs2 (content_as r t k))) r) (part-numbers ucs2 reference (reading_parts r t) (reading_content r t) k),
        a.1 ∙ ap (λ (l : List ℕ). laid l out) held,
      )

module _ (r : Reading) (reference : ℕ) (t : List ℕ) (k : ℕ) (out : List ℕ) (a : SendsPart r reference t k out) where
  pub part-back : ComesPart (sent_coding r reference t k out) (sent_mark r reference t k out) (sent_count r reference t k out) (sent_part r reference t k out) r
      (numbers_as r reference t k) (shown_as (is_ucs2 r.alphabet) (content_as r t k))
  part-back =
      let c : Option Numbers = numbers_as r reference t k in
      let text : List ℕ = shown_as (is_ucs2 r.alphabet) (content_as r t k) in
      let m : Bool = is_marked (reading_parts r t) in
      subst (λ (d : ℕ). ComesPart d (sent_mark r reference t k out) (sent_count r reference t k out) (sent_part r reference t k out) r c text) (sym (sent-coding r reference t k out a))
      (subst (λ (b : Bool). ComesPart (smallest ShortMessage r) b (sent_count r reference t k out) (sent_part r reference t k out) r c text) (sym (sent-mark r reference t k out a))
      (subst (λ (n : ℕ). ComesPart (smallest ShortMessage r) m n (sent_part r reference t k out) r c text) (sym (sent-count r reference t k out a))
      (subst (λ (o : List ℕ). ComesPart (smallest ShortMessage r) m (count_as r reference t k) o r c text) (sym (sent-octets r reference t k out a))
      (comes r reference t k (sent-writable r reference t k out a).writable))))

  pub lone-back : sent_mark r reference t k out ≡ false
      → ComesPart (sent_coding r reference t k out) (sent_mark r reference t k out) (sent_count r reference t k out) (sent_part r reference t k out) r None t
  lone-back m =
      let v = sent-writable r reference t k out a in
      let none : is_marked (reading_parts r t) ≡ false = sym (sent-mark r reference t k out a) ∙ m in
      let text : shown_as (is_ucs2 r.alphabet) (content_as r t k) ≡ t = ap (shown_as (is_ucs2 r.alphabet)) (lone-whole r reference t k (length out) v none) ∙ content-text (is_ucs2 r.alphabet) t v.writable.codable in
      subst (λ (l : List ℕ). ComesPart (sent_coding r reference t k out) (sent_mark r reference t k out) (sent_count r reference t k out) (sent_part r reference t k out) r None l) text
      (subst (λ (c : Option Numbers). ComesPart (sent_coding r reference t k out) (sent_mark r reference t k out) (sent_count r reference t k out) (sent_part r reference t k out) r c
      (shown_as (is_ucs2 r.alphabet) (content_as r t k))) (unnumbered none) part-back)
    where
      unnumbered : is_marked (reading_parts r t) ≡ false → numbers_as r reference t k ≡ None
      unnumbered e = rw e
