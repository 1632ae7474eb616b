-- The regulator's third question, and the joining back, of messages of several pages, of the calls themselves: what the blocks join into tells
-- all that they were written from, and what tells them apart is nothing else. A carriage return is 000D. 7-bit text and UCS2 in one statement.
-- Assumes nothing.
--   join-back            the blocks of a message, in any order, join into its header and its text without closing carriage returns
--   pages-same-iff       equal blocks exactly when the headers and page counts agree and the texts agree after closing carriage returns
--   coding-same-iff      the coding octets agree exactly when the readings do
--   join-reads-once      what is joined is what was checked: each block is read once and none is left out
--   sent-header          the header of each page
--   one-page, one-page-sent, one-page-accepted   a message of one page: octets 7 to 88 are what the base's page writer gives, which accepts the text
--   build-is-written     the blocks of write_pages are exactly those of build_page
--   sent-storable, sent-writable, sent-blocks   what a call that accepted its text says of it, and has sent
--   pages-content        the pages' contents joined are the text's septets, or units, and CRs behind them
use mathlib.Core.Path.{◌≡◌, refl, ap, ap₂, ◌∙◌, sym, subst}
use mathlib.Core.Bool.{Bool, true, false, cond}
use mathlib.Core.List.{List, ◌++◌, append-nil}
use mathlib.Core.Logic.{◌↔◌}
use Prim.Native.Nat.{ℕ, zero, suc, ◌+◌, ◌-◌, ◌*◌, ◌%◌, ◌≤◌, ◌<◌}
use native.Mathlib.Nat.{mul-zero}
use native.Mathlib.Omega.{arith}
use lib.ListN.{length, take, drop, replicate, length-replicate}
use lib.Seq.{take_all}
use borrow.Author.Tests.{le-ltb}
use Rattle.words.specs.declared.Service.TheVariants.{Broadcast}
use Rattle.lists.specs.Lists.{laid}
use Rattle.lists.specs.Closing.{without_closing}
use Rattle.filling.specs.Filling.{part_at}
use Rattle.filling.proofs.Parts.{fewest-some, fewest-hold}
use Rattle.words.proofs.Numbers.{number-above-0}
use Rattle.coding.specs.declared.Reading.{Reading}
use Rattle.coding.specs.OctetRead.{read_under}
use Rattle.coding.specs.OctetWritten.{smallest}
use Rattle.coding.specs.Holding.{is_ucs2}
use Rattle.letters.specs.Reading.{text_of}
use Rattle.stream.specs.UssdPacking.{cr}
use Rattle.stream.proofs.Pages.{over-closing, over-same}
use Rattle.demands.specs.MessageWritten.{over_size, text_octets, message_octets}
use Rattle.demands.specs.Reports.{write_number}
use Rattle.demands.specs.Demands.{HoldsText, Writable, Accepted, sent}
use Rattle.demands.proofs.Unlettered.{octets-same}
use Rattle.demands.proofs.Accepting.{write-accepts as message-accepts}
use Rattle.demands.proofs.Demands.{take-laid, sent-octets}
use Rattle.pages.specs.declared.Header.{Header}
use Rattle.pages.specs.declared.PagesWritten.{PagesWritten}
use Rattle.pages.specs.Blocks.{block_of}
use Rattle.pages.specs.Parts.{page_room, content_of, page_text}
use Rattle.pages.specs.Written.{reading_pages, reading_content, block_as, blocks_from, blocks_as, built_as, pages_answers}
use Rattle.pages.specs.Joined.{header_at, total_at, block_at, joined_from, joined_content, joined_reading, joined_text, join_answers}
use Rattle.pages.specs.Reports.{pages_number, pages_written, join_written, join_reading, join_sequence, join_identifier, join_pages}
use Rattle.pages.specs.Messages.{filled_to, PagesWritable, PagesStorable, Sends, sent_blocks, Reordered, Joins, ReadOnce}
use Rattle.pages.proofs.Parts.{part_filled}
use Rattle.pages.proofs.Blocks.{page-text-length}
use Rattle.pages.proofs.Accepting.{coding-back, build-accepts, write-accepts, write-accepted, join-accepts, join-accepted, blocks-as-length}
use Rattle.pages.proofs.Placing.{right-read-once, read-once-right}
use Rattle.pages.proofs.Contents.{page-text-filled, filled-behind, closed-text, closed-content}
use Rattle.pages.proofs.Orders.{written_at, in_order, order-header, any-order-read-once, any-order-content}
use Rattle.std.specs.Prelude.{Result, Ok, Err}
use Rattle.words.specs.declared.Refusal.{Refusal}
use Rattle.pages.specs.Successes.{ok_joined}

-- ---- what a call that accepted its text has sent

module _ (sequence identifier : ℕ) (r : Reading) (t out : List ℕ) (a : Sends sequence identifier r t out) where
  pub sent-storable : PagesStorable r t (length out)
  sent-storable = go (pages_answers sequence identifier r t (length out)) refl a
    where
      go : (x : Result PagesWritten Refusal) → pages_answers sequence identifier r t (length out) ≡ x → pages_number x ≡ 0 → PagesStorable r t (length out)
      go (Ok w) e z = write-accepted sequence identifier r t (length out) w.octets w.pages e
      go (Err q) e z = absurd (omega (arith, number-above-0 q))

  pub sent-writable : PagesWritable r t
  sent-writable = sent-storable.writable

  pub sent-blocks : sent_blocks sequence identifier r t out ≡ blocks_as sequence identifier r t
  sent-blocks =
      let w = write-accepts sequence identifier r t out sent-storable in
      ap₂ take (ap pages_written w.0) w.1 ∙ take-laid (blocks_as sequence identifier r t) out

-- ---- joining back

module _ (sequence identifier : ℕ) (r : Reading) (t : List ℕ) (w : PagesWritable r t) where
  module _ (o : List ℕ) (x : Reordered (blocks_as sequence identifier r t) o) where
    first : header_at o 0 ≡ record { sequence = sequence; identifier = identifier; coding = smallest Broadcast r; total = reading_pages r t; number = 1 + x.from 0 }
    first = order-header sequence identifier r t w.sized o x 0 (fewest-some _ _ _)

    reads : joined_reading o ≡ r
    reads = ap (λ (h : Header). read_under Broadcast h.coding) first ∙ (coding-back r t w).1

    text : joined_text (is_ucs2 r.alphabet) o ≡ without_closing 0x000d t
    unfolding joined_content
    text =
        let n : total_at o 0 ≡ reading_pages r t = ap (λ (h : Header). h.total) first in
        let content : joined_content (is_ucs2 r.alphabet) o ≡ without_closing cr (reading_content r t) =
        ap (without_closing cr) (ap (joined_from (is_ucs2 r.alphabet) o 1) n ∙ any-order-content sequence identifier r t w.sized o x)
        ∙ over-closing (page_room (is_ucs2 r.alphabet) * reading_pages r t) cr (reading_content r t) in
        ap (λ (c : List ℕ). cond (is_ucs2 r.alphabet) c (text_of c)) content ∙ closed-text (is_ucs2 r.alphabet) t w.codable

    blocks-join : Joins o r sequence identifier (reading_pages r t) (without_closing 0x000d t)
    blocks-join back room =
        let long : length o ≡ 88 * reading_pages r t = x.long ∙ blocks-as-length sequence identifier r t in
        let held : joined_text (is_ucs2 (joined_reading o).alphabet) o ≡ without_closing 0x000d t = ap (λ (q : Reading). joined_text (is_ucs2 q.alphabet) o) reads ∙ text in
        let a =
        join-accepts o back
        record {
          whole = ap (λ (n : ℕ). n % 88) long ∙ omega arith;
          some = omega (arith, fewest-some 15 (page_room (is_ucs2 r.alphabet)) (length (reading_content r t)));
          holds = subst HoldsText (sym reads) w.holds;
          right = read-once-right o (any-order-read-once sequence identifier r t w.sized o x);
          fits = subst (λ (l : List ℕ). length l ≤ length back) (sym held) room;
        } in (
          a.0
              ∙ ap₂ (λ (l : List ℕ) (q : Reading). ok_joined (length l) q (header_at o 0).sequence (header_at o 0).identifier (total_at o 0)) held reads
              ∙ ap (λ (h : Header). ok_joined (length (without_closing 0x000d t)) r h.sequence h.identifier h.total) first,
          a.1 ∙ ap (λ (l : List ℕ). laid l back) held,
        )

pub join-back : (sequence identifier : ℕ) (r : Reading) (t out o : List ℕ) → Sends sequence identifier r t out → Reordered (sent_blocks sequence identifier r t out) o
    → Joins o r sequence identifier (reading_pages r t) (without_closing 0x000d t)
join-back sequence identifier r t out o a x =
    blocks-join sequence identifier r t (sent-writable sequence identifier r t out a) o (subst (λ (m : List ℕ). Reordered m o) (sent-blocks sequence identifier r t out a) x)

-- ---- which messages have the same blocks

-- blocks join into one thing only
join-unique : (o : List ℕ) (r s : Reading) (a b c d p q : ℕ) (t u : List ℕ) → Joins o r a c p t → Joins o s b d q u → (a ≡ b) × (c ≡ d) × (r ≡ s) × (p ≡ q) × (t ≡ u)
join-unique o r s a b c d p q t u x y =
    let out : List ℕ = replicate (length t + length u) 0 in
    let long : length out ≡ length t + length u = length-replicate (length t + length u) 0 in
    let m = x out (omega arith) in
    let n = y out (omega arith) in
    let same : ok_joined (length t) r a c p ≡ ok_joined (length u) s b d q = sym m.0 ∙ n.0 in
    let size : length t ≡ length u = ap join_written same in
    (ap join_sequence same, ap join_identifier same, ap join_reading same, ap join_pages same, sym (take-laid t out) ∙ ap₂ take size (sym m.1 ∙ n.1) ∙ take-laid u out)

-- contents that are the same once filled up to n pages have the same pages
same-pages : (sequence identifier coding total : ℕ) (ucs2 : Bool) (s t : List ℕ) (n : ℕ) → length s ≤ page_room ucs2 * n → length t ≤ page_room ucs2 * n
    → filled_to (page_room ucs2 * n) s ≡ filled_to (page_room ucs2 * n) t
    → (k m : ℕ) → 1 ≤ k → k + m ≤ suc n → blocks_from sequence identifier coding total ucs2 s k m ≡ blocks_from sequence identifier coding total ucs2 t k m
unfolding blocks_from
same-pages sequence identifier coding total ucs2 s t n hs ht e k zero some most = refl
same-pages sequence identifier coding total ucs2 s t n hs ht e k (suc m) some most =
    let room : ℕ = page_room ucs2 in
    let page : page_text ucs2 (part_at room s k) ≡ page_text ucs2 (part_at room t k) =
    page-text-filled ucs2 (part_at room s k) (part_at room t k) (part_filled room n s k hs some (omega arith) ∙ ap (λ (l : List ℕ). part_at room l k) e ∙ sym (part_filled room n t k ht some (omega arith))) in
    ap₂ (λ (p l : List ℕ). block_of (record { sequence = sequence; identifier = identifier; coding = coding; total = total; number = k }) p ++ l) page
    (same-pages sequence identifier coding total ucs2 s t n hs ht e (suc k) m (omega arith) (omega arith))

same_blocks : (sequence identifier : ℕ) (r : Reading) (t u : List ℕ) → PagesWritable r t → PagesWritable r u → reading_pages r t ≡ reading_pages r u → without_closing 0x000d t ≡ without_closing 0x000d u
    → blocks_as sequence identifier r t ≡ blocks_as sequence identifier r u
unfolding blocks_as
same_blocks sequence identifier r t u v w n e =
    let ucs2 : Bool = is_ucs2 r.alphabet in
    let size : length (reading_content r t) ≤ page_room ucs2 * reading_pages r u = subst (λ (k : ℕ). length (reading_content r t) ≤ page_room ucs2 * k) n (fewest-hold 15 (page_room ucs2) (length (reading_content r t)) v.sized) in
    let other : length (reading_content r u) ≤ page_room ucs2 * reading_pages r u = fewest-hold 15 (page_room ucs2) (length (reading_content r u)) w.sized in
    ap (λ (k : ℕ). blocks_from sequence identifier (smallest Broadcast r) k ucs2 (reading_content r t) 1 k) n
    ∙ same-pages sequence identifier (smallest Broadcast r) (reading_pages r u) ucs2 (reading_content r t) (reading_content r u) (reading_pages r u) size other
    (over-same (page_room ucs2 * reading_pages r u) cr (reading_content r t) (reading_content r u) size other (closed-content ucs2 t u v.codable w.codable e))
    1 (reading_pages r u) (omega arith) (omega arith)

-- demand 3: "equal blocks exactly when the headers and page counts agree and the texts agree after closing CRs"
pub pages-same-iff : (s i : ℕ) (r : Reading) (t out : List ℕ) (s' i' : ℕ) (r' : Reading) (u lent : List ℕ) → Sends s i r t out → Sends s' i' r' u lent
    → (sent_blocks s i r t out ≡ sent_blocks s' i' r' u lent)
    ↔ ((s ≡ s') × (i ≡ i') × (r ≡ r') × (reading_pages r t ≡ reading_pages r' u) × (without_closing 0x000d t ≡ without_closing 0x000d u))
pages-same-iff s i r t out s' i' r' u lent a b = (to, from)
  where
    v : PagesWritable r t
    v = sent-writable s i r t out a

    w : PagesWritable r' u
    w = sent-writable s' i' r' u lent b

    to : sent_blocks s i r t out ≡ sent_blocks s' i' r' u lent
        → (s ≡ s') × (i ≡ i') × (r ≡ r') × (reading_pages r t ≡ reading_pages r' u) × (without_closing 0x000d t ≡ without_closing 0x000d u)
    to e =
        let same : blocks_as s i r t ≡ blocks_as s' i' r' u = sym (sent-blocks s i r t out a) ∙ e ∙ sent-blocks s' i' r' u lent b in
        join-unique (blocks_as s i r t) r r' s s' i i' (reading_pages r t) (reading_pages r' u) (without_closing 0x000d t) (without_closing 0x000d u)
        (blocks-join s i r t v (blocks_as s i r t) (in_order s i r t))
        (blocks-join s' i' r' u w (blocks_as s i r t) (subst (λ (o : List ℕ). Reordered (blocks_as s' i' r' u) o) (sym same) (in_order s' i' r' u)))

    from : (s ≡ s') × (i ≡ i') × (r ≡ r') × (reading_pages r t ≡ reading_pages r' u) × (without_closing 0x000d t ≡ without_closing 0x000d u)
        → sent_blocks s i r t out ≡ sent_blocks s' i' r' u lent
    from (p, q, x, n, e) =
        sent-blocks s i r t out a
        ∙ same_blocks s i r t u v (subst (λ (z : Reading). PagesWritable z u) (sym x) w) (n ∙ ap (λ (z : Reading). reading_pages z u) (sym x)) e
        ∙ ap₂ (λ (a b : ℕ). blocks_as a b r u) p q
        ∙ ap (λ (z : Reading). blocks_as s' i' z u) x
        ∙ sym (sent-blocks s' i' r' u lent b)

-- the data coding octet of the header stands for the reading
pub coding-same-iff : (r r' : Reading) (t u : List ℕ) → PagesWritable r t → PagesWritable r' u → (smallest Broadcast r ≡ smallest Broadcast r') ↔ (r ≡ r')
coding-same-iff r r' t u v w = (λ e. sym (coding-back r t v).1 ∙ ap (read_under Broadcast) e ∙ (coding-back r' u w).1, λ e. ap (smallest Broadcast) e)

-- ---- what is joined is what was checked

pub join-reads-once : (o : List ℕ) (room units : ℕ) (r : Reading) (sequence identifier pages : ℕ) → join_answers o room ≡ ok_joined units r sequence identifier pages → ReadOnce o
join-reads-once o room units r sequence identifier pages e = right-read-once o (join-accepted o room units r sequence identifier pages e).right

-- ---- pages and messages of one page

-- the base's page of a whole text
one-page-octets : (ucs2 : Bool) (t : List ℕ) → page_text ucs2 (content_of ucs2 t) ≡ text_octets Broadcast ucs2 t
one-page-octets true t = refl
one-page-octets false t = refl

one-page-sized : (ucs2 : Bool) (t : List ℕ) → length (content_of ucs2 t) ≤ page_room ucs2 → over_size Broadcast ucs2 t ≡ false
one-page-sized true t h = le-ltb _ _ h
one-page-sized false t h = le-ltb _ _ h

module _ (sequence identifier : ℕ) (r : Reading) (t out : List ℕ) (a : Sends sequence identifier r t out) where
  pub pages-content : joined_from (is_ucs2 r.alphabet) (sent_blocks sequence identifier r t out) 1 (reading_pages r t)
      ≡ reading_content r t ++ replicate (page_room (is_ucs2 r.alphabet) * reading_pages r t - length (reading_content r t)) cr
  pages-content =
      let w = sent-writable sequence identifier r t out a in
      ap (λ (o : List ℕ). joined_from (is_ucs2 r.alphabet) o 1 (reading_pages r t)) (sent-blocks sequence identifier r t out a)
      ∙ any-order-content sequence identifier r t w.sized (blocks_as sequence identifier r t) (in_order sequence identifier r t)
      ∙ filled-behind (page_room (is_ucs2 r.alphabet) * reading_pages r t) (reading_content r t)

  -- the header of each page
  pub sent-header : (i : ℕ) → i < reading_pages r t
      → header_at (sent_blocks sequence identifier r t out) i ≡ record { sequence = sequence; identifier = identifier; coding = smallest Broadcast r; total = reading_pages r t; number = 1 + i }
  sent-header i h =
      ap (λ (o : List ℕ). header_at o i) (sent-blocks sequence identifier r t out a)
      ∙ order-header sequence identifier r t (sent-writable sequence identifier r t out a).sized (blocks_as sequence identifier r t) (in_order sequence identifier r t) i h

  pub build-is-written : (k : ℕ) → 1 ≤ k → k ≤ reading_pages r t
      → ((built_as sequence identifier r t k).answer ≡ Ok (reading_pages r t)) × ((built_as sequence identifier r t k).block ≡ block_at (sent_blocks sequence identifier r t out) (k - 1))
  build-is-written k some most =
      let b = build-accepts sequence identifier r t k record { writable = sent-writable sequence identifier r t out a; some = some; most = most } in
      let which : 1 + (k - 1) ≡ k = omega arith in (
        b.0,
        b.1
            ∙ sym (ap (λ (o : List ℕ). block_at o (k - 1)) (sent-blocks sequence identifier r t out a) ∙ written_at sequence identifier r t (k - 1) (omega arith) ∙ ap (block_as sequence identifier r t) which),
      )

  one-page-fits : reading_pages r t ≡ 1 → length (reading_content r t) ≤ page_room (is_ucs2 r.alphabet)
  one-page-fits one =
      let room : ℕ = page_room (is_ucs2 r.alphabet) in
      let size : length (reading_content r t) ≤ room * 1 = subst (λ (k : ℕ). length (reading_content r t) ≤ room * k) one (fewest-hold 15 room (length (reading_content r t)) (sent-writable sequence identifier r t out a).sized) in
      omega arith

  -- what is written as pages has no prefix mark, so as one page it has no letters in front
  plain-octets : message_octets Broadcast r t ≡ text_octets Broadcast (is_ucs2 r.alphabet) t
  plain-octets = octets-same Broadcast r (sent-writable sequence identifier r t out a).holds.unmarked t

  pub one-page : reading_pages r t ≡ 1 → drop 6 (sent_blocks sequence identifier r t out) ≡ message_octets Broadcast r t
  unfolding blocks_as blocks_from block_of part_at
  one-page one =
      let ucs2 : Bool = is_ucs2 r.alphabet in
      let whole : part_at (page_room ucs2) (reading_content r t) 1 ≡ reading_content r t =
      ap (λ (k : ℕ). take (page_room ucs2) (drop k (reading_content r t))) (mul-zero (page_room ucs2)) ∙ take_all (page_room ucs2) (reading_content r t) (one-page-fits one) in
      ap (drop 6) (sent-blocks sequence identifier r t out a ∙ ap (λ (k : ℕ). blocks_from sequence identifier (smallest Broadcast r) (reading_pages r t) ucs2 (reading_content r t) 1 k) one)
      ∙ append-nil (page_text ucs2 (part_at (page_room ucs2) (reading_content r t) 1))
      ∙ ap (page_text ucs2) whole
      ∙ one-page-octets ucs2 t
      ∙ sym plain-octets

  -- the base's writer accepts such a text, in any buffer of 82 octets or more
  one-page-writable : reading_pages r t ≡ 1 → (room : ℕ) → 82 ≤ room → Writable Broadcast r t room
  one-page-writable one room h =
      let ucs2 : Bool = is_ucs2 r.alphabet in
      let w = sent-writable sequence identifier r t out a in
      let long : length (message_octets Broadcast r t) ≡ 82 = ap length (plain-octets ∙ sym (one-page-octets ucs2 t)) ∙ page-text-length ucs2 (reading_content r t) (one-page-fits one) in
      record {
        new = refl;
        plain = w.plain;
        octet = w.octet;
        holds = w.holds;
        codable = w.codable;
        sized = one-page-sized ucs2 t (one-page-fits one);
        fits = omega arith;
      }

  pub one-page-accepted : reading_pages r t ≡ 1 → (lent : List ℕ) → 82 ≤ length lent → Accepted Broadcast r t lent
  one-page-accepted one lent h = ap write_number (message-accepts Broadcast r t lent (one-page-writable one (length lent) h)).0

  pub one-page-sent : reading_pages r t ≡ 1 → (lent : List ℕ) → Accepted Broadcast r t lent → drop 6 (sent_blocks sequence identifier r t out) ≡ sent Broadcast r t lent
  one-page-sent one lent b = one-page one ∙ sym (sent-octets Broadcast r t lent (sent-writable sequence identifier r t out a).holds.unmarked b)
