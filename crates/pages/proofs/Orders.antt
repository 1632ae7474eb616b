-- The blocks of a message in any order: each has its page's number, so that page k is found at the one place where it stands, and what is
-- joined is the message whatever the order.
-- Assumes nothing.
--   written_count, written_at, block-header   how many blocks a message has, block i of it, which is page i + 1, and that page's header
--   order-header         the header of block i in any order
--   any-order-read-once  of the blocks in any order each is read once and none is left out
--   any-order-content    what they hold, joined, is the content and CRs behind it
--   in_order             the blocks as they were written are in an order
use mathlib.Core.Path.{◌≡◌, refl, sym, ap, ap₂, ◌∙◌}
use mathlib.Core.Bool.{true}
use mathlib.Core.List.{List}
use Prim.Native.Nat.{ℕ, ◌+◌, ◌-◌, ◌*◌, ◌/◌, ◌%◌, ◌≤◌, ◌<◌}
use native.Mathlib.Omega.{arith}
use lib.ListN.{length}
use Rattle.lists.specs.Bits.{bits_of}
use Rattle.lists.proofs.Bits.{bits-number}
use Rattle.filling.specs.Filling.{part_at}
use Rattle.filling.proofs.Parts.{fewest-some, fewest-hold}
use Rattle.filling.proofs.Placing.{numbered-one-to-one}
use borrow.Author.Tests.{eq-eqb}
use Rattle.words.specs.declared.Service.TheVariants.{Broadcast}
use Rattle.coding.specs.declared.Reading.{Reading}
use Rattle.coding.specs.OctetWritten.{smallest}
use Rattle.coding.specs.Holding.{is_ucs2}
use Rattle.pages.specs.declared.Header.{Header}
use Rattle.pages.specs.Blocks.{header_of, text_in, block_of}
use Rattle.pages.specs.Parts.{page_room, page_text}
use Rattle.pages.specs.Written.{reading_pages, reading_content, block_as, blocks_as}
use Rattle.pages.specs.Joined.{block_count, block_at, header_at, number_at, total_at, place_of, of_one_message, alike_at, joined_from}
use Rattle.pages.specs.Messages.{filled_to, Reordered, ReadOnce}
use Rattle.pages.proofs.Blocks.{header-block, text-block, blocks-count, blocks_at}
use Rattle.pages.proofs.Contents.{joined-whole, content-below}

-- two blocks whose headers differ in the number alone are of one message
one-message : (sequence identifier coding total k l : ℕ) (s t : List ℕ)
    → of_one_message (block_of (record { sequence = sequence; identifier = identifier; coding = coding; total = total; number = k }) s)
    (block_of (record { sequence = sequence; identifier = identifier; coding = coding; total = total; number = l }) t)
    ≡ true
unfolding of_one_message block_of header_of
one-message sequence identifier coding total k l s t =
    let low : (n : ℕ) → bits_of (total % 16 + 16 * (n % 16)) 3 0 ≡ total % 16 = λ n. bits-number (total % 16 + 16 * (n % 16)) 3 0 ∙ omega arith in
    simp (low k, low l, eq-eqb (sequence / 256) _ refl, eq-eqb (sequence % 256) _ refl, eq-eqb (identifier / 256) _ refl, eq-eqb (identifier % 256) _ refl, eq-eqb coding _ refl, eq-eqb (total % 16) _ refl)

module _ (sequence identifier : ℕ) (r : Reading) (t : List ℕ) where
  pub written_count : block_count (blocks_as sequence identifier r t) ≡ reading_pages r t
  unfolding blocks_as
  written_count = blocks-count sequence identifier (smallest Broadcast r) (reading_pages r t) (is_ucs2 r.alphabet) (reading_content r t) 1 (reading_pages r t)

  pub written_at : (i : ℕ) → i < reading_pages r t → block_at (blocks_as sequence identifier r t) i ≡ block_as sequence identifier r t (1 + i)
  unfolding blocks_as block_as
  written_at i h = blocks_at sequence identifier (smallest Broadcast r) (reading_pages r t) (is_ucs2 r.alphabet) (reading_content r t) 1 (reading_pages r t) i h

  pub block-header : (k : ℕ) → reading_pages r t < 16 → k < 16
      → header_of (block_as sequence identifier r t k) ≡ record { sequence = sequence; identifier = identifier; coding = smallest Broadcast r; total = reading_pages r t; number = k }
  unfolding block_as
  block-header k few h = header-block (record { sequence = sequence; identifier = identifier; coding = smallest Broadcast r; total = reading_pages r t; number = k }) _ few h

  block-text : (k : ℕ) → text_in (block_as sequence identifier r t k) ≡ page_text (is_ucs2 r.alphabet) (part_at (page_room (is_ucs2 r.alphabet)) (reading_content r t) k)
  unfolding block_as
  block-text k = text-block (record { sequence = sequence; identifier = identifier; coding = smallest Broadcast r; total = reading_pages r t; number = k }) _

  blocks-one : (k l : ℕ) → of_one_message (block_as sequence identifier r t k) (block_as sequence identifier r t l) ≡ true
  unfolding block_as
  blocks-one k l = one-message sequence identifier (smallest Broadcast r) (reading_pages r t) k l _ _

  abbrev pub in_order : Reordered (blocks_as sequence identifier r t) (blocks_as sequence identifier r t)
  in_order =
      record {
        long = refl;
        from = λ i. i;
        to = λ k. k;
        from-within = λ i h. h;
        to-within = λ k h. h;
        to-from = λ i h. refl;
        from-to = λ k h. refl;
        same = λ i h. refl;
      }

  module _ (few : reading_pages r t ≤ 15) (o : List ℕ) (x : Reordered (blocks_as sequence identifier r t) o) where
    order-count : block_count o ≡ reading_pages r t
    order-count = ap (λ (n : ℕ). n / 88) x.long ∙ written_count

    inside : (i : ℕ) → i < reading_pages r t → x.from i < reading_pages r t
    inside i h = omega (arith, x.from-within i (omega (arith, written_count)), written_count)

    order-at : (i : ℕ) → i < reading_pages r t → block_at o i ≡ block_as sequence identifier r t (1 + x.from i)
    order-at i h = x.same i (omega (arith, written_count)) ∙ written_at (x.from i) (inside i h)

    pub order-header : (i : ℕ) → i < reading_pages r t
        → header_at o i ≡ record { sequence = sequence; identifier = identifier; coding = smallest Broadcast r; total = reading_pages r t; number = 1 + x.from i }
    unfolding header_at
    order-header i h = ap header_of (order-at i h) ∙ block-header (1 + x.from i) (omega arith) (omega (arith, inside i h))

    order-number : (i : ℕ) → i < reading_pages r t → number_at o i ≡ 1 + x.from i
    order-number i h = ap (λ (h : Header). h.number) (order-header i h)

    order-total : (i : ℕ) → i < reading_pages r t → total_at o i ≡ reading_pages r t
    order-total i h = ap (λ (h : Header). h.total) (order-header i h)

    -- blocks with one number are one block
    order-once : (i j : ℕ) → i < reading_pages r t → j < reading_pages r t → number_at o i ≡ number_at o j → i ≡ j
    order-once i j h k e =
        let same : x.from i ≡ x.from j = omega (arith, order-number i h, order-number j k) in
        sym (x.to-from i (omega (arith, written_count))) ∙ ap x.to same ∙ x.to-from j (omega (arith, written_count))

    -- the block of page k
    whose : (k : ℕ) → 1 ≤ k → k ≤ block_count o → (i : ℕ) × ((i < block_count o) × (number_at o i ≡ k))
    whose k some most =
        let here : k - 1 < block_count (blocks_as sequence identifier r t) = omega (arith, written_count, order-count) in
        let place : x.to (k - 1) < reading_pages r t = omega (arith, x.to-within (k - 1) here, written_count) in
        (x.to (k - 1), (omega (arith, order-count), omega (arith, order-number (x.to (k - 1)) place, x.from-to (k - 1) here)))

    pub any-order-read-once : ReadOnce o
    any-order-read-once =
        let within : (i : ℕ) → i < block_count o → i < reading_pages r t = λ i h. omega (arith, order-count) in
        numbered-one-to-one (number_at o) (total_at o) (alike_at o) (block_count o) (order-count ∙ sym (order-total 0 (fewest-some _ _ _)))
        (λ i h. let number : number_at o i ≡ 1 + x.from i = order-number i (within i h) in (omega arith, omega (arith, inside i (within i h), order-count)))
        (λ i j h k e. order-once i j (within i h) (within j k) e)
        whose
        (λ i h. ap₂ of_one_message (order-at 0 (fewest-some _ _ _)) (order-at i (within i h)) ∙ blocks-one (1 + x.from 0) (1 + x.from i))

    -- page k stands in its place
    order-page : (k : ℕ) → 1 ≤ k → k ≤ reading_pages r t → block_at o (place_of o k) ≡ block_as sequence identifier r t k
    order-page k some most =
        let found = any-order-read-once.there k some (omega (arith, order-total 0 (fewest-some _ _ _))) in
        let here : place_of o k < reading_pages r t = omega (arith, found.0, order-count) in
        order-at (place_of o k) here
        ∙ ap (block_as sequence identifier r t) (sym (order-number (place_of o k) here) ∙ found.1)

    pub any-order-content : joined_from (is_ucs2 r.alphabet) o 1 (reading_pages r t) ≡ filled_to (page_room (is_ucs2 r.alphabet) * reading_pages r t) (reading_content r t)
    any-order-content =
        joined-whole (is_ucs2 r.alphabet) (reading_content r t) (reading_pages r t) o
        record {
          septets = content-below (is_ucs2 r.alphabet) t;
          holds = fewest-hold 15 (page_room (is_ucs2 r.alphabet)) (length (reading_content r t)) few;
          page = λ k some most. ap text_in (order-page k some most) ∙ block-text k;
        }
