-- A block is its header's octets and the text behind them, each field in octets of its own, so that a block gives its header and its text back;
-- a page's text is 82 octets whatever it holds, so that page k of blocks end to end stands at a multiple of 88.
-- Assumes nothing.
--   header-block, text-block, block-length   a block's header, text and length
--   block-injective      blocks are equal only where their headers and texts are
--   page-text-length, page-block-length, blocks-length, blocks-count   82 octets of text, 88 of a block, and 88 for each page
--   blocks_more          one page more at the end
--   blocks_at            block i of the pages from k on is page k + i
use mathlib.Core.Path.{◌≡◌, refl, sym, ap, ◌∙◌}
use mathlib.Core.Bool.{Bool, true, false}
use mathlib.Core.List.{List, ◌++◌, append_assoc, append-nil}
use Prim.Native.Nat.{ℕ, zero, suc, ◌+◌, ◌*◌, ◌/◌, ◌%◌, ◌≤◌, ◌<◌}
use native.Mathlib.Nat.{add-zero, add-suc, suc-add}
use native.Mathlib.Numerals.{add-one}
use native.Mathlib.Omega.{arith}
use lib.ListN.{length, take, drop, length-append}
use lib.Seq.{take_at, drop-append-add}
use Rattle.lists.proofs.Bits.{bits-number}
use Rattle.filling.specs.Filling.{part_at}
use Rattle.filling.proofs.Parts.{part-length}
use Rattle.stream.specs.Ucs2.{unit_page}
use Rattle.stream.proofs.UnitOctets.{unit-octets-length}
use Rattle.stream.proofs.Pages.{unit-page-length}
use Rattle.stream.proofs.Theorems.{page-octets-length}
use Rattle.pages.specs.declared.Header.{Header}
use Rattle.pages.specs.Blocks.{header_of, text_in, block_of}
use Rattle.pages.specs.Parts.{page_room, page_text}
use Rattle.pages.specs.Written.{page_block, blocks_from}
use Rattle.pages.specs.Joined.{block_count, block_at}

-- ---- one block

header-fields : (a b : Header) → a.sequence ≡ b.sequence → a.identifier ≡ b.identifier → a.coding ≡ b.coding → a.total ≡ b.total → a.number ≡ b.number → a ≡ b
header-fields a b p q r s t i = record { sequence = p i; identifier = q i; coding = r i; total = s i; number = t i }

pub header-block : (h : Header) (text : List ℕ) → h.total < 16 → h.number < 16 → header_of (block_of h text) ≡ h
unfolding header_of block_of
header-block h text total number =
    header-fields (header_of (block_of h text)) h (omega arith) (omega arith) refl
    (bits-number (h.total % 16 + 16 * (h.number % 16)) 3 0 ∙ omega arith)
    (bits-number (h.total % 16 + 16 * (h.number % 16)) 7 4 ∙ omega arith)

pub text-block : (h : Header) (text : List ℕ) → text_in (block_of h text) ≡ text
unfolding block_of
text-block h text = refl

pub block-length : (h : Header) (text : List ℕ) → length (block_of h text) ≡ 6 + length text
unfolding block_of
block-length h text = omega arith

pub block-injective : (a b : Header) (s t : List ℕ) → a.total < 16 → a.number < 16 → b.total < 16 → b.number < 16 → block_of a s ≡ block_of b t → (a ≡ b) × (s ≡ t)
block-injective a b s t at an bt bn e = (
  sym (header-block a s at an) ∙ ap header_of e ∙ header-block b t bt bn,
  sym (text-block a s) ∙ ap text_in e ∙ text-block b t,
)

-- ---- pages end to end

pub page-text-length : (ucs2 : Bool) (part : List ℕ) → length part ≤ page_room ucs2 → length (page_text ucs2 part) ≡ 82
page-text-length true part h = unit-octets-length (unit_page part) ∙ ap (λ (n : ℕ). 2 * n) (unit-page-length part h)
page-text-length false part h = page-octets-length part h

module _ (sequence identifier coding total : ℕ) (ucs2 : Bool) (content : List ℕ) where
  abbrev block_for : ℕ → List ℕ
  block_for k = page_block sequence identifier coding total ucs2 content k

  abbrev blocks_for : ℕ → ℕ → List ℕ
  blocks_for k n = blocks_from sequence identifier coding total ucs2 content k n

  pub page-block-length : (k : ℕ) → length (page_block sequence identifier coding total ucs2 content k) ≡ 88
  page-block-length k =
      block-length _ (page_text ucs2 (part_at (page_room ucs2) content k))
      ∙ ap (λ (n : ℕ). 6 + n) (page-text-length ucs2 (part_at (page_room ucs2) content k) (part-length (page_room ucs2) content k))

  pub blocks-length : (k n : ℕ) → length (blocks_from sequence identifier coding total ucs2 content k n) ≡ 88 * n
  unfolding blocks_from
  blocks-length k zero = refl
  blocks-length k (suc n) = length-append (block_for k) (blocks_for (suc k) n) ∙ omega (arith, page-block-length k, blocks-length (suc k) n)

  pub blocks-count : (k n : ℕ) → block_count (blocks_from sequence identifier coding total ucs2 content k n) ≡ n
  blocks-count k n = ap (λ (m : ℕ). m / 88) (blocks-length k n) ∙ omega arith

  -- one page more, at the end
  pub blocks_more : (k n : ℕ) → blocks_from sequence identifier coding total ucs2 content k (n + 1) ≡ blocks_from sequence identifier coding total ucs2 content k n ++ page_block sequence identifier coding total ucs2 content (k + n)
  unfolding blocks_from
  blocks_more k zero = append-nil (block_for k) ∙ ap block_for (sym (add-zero k))
  blocks_more k (suc n) =
      ap (λ (m : ℕ). blocks_for k m) (add-one (suc n))
      ∙ ap (λ (l : List ℕ). block_for k ++ l) (ap (λ (m : ℕ). blocks_for (suc k) m) (sym (add-one n)) ∙ blocks_more (suc k) n)
      ∙ sym (append_assoc (block_for k) (blocks_for (suc k) n) (block_for (suc k + n)))
      ∙ ap (λ (m : ℕ). (block_for k ++ blocks_for (suc k) n) ++ block_for m) (suc-add k n ∙ sym (add-suc k n))

  pub blocks_at : (k n i : ℕ) → i < n → block_at (blocks_from sequence identifier coding total ucs2 content k n) i ≡ page_block sequence identifier coding total ucs2 content (k + i)
  unfolding blocks_from block_at
  blocks_at k zero i h = absurd (omega arith)
  blocks_at k (suc n) zero h = take_at (block_for k) (blocks_for (suc k) n) 88 (page-block-length k) ∙ ap block_for (sym (add-zero k))
  blocks_at k (suc n) (suc i) h =
      let far : 88 * suc i ≡ length (block_for k) + 88 * i = omega (arith, page-block-length k) in
      ap (λ (m : ℕ). take 88 (drop m (block_for k ++ blocks_for (suc k) n))) far
      ∙ ap (take 88) (drop-append-add (block_for k) (blocks_for (suc k) n) (88 * i))
      ∙ blocks_at (suc k) n i (omega arith)
      ∙ ap block_for (suc-add k i ∙ sym (add-suc k i))
