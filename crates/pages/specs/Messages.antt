-- The words in which the theorems of messages of several pages are stated (proofs/Demands.antt).
-- Own rule: none. Cited by those theorems alone, and by no contract. Assumes nothing.
--   filled_to n s                                             == s filled up with CR to the length n
--   count_numbers, build_numbers, write_numbers, join_numbers == the numbers that each call can refuse with, in their order
--   one_of n ns                                               == n is one of the numbers ns
--   PagesWritable r t                                         == no rule refuses to count the pages of the text t under the reading r (8, 1, 2, 3, 6, 5)
--   PageBuildable r t k, PagesStorable r t room               == no rule refuses to build page k of it (nor 10), to write all pages into a buffer of that room (nor 7)
--   PagesJoinable o room                                      == no rule refuses to join the blocks o into a buffer of that room (4, 10 of no block, 1, 2, 3, 10, 7)
--   Sends sequence identifier r t out                         == write_pages, lent the buffer out, answers without a refusal
--   sent_blocks sequence identifier r t out                   == the octets that it leaves at the front of out, as many as it reports
--   Reordered m o                                             == the blocks o are the blocks m in any order: block i of o is block `from i` of m, and block k of m is block `to k` of o
--   Joins o r sequence identifier pages text                  == join_pages, lent any buffer with room for the text, accepts the blocks o, answers with the reading, the
--                                                                header and the pages, and leaves the text at the front of the buffer
--   ReadOnce o                                                == of the blocks o each is read once and none is left out: page k is read from block `place_of o k`, and block i is page `number_at o i`
use Rattle.std.specs.Prelude.{◌≡◌, Bool, false, ◌||◌, List, [], ◌∷◌, ℕ, ◌*◌, ◌%◌, ◌<◌, ◌≤◌, eqb, length, take, replicate, Ok}
use Rattle.words.specs.declared.Service.TheVariants.{Broadcast}
use Rattle.lists.specs.Lists.{laid}
use Rattle.filling.specs.Numbered.{OneToOne}
use Rattle.coding.specs.declared.Reading.{Reading}
use Rattle.coding.specs.OctetRead.{octet_reads}
use Rattle.coding.specs.Holding.{is_ucs2}
use Rattle.stream.specs.UssdPacking.{cr}
use Rattle.demands.specs.MessageWritten.{not_codable}
use Rattle.demands.specs.Demands.{HoldsText}
use Rattle.pages.specs.Blocks.{block_size}
use Rattle.pages.specs.Parts.{most_pages}
use Rattle.pages.specs.Written.{reading_pages, pages_answers, pages_leaves}
use Rattle.pages.specs.Joined.{block_count, block_at, number_at, total_at, alike_at, wrong_pages, joined_reading, joined_text, join_answers, join_leaves}
use Rattle.pages.specs.Reports.{pages_number, pages_written}
use Rattle.pages.specs.Successes.{ok_joined}

abbrev pub filled_to : ℕ → List ℕ → List ℕ
filled_to n s = laid s (replicate n cr)

abbrev pub count_numbers : List ℕ
count_numbers = 8 ∷ 1 ∷ 2 ∷ 3 ∷ 6 ∷ 5 ∷ []

abbrev pub build_numbers : List ℕ
build_numbers = 8 ∷ 1 ∷ 2 ∷ 3 ∷ 6 ∷ 5 ∷ 10 ∷ []

abbrev pub write_numbers : List ℕ
write_numbers = 8 ∷ 1 ∷ 2 ∷ 3 ∷ 6 ∷ 5 ∷ 7 ∷ []

-- 10 of no block stands before 1
abbrev pub join_numbers : List ℕ
join_numbers = 4 ∷ 1 ∷ 2 ∷ 3 ∷ 10 ∷ 7 ∷ []

abbrev pub one_of : ℕ → List ℕ → Bool
one_of n [] = false
one_of n (m ∷ ns) = eqb n m || one_of n ns

pub record PagesWritable (r : Reading) (t : List ℕ) : Type 0 where
  pub plain : r.reserved ≡ false
  pub octet : (o : ℕ) × ((o < 256) × (octet_reads Broadcast o ≡ Ok r))
  pub holds : HoldsText r
  pub codable : not_codable (is_ucs2 r.alphabet) t ≡ false
  pub sized : reading_pages r t ≤ most_pages

pub record PageBuildable (r : Reading) (t : List ℕ) (k : ℕ) : Type 0 where
  pub writable : PagesWritable r t
  pub some : 1 ≤ k
  pub most : k ≤ reading_pages r t

pub record PagesStorable (r : Reading) (t : List ℕ) (room : ℕ) : Type 0 where
  pub writable : PagesWritable r t
  pub fits : block_size * reading_pages r t ≤ room

pub record PagesJoinable (o : List ℕ) (room : ℕ) : Type 0 where
  pub whole : length o % block_size ≡ 0
  pub some : 0 < length o
  pub holds : HoldsText (joined_reading o)
  pub right : wrong_pages o ≡ false
  pub fits : length (joined_text (is_ucs2 (joined_reading o).alphabet) o) ≤ room

-- a success has the number 0, and no refusal has (number-above-0)
abbrev pub Sends : ℕ → ℕ → Reading → List ℕ → List ℕ → Type 0
Sends sequence identifier r t out = pages_number (pages_answers sequence identifier r t (length out)) ≡ 0

abbrev pub sent_blocks : ℕ → ℕ → Reading → List ℕ → List ℕ → List ℕ
sent_blocks sequence identifier r t out =
    take (pages_written (pages_answers sequence identifier r t (length out))) (pages_leaves sequence identifier r t out)

pub record Reordered (m o : List ℕ) : Type 0 where
  pub long : length o ≡ length m
  pub from : ℕ → ℕ
  pub to : ℕ → ℕ
  pub from-within : (i : ℕ) → i < block_count m → from i < block_count m
  pub to-within : (k : ℕ) → k < block_count m → to k < block_count m
  pub to-from : (i : ℕ) → i < block_count m → to (from i) ≡ i
  pub from-to : (k : ℕ) → k < block_count m → from (to k) ≡ k
  pub same : (i : ℕ) → i < block_count m → block_at o i ≡ block_at m (from i)

abbrev pub Joins : List ℕ → Reading → ℕ → ℕ → ℕ → List ℕ → Type 0
Joins o r sequence identifier pages text =
    (out : List ℕ) → length text ≤ length out
    → (join_answers o (length out) ≡ ok_joined (length text) r sequence identifier pages) × (join_leaves o out ≡ laid text out)

abbrev pub ReadOnce : List ℕ → Type 0
ReadOnce o = OneToOne (number_at o) (total_at o) (alike_at o) (block_count o)
