-- The words in which the theorems of long short messages are stated (proofs/Demands.antt, proofs/All.antt, proofs/Joining.antt,
-- proofs/Whole.antt, and those of refusals).
-- Own rule: none. Cited by those theorems alone, and by no contract. Assumes nothing.
--   header_as r reference t k                                        == the header of part k of the text t under the reading r, or no octets
--   content_as r t k                                                 == what that part holds: septets, or units
--   numbers_as r reference t k                                       == the numbers that its header gives, or none
--   ReadingWritable r                                                == no rule refuses the reading r of a text (8, 1, 2)
--   PartsWritable r t                                                == none refuses to count the parts of the text t under it (nor 6, 5)
--   PartWritable r reference t k room                                == none refuses to write part k of it into a buffer of that room (nor 10, 7)
--   PartsStorable r reference t room list                            == none refuses to write all parts of it into buffers of that room for octets and sizes (nor 7)
--   PartReadable coding marked count o room                          == no rule refuses to read the octets o (1, 2, 4, 12, 4, 7)
--   PartsJoinable coding cs o room                                   == no rule refuses to join the parts with the counts cs and the octets o (1, 2, 4, 12, 4, 10, 7)
--   SendsPart r reference t k out                                    == write_part, lent the buffer out, answers without a refusal
--   sent_part, sent_count, sent_mark, sent_coding, sent_parts        == the octets that it leaves at the front of out, as many as it reports; the count; the mark; the
--                                                                       coding octet; how many parts it reports
--   ComesPart coding marked count o r c text                         == read_part, lent any buffer with room for the text, accepts the octets o, answers with the reading r and the
--                                                                       numbers c, and leaves the text at the front of the buffer
--   SendsParts r reference t out list                                == write_parts, lent the buffers out and list, answers without a refusal
--   sent_all, sent_sizes, sent_all_mark, sent_all_coding, sent_total == the octets that it leaves at the front of out, as many as it reports, and the sizes at the
--                                                                       front of list, two for each part; the mark; the coding octet; how many parts it reports
--   count_in z i, size_in z i                                        == by the sizes z, the count of part i, from 0, and how many octets it has
--   start_in z i, piece_in z m i                                     == where it begins among the octets m, and its octets
--   counts_of z                                                      == the counts alone, as join_parts takes them
--   Reordered ucs2 n count part cs o                                 == the counts cs and the octets o, end to end, are n parts in any order, of which `count k` and `part k` are those of
--                                                                       part k, from 0: part i of them is part `from i`, and part k is part `to k` of them; there are no more octets
--   pieces_from part i n                                             == n parts from part i on, end to end
--   JoinsParts coding cs o r reference parts text                    == join_parts, lent any buffer with room for the text, accepts the counts cs and the octets o, answers
--                                                                       with the reading, the reference and the parts, and leaves the text at the front of the buffer
--   ReadOnce ucs2 cs o                                               == of the parts each is read once and none is left out: number k is read from part `place_of ucs2 cs o k`, and part i has the
--                                                                       number `number_at ucs2 cs o i`
--   alone answer, unmarked answer                                    == the answer of the base's whole writer as that of write_part for a lone message; of its whole reader as that of read_part
use Rattle.std.specs.Prelude.{◌≡◌, Bool, true, false, cond, List, [], ◌∷◌, ◌++◌, ℕ, zero, suc, ◌+◌, ◌*◌, ◌<◌, ◌≤◌, length, get_or, take, drop, Result, Option, Ok, Err, Some, None}
use Rattle.words.specs.declared.Service.TheVariants.{ShortMessage}
use Rattle.lists.specs.Lists.{laid}
use Rattle.coding.specs.declared.Reading.{Reading}
use Rattle.coding.specs.OctetRead.{read_under, octet_reads}
use Rattle.coding.specs.Holding.{is_ucs2}
use Rattle.letters.specs.Sized.{not_codable}
use Rattle.demands.specs.declared.MessageRead.{MessageRead}
use Rattle.demands.specs.declared.MessageWritten.{MessageWritten}
use Rattle.demands.specs.Demands.{HoldsText}
use Rattle.filling.specs.Numbered.{OneToOne}
use Rattle.parted.specs.declared.PartWritten.{PartWritten}
use Rattle.parted.specs.declared.PartRead.{PartRead}
use Rattle.parted.specs.Parts.{most_parts, is_marked, part_header, part_content}
use Rattle.parted.specs.Written.{reading_parts, reading_content, octets_as, octets_of_all, part_answers, part_leaves, all_answers, all_leaves, sizes_leaves}
use Rattle.parted.specs.Read.{count_fits, head_size, wrong_head, odd_behind, text_behind, part_reads, part_read_leaves}
use Rattle.parted.specs.Joined.{all_asked, part_in, wrong_counts, wrong_heads, odd_parts, number_at, total_at, alike, wrong_parts, joined_text, join_answers, join_leaves}
use Rattle.parted.specs.Reports.{part_number, part_written, part_travels, part_marked, part_coding, part_parts, parts_number, parts_written, parts_marked, parts_coding, parts_parts}
use Rattle.words.specs.declared.Refusal.{Refusal}
use Rattle.headed.specs.declared.Numbers.{Numbers}
use Rattle.parted.specs.Successes.{ok_part_read}
use Rattle.parted.specs.Successes.{ok_part_written}
use Rattle.parted.specs.Successes.{ok_parts_joined}

abbrev pub header_as : Reading → ℕ → List ℕ → ℕ → List ℕ
header_as r reference t k = part_header reference (reading_parts r t) k

abbrev pub content_as : Reading → List ℕ → ℕ → List ℕ
content_as r t k = part_content (is_ucs2 r.alphabet) (reading_parts r t) (reading_content r t) k

abbrev pub numbers_as : Reading → ℕ → List ℕ → ℕ → Option Numbers
numbers_as r reference t k =
    cond (is_marked (reading_parts r t)) (Some (record { reference = reference; total = reading_parts r t; number = k })) None

pub record ReadingWritable (r : Reading) : Type 0 where
  pub plain : r.reserved ≡ false
  pub octet : (o : ℕ) × ((o < 256) × (octet_reads ShortMessage o ≡ Ok r))
  pub holds : HoldsText r

pub record PartsWritable (r : Reading) (t : List ℕ) : Type 0 where
  pub reading : ReadingWritable r
  pub codable : not_codable (is_ucs2 r.alphabet) t ≡ false
  pub sized : reading_parts r t ≤ most_parts

pub record PartWritable (r : Reading) (reference : ℕ) (t : List ℕ) (k room : ℕ) : Type 0 where
  pub writable : PartsWritable r t
  pub some : 1 ≤ k
  pub most : k ≤ reading_parts r t
  pub fits : length (octets_as r reference t k) ≤ room

pub record PartsStorable (r : Reading) (reference : ℕ) (t : List ℕ) (room list : ℕ) : Type 0 where
  pub writable : PartsWritable r t
  pub fits : length (octets_of_all r reference t) ≤ room
  pub listed : 2 * reading_parts r t ≤ list

pub record PartReadable (coding : ℕ) (marked : Bool) (count : ℕ) (o : List ℕ) (room : ℕ) : Type 0 where
  pub holds : HoldsText (read_under ShortMessage coding)
  pub whole : count_fits (is_ucs2 (read_under ShortMessage coding).alphabet) (length o) count ≡ true
  pub right : marked ≡ true → wrong_head (is_ucs2 (read_under ShortMessage coding).alphabet) count o ≡ false
  pub even : odd_behind (is_ucs2 (read_under ShortMessage coding).alphabet) (head_size marked o) o ≡ false
  pub fits : length (text_behind (is_ucs2 (read_under ShortMessage coding).alphabet) (head_size marked o) count o) ≤ room

pub record PartsJoinable (coding : ℕ) (cs o : List ℕ) (room : ℕ) : Type 0 where
  pub holds : HoldsText (read_under ShortMessage coding)
  pub whole : wrong_counts (is_ucs2 (read_under ShortMessage coding).alphabet) cs o ≡ false
  pub heads : wrong_heads (is_ucs2 (read_under ShortMessage coding).alphabet) cs o ≡ false
  pub even : odd_parts (is_ucs2 (read_under ShortMessage coding).alphabet) cs o ≡ false
  pub right : wrong_parts (is_ucs2 (read_under ShortMessage coding).alphabet) cs o ≡ false
  pub fits : length (joined_text (is_ucs2 (read_under ShortMessage coding).alphabet) cs o) ≤ room

-- a success has the number 0, and no refusal has (number-above-0)
abbrev pub SendsPart : Reading → ℕ → List ℕ → ℕ → List ℕ → Type 0
SendsPart r reference t k out = part_number (part_answers r reference t k (length out)) ≡ 0

abbrev pub sent_part : Reading → ℕ → List ℕ → ℕ → List ℕ → List ℕ
sent_part r reference t k out = take (part_written (part_answers r reference t k (length out))) (part_leaves r reference t k out)

abbrev pub sent_count : Reading → ℕ → List ℕ → ℕ → List ℕ → ℕ
sent_count r reference t k out = part_travels (part_answers r reference t k (length out))

abbrev pub sent_mark : Reading → ℕ → List ℕ → ℕ → List ℕ → Bool
sent_mark r reference t k out = part_marked (part_answers r reference t k (length out))

abbrev pub sent_coding : Reading → ℕ → List ℕ → ℕ → List ℕ → ℕ
sent_coding r reference t k out = part_coding (part_answers r reference t k (length out))

abbrev pub sent_parts : Reading → ℕ → List ℕ → ℕ → List ℕ → ℕ
sent_parts r reference t k out = part_parts (part_answers r reference t k (length out))

abbrev pub ComesPart : ℕ → Bool → ℕ → List ℕ → Reading → Option Numbers → List ℕ → Type 0
ComesPart coding marked count o r c text =
    (out : List ℕ) → length text ≤ length out
    → (part_reads coding marked count o (length out) ≡ ok_part_read (length text) r c) × (part_read_leaves coding marked count o out ≡ laid text out)

abbrev pub SendsParts : Reading → ℕ → List ℕ → List ℕ → List ℕ → Type 0
SendsParts r reference t out list = parts_number (all_answers r reference t (length out) (length list)) ≡ 0

abbrev pub sent_all : Reading → ℕ → List ℕ → List ℕ → List ℕ → List ℕ
sent_all r reference t out list =
    take (parts_written (all_answers r reference t (length out) (length list))) (all_leaves r reference t (length list) out)

abbrev pub sent_sizes : Reading → ℕ → List ℕ → List ℕ → List ℕ → List ℕ
sent_sizes r reference t out list =
    take (2 * parts_parts (all_answers r reference t (length out) (length list))) (sizes_leaves r reference t (length out) list)

abbrev pub sent_all_mark : Reading → ℕ → List ℕ → List ℕ → List ℕ → Bool
sent_all_mark r reference t out list = parts_marked (all_answers r reference t (length out) (length list))

abbrev pub sent_all_coding : Reading → ℕ → List ℕ → List ℕ → List ℕ → ℕ
sent_all_coding r reference t out list = parts_coding (all_answers r reference t (length out) (length list))

abbrev pub sent_total : Reading → ℕ → List ℕ → List ℕ → List ℕ → ℕ
sent_total r reference t out list = parts_parts (all_answers r reference t (length out) (length list))

-- ---- the sizes of parts end to end

abbrev pub count_in : List ℕ → ℕ → ℕ
count_in z i = get_or z (2 * i) 0

abbrev pub size_in : List ℕ → ℕ → ℕ
size_in z i = get_or z (2 * i + 1) 0

unfoldable pub start_in : List ℕ → ℕ → ℕ
start_in z zero = 0
start_in z (suc i) = start_in z i + size_in z i

unfoldable pub piece_in : List ℕ → List ℕ → ℕ → List ℕ
piece_in z m i = take (size_in z i) (drop (start_in z i) m)

unfoldable pub counts_of : List ℕ → List ℕ
counts_of [] = []
counts_of (c ∷ []) = c ∷ []
counts_of (c ∷ n ∷ z) = c ∷ counts_of z

-- ---- parts in any order

pub record Reordered (ucs2 : Bool) (n : ℕ) (count : ℕ → ℕ) (part : ℕ → List ℕ) (cs o : List ℕ) : Type 0 where
  pub long : length cs ≡ n
  pub whole : length o ≡ all_asked ucs2 cs
  pub from : ℕ → ℕ
  pub to : ℕ → ℕ
  pub from-within : (i : ℕ) → i < n → from i < n
  pub to-within : (k : ℕ) → k < n → to k < n
  pub to-from : (i : ℕ) → i < n → to (from i) ≡ i
  pub from-to : (k : ℕ) → k < n → from (to k) ≡ k
  pub counts : (i : ℕ) → i < n → get_or cs i 0 ≡ count (from i)
  pub same : (i : ℕ) → i < n → part_in ucs2 cs o i ≡ part (from i)

unfoldable pub pieces_from : (ℕ → List ℕ) → ℕ → ℕ → List ℕ
pieces_from part i zero = []
pieces_from part i (suc n) = part i ++ pieces_from part (suc i) n

abbrev pub JoinsParts : ℕ → List ℕ → List ℕ → Reading → ℕ → ℕ → List ℕ → Type 0
JoinsParts coding cs o r reference parts text =
    (out : List ℕ) → length text ≤ length out
    → (join_answers coding cs o (length out) ≡ ok_parts_joined (length text) r reference parts) × (join_leaves coding cs o out ≡ laid text out)

abbrev pub ReadOnce : Bool → List ℕ → List ℕ → Type 0
ReadOnce ucs2 cs o = OneToOne (number_at ucs2 cs o) (total_at ucs2 cs o) (alike ucs2 cs o) (length cs)

abbrev pub alone : Result MessageWritten Refusal → Result PartWritten Refusal
alone (Ok m) = ok_part_written m.octets m.count false m.coding 1
alone (Err q) = Err q

abbrev pub unmarked : Result MessageRead Refusal → Result PartRead Refusal
unmarked (Ok m) = ok_part_read m.units m.reading None
unmarked (Err q) = Err q
