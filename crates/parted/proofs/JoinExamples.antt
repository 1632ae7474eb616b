-- Document 02, W5, by example: writing all parts and joining parts, computed as one statement over a list; the orders of refusal by inputs to which two
-- apply.
-- Assumes nothing.
--   cases-hold     each case of the list holds
use mathlib.Core.Bool.{Bool, true}
use mathlib.Core.List.{List, [], ◌∷◌, ◌++◌}
use Prim.Native.Nat.{ℕ}
use lib.Dec.{T, eqb}
use lib.ListN.{take, replicate}
use Rattle.lists.specs.Bits.{bit_of, gather, bits_of}
use Rattle.lists.specs.Lists.{first_place, laid, numbers_from}
use Rattle.lists.proofs.Tests.{both}
use Rattle.words.specs.Judging.{verdict}
use Rattle.fields.specs.Letters.{any_letter}
use Rattle.coding.specs.declared.Reading.{Reading}
use Rattle.coding.specs.Readings.{unmentioned, plain_in}
use Rattle.coding.specs.OctetRead.{class_in, discard_in, store_in, general_reading, notice_reading, last_reading, read_short}
use Rattle.coding.specs.OctetWritten.{smallest, write_rules as alone_rules}
use Rattle.coding.specs.LanguageLetters.{coding_rules}
use Rattle.coding.specs.Holding.{text_rules}
use Rattle.letters.specs.Tables.{main_table, extension, among, beside}
use Rattle.letters.specs.Writing.{septets_in, listed_in}
use Rattle.letters.specs.Reading.{unit_in, text_in, after_escape_in, escaped_in}
use Rattle.stream.specs.Stream.{stream_bit, cut, octets_for}
use Rattle.stream.specs.Ucs2.{unit_octets, octet_units}
use Rattle.demands.proofs.Cases.{same}
use Rattle.filling.specs.Filling.{fewest, part_at}
use Rattle.filling.specs.Numbered.{place_among, missing_among, repeated_among, misnumbered_among, differing_among, wrong_among}
use Rattle.headed.specs.Header.{elements_octets, header_octets, elements_up_to, elements_of, last_numbers, wrong_length, header_body, right_header, header_numbers, concatenation_header, septets_over}
use Rattle.parted.specs.Behind.{shifted_bit, packed_behind, unpacked_behind}
use Rattle.parted.specs.Parts.{room_behind, parts_holding, part_header, part_content, headed_octets, headed_count, part_octets, part_count}
use Rattle.parted.specs.Written.{all_octets, all_sizes, size_rules, count_rules, all_rules, all_answers, sizes_leaves}
use Rattle.parted.specs.Read.{wrong_head, odd_behind, content_behind}
use Rattle.parted.specs.Joined.{all_asked, part_in, wrong_counts, wrong_heads, odd_parts, numbers_at, wrong_parts, joined_from, joined_content, parts_rules, join_rules, join_answers, join_leaves}
use Rattle.parted.specs.Reports.{parts_number, join_number, join_written, join_reference, join_parts}
use Rattle.parted.specs.Messages.{sent_sizes}

-- writing all parts into so much room for octets and sizes gives this number and these sizes; joining parts with these counts and octets, under a coding octet,
-- into so much room gives this number, this reference, so many parts and this text
pub data Case : Type 0 where
  writes : Reading → List ℕ → ℕ → ℕ → ℕ → List ℕ → Case
  joins : ℕ → List ℕ → List ℕ → ℕ → ℕ → ℕ → ℕ → List ℕ → Case

pub holds : Case → Bool
holds (writes r t room list number sizes) =
    both (eqb (parts_number (all_answers r 0x7b t room list)) number) (same (sent_sizes r 0x7b t (replicate room 0x00) (replicate list 0x00)) sizes)
holds (joins coding cs o room number reference parts text) =
    both (eqb (join_number (join_answers coding cs o room)) number)
    (both (eqb (join_reference (join_answers coding cs o room)) reference)
    (both (eqb (join_parts (join_answers coding cs o room)) parts)
    (same (take (join_written (join_answers coding cs o room)) (join_leaves coding cs o (replicate room 0xffff))) text)))

pub all_hold : List Case → Bool
all_hold [] = true
all_hold (c ∷ cs) = both (holds c) (all_hold cs)

ucs2 : Reading
ucs2 = plain_in true

-- the header of a part with these numbers
head : ℕ → ℕ → ℕ → List ℕ
head reference total number = 0x05 ∷ 0x00 ∷ 0x03 ∷ reference ∷ total ∷ number ∷ []

-- "a" and an escape, with a count of 9; the euro's code behind it, with a count of 8
front : List ℕ
front = head 0x7b 2 1 ++ (0xc2 ∷ 0x1b ∷ [])

rest : List ℕ
rest = head 0x7b 2 2 ++ (0xca ∷ [])

-- the same code behind an element that is repeated with other numbers, with a count of 14
repeated : List ℕ
repeated = 0x0a ∷ 0x00 ∷ 0x03 ∷ 0x01 ∷ 0x05 ∷ 0x05 ∷ 0x00 ∷ 0x03 ∷ 0x7b ∷ 0x02 ∷ 0x02 ∷ 0x28 ∷ 0x03 ∷ []

-- one unit of UCS2 in each of two, with counts of 8
units1 : List ℕ
units1 = head 0x7b 2 1 ++ (0x4e ∷ 0x2d ∷ [])

units2 : List ℕ
units2 = head 0x7b 2 2 ++ (0x65 ∷ 0x87 ∷ [])

-- a part with no text, with a count of 7
bare : ℕ → ℕ → ℕ → List ℕ
bare reference total number = head reference total number ++ (0x00 ∷ [])

pub cases : List Case
cases =
    -- for each part its count, and how many octets it has; 7 where either buffer is too short
    writes unmentioned (replicate 161 0x0061) 154 4 0 (160 ∷ 140 ∷ 15 ∷ 14 ∷ [])
    ∷ writes ucs2 (replicate 71 0x4e2d) 154 4 0 (140 ∷ 140 ∷ 14 ∷ 14 ∷ [])
    ∷ writes unmentioned (0x0061 ∷ 0x20ac ∷ []) 3 2 0 (3 ∷ 3 ∷ [])
    ∷ writes unmentioned (replicate 161 0x0061) 153 4 7 []
    ∷ writes unmentioned (replicate 161 0x0061) 154 3 7 []
    -- in any order, with an escape at the end of part 1 and its code in part 2
    ∷ joins 0x00 (8 ∷ 9 ∷ []) (rest ++ front) 2 0 0x7b 2 (0x0061 ∷ 0x20ac ∷ [])
    ∷ joins 0x00 (9 ∷ 8 ∷ []) (front ++ rest) 2 0 0x7b 2 (0x0061 ∷ 0x20ac ∷ [])
    ∷ joins 0x08 (8 ∷ 8 ∷ []) (units2 ++ units1) 2 0 0x7b 2 (0x4e2d ∷ 0x6587 ∷ [])
    -- "of a repeated one the last counts"
    ∷ joins 0x00 (14 ∷ 9 ∷ []) (repeated ++ front) 2 0 0x7b 2 (0x0061 ∷ 0x20ac ∷ [])
    -- a lone part with a header is joined too
    ∷ joins 0x00 (7 ∷ []) (bare 0x7b 1 1) 0 0 0x7b 1 []
    -- no parts are 10, and octets beside no counts 4
    ∷ joins 0x00 [] [] 0 10 0 0 []
    ∷ joins 0x00 [] (0x61 ∷ []) 0 4 0 0 []
    -- 1 and 2 before 4; 4 before 12, of too few octets, too many, and a count over the most; 12 before 4 of evenness, though the odd part stands first; that
    -- before 10; 10 before 7; 7
    ∷ joins 0x20 (9 ∷ []) [] 0 1 0 0 []
    ∷ joins 0x04 (9 ∷ []) [] 0 2 0 0 []
    ∷ joins 0x00 (9 ∷ []) (replicate 7 0xff) 0 4 0 0 []
    ∷ joins 0x00 (9 ∷ []) (replicate 9 0xff) 0 4 0 0 []
    ∷ joins 0x00 (161 ∷ []) (replicate 141 0xff) 0 4 0 0 []
    ∷ joins 0x08 (141 ∷ []) (replicate 141 0xff) 0 4 0 0 []
    ∷ joins 0x08 (7 ∷ 1 ∷ []) (take 7 units2 ++ (0xff ∷ [])) 0 12 0 0 []
    ∷ joins 0x08 (7 ∷ []) (take 7 units2) 0 4 0 0 []
    ∷ joins 0x00 (8 ∷ []) rest 0 10 0 0 []
    ∷ joins 0x00 (8 ∷ 9 ∷ []) (rest ++ front) 1 7 0 0 []
    -- a header that takes more septets than its count, though not more than all counts together
    ∷ joins 0x00 (6 ∷ 9 ∷ []) (head 0x7b 2 2 ++ front) 2 12 0 0 []
    -- no such element; numbered 0, above the total, of a total of 0; repeated; of differing references; of differing totals
    ∷ joins 0x00 (2 ∷ []) (0x00 ∷ 0x00 ∷ []) 0 10 0 0 []
    ∷ joins 0x00 (7 ∷ []) (bare 0x7b 1 0) 0 10 0 0 []
    ∷ joins 0x00 (7 ∷ []) (bare 0x7b 1 2) 0 10 0 0 []
    ∷ joins 0x00 (7 ∷ []) (bare 0x7b 0 1) 0 10 0 0 []
    ∷ joins 0x00 (7 ∷ 7 ∷ []) (bare 0x7b 1 1 ++ bare 0x7b 1 1) 0 10 0 0 []
    ∷ joins 0x00 (7 ∷ 7 ∷ []) (bare 0x7b 2 1 ++ bare 0x7c 2 2) 0 10 0 0 []
    ∷ joins 0x00 (7 ∷ 7 ∷ []) (bare 0x7b 2 1 ++ bare 0x7b 3 2) 0 10 0 0 []
    ∷ []

pub cases-hold : T (all_hold cases)
unfolding all_hold holds cases ucs2 head front rest repeated units1 units2 bare verdict coding_rules alone_rules any_letter text_rules smallest read_short general_reading notice_reading last_reading class_in discard_in store_in bits_of gather bit_of first_place numbers_from laid septets_in listed_in among beside main_table extension unit_in text_in after_escape_in escaped_in stream_bit cut octets_for unit_octets octet_units fewest part_at place_among missing_among repeated_among misnumbered_among differing_among wrong_among elements_octets header_octets elements_up_to elements_of last_numbers wrong_length header_body right_header header_numbers concatenation_header septets_over shifted_bit packed_behind unpacked_behind room_behind parts_holding part_header part_content headed_octets headed_count part_octets part_count all_octets all_sizes size_rules count_rules all_rules all_answers sizes_leaves wrong_head odd_behind content_behind all_asked part_in wrong_counts wrong_heads odd_parts numbers_at wrong_parts joined_from joined_content parts_rules join_rules join_answers join_leaves
cases-hold = tt
