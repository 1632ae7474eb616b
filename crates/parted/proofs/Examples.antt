-- Document 02, W5, by example: what the definitions give, computed as one statement over a list; the orders of refusal by inputs to which two apply; and a
-- lone text that packs to a part's very octets, so that the mark alone tells the two apart.
-- Assumes nothing.
--   cases-hold     each case of the list holds
--   mark-needed    the lone text and part 1 of two: equal octets and counts, and marks that differ
use mathlib.Core.Path.{◌≡◌, refl}
use mathlib.Core.Bool.{Bool, true, false}
use mathlib.Core.List.{List, [], ◌∷◌}
use Prim.Native.Nat.{ℕ}
use lib.Dec.{T, eqb}
use lib.ListN.{take, replicate}
use Rattle.lists.specs.Bits.{bit_of, gather, bits_of}
use Rattle.lists.specs.Lists.{first_place, laid, numbers_from}
use Rattle.lists.proofs.Tests.{both}
use Rattle.words.specs.Judging.{verdict}
use Rattle.fields.specs.Letters.{any_letter}
use Rattle.coding.specs.declared.Reading.{Reading}
use Rattle.coding.specs.Readings.{unmentioned, reserved_reading, plain_in, with_compressed}
use Rattle.coding.specs.OctetRead.{class_in, discard_in, store_in, general_reading, notice_reading, last_reading, read_short}
use Rattle.coding.specs.OctetWritten.{smallest, write_rules as alone_rules}
use Rattle.coding.specs.LanguageLetters.{coding_rules}
use Rattle.coding.specs.Holding.{text_rules}
use Rattle.letters.specs.Tables.{main_table, extension, among, beside}
use Rattle.letters.specs.Writing.{septets_in, listed_in}
use Rattle.letters.specs.Reading.{unit_in, text_in, after_escape_in, escaped_in}
use Rattle.stream.specs.Stream.{stream_bit, cut, octets_for}
use Rattle.stream.specs.Ucs2.{unit_octets, octet_units}
use Rattle.demands.proofs.Cases.{same}
use Rattle.filling.specs.Filling.{fewest, part_at}
use Rattle.headed.specs.Header.{elements_octets, header_octets, elements_up_to, elements_of, last_numbers, wrong_length, header_body, right_header, header_numbers, concatenation_header, septets_over}
use Rattle.parted.specs.Behind.{shifted_bit, packed_behind, unpacked_behind}
use Rattle.parted.specs.Parts.{room_behind, parts_holding, part_header, part_content, headed_octets, headed_count, part_octets, part_count}
use Rattle.parted.specs.Written.{size_rules, count_rules, count_answers, part_rules, part_answers, part_leaves}
use Rattle.parted.specs.Read.{count_fits, wrong_head, odd_behind, content_behind, behind_rules, part_read_rules, part_reads, part_read_leaves}
use Rattle.parted.specs.Reports.{counted_number, counted_parts, part_number, part_travels, read_number, read_written}
use Rattle.parted.specs.Messages.{sent_part, sent_count, sent_mark}

-- counting gives this number and so many parts; writing part k into so much room gives this number, this count and these first octets; reading octets with a
-- mark or without, under a coding octet and a count, into so much room gives this number and this text
pub data Case : Type 0 where
  counts : Reading → List ℕ → ℕ → ℕ → Case
  writes : Reading → List ℕ → ℕ → ℕ → ℕ → ℕ → List ℕ → Case
  reads : ℕ → Bool → ℕ → List ℕ → ℕ → ℕ → List ℕ → Case

pub holds : Case → Bool
holds (counts r t number parts) = both (eqb (counted_number (count_answers r t)) number) (eqb (counted_parts (count_answers r t)) parts)
holds (writes r t k room number count octets) =
    both (eqb (part_number (part_answers r 0x7b t k room)) number)
    (both (eqb (part_travels (part_answers r 0x7b t k room)) count) (same (take 7 (sent_part r 0x7b t k (replicate room 0x00))) octets))
holds (reads coding marked count o room number text) =
    both (eqb (read_number (part_reads coding marked count o room)) number)
    (same (take (read_written (part_reads coding marked count o room)) (part_read_leaves coding marked count o (replicate room 0xffff))) text)

pub all_hold : List Case → Bool
all_hold [] = true
all_hold (c ∷ cs) = both (holds c) (all_hold cs)

ucs2 : Reading
ucs2 = plain_in true

-- 161 units that are one septet each
pub long : List ℕ
long = replicate 161 0x0061

-- "é@øX' @" and 153 units: the septets of a part's header, read as text, and those of the part
pub lone : List ℕ
lone = 0x00e9 ∷ 0x0040 ∷ 0x00f8 ∷ 0x0058 ∷ 0x0027 ∷ 0x0020 ∷ 0x0040 ∷ replicate 153 0x0061

-- part 2 of 2, with the text "a", and the same header before two octets of UCS2
part2 : List ℕ
part2 = 0x05 ∷ 0x00 ∷ 0x03 ∷ 0x7b ∷ 0x02 ∷ 0x02 ∷ 0xc2 ∷ []

units2 : List ℕ
units2 = 0x05 ∷ 0x00 ∷ 0x03 ∷ 0x7b ∷ 0x02 ∷ 0x02 ∷ 0x4e ∷ 0x2d ∷ []

pub cases : List Case
cases =
    -- "a text that fits alone has no header", 160 septets or 70 units; "leaving 153 septets; UCS2 leaves 67 units"; "over 255 parts is 5"
    counts unmentioned [] 0 1
    ∷ counts unmentioned (replicate 160 0x0061) 0 1
    ∷ counts unmentioned long 0 2
    ∷ counts unmentioned (replicate 80 0x20ac) 0 1
    ∷ counts unmentioned (replicate 153 0x20ac) 0 2
    ∷ counts unmentioned (0x0061 ∷ replicate 153 0x20ac) 0 3
    ∷ counts ucs2 (replicate 70 0x4e2d) 0 1
    ∷ counts ucs2 (replicate 134 0x4e2d) 0 2
    ∷ counts ucs2 (replicate 135 0x4e2d) 0 3
    ∷ counts ucs2 (replicate 17085 0x4e2d) 0 255
    ∷ counts ucs2 (replicate 17086 0x4e2d) 5 0
    -- "the count covers it": 7 septets of the header and 153, then 8; its 6 octets and 134
    ∷ writes unmentioned long 1 140 0 160 (0x05 ∷ 0x00 ∷ 0x03 ∷ 0x7b ∷ 0x02 ∷ 0x01 ∷ 0xc2 ∷ [])
    ∷ writes unmentioned long 2 140 0 15 (0x05 ∷ 0x00 ∷ 0x03 ∷ 0x7b ∷ 0x02 ∷ 0x02 ∷ 0xc2 ∷ [])
    ∷ writes ucs2 (replicate 71 0x4e2d) 1 140 0 140 (0x05 ∷ 0x00 ∷ 0x03 ∷ 0x7b ∷ 0x02 ∷ 0x01 ∷ 0x4e ∷ [])
    ∷ writes unmentioned (0x0061 ∷ []) 1 140 0 1 (0x61 ∷ [])
    -- 8 before 1, and 1 and 2 before 6; 6 before 5; 5 before 10; 10 of a part that the message lacks, before 7; 7
    ∷ writes (with_compressed true reserved_reading) (0x4e2d ∷ []) 0 0 8 0 []
    ∷ writes (read_short 0x20) (0x4e2d ∷ []) 0 0 1 0 []
    ∷ writes (read_short 0x04) (0x4e2d ∷ []) 0 0 2 0 []
    ∷ writes unmentioned (0x4e2d ∷ replicate 161 0x0061) 0 0 6 0 []
    ∷ writes ucs2 (replicate 17086 0x4e2d) 0 0 5 0 []
    ∷ writes unmentioned long 0 0 10 0 []
    ∷ writes unmentioned long 3 140 10 0 []
    ∷ writes unmentioned [] 2 140 10 0 []
    ∷ writes unmentioned long 1 139 7 0 []
    -- with the mark and without
    ∷ reads 0x00 true 8 part2 1 0 (0x0061 ∷ [])
    ∷ reads 0x00 false 8 part2 8 0 (0x00e9 ∷ 0x0040 ∷ 0x00f8 ∷ 0x0058 ∷ 0x0027 ∷ 0x00a1 ∷ 0x0040 ∷ 0x0061 ∷ [])
    ∷ reads 0x08 true 8 units2 1 0 (0x4e2d ∷ [])
    -- a header that the count just covers, and one that it does not though the octets do
    ∷ reads 0x00 true 7 part2 0 0 []
    ∷ reads 0x00 true 6 (take 6 part2) 0 12 []
    -- UCS2 evenness behind a header of 5 octets, and of 6; without a mark
    ∷ reads 0x08 true 7 (0x04 ∷ 0x70 ∷ 0x02 ∷ 0x00 ∷ 0x00 ∷ 0x4e ∷ 0x2d ∷ []) 1 0 (0x4e2d ∷ [])
    ∷ reads 0x08 true 7 (take 7 units2) 1 4 []
    ∷ reads 0x08 false 7 (take 7 units2) 4 4 []
    -- 1 and 2 before 4; 4 before 12; 12 before 4 of evenness; that before 7; 7
    ∷ reads 0x20 true 9 part2 0 1 []
    ∷ reads 0x04 true 9 part2 0 2 []
    ∷ reads 0x00 true 9 (0xff ∷ part2) 0 12 []
    ∷ reads 0x00 true 10 (0xff ∷ part2) 0 4 []
    ∷ reads 0x08 true 3 (0xff ∷ 0x00 ∷ 0x41 ∷ []) 0 12 []
    ∷ reads 0x08 true 4 (0x02 ∷ 0x00 ∷ 0x05 ∷ 0x41 ∷ []) 0 12 []
    ∷ reads 0x08 true 7 (take 7 units2) 0 4 []
    ∷ reads 0x00 true 8 part2 0 7 []
    -- no octets hold no header, and the empty text without one
    ∷ reads 0x00 true 0 [] 0 12 []
    ∷ reads 0x00 false 0 [] 0 0 []
    ∷ []

pub cases-hold : T (all_hold cases)
unfolding all_hold holds cases ucs2 long part2 units2 verdict coding_rules alone_rules any_letter text_rules smallest read_short general_reading notice_reading last_reading class_in discard_in store_in bits_of gather bit_of first_place numbers_from laid septets_in listed_in among beside main_table extension unit_in text_in after_escape_in escaped_in stream_bit cut octets_for unit_octets octet_units fewest part_at elements_octets header_octets elements_up_to elements_of last_numbers wrong_length header_body right_header header_numbers concatenation_header septets_over shifted_bit packed_behind unpacked_behind room_behind parts_holding part_header part_content headed_octets headed_count part_octets part_count size_rules count_rules count_answers part_rules part_answers part_leaves count_fits wrong_head odd_behind content_behind behind_rules part_read_rules part_reads part_read_leaves
cases-hold = tt

-- "without the mark, a lone text can pack to a part's very octets"
pub mark-needed : (sent_part unmentioned 0x7b long 1 (replicate 140 0x00) ≡ sent_part unmentioned 0x7b lone 1 (replicate 140 0x00))
    × (sent_count unmentioned 0x7b long 1 (replicate 140 0x00) ≡ sent_count unmentioned 0x7b lone 1 (replicate 140 0x00))
    × (sent_mark unmentioned 0x7b long 1 (replicate 140 0x00) ≡ true)
    × (sent_mark unmentioned 0x7b lone 1 (replicate 140 0x00) ≡ false)
unfolding long lone verdict coding_rules alone_rules any_letter text_rules smallest read_short general_reading notice_reading last_reading class_in discard_in store_in bits_of gather bit_of first_place numbers_from laid septets_in listed_in among beside main_table extension stream_bit cut octets_for fewest part_at elements_octets header_octets concatenation_header septets_over shifted_bit packed_behind room_behind parts_holding part_header part_content headed_octets headed_count part_octets part_count size_rules count_rules part_rules part_answers part_leaves
mark-needed = (refl, refl, refl, refl)
