-- Document 02, W1, by example: what the definitions give, computed as one statement over a list; the orders of refusal by inputs to which two apply.
-- Assumes nothing.
use mathlib.Core.Bool.{Bool, true}
use mathlib.Core.List.{List, [], ◌∷◌, ◌++◌}
use Prim.Native.Nat.{ℕ, ◌/◌, ◌%◌}
use lib.Dec.{T, eqb}
use lib.ListN.{take, drop, replicate}
use Rattle.lists.specs.Bits.{bit_of, gather, bits_of}
use Rattle.lists.specs.Lists.{first_place, laid, numbers_from}
use Rattle.lists.specs.Closing.{before_kept, without_closing}
use Rattle.words.specs.Judging.{verdict}
use Rattle.filling.specs.Filling.{fewest, part_at}
use Rattle.filling.specs.Numbered.{place_among, missing_among, repeated_among, misnumbered_among, differing_among, wrong_among}
use Rattle.lists.proofs.Tests.{both}
use Rattle.coding.specs.declared.Reading.{Reading}
use Rattle.coding.specs.Readings.{unmentioned, reserved_reading, plain_in, with_compressed}
use Rattle.coding.specs.OctetRead.{class_in, general_reading, last_reading, read_page}
use Rattle.coding.specs.OctetWritten.{smallest, write_rules as alone_rules}
use Rattle.coding.specs.LanguageLetters.{coding_rules}
use Rattle.fields.specs.Letters.{any_letter}
use Rattle.coding.specs.Holding.{text_rules}
use Rattle.letters.specs.Tables.{main_table, extension, among, beside}
use Rattle.letters.specs.Writing.{septets_in, listed_in}
use Rattle.letters.specs.Reading.{unit_in, text_in, after_escape_in, escaped_in}
use Rattle.stream.specs.Stream.{stream_bit, cut, octets_for, packed, unpacked}
use Rattle.stream.specs.Pages.{page, page_octets}
use Rattle.stream.specs.Ucs2.{unit_octets, octet_units, unit_page}
use Rattle.demands.proofs.Cases.{same}
use Rattle.pages.specs.Blocks.{header_of, block_of}
use Rattle.pages.specs.Written.{block_as, blocks_from, blocks_as, size_rules, count_rules, count_answers, build_rules, built_as, pages_rules, pages_answers}
use Rattle.pages.specs.Joined.{block_at, header_at, of_one_message, wrong_pages, joined_from, joined_content, page_rules, join_rules, join_answers, join_leaves}
use Rattle.pages.specs.Reports.{counted_number, counted_pages, pages_number, join_number, join_written}

-- counting gives this number and so many pages; building page k gives this number and these first octets; writing into so much room gives this number;
-- joining the blocks into so much room gives this number and this text
pub data Case : Type 0 where
  counts : Reading → List ℕ → ℕ → ℕ → Case
  builds : Reading → List ℕ → ℕ → ℕ → List ℕ → Case
  writes : Reading → List ℕ → ℕ → ℕ → Case
  joins : List ℕ → ℕ → ℕ → List ℕ → Case

pub holds : Case → Bool
holds (counts r t number pages) = both (eqb (counted_number (count_answers r t)) number) (eqb (counted_pages (count_answers r t)) pages)
holds (builds r t k number octets) =
    both (eqb (counted_number (built_as 0x1234 0xabcd r t k).answer) number) (same (take 6 (built_as 0x1234 0xabcd r t k).block) octets)
holds (writes r t room number) = eqb (pages_number (pages_answers 0x1234 0xabcd r t room)) number
holds (joins o room number text) =
    both (eqb (join_number (join_answers o room)) number) (same (take (join_written (join_answers o room)) (join_leaves o (replicate room 0xffff))) text)

pub all_hold : List Case → Bool
all_hold [] = true
all_hold (c ∷ cs) = both (holds c) (all_hold cs)

-- a block with this coding octet and page parameter, and nothing in it
block : ℕ → ℕ → List ℕ
block coding parameter =
    block_of (record { sequence = 0x1234; identifier = 0xabcd; coding = coding; total = parameter % 16; number = parameter / 16 }) (replicate 82 0x00)

ucs2 : Reading
ucs2 = plain_in true

-- 93 septets and a CR, or the euro's escape, at the end of page 1
euro : List ℕ
euro = replicate 92 0x0061 ++ (0x20ac ∷ [])

closing : List ℕ
closing = replicate 92 0x0061 ++ (0x000d ∷ 0x0062 ∷ 0x000d ∷ [])

-- a unit that the 7-bit alphabet lacks
chinese : List ℕ
chinese = 0x4e2d ∷ []

pub cases : List Case
cases =
    -- "as few as hold the text, and one for the empty text": closing CRs count too
    counts unmentioned [] 0 1
    ∷ counts unmentioned (replicate 93 0x0061) 0 1
    ∷ counts unmentioned (replicate 94 0x0061) 0 2
    ∷ counts unmentioned (replicate 94 0x000d) 0 2
    ∷ counts ucs2 (replicate 615 0x4e2d) 0 15
    ∷ counts ucs2 (replicate 616 0x4e2d) 5 0
    -- page 1 of 2, and page 2; the coding octet of language unspecified is 0F, of UCS2 48
    ∷ builds unmentioned euro 1 0 (0x12 ∷ 0x34 ∷ 0xab ∷ 0xcd ∷ 0x0f ∷ 0x12 ∷ [])
    ∷ builds ucs2 (replicate 42 0x4e2d) 2 0 (0x12 ∷ 0x34 ∷ 0xab ∷ 0xcd ∷ 0x48 ∷ 0x22 ∷ [])
    -- 8 before 1, and 1, 2 and 3 before 6; 6 before 5; 5 before 10; 10 of a page that the message lacks; 5 before 7, and 7
    ∷ builds (with_compressed true reserved_reading) chinese 0 8 (replicate 6 0x00)
    ∷ builds (read_page 0x60) chinese 0 1 (replicate 6 0x00)
    ∷ builds (read_page 0x44) chinese 0 2 (replicate 6 0x00)
    ∷ builds (read_page 0x10) chinese 0 3 (replicate 6 0x00)
    ∷ builds unmentioned (chinese ++ replicate 1395 0x0061) 0 6 (replicate 6 0x00)
    ∷ builds ucs2 (replicate 616 0x4e2d) 0 5 (replicate 6 0x00)
    ∷ builds unmentioned [] 0 10 (replicate 6 0x00)
    ∷ builds unmentioned [] 2 10 (replicate 6 0x00)
    ∷ writes ucs2 (replicate 616 0x4e2d) 0 5
    ∷ writes unmentioned [] 87 7
    ∷ writes unmentioned [] 88 0
    -- an escape ends page 1, with its code on page 2; a CR that closes a page stays where another page follows, and the pages come in any order
    ∷ joins (blocks_as 1 2 unmentioned euro) 93 0 euro
    ∷ joins (drop 88 (blocks_as 1 2 unmentioned closing) ++ take 88 (blocks_as 1 2 unmentioned closing)) 94 0 (take 94 closing)
    -- 4 before 10; no block; 1, 2 and 3 before 10; 10 before 7, and 7
    ∷ joins (block 0x0f 0x00 ++ (0x00 ∷ [])) 93 4 []
    ∷ joins [] 93 10 []
    ∷ joins (block 0x60 0x00) 93 1 []
    ∷ joins (block 0x44 0x00) 93 2 []
    ∷ joins (block 0x10 0x00) 93 3 []
    ∷ joins (block 0x0f 0x12) 0 10 []
    ∷ joins (block 0x0f 0x11) 92 7 []
    ∷ joins (block 0x0f 0x11) 93 0 (replicate 93 0x0040)
    -- numbered 0, above the total, of a total of 0; missing; repeated; of differing headers; of differing totals
    ∷ joins (block 0x0f 0x01) 93 10 []
    ∷ joins (block 0x0f 0x21) 93 10 []
    ∷ joins (block 0x0f 0x10) 93 10 []
    ∷ joins (block 0x0f 0x22) 186 10 []
    ∷ joins (block 0x0f 0x12 ++ block 0x0f 0x12) 186 10 []
    ∷ joins (block 0x0f 0x12 ++ block 0x0f 0x22 ++ block 0x0f 0x12) 279 10 []
    ∷ joins (block 0x0f 0x12 ++ block 0x0e 0x22) 186 10 []
    ∷ joins (block 0x0f 0x12 ++ block 0x0f 0x23) 186 10 []
    ∷ []

pub cases-hold : T (all_hold cases)
unfolding all_hold holds cases block ucs2 euro closing chinese verdict count_answers count_rules built_as build_rules pages_answers pages_rules block_as blocks_as blocks_from block_of header_of part_at page_octets page laid packed unpacked stream_bit cut octets_for unit_octets unit_page octet_units coding_rules alone_rules any_letter text_rules size_rules smallest first_place numbers_from read_page bits_of gather bit_of general_reading last_reading class_in septets_in listed_in among beside main_table extension unit_in text_in after_escape_in escaped_in fewest without_closing before_kept block_at header_at place_among missing_among repeated_among misnumbered_among differing_among wrong_among of_one_message wrong_pages joined_from joined_content page_rules join_rules join_answers join_leaves
cases-hold = tt
