-- Document 02, W1, and document 01, "Refusal numbers and their order": "Joining takes blocks in any order, joins the page contents, drops closing
-- CRs once at the end, then reads." "the blocks are lent end to end; a length that is no multiple of 88 is 4 before all else, the first block
-- decides 1 to 3, no block counts as a page missing"; "10, after 3, for pages missing, repeated, numbered 0 or above the total, or of differing
-- headers or totals"; then 7.
-- Own rule: headers are octets 1 to 5, compared as they stand. Cited by join_pages. Assumes nothing.
--   block_count o, block_at o i, header_at o i == how many blocks the octets o are; block i of them, from 0, and its header
--   number_at o i, total_at o i                == the number and the total in block i
--   place_of o k                               == the first block with the number k, and how many blocks there are where none has it
--   of_one_message a b                         == the blocks a and b have the same octets 1 to 5 and the same total
--   alike_at o i                               == block i is of the message of the first one
--   wrong_pages o                              == a page is missing, repeated or misnumbered, or a block differs from the first (wrong_among)
--   page_content ucs2 t                        == what a page with the octets t holds: units of UCS2, or septets
--   joined_from ucs2 o k n                     == what n pages from page k on hold, in their order
--   joined_content, joined_text                == what all pages hold, closing CRs dropped; the text of it
--   join_rules, join_answers, join_leaves      == what join_pages refuses, answers and leaves in the lent buffer
use Rattle.std.specs.Prelude.{ℕ, zero, suc, ◌*◌, ◌/◌, ◌%◌, Bool, true, not, cond, ◌&&◌, List, [], ◌∷◌, ◌++◌, ltb, eqb, length, take, drop, get_or, Result, Err}
use Rattle.words.specs.declared.Service.TheVariants.{Broadcast}
use Rattle.words.specs.declared.Refusal.TheVariants.{WrongLength, WrongPages, NoRoom}
use Rattle.words.specs.Sizes.{most_septets}
use Rattle.words.specs.Judging.{Rule, when, verdict, settle}
use Rattle.lists.specs.Lists.{laid}
use Rattle.lists.specs.Closing.{without_closing}
use Rattle.filling.specs.Numbered.{place_among, wrong_among}
use Rattle.coding.specs.declared.Reading.{Reading}
use Rattle.coding.specs.OctetRead.{read_under}
use Rattle.coding.specs.Holding.{is_ucs2, text_rules}
use Rattle.letters.specs.Reading.{text_of}
use Rattle.stream.specs.Stream.{unpacked}
use Rattle.stream.specs.Ucs2.{octet_units}
use Rattle.stream.specs.UssdPacking.{cr}
use Rattle.pages.specs.declared.Header.{Header}
use Rattle.pages.specs.declared.Joined.{Joined}
use Rattle.pages.specs.Blocks.{block_size, header_of, text_in}
use Rattle.words.specs.declared.Refusal.{Refusal}
use Rattle.pages.specs.Successes.{ok_joined}

abbrev pub block_count : List ℕ → ℕ
block_count o = length o / block_size

unfoldable pub block_at : List ℕ → ℕ → List ℕ
block_at o i = take block_size (drop (block_size * i) o)

unfoldable pub header_at : List ℕ → ℕ → Header
header_at o i = header_of (block_at o i)

abbrev pub number_at : List ℕ → ℕ → ℕ
number_at o i = (header_at o i).number

abbrev pub total_at : List ℕ → ℕ → ℕ
total_at o i = (header_at o i).total

abbrev pub place_of : List ℕ → ℕ → ℕ
place_of o k = place_among (number_at o) (block_count o) k

-- the first n octets of two blocks are the same
abbrev pub same_octets : ℕ → List ℕ → List ℕ → Bool
same_octets zero a b = true
same_octets (suc n) a b = eqb (get_or a n 0) (get_or b n 0) && same_octets n a b

-- octets 1 to 5 and the total are the same
unfoldable pub of_one_message : List ℕ → List ℕ → Bool
of_one_message a b = same_octets 5 a b && eqb (header_of a).total (header_of b).total

abbrev pub alike_at : List ℕ → ℕ → Bool
alike_at o i = of_one_message (block_at o 0) (block_at o i)

unfoldable pub wrong_pages : List ℕ → Bool
wrong_pages o = wrong_among (number_at o) (total_at o) (alike_at o) (block_count o)

abbrev pub page_content : Bool → List ℕ → List ℕ
page_content ucs2 t = cond ucs2 (octet_units t) (unpacked (most_septets Broadcast) t)

unfoldable pub joined_from : Bool → List ℕ → ℕ → ℕ → List ℕ
joined_from ucs2 o k zero = []
joined_from ucs2 o k (suc n) = page_content ucs2 (text_in (block_at o (place_of o k))) ++ joined_from ucs2 o (suc k) n

unfoldable pub joined_content : Bool → List ℕ → List ℕ
joined_content ucs2 o = without_closing cr (joined_from ucs2 o 1 (total_at o 0))

abbrev pub joined_text : Bool → List ℕ → List ℕ
joined_text ucs2 o = cond ucs2 (joined_content ucs2 o) (text_of (joined_content ucs2 o))

-- what the first block's coding octet says
abbrev pub joined_reading : List ℕ → Reading
joined_reading o = read_under Broadcast (header_at o 0).coding

-- 10, 7
unfoldable pub page_rules : Bool → List ℕ → ℕ → List Rule
page_rules ucs2 o room =
    when (wrong_pages o) WrongPages
    ∷ when (ltb room (length (joined_text ucs2 o))) NoRoom
    ∷ []

unfoldable pub join_rules : List ℕ → ℕ → List Rule
join_rules o room =
    when (not (eqb (length o % block_size) 0)) WrongLength
    ∷ when (eqb (length o) 0) WrongPages
    ∷ (text_rules Broadcast (joined_reading o) ++ page_rules (is_ucs2 (joined_reading o).alphabet) o room)

unfoldable pub join_answers : List ℕ → ℕ → Result Joined Refusal
join_answers o room =
    settle (verdict (join_rules o room)) Err
    (ok_joined (length (joined_text (is_ucs2 (joined_reading o).alphabet) o)) (joined_reading o) (header_at o 0).sequence (header_at o 0).identifier (total_at o 0))

unfoldable pub join_leaves : List ℕ → List ℕ → List ℕ
join_leaves o out =
    settle (verdict (join_rules o (length out))) (λ q. out) (laid (joined_text (is_ucs2 (joined_reading o).alphabet) o) out)
