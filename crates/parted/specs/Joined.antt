-- Document 02, W5, and document 01, "Refusal numbers and their order": "joined in any order, lent end to end beside a list of their counts, they give the
-- text". 1, 2, 4, 12, 4, 10, 7, each judged over all parts before the next: "octets not of the length that the counts ask are 4"; "on joining only, 10 as in
-- W1 or for no such element".
-- Own rule: no parts are 10, and octets beside no counts 4. Parts are of one message where their references and totals are the same. Cited by join_parts.
-- Assumes nothing.
-- Parts are UCS2 where ucs2 is true, else 7-bit; cs are their counts and o their octets, end to end:
--   octets_asked ucs2 c, all_asked ucs2 cs                        == how many octets a count asks, and all together
--   most_count ucs2                                               == the most that a count may be
--   start_at, part_in                                             == where part i, from 0, begins in o, and its octets
--   wrong_counts, wrong_heads, odd_parts                          == 4 of a length, 12, 4 of evenness over all parts
--   numbers_at, number_in, total_in, reference_in, of_one_message == what the header of part i says; that two parts have one reference and one total
--   number_at, total_at, alike                                    == of part i, as W1's rule of numbered things takes them
--   wrong_parts                                                   == parts missing, repeated, numbered 0 or above the total, of differing references or totals, or without the element; or none
--   place_of k                                                    == the part that has the number k
--   joined_from, joined_content, joined_text                      == what n parts from number k on hold, what all hold, the text of it
--   join_rules, join_answers, join_leaves                         == what join_parts refuses, answers and leaves in the lent buffer
use Rattle.std.specs.Prelude.{ℕ, zero, suc, ◌+◌, Bool, false, not, cond, ◌&&◌, ◌||◌, List, [], ◌∷◌, ◌++◌, ltb, eqb, length, get_or, take, drop, Result, Option, Err, Some, None}
use Rattle.words.specs.declared.Service.TheVariants.{ShortMessage}
use Rattle.words.specs.declared.Refusal.TheVariants.{WrongLength, WrongHeader, WrongPages, NoRoom}
use Rattle.words.specs.Sizes.{most_septets, most_octets}
use Rattle.words.specs.Judging.{Rule, when, verdict, settle}
use Rattle.lists.specs.Lists.{numbers_from, laid}
use Rattle.coding.specs.declared.Reading.{Reading}
use Rattle.coding.specs.OctetRead.{read_under}
use Rattle.coding.specs.Holding.{is_ucs2, text_rules}
use Rattle.stream.specs.Stream.{octets_for}
use Rattle.filling.specs.Numbered.{some_of, place_among, wrong_among}
use Rattle.headed.specs.Header.{header_size, header_numbers}
use Rattle.parted.specs.declared.PartsJoined.{PartsJoined}
use Rattle.parted.specs.Read.{wrong_head, odd_behind, content_behind, shown_as}
use Rattle.words.specs.declared.Refusal.{Refusal}
use Rattle.headed.specs.declared.Numbers.{Numbers}
use Rattle.parted.specs.Successes.{ok_parts_joined}

abbrev pub octets_asked : Bool → ℕ → ℕ
octets_asked ucs2 c = cond ucs2 c (octets_for c)

unfoldable pub all_asked : Bool → List ℕ → ℕ
all_asked ucs2 [] = 0
all_asked ucs2 (c ∷ cs) = octets_asked ucs2 c + all_asked ucs2 cs

abbrev pub most_count : Bool → ℕ
most_count ucs2 = cond ucs2 (most_octets ShortMessage) (most_septets ShortMessage)

abbrev pub start_at : Bool → List ℕ → ℕ → ℕ
start_at ucs2 cs i = all_asked ucs2 (take i cs)

unfoldable pub part_in : Bool → List ℕ → List ℕ → ℕ → List ℕ
part_in ucs2 cs o i = take (octets_asked ucs2 (get_or cs i 0)) (drop (start_at ucs2 cs i) o)

unfoldable pub wrong_counts : Bool → List ℕ → List ℕ → Bool
wrong_counts ucs2 cs o = some_of (ltb (most_count ucs2)) cs || not (eqb (length o) (all_asked ucs2 cs))

unfoldable pub wrong_heads : Bool → List ℕ → List ℕ → Bool
wrong_heads ucs2 cs o = some_of (λ i. wrong_head ucs2 (get_or cs i 0) (part_in ucs2 cs o i)) (numbers_from 0 (length cs))

unfoldable pub odd_parts : Bool → List ℕ → List ℕ → Bool
odd_parts ucs2 cs o = some_of (λ i. odd_behind ucs2 (header_size (part_in ucs2 cs o i)) (part_in ucs2 cs o i)) (numbers_from 0 (length cs))

unfoldable pub numbers_at : Bool → List ℕ → List ℕ → ℕ → Option Numbers
numbers_at ucs2 cs o i = header_numbers (part_in ucs2 cs o i)

abbrev pub number_in : Option Numbers → ℕ
number_in None = 0
number_in (Some n) = n.number

abbrev pub total_in : Option Numbers → ℕ
total_in None = 0
total_in (Some n) = n.total

abbrev pub reference_in : Option Numbers → ℕ
reference_in None = 0
reference_in (Some n) = n.reference

abbrev pub of_one_message : Option Numbers → Option Numbers → Bool
of_one_message (Some m) (Some n) = eqb m.reference n.reference && eqb m.total n.total
of_one_message (Some m) None = false
of_one_message None c = false

abbrev pub number_at : Bool → List ℕ → List ℕ → ℕ → ℕ
number_at ucs2 cs o i = number_in (numbers_at ucs2 cs o i)

abbrev pub total_at : Bool → List ℕ → List ℕ → ℕ → ℕ
total_at ucs2 cs o i = total_in (numbers_at ucs2 cs o i)

abbrev pub alike : Bool → List ℕ → List ℕ → ℕ → Bool
alike ucs2 cs o i = of_one_message (numbers_at ucs2 cs o 0) (numbers_at ucs2 cs o i)

unfoldable pub wrong_parts : Bool → List ℕ → List ℕ → Bool
wrong_parts ucs2 cs o = eqb (length cs) 0 || wrong_among (number_at ucs2 cs o) (total_at ucs2 cs o) (alike ucs2 cs o) (length cs)

abbrev pub place_of : Bool → List ℕ → List ℕ → ℕ → ℕ
place_of ucs2 cs o k = place_among (number_at ucs2 cs o) (length cs) k

-- what the part at place i holds behind its header
abbrev pub content_at : Bool → List ℕ → List ℕ → ℕ → List ℕ
content_at ucs2 cs o i = content_behind ucs2 (header_size (part_in ucs2 cs o i)) (get_or cs i 0) (part_in ucs2 cs o i)

unfoldable pub joined_from : Bool → List ℕ → List ℕ → ℕ → ℕ → List ℕ
joined_from ucs2 cs o k zero = []
joined_from ucs2 cs o k (suc n) = content_at ucs2 cs o (place_of ucs2 cs o k) ++ joined_from ucs2 cs o (suc k) n

unfoldable pub joined_content : Bool → List ℕ → List ℕ → List ℕ
joined_content ucs2 cs o = joined_from ucs2 cs o 1 (total_at ucs2 cs o 0)

abbrev pub joined_text : Bool → List ℕ → List ℕ → List ℕ
joined_text ucs2 cs o = shown_as ucs2 (joined_content ucs2 cs o)

-- 4, 12, 4, 10, 7
unfoldable pub parts_rules : Bool → List ℕ → List ℕ → ℕ → List Rule
parts_rules ucs2 cs o room =
    when (wrong_counts ucs2 cs o) WrongLength
    ∷ when (wrong_heads ucs2 cs o) WrongHeader
    ∷ when (odd_parts ucs2 cs o) WrongLength
    ∷ when (wrong_parts ucs2 cs o) WrongPages
    ∷ when (ltb room (length (joined_text ucs2 cs o))) NoRoom
    ∷ []

unfoldable pub join_rules : Reading → List ℕ → List ℕ → ℕ → List Rule
join_rules r cs o room = text_rules ShortMessage r ++ parts_rules (is_ucs2 r.alphabet) cs o room

unfoldable pub join_answers : ℕ → List ℕ → List ℕ → ℕ → Result PartsJoined Refusal
join_answers coding cs o room =
    settle (verdict (join_rules (read_under ShortMessage coding) cs o room)) Err
    (ok_parts_joined (length (joined_text (is_ucs2 (read_under ShortMessage coding).alphabet) cs o)) (read_under ShortMessage coding)
    (reference_in (numbers_at (is_ucs2 (read_under ShortMessage coding).alphabet) cs o 0)) (length cs))

unfoldable pub join_leaves : ℕ → List ℕ → List ℕ → List ℕ → List ℕ
join_leaves coding cs o out =
    settle (verdict (join_rules (read_under ShortMessage coding) cs o (length out))) (λ q. out)
    (laid (joined_text (is_ucs2 (read_under ShortMessage coding).alphabet) cs o) out)
