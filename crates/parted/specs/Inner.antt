-- What private functions of the calls with parts say of themselves: no contract of a public call cites this file.
-- Own rule: none. Assumes nothing.
--   sized_plan ucs2 plain n                          == how so many units or septets are cut, or 5
--   counted_as answer                                == how many parts a plan has
--   plan_count p k, plan_octets p k                  == the count of part k of a plan, from 0, and how many octets it has
--   text_part, text_part_leaves                      == writing one part of a text under a coding octet, by itself: 6, 5, 10, 7
--   text_parts, text_parts_leaves, text_sizes_leaves == the same of all parts: 6, 5, 7
--   codes_in s, open_after half s                    == how many of the septets s are no escapes; whether an escape stands last before what comes behind them, where half says so of
--                                                       what comes before them
--   held_reads, held_read_leaves                     == reading one message whose coding octet is read as r: 1, 2, 4, 12, 4, 7
--   behind_reads, behind_read_leaves                 == the same of its text by itself, which is UCS2 or 7-bit: 4, 12, 4, 7
--   tail_rules, tail_reads, tail_leaves              == the same behind a header of h octets: 4 of evenness, 7
--   with_reading r answer, with_numbers c answer     == the answer of a text, with the reading; the answer of storing it, with the numbers of the part
use Rattle.std.specs.Prelude.{ℕ, suc, ◌+◌, ◌*◌, Bool, cond, ◌||◌, List, [], ◌∷◌, ◌++◌, ltb, eqb, length, Result, Option, Ok, Err}
use Rattle.words.specs.declared.Refusal.TheVariants.{WrongLength, TooLong, NoRoom, WrongPages}
use Rattle.words.specs.Judging.{Rule, when, verdict, settle}
use Rattle.lists.specs.Lists.{laid}
use Rattle.coding.specs.declared.Reading.{Reading}
use Rattle.coding.specs.Holding.{is_ucs2}
use Rattle.letters.specs.Tables.{escape}
use Rattle.letters.specs.Sized.{content_of}
use Rattle.stream.specs.Stream.{octets_for}
use Rattle.filling.specs.Numbered.{lacks}
use Rattle.headed.specs.Header.{septets_over}
use Rattle.parted.specs.declared.PartRead.{PartRead}
use Rattle.parted.specs.declared.PartWritten.{PartWritten}
use Rattle.parted.specs.declared.PartsWritten.{PartsWritten}
use Rattle.parted.specs.declared.Plan.{Plan}
use Rattle.parted.specs.declared.TextRead.{TextRead}
use Rattle.parted.specs.Parts.{most_parts, parts_holding, parts_of, is_marked, mark_size, part_octets, part_count}
use Rattle.parted.specs.Written.{all_octets, all_sizes, size_rules}
use Rattle.parted.specs.Cutting.{part_length}
use Rattle.parted.specs.Read.{head_size, odd_behind, text_behind, marked_numbers, behind_rules, part_read_rules}
use Rattle.words.specs.declared.Refusal.{Refusal}
use Rattle.headed.specs.declared.Numbers.{Numbers}
use Rattle.parted.specs.Successes.{ok_parts_written}
use Rattle.parted.specs.Successes.{ok_text_read}
use Rattle.parted.specs.Successes.{ok_part_read}
use Rattle.parted.specs.Successes.{ok_part_written}

unfoldable pub sized_plan : Bool → Bool → ℕ → Result Plan Refusal
sized_plan ucs2 plain n =
    settle (verdict (when (ltb most_parts (parts_holding ucs2 n)) TooLong ∷ [])) Err
    (Ok (record { ucs2 = ucs2; plain = plain; total = parts_holding ucs2 n; content = n }))

abbrev pub counted_as : Result Plan Refusal → Result ℕ Refusal
counted_as (Ok p) = Ok p.total
counted_as (Err q) = Err q

unfoldable pub plan_count : Plan → ℕ → ℕ
plan_count p k = cond p.ucs2 (mark_size p.total + 2 * part_length p k) (septets_over (mark_size p.total) + part_length p k)

unfoldable pub plan_octets : Plan → ℕ → ℕ
plan_octets p k = cond p.ucs2 (plan_count p k) (octets_for (plan_count p k))

abbrev pub octets_in : Bool → ℕ → List ℕ → ℕ → List ℕ
octets_in ucs2 reference units k = part_octets ucs2 reference (parts_of ucs2 units) (content_of ucs2 units) k

abbrev pub part_rules_in : Bool → ℕ → List ℕ → ℕ → ℕ → List Rule
part_rules_in ucs2 reference units k room =
    size_rules ucs2 units
    ++ (when (lacks (parts_of ucs2 units) k) WrongPages
    ∷ when (ltb room (length (octets_in ucs2 reference units k))) NoRoom
    ∷ [])

unfoldable pub text_part : Bool → ℕ → ℕ → List ℕ → ℕ → ℕ → Result PartWritten Refusal
text_part ucs2 coding reference units k room =
    settle (verdict (part_rules_in ucs2 reference units k room)) Err
    (ok_part_written (length (octets_in ucs2 reference units k)) (part_count ucs2 reference (parts_of ucs2 units) (content_of ucs2 units) k) (is_marked (parts_of ucs2 units)) coding (parts_of ucs2 units))

unfoldable pub text_part_leaves : Bool → ℕ → List ℕ → ℕ → List ℕ → List ℕ
text_part_leaves ucs2 reference units k out =
    settle (verdict (part_rules_in ucs2 reference units k (length out))) (λ q. out) (laid (octets_in ucs2 reference units k) out)

abbrev pub all_in : Bool → ℕ → List ℕ → List ℕ
all_in ucs2 reference units = all_octets ucs2 reference (parts_of ucs2 units) (content_of ucs2 units) 1 (parts_of ucs2 units)

abbrev pub sizes_in : Bool → ℕ → List ℕ → List ℕ
sizes_in ucs2 reference units = all_sizes ucs2 reference (parts_of ucs2 units) (content_of ucs2 units) 1 (parts_of ucs2 units)

abbrev pub all_rules_in : Bool → ℕ → List ℕ → ℕ → ℕ → List Rule
all_rules_in ucs2 reference units room list =
    size_rules ucs2 units ++ (when (ltb room (length (all_in ucs2 reference units)) || ltb list (length (sizes_in ucs2 reference units))) NoRoom ∷ [])

unfoldable pub text_parts : Bool → ℕ → ℕ → List ℕ → ℕ → ℕ → Result PartsWritten Refusal
text_parts ucs2 coding reference units room list =
    settle (verdict (all_rules_in ucs2 reference units room list)) Err
    (ok_parts_written (length (all_in ucs2 reference units)) (is_marked (parts_of ucs2 units)) coding (parts_of ucs2 units))

unfoldable pub text_parts_leaves : Bool → ℕ → List ℕ → ℕ → List ℕ → List ℕ
text_parts_leaves ucs2 reference units list out =
    settle (verdict (all_rules_in ucs2 reference units (length out) list)) (λ q. out) (laid (all_in ucs2 reference units) out)

unfoldable pub text_sizes_leaves : Bool → ℕ → List ℕ → ℕ → List ℕ → List ℕ
text_sizes_leaves ucs2 reference units room list =
    settle (verdict (all_rules_in ucs2 reference units room (length list))) (λ q. list) (laid (sizes_in ucs2 reference units) list)

unfoldable pub codes_in : List ℕ → ℕ
codes_in [] = 0
codes_in (x ∷ s) = cond (eqb x escape) (codes_in s) (suc (codes_in s))

unfoldable pub open_after : Bool → List ℕ → Bool
open_after half [] = half
open_after half (x ∷ s) = open_after (eqb x escape) s

unfoldable pub held_reads : Reading → Bool → ℕ → List ℕ → ℕ → Result PartRead Refusal
held_reads r marked count o room =
    settle (verdict (part_read_rules r marked count o room)) Err
    (ok_part_read (length (text_behind (is_ucs2 r.alphabet) (head_size marked o) count o)) r (marked_numbers marked o))

unfoldable pub held_read_leaves : Reading → Bool → ℕ → List ℕ → List ℕ → List ℕ
held_read_leaves r marked count o out =
    settle (verdict (part_read_rules r marked count o (length out))) (λ q. out) (laid (text_behind (is_ucs2 r.alphabet) (head_size marked o) count o) out)

unfoldable pub behind_reads : Bool → Bool → ℕ → List ℕ → ℕ → Result TextRead Refusal
behind_reads ucs2 marked count o room =
    settle (verdict (behind_rules ucs2 marked count o room)) Err
    (ok_text_read (length (text_behind ucs2 (head_size marked o) count o)) (marked_numbers marked o))

unfoldable pub behind_read_leaves : Bool → Bool → ℕ → List ℕ → List ℕ → List ℕ
behind_read_leaves ucs2 marked count o out =
    settle (verdict (behind_rules ucs2 marked count o (length out))) (λ q. out) (laid (text_behind ucs2 (head_size marked o) count o) out)

unfoldable pub tail_rules : Bool → ℕ → ℕ → List ℕ → ℕ → List Rule
tail_rules ucs2 h count o room =
    when (odd_behind ucs2 h o) WrongLength
    ∷ when (ltb room (length (text_behind ucs2 h count o))) NoRoom
    ∷ []

unfoldable pub tail_reads : Bool → ℕ → ℕ → List ℕ → ℕ → Result ℕ Refusal
tail_reads ucs2 h count o room = settle (verdict (tail_rules ucs2 h count o room)) Err (Ok (length (text_behind ucs2 h count o)))

unfoldable pub tail_leaves : Bool → ℕ → ℕ → List ℕ → List ℕ → List ℕ
tail_leaves ucs2 h count o out = settle (verdict (tail_rules ucs2 h count o (length out))) (λ q. out) (laid (text_behind ucs2 h count o) out)

abbrev pub with_reading : Reading → Result TextRead Refusal → Result PartRead Refusal
with_reading r (Ok m) = ok_part_read m.units r m.concatenation
with_reading r (Err q) = Err q

abbrev pub with_numbers : Option Numbers → Result ℕ Refusal → Result TextRead Refusal
with_numbers c (Ok units) = ok_text_read units c
with_numbers c (Err q) = Err q
