-- Document 02, W5, and document 01, "Refusal numbers and their order": how many parts a text takes (8, 1, 2, 6, 5), writing one part (then 10 for a part
-- that the message lacks, 7), writing all parts end to end (then 7 for either lent buffer). "over 255 parts is 5".
-- Own rule: the second buffer takes for each part its count and how many octets it has, one after the other. Cited by count_parts, write_part and
-- write_parts. Assumes nothing.
--   reading_parts, reading_content                   == how many parts a text takes that is written as the reading r, and what is laid into them
--   octets_as, count_as                              == the octets and the count of part k of it
--   all_octets, all_sizes                            == the octets of n parts from part k on, end to end; for each of them the count, and how many octets it has
--   octets_of_all, sizes_of_all                      == those of all parts
--   size_rules, count_rules, count_answers           == what refuses to count the parts of a text, and what count_parts answers
--   part_rules, part_answers, part_leaves            == the same of write_part, and what it leaves in the lent buffer
--   all_rules, all_answers, all_leaves, sizes_leaves == the same of write_parts, and what it leaves in the two lent buffers
use Rattle.std.specs.Prelude.{ℕ, zero, suc, Bool, ◌||◌, List, [], ◌∷◌, ◌++◌, ltb, length, Result, Ok, Err}
use Rattle.words.specs.declared.Service.TheVariants.{ShortMessage}
use Rattle.words.specs.declared.Refusal.TheVariants.{Unlisted, TooLong, NoRoom, WrongPages}
use Rattle.words.specs.Judging.{Rule, when, verdict, settle}
use Rattle.lists.specs.Lists.{laid}
use Rattle.coding.specs.declared.Reading.{Reading}
use Rattle.coding.specs.OctetWritten.{smallest}
use Rattle.coding.specs.LanguageLetters.{coding_rules}
use Rattle.coding.specs.Holding.{is_ucs2, text_rules}
use Rattle.letters.specs.Writing.{first_unlisted}
use Rattle.letters.specs.Sized.{content_of, not_codable}
use Rattle.filling.specs.Numbered.{lacks}
use Rattle.parted.specs.declared.PartWritten.{PartWritten}
use Rattle.parted.specs.declared.PartsWritten.{PartsWritten}
use Rattle.parted.specs.Parts.{most_parts, parts_of, is_marked, part_octets, part_count}
use Rattle.words.specs.declared.Refusal.{Refusal}
use Rattle.parted.specs.Successes.{ok_parts_written}
use Rattle.parted.specs.Successes.{ok_part_written}

abbrev pub reading_parts : Reading → List ℕ → ℕ
reading_parts r units = parts_of (is_ucs2 r.alphabet) units

abbrev pub reading_content : Reading → List ℕ → List ℕ
reading_content r units = content_of (is_ucs2 r.alphabet) units

abbrev pub octets_as : Reading → ℕ → List ℕ → ℕ → List ℕ
octets_as r reference units k = part_octets (is_ucs2 r.alphabet) reference (reading_parts r units) (reading_content r units) k

abbrev pub count_as : Reading → ℕ → List ℕ → ℕ → ℕ
count_as r reference units k = part_count (is_ucs2 r.alphabet) reference (reading_parts r units) (reading_content r units) k

unfoldable pub all_octets : Bool → ℕ → ℕ → List ℕ → ℕ → ℕ → List ℕ
all_octets ucs2 reference total s k zero = []
all_octets ucs2 reference total s k (suc n) = part_octets ucs2 reference total s k ++ all_octets ucs2 reference total s (suc k) n

unfoldable pub all_sizes : Bool → ℕ → ℕ → List ℕ → ℕ → ℕ → List ℕ
all_sizes ucs2 reference total s k zero = []
all_sizes ucs2 reference total s k (suc n) =
    part_count ucs2 reference total s k ∷ length (part_octets ucs2 reference total s k) ∷ all_sizes ucs2 reference total s (suc k) n

abbrev pub octets_of_all : Reading → ℕ → List ℕ → List ℕ
octets_of_all r reference units =
    all_octets (is_ucs2 r.alphabet) reference (reading_parts r units) (reading_content r units) 1 (reading_parts r units)

abbrev pub sizes_of_all : Reading → ℕ → List ℕ → List ℕ
sizes_of_all r reference units =
    all_sizes (is_ucs2 r.alphabet) reference (reading_parts r units) (reading_content r units) 1 (reading_parts r units)

-- 6, 5
unfoldable pub size_rules : Bool → List ℕ → List Rule
size_rules ucs2 units =
    when (not_codable ucs2 units) (Unlisted (first_unlisted units))
    ∷ when (ltb most_parts (parts_of ucs2 units)) TooLong
    ∷ []

-- 8, 1, 2, 6, 5: no coding octet of a short message has a prefix mark or a header mark, so that 3 does not come
unfoldable pub count_rules : Reading → List ℕ → List Rule
count_rules r units = coding_rules ShortMessage r ++ (text_rules ShortMessage r ++ size_rules (is_ucs2 r.alphabet) units)

unfoldable pub count_answers : Reading → List ℕ → Result ℕ Refusal
count_answers r units = settle (verdict (count_rules r units)) Err (Ok (reading_parts r units))

unfoldable pub part_rules : Reading → ℕ → List ℕ → ℕ → ℕ → List Rule
part_rules r reference units k room =
    count_rules r units
    ++ (when (lacks (reading_parts r units) k) WrongPages
    ∷ when (ltb room (length (octets_as r reference units k))) NoRoom
    ∷ [])

unfoldable pub part_answers : Reading → ℕ → List ℕ → ℕ → ℕ → Result PartWritten Refusal
part_answers r reference units k room =
    settle (verdict (part_rules r reference units k room)) Err
    (ok_part_written (length (octets_as r reference units k)) (count_as r reference units k) (is_marked (reading_parts r units)) (smallest ShortMessage r)
    (reading_parts r units))

unfoldable pub part_leaves : Reading → ℕ → List ℕ → ℕ → List ℕ → List ℕ
part_leaves r reference units k out =
    settle (verdict (part_rules r reference units k (length out))) (λ q. out) (laid (octets_as r reference units k) out)

unfoldable pub all_rules : Reading → ℕ → List ℕ → ℕ → ℕ → List Rule
all_rules r reference units room list =
    count_rules r units
    ++ (when (ltb room (length (octets_of_all r reference units)) || ltb list (length (sizes_of_all r reference units))) NoRoom
    ∷ [])

unfoldable pub all_answers : Reading → ℕ → List ℕ → ℕ → ℕ → Result PartsWritten Refusal
all_answers r reference units room list =
    settle (verdict (all_rules r reference units room list)) Err
    (ok_parts_written (length (octets_of_all r reference units)) (is_marked (reading_parts r units)) (smallest ShortMessage r) (reading_parts r units))

unfoldable pub all_leaves : Reading → ℕ → List ℕ → ℕ → List ℕ → List ℕ
all_leaves r reference units list out =
    settle (verdict (all_rules r reference units (length out) list)) (λ q. out) (laid (octets_of_all r reference units) out)

unfoldable pub sizes_leaves : Reading → ℕ → List ℕ → ℕ → List ℕ → List ℕ
sizes_leaves r reference units room list =
    settle (verdict (all_rules r reference units room (length list))) (λ q. list) (laid (sizes_of_all r reference units) list)
