-- What each exported call for long short messages gives, and what it keeps in the lent buffers: the library's own answer for what the numbers name, in
-- numbers.
-- Own rule: a reading with a number that names nothing is refused 8 before all else, and so is a mark that is neither 0 nor 1; the buffers are then kept as
-- they came. Cited by the exported calls. Assumes nothing.
--   under_mark mark none given           == what a call gives for the mark with that number, or for none
--   write_parts_keeps, write_parts_lists == the buffer of octets and that of sizes
use Rattle.std.specs.Prelude.{ℕ, Bool, cond, List, leb, eqb}
use Rattle.words.specs.declared.Refusal.TheVariants.{Unwritable}
use Rattle.names.specs.declared.ReadingNumbers.{ReadingNumbers}
use Rattle.names.specs.Names.{named_reading, under_reading}
use Rattle.parted.specs.Read.{part_reads, part_read_leaves}
use Rattle.parted.specs.Written.{count_answers, part_answers, part_leaves, all_answers, all_leaves, sizes_leaves}
use Rattle.parted.specs.Joined.{join_answers, join_leaves}
use Rattle.part_answers.specs.declared.PartsAnswer.{PartsAnswer}
use Rattle.part_answers.specs.declared.PartAnswer.{PartAnswer}
use Rattle.part_answers.specs.declared.PartsJoinAnswer.{PartsJoinAnswer}
use Rattle.part_answers.specs.PartAnswers.{counted_answer, part_written_answer, parts_written_answer, parts_refused_answer, part_read_answer, part_refused_answer, parts_joined_answer}

abbrev pub under_mark : {A : Type 0} → ℕ → A → (Bool → A) → A
under_mark mark none given = cond (leb 2 mark) none (given (eqb mark 1))

unfoldable pub read_part_gives : ℕ → ℕ → ℕ → List ℕ → ℕ → PartAnswer
read_part_gives coding count mark octets room =
    under_mark mark (part_refused_answer Unwritable) (λ marked. part_read_answer (part_reads coding marked count octets room))

unfoldable pub read_part_keeps : ℕ → ℕ → ℕ → List ℕ → List ℕ → List ℕ
read_part_keeps coding count mark octets out = under_mark mark out (λ marked. part_read_leaves coding marked count octets out)

unfoldable pub count_parts_gives : ReadingNumbers → List ℕ → PartsAnswer
count_parts_gives reading text =
    under_reading (named_reading reading) (parts_refused_answer Unwritable) (λ r. counted_answer (count_answers r text))

unfoldable pub write_part_gives : ReadingNumbers → ℕ → List ℕ → ℕ → ℕ → PartsAnswer
write_part_gives reading reference text number room =
    under_reading (named_reading reading) (parts_refused_answer Unwritable) (λ r. part_written_answer (part_answers r reference text number room))

unfoldable pub write_part_keeps : ReadingNumbers → ℕ → List ℕ → ℕ → List ℕ → List ℕ
write_part_keeps reading reference text number out =
    under_reading (named_reading reading) out (λ r. part_leaves r reference text number out)

unfoldable pub write_parts_gives : ReadingNumbers → ℕ → List ℕ → ℕ → ℕ → PartsAnswer
write_parts_gives reading reference text room list =
    under_reading (named_reading reading) (parts_refused_answer Unwritable) (λ r. parts_written_answer (all_answers r reference text room list))

unfoldable pub write_parts_keeps : ReadingNumbers → ℕ → List ℕ → ℕ → List ℕ → List ℕ
write_parts_keeps reading reference text list out =
    under_reading (named_reading reading) out (λ r. all_leaves r reference text list out)

unfoldable pub write_parts_lists : ReadingNumbers → ℕ → List ℕ → ℕ → List ℕ → List ℕ
write_parts_lists reading reference text room sizes =
    under_reading (named_reading reading) sizes (λ r. sizes_leaves r reference text room sizes)

unfoldable pub join_parts_gives : ℕ → List ℕ → List ℕ → ℕ → PartsJoinAnswer
join_parts_gives coding counts octets room = parts_joined_answer (join_answers coding counts octets room)

abbrev pub join_parts_keeps : ℕ → List ℕ → List ℕ → List ℕ → List ℕ
join_parts_keeps coding counts octets out = join_leaves coding counts octets out
