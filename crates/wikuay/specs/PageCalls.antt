-- What each exported call for broadcasts of several pages gives, and what it keeps in the lent buffer: the library's own answer for what the numbers
-- name, in numbers.
-- Own rule: a reading with a number that names nothing is refused 8 before all else; the buffer is then kept as it came. Cited by the exported calls.
-- Assumes nothing.
use Rattle.std.specs.Prelude.{ℕ, List}
use Rattle.words.specs.declared.Refusal.TheVariants.{Unwritable}
use Rattle.names.specs.declared.ReadingNumbers.{ReadingNumbers}
use Rattle.names.specs.Names.{named_reading, under_reading}
use Rattle.pages.specs.Blocks.{header_of}
use Rattle.pages.specs.Written.{count_answers, built_as, pages_answers, pages_leaves}
use Rattle.pages.specs.Joined.{join_answers, join_leaves}
use Rattle.page_answers.specs.declared.Block.{Block}
use Rattle.page_answers.specs.declared.BlockHeader.{BlockHeader}
use Rattle.page_answers.specs.declared.PagesAnswer.{PagesAnswer}
use Rattle.page_answers.specs.declared.PageAnswer.{PageAnswer}
use Rattle.page_answers.specs.declared.JoinAnswer.{JoinAnswer}
use Rattle.page_answers.specs.PageAnswers.{header_numbers, counted_answer, pages_refused_answer, pages_written_answer, built_answer, page_refused_answer, joined_answer}

unfoldable pub read_header_gives : Block → BlockHeader
read_header_gives block = header_numbers (header_of block.octets)

unfoldable pub count_pages_gives : ReadingNumbers → List ℕ → PagesAnswer
count_pages_gives reading text =
    under_reading (named_reading reading) (pages_refused_answer Unwritable) (λ r. counted_answer (count_answers r text))

unfoldable pub build_page_gives : ℕ → ℕ → ReadingNumbers → List ℕ → ℕ → PageAnswer
build_page_gives sequence identifier reading text number =
    under_reading (named_reading reading) (page_refused_answer Unwritable) (λ r. built_answer (built_as sequence identifier r text number))

unfoldable pub write_pages_gives : ℕ → ℕ → ReadingNumbers → List ℕ → ℕ → PagesAnswer
write_pages_gives sequence identifier reading text room =
    under_reading (named_reading reading) (pages_refused_answer Unwritable) (λ r. pages_written_answer (pages_answers sequence identifier r text room))

unfoldable pub write_pages_keeps : ℕ → ℕ → ReadingNumbers → List ℕ → List ℕ → List ℕ
write_pages_keeps sequence identifier reading text out =
    under_reading (named_reading reading) out (λ r. pages_leaves sequence identifier r text out)

unfoldable pub join_pages_gives : List ℕ → ℕ → JoinAnswer
join_pages_gives blocks room = joined_answer (join_answers blocks room)

abbrev pub join_pages_keeps : List ℕ → List ℕ → List ℕ
join_pages_keeps blocks out = join_leaves blocks out
