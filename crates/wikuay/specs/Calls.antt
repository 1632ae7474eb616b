-- What each exported call gives, and what it keeps in the lent buffer: the library's own answer for what the numbers name, in numbers.
-- Own rule: a number that names no service is refused 8 before all else, and so is a reading with a number that names nothing; the
-- buffer is then kept as it came. Cited by the exported calls. Assumes nothing.
use Rattle.std.specs.Prelude.{ℕ, ◌+◌, ◌*◌, List}
use Rattle.words.specs.declared.Service.TheVariants.{ShortMessage}
use Rattle.words.specs.declared.Refusal.TheVariants.{Unwritable}
use Rattle.coding.specs.OctetRead.{octet_reads}
use Rattle.coding.specs.OctetWritten.{octet_writes}
use Rattle.coding.specs.Holding.{holds_text}
use Rattle.letters.specs.Writing.{septets_answers, septets_leaves}
use Rattle.letters.specs.Reading.{text_of, text_answers, text_leaves}
use Rattle.stream.specs.SeptetCalls.{pack_answers, pack_leaves, unpack_answers, unpack_leaves}
use Rattle.demands.specs.MessageRead.{read_answers, read_leaves}
use Rattle.demands.specs.MessageWritten.{write_answers, write_leaves}
use Rattle.names.specs.declared.ReadingNumbers.{ReadingNumbers}
use Rattle.answers.specs.declared.Answer.{Answer}
use Rattle.answers.specs.declared.ReadAnswer.{ReadAnswer}
use Rattle.words.specs.Services.{named_service, under_service}
use Rattle.names.specs.Names.{named_reading, under_reading}
use Rattle.answers.specs.Answers.{refused_answer, read_refused_answer, filled_answer, packed_answer, octet_written_answer, message_written_answer, octet_read_answer, held_answer, message_read_answer}

-- a version as one number that compares: 102 is 0.1.2
abbrev pub version_number : ℕ → ℕ → ℕ → ℕ
version_number major minor patch = 10000 * major + 100 * minor + patch

unfoldable pub version_gives : ℕ
version_gives = version_number 0 1 0

unfoldable pub read_coding_gives : ℕ → ℕ → ReadAnswer
read_coding_gives service coding =
    under_service (named_service service) (read_refused_answer Unwritable) (λ s. octet_read_answer (octet_reads s coding))

unfoldable pub write_coding_gives : ℕ → ReadingNumbers → Answer
write_coding_gives service reading =
    under_service (named_service service) (refused_answer Unwritable) (λ s.
    under_reading (named_reading reading) (refused_answer Unwritable) (λ r. octet_written_answer (octet_writes s r)))

-- asked as of a short message: every service judges alike
unfoldable pub holds_text_gives : ReadingNumbers → ReadAnswer
holds_text_gives reading = under_reading (named_reading reading) (read_refused_answer Unwritable) (λ r. held_answer (holds_text ShortMessage r))

unfoldable pub pack_gives : ℕ → List ℕ → ℕ → Answer
pack_gives service septets room =
    under_service (named_service service) (refused_answer Unwritable) (λ s. packed_answer (pack_answers s septets room))

unfoldable pub pack_keeps : ℕ → List ℕ → List ℕ → List ℕ
pack_keeps service septets out = under_service (named_service service) out (λ s. pack_leaves s septets out)

unfoldable pub unpack_gives : ℕ → List ℕ → ℕ → ℕ → Answer
unpack_gives service octets count room =
    under_service (named_service service) (refused_answer Unwritable) (λ s. filled_answer (unpack_answers s octets count room))

unfoldable pub unpack_keeps : ℕ → List ℕ → ℕ → List ℕ → List ℕ
unpack_keeps service octets count out = under_service (named_service service) out (λ s. unpack_leaves s octets count out)

unfoldable pub text_to_septets_gives : List ℕ → ℕ → Answer
text_to_septets_gives text room = filled_answer (septets_answers text room)

abbrev pub text_to_septets_keeps : List ℕ → List ℕ → List ℕ
text_to_septets_keeps text out = septets_leaves text out

unfoldable pub septets_to_text_gives : List ℕ → ℕ → Answer
septets_to_text_gives septets room = filled_answer (text_answers septets (text_of septets) room)

abbrev pub septets_to_text_keeps : List ℕ → List ℕ → List ℕ
septets_to_text_keeps septets out = text_leaves septets (text_of septets) out

unfoldable pub read_message_gives : ℕ → ℕ → ℕ → List ℕ → ℕ → ReadAnswer
read_message_gives service coding count octets room =
    under_service (named_service service) (read_refused_answer Unwritable) (λ s. message_read_answer (read_answers s coding count octets room))

unfoldable pub read_message_keeps : ℕ → ℕ → ℕ → List ℕ → List ℕ → List ℕ
read_message_keeps service coding count octets out = under_service (named_service service) out (λ s. read_leaves s coding count octets out)

unfoldable pub write_message_gives : ℕ → ReadingNumbers → List ℕ → ℕ → Answer
write_message_gives service reading text room =
    under_service (named_service service) (refused_answer Unwritable) (λ s.
    under_reading (named_reading reading) (refused_answer Unwritable) (λ r. message_written_answer (write_answers s r text room)))

unfoldable pub write_message_keeps : ℕ → ReadingNumbers → List ℕ → List ℕ → List ℕ
write_message_keeps service reading text out =
    under_service (named_service service) out (λ s. under_reading (named_reading reading) out (λ r. write_leaves s r text out))
