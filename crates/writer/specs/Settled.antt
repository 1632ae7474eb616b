-- What is settled of a text by itself before it is seen: by its reading the coding octet, and whether it is UCS2 (8, 1, 2, 3); then the text is
-- written (6, 5, 7). The whole writer is the two together, but for a page behind letters (proofs/Settling.antt, settled-writes).
-- Own rule: none. Cited by settle, settle_plain, write_settled and the methods of TextCoding. Assumes nothing.
--   octet_in, ucs2_in              == the coding octet of what is settled, and whether it is UCS2
--   held_settled, settled_by       == what is settled, by the coding octet that a reading is written with, and by the text that it holds
--   settled_as service r           == what the reading r settles under the service
--   settled_writes, settled_leaves == what write_settled answers, and what it leaves in the lent buffer
use Rattle.std.specs.Prelude.{ℕ, Bool, true, false, List, Result, Ok, Err}
use Rattle.words.specs.declared.Service.{Service}
use Rattle.coding.specs.declared.Reading.{Reading}
use Rattle.coding.specs.declared.Held.{Held}
use Rattle.coding.specs.LanguageLetters.{coding_writes}
use Rattle.coding.specs.Holding.{holds_units, holds_text}
use Rattle.demands.specs.declared.MessageWritten.{MessageWritten}
use Rattle.demands.specs.MessageWritten.{text_writes, text_write_leaves}
use Rattle.writer.specs.declared.TextCoding.{TextCoding}
use Rattle.words.specs.declared.Refusal.{Refusal}

-- the fields of a text's coding
abbrev pub octet_in : TextCoding → ℕ
octet_in c = c.octet

abbrev pub ucs2_in : TextCoding → Bool
ucs2_in c = c.ucs2

abbrev pub held_settled : Service → ℕ → Result Held Refusal → Result TextCoding Refusal
held_settled service octet (Ok h) = Ok (record { service = service; octet = octet; ucs2 = holds_units h })
held_settled service octet (Err q) = Err q

abbrev pub settled_by : Service → Result ℕ Refusal → Result Held Refusal → Result TextCoding Refusal
settled_by service (Ok octet) h = held_settled service octet h
settled_by service (Err q) h = Err q

unfoldable pub settled_as : Service → Reading → Result TextCoding Refusal
settled_as service r = settled_by service (coding_writes service r) (holds_text service r)

abbrev pub settled_writes : Result TextCoding Refusal → List ℕ → ℕ → Result MessageWritten Refusal
settled_writes (Ok c) units room = text_writes c.service c.ucs2 c.octet units room
settled_writes (Err q) units room = Err q

abbrev pub settled_leaves : Result TextCoding Refusal → List ℕ → List ℕ → List ℕ
settled_leaves (Ok c) units out = text_write_leaves c.service c.ucs2 units out
settled_leaves (Err q) units out = out
