-- What is settled of one message before its text is seen: a text by itself (Settled.antt), or a broadcast page behind the letters of its language, whose
-- coding octet alone can refuse it (8). The whole writer is this and writing together (proofs/Settling.antt, coded-writes).
-- Own rule: none. Cited by code_message and write_coded. Assumes nothing.
--   lettered_by r octet        == what is settled of a page behind letters, by the coding octet that its reading r is written with
--   text_by settled            == what is settled of a text by itself, as that of a message
--   coded_as service r         == what the reading r settles of one message under the service
--   coded_writes, coded_leaves == what write_coded answers, and what it leaves in the lent buffer
use Rattle.std.specs.Prelude.{ℕ, cond, List, Result, Ok, Err}
use Rattle.words.specs.declared.Service.{Service}
use Rattle.coding.specs.declared.Reading.{Reading}
use Rattle.coding.specs.LanguageLetters.{is_lettered, coding_writes}
use Rattle.coding.specs.Holding.{is_ucs2}
use Rattle.demands.specs.declared.MessageWritten.{MessageWritten}
use Rattle.demands.specs.MessageWritten.{page_writes, page_write_leaves}
use Rattle.writer.specs.declared.MessageCoding.{MessageCoding}
use Rattle.writer.specs.declared.MessageCoding.TheVariants as coding
use Rattle.writer.specs.declared.TextCoding.{TextCoding}
use Rattle.writer.specs.Settled.{settled_as, settled_writes, settled_leaves}
use Rattle.words.specs.declared.Refusal.{Refusal}

abbrev pub lettered_by : Reading → Result ℕ Refusal → Result MessageCoding Refusal
lettered_by r (Ok octet) = Ok (coding.Lettered (record { octet = octet; ucs2 = is_ucs2 r.alphabet; letters = r.letters }))
lettered_by r (Err q) = Err q

abbrev pub text_by : Result TextCoding Refusal → Result MessageCoding Refusal
text_by (Ok c) = Ok (coding.Text c)
text_by (Err q) = Err q

unfoldable pub coded_as : Service → Reading → Result MessageCoding Refusal
coded_as service r = cond (is_lettered service r) (lettered_by r (coding_writes service r)) (text_by (settled_as service r))

abbrev pub coded_writes : Result MessageCoding Refusal → List ℕ → ℕ → Result MessageWritten Refusal
coded_writes (Ok (coding.Text c)) units room = settled_writes (Ok c) units room
coded_writes (Ok (coding.Lettered c)) units room = page_writes c.ucs2 c.letters c.octet units room
coded_writes (Err q) units room = Err q

abbrev pub coded_leaves : Result MessageCoding Refusal → List ℕ → List ℕ → List ℕ
coded_leaves (Ok (coding.Text c)) units out = settled_leaves (Ok c) units out
coded_leaves (Ok (coding.Lettered c)) units out = page_write_leaves c.ucs2 c.letters units out
coded_leaves (Err q) units out = out
