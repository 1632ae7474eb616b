-- Inner: what private functions answer on the way. No public contract cites this file.
-- Assumes nothing.
--   held_reads, held_read_leaves == the reader of a text by itself behind the coding octet: 1, 2, 3, 4, 7
--   shown_as r answer            == the answer of reading text, with the reading r
--   packed_as, units_as          == the answer of packing, with the coding octet, and of UCS2 with the length count too
use Rattle.std.specs.Prelude.{ℕ, List, ◌++◌, length, Result, Ok, Err}
use Rattle.words.specs.declared.Service.{Service}
use Rattle.lists.specs.Lists.{laid}
use Rattle.words.specs.Judging.{verdict, settle}
use Rattle.stream.specs.SeptetCalls.{travels}
use Rattle.stream.specs.declared.Packed.{Packed}
use Rattle.coding.specs.declared.Reading.{Reading}
use Rattle.coding.specs.Holding.{is_ucs2, text_rules}
use Rattle.demands.specs.declared.MessageRead.{MessageRead}
use Rattle.demands.specs.declared.MessageWritten.{MessageWritten}
use Rattle.demands.specs.MessageRead.{held_text, text_length_rules}
use Rattle.words.specs.declared.Refusal.{Refusal}
use Rattle.demands.specs.Successes.{ok_message_written}
use Rattle.demands.specs.Successes.{ok_message_read}

unfoldable pub held_reads : Service → Reading → ℕ → List ℕ → ℕ → Result MessageRead Refusal
held_reads service r count o room =
    settle (verdict (text_rules service r ++ text_length_rules service (is_ucs2 r.alphabet) count o room)) Err
    (ok_message_read (length (held_text service (is_ucs2 r.alphabet) count o)) r)

unfoldable pub held_read_leaves : Service → Reading → ℕ → List ℕ → List ℕ → List ℕ
held_read_leaves service r count o out =
    settle (verdict (text_rules service r ++ text_length_rules service (is_ucs2 r.alphabet) count o (length out))) (λ q. out)
    (laid (held_text service (is_ucs2 r.alphabet) count o) out)

abbrev pub shown_as : Reading → Result ℕ Refusal → Result MessageRead Refusal
shown_as r (Ok units) = ok_message_read units r
shown_as r (Err q) = Err q

-- packing counts what travels
abbrev pub packed_as : ℕ → Result Packed Refusal → Result MessageWritten Refusal
packed_as coding (Ok m) = ok_message_written m.octets m.count coding
packed_as coding (Err q) = Err q

-- UCS2 is counted by its octets
abbrev pub units_as : Service → ℕ → Result ℕ Refusal → Result MessageWritten Refusal
units_as service coding (Ok octets) = ok_message_written octets (travels service octets) coding
units_as service coding (Err q) = Err q
