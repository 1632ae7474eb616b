-- What a success says, field by field.
-- Own rule: none. Assumes nothing.
--   ok_message_read units reading          == the success whose MessageRead has these fields
--   ok_message_written octets count coding == the success whose MessageWritten has these fields
use Rattle.std.specs.Prelude.{ℕ, Result, Ok}
use Rattle.words.specs.declared.Refusal.{Refusal}
use Rattle.coding.specs.declared.Reading.{Reading}
use Rattle.demands.specs.declared.MessageRead.{MessageRead}
use Rattle.demands.specs.declared.MessageWritten.{MessageWritten}

abbrev pub ok_message_read : ℕ → Reading → Result MessageRead Refusal
ok_message_read units reading = Ok (record { units = units; reading = reading })

abbrev pub ok_message_written : ℕ → ℕ → ℕ → Result MessageWritten Refusal
ok_message_written octets count coding = Ok (record { octets = octets; count = count; coding = coding })
