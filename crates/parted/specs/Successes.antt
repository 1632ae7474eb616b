-- What a success says, field by field.
-- Own rule: none. Assumes nothing.
--   ok_part_written octets count marked coding parts == the success whose PartWritten has these fields
--   ok_parts_written octets marked coding parts      == the success whose PartsWritten has these fields
--   ok_part_read units reading concatenation         == the success whose PartRead has these fields
--   ok_text_read units concatenation                 == the success whose TextRead has these fields
--   ok_parts_joined units reading reference parts    == the success whose PartsJoined has these fields
use Rattle.std.specs.Prelude.{ℕ, Bool, Option, Result, Ok}
use Rattle.words.specs.declared.Refusal.{Refusal}
use Rattle.coding.specs.declared.Reading.{Reading}
use Rattle.headed.specs.declared.Numbers.{Numbers}
use Rattle.parted.specs.declared.PartWritten.{PartWritten}
use Rattle.parted.specs.declared.PartsWritten.{PartsWritten}
use Rattle.parted.specs.declared.PartRead.{PartRead}
use Rattle.parted.specs.declared.TextRead.{TextRead}
use Rattle.parted.specs.declared.PartsJoined.{PartsJoined}

abbrev pub ok_part_written : ℕ → ℕ → Bool → ℕ → ℕ → Result PartWritten Refusal
ok_part_written octets count marked coding parts = Ok (record { octets = octets; count = count; marked = marked; coding = coding; parts = parts })

abbrev pub ok_parts_written : ℕ → Bool → ℕ → ℕ → Result PartsWritten Refusal
ok_parts_written octets marked coding parts = Ok (record { octets = octets; marked = marked; coding = coding; parts = parts })

abbrev pub ok_part_read : ℕ → Reading → Option Numbers → Result PartRead Refusal
ok_part_read units reading concatenation = Ok (record { units = units; reading = reading; concatenation = concatenation })

abbrev pub ok_text_read : ℕ → Option Numbers → Result TextRead Refusal
ok_text_read units concatenation = Ok (record { units = units; concatenation = concatenation })

abbrev pub ok_parts_joined : ℕ → Reading → ℕ → ℕ → Result PartsJoined Refusal
ok_parts_joined units reading reference parts = Ok (record { units = units; reading = reading; reference = reference; parts = parts })
