-- What a success says, field by field.
-- Own rule: none. Assumes nothing.
--   ok_lettered_read units letters == the success whose LetteredRead has these fields
use Rattle.std.specs.Prelude.{ℕ, Result, Ok}
use Rattle.words.specs.declared.Refusal.{Refusal}
use Rattle.fields.specs.declared.Letters.{Letters}
use Rattle.lettered.specs.declared.LetteredRead.{LetteredRead}

abbrev pub ok_lettered_read : ℕ → Letters → Result LetteredRead Refusal
ok_lettered_read units letters = Ok (record { units = units; letters = letters })
