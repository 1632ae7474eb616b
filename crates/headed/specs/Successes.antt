-- What a success says, field by field.
-- Own rule: none. Assumes nothing.
--   ok_header_read octets concatenation == the success whose HeaderRead has these fields
use Rattle.std.specs.Prelude.{ℕ, Option, Result, Ok}
use Rattle.words.specs.declared.Refusal.{Refusal}
use Rattle.headed.specs.declared.Numbers.{Numbers}
use Rattle.headed.specs.declared.HeaderRead.{HeaderRead}

abbrev pub ok_header_read : ℕ → Option Numbers → Result HeaderRead Refusal
ok_header_read octets concatenation = Ok (record { octets = octets; concatenation = concatenation })
