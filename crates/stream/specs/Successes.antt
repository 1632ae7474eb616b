-- What a success says, field by field.
-- Own rule: none. Assumes nothing.
--   ok_packed octets count == the success whose Packed has these fields
use Rattle.std.specs.Prelude.{ℕ, Result, Ok}
use Rattle.words.specs.declared.Refusal.{Refusal}
use Rattle.stream.specs.declared.Packed.{Packed}

abbrev pub ok_packed : ℕ → ℕ → Result Packed Refusal
ok_packed octets count = Ok (record { octets = octets; count = count })
