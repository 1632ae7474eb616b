-- What private functions of this crate say of themselves: no contract of a public call cites this file.
-- Own rule: none. Cited by behind. Assumes nothing.
--   behind_letters l a == the answer a of reading the text behind the letters l, with them
use Rattle.fields.specs.declared.Letters.{Letters}
use Rattle.lettered.specs.declared.LetteredRead.{LetteredRead}
use Rattle.std.specs.Prelude.{ℕ, Result, Ok, Err}
use Rattle.words.specs.declared.Refusal.{Refusal}
use Rattle.lettered.specs.Successes.{ok_lettered_read}

abbrev pub behind_letters : Letters → Result ℕ Refusal → Result LetteredRead Refusal
behind_letters l (Ok units) = ok_lettered_read units l
behind_letters l (Err r) = Err r
