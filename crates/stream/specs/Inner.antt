-- What private functions of the packings say of themselves: no contract of a public call cites this file.
-- The count that goes with a packing.
-- Own rule: none. Cited by the functions that count. Assumes nothing.
--   counted_as a n         == the answer a of a packing, with the length count n
--   is_page service        == whether a text is laid over a page under the service
use Rattle.std.specs.Prelude.{ℕ, Bool, true, false, Result, Ok, Err}
use Rattle.words.specs.declared.Service.{Service}
use Rattle.words.specs.declared.Service.TheVariants.{ShortMessage, Broadcast, Ussd, OldPage}
use Rattle.stream.specs.declared.Packed.{Packed}
use Rattle.words.specs.declared.Refusal.{Refusal}
use Rattle.stream.specs.Successes.{ok_packed}

abbrev pub counted_as : Result ℕ Refusal → ℕ → Result Packed Refusal
counted_as (Ok octets) n = ok_packed octets n
counted_as (Err r) n = Err r

-- a text is laid over a page
abbrev pub is_page : Service → Bool
is_page ShortMessage = false
is_page Broadcast = true
is_page Ussd = false
is_page OldPage = false
