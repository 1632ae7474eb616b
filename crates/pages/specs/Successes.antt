-- What a success says, field by field.
-- Own rule: none. Assumes nothing.
--   ok_page block pages                              == the success whose Page has these fields
--   ok_pages_written octets pages                     == the success whose PagesWritten has these fields
--   ok_joined units reading sequence identifier pages == the success whose Joined has these fields
use Rattle.std.specs.Prelude.{ℕ, List, Result, Ok}
use Rattle.words.specs.declared.Refusal.{Refusal}
use Rattle.coding.specs.declared.Reading.{Reading}
use Rattle.pages.specs.declared.Page.{Page}
use Rattle.pages.specs.declared.PagesWritten.{PagesWritten}
use Rattle.pages.specs.declared.Joined.{Joined}

abbrev pub ok_page : List ℕ → ℕ → Result Page Refusal
ok_page block pages = Ok (record { block = block; pages = pages })

abbrev pub ok_pages_written : ℕ → ℕ → Result PagesWritten Refusal
ok_pages_written octets pages = Ok (record { octets = octets; pages = pages })

abbrev pub ok_joined : ℕ → Reading → ℕ → ℕ → ℕ → Result Joined Refusal
ok_joined units reading sequence identifier pages = Ok (record { units = units; reading = reading; sequence = sequence; identifier = identifier; pages = pages })
