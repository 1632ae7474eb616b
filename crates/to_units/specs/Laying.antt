-- Document 01, "Packing": the UCS2 units that octets hold, high octet first, laid over a buffer as far as there is room.
-- Own rule: closing 000D units are dropped, as in Ucs2. Cited by lay_units and kept. Assumes nothing.
--   units_within o room == the units that the octets o hold, and no more than the room
--   laid_count o room   == how many those are
--   laid_units o out    == out with its front overwritten by those that it has room for
--   kept_units us       == how many of the units us are left without the 000D that close them
use Rattle.std.specs.Prelude.{ℕ, List, length, take}
use Rattle.lists.specs.Lists.{laid}
use Rattle.lists.specs.Closing.{without_closing}
use Rattle.stream.specs.UssdPacking.{cr}
use Rattle.stream.specs.Ucs2.{octet_units}

abbrev pub units_within : List ℕ → ℕ → List ℕ
units_within o room = take room (octet_units o)

abbrev pub laid_count : List ℕ → ℕ → ℕ
laid_count o room = length (units_within o room)

abbrev pub laid_units : List ℕ → List ℕ → List ℕ
laid_units o out = laid (units_within o (length out)) out

abbrev pub kept_units : List ℕ → ℕ
kept_units us = length (without_closing cr us)
