-- Document 02, W1: "A message has 1 to 15 pages, as few as hold the text, and one for the empty text; every page but the last is full, so 93
-- septets or 41 units."
-- Own rule: none. Cited by the definitions of the calls. Assumes nothing.
-- A text is UCS2 where ucs2 is true, else 7-bit:
--   most_pages            == the most pages of a message
--   page_room ucs2        == how much a page holds: units of UCS2, or septets
--   pages_holding room n  == the fewest pages that hold n where each has that room, and one more than a message may have where none hold it
--   pages_of ucs2 units   == how many pages a text takes
--   page_text ucs2 part   == the 82 octets of a page with this part, filled up with CR: those of the base's broadcast page
use Rattle.std.specs.Prelude.{ℕ, Bool, cond, List, length}
use Rattle.words.specs.declared.Service.TheVariants.{Broadcast}
use Rattle.words.specs.Sizes.{most_septets, most_units}
use Rattle.filling.specs.Filling.{fewest}
pub use Rattle.letters.specs.Sized.{content_of}
use Rattle.stream.specs.SeptetCalls.{octets_of}
use Rattle.stream.specs.UnitCalls.{ucs2_octets_of}

abbrev pub most_pages : ℕ
most_pages = 15

abbrev pub page_room : Bool → ℕ
page_room ucs2 = cond ucs2 (most_units Broadcast) (most_septets Broadcast)

abbrev pub pages_holding : ℕ → ℕ → ℕ
pages_holding room n = fewest most_pages room n

abbrev pub pages_of : Bool → List ℕ → ℕ
pages_of ucs2 units = pages_holding (page_room ucs2) (length (content_of ucs2 units))

abbrev pub page_text : Bool → List ℕ → List ℕ
page_text ucs2 part = cond ucs2 (ucs2_octets_of Broadcast part) (octets_of Broadcast part)
