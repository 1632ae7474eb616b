-- Document 02, W5: "After its 6 octets, 7-bit text starts at the next septet boundary, leaving 153 septets; UCS2 leaves 67 units." "the count covers it."
-- "Parts are filled as W1's pages are"; "a text that fits alone has no header"; "over 255 parts is 5".
-- Own rule: none. Cited by the definitions of the calls. Assumes nothing.
-- A text is UCS2 where ucs2 is true, else 7-bit:
--   most_parts                    == the most parts of a message
--   room_behind ucs2 h            == how much of a text a short message holds behind a header of h octets: units of UCS2, or septets
--   parts_holding ucs2 n          == how many parts n units or septets take: one where they fit alone, else the fewest that hold them behind a header of 6 octets
--   parts_of ucs2 units           == how many parts a text takes
--   is_marked total               == each part of a message of so many has a header
--   mark_size total               == how many octets that header takes
--   part_header reference total k == the header of part k, from 1: none of a lone one
--   part_content ucs2 total s k   == what part k holds of the content s
--   headed_octets ucs2 h s        == the octets of a short message with the header h in front of the content s
--   headed_count ucs2 h s         == the count that travels with them: septets, or the octets of UCS2
--   part_octets, part_count       == those of part k of a message of so many parts with that content
use Rattle.std.specs.Prelude.{ℕ, ◌+◌, ◌-◌, ◌/◌, Bool, not, cond, List, [], ◌++◌, leb, eqb, length}
use Rattle.words.specs.declared.Service.TheVariants.{ShortMessage}
use Rattle.words.specs.Sizes.{most_septets, most_octets}
use Rattle.lists.specs.Lists.{laid}
use Rattle.letters.specs.Sized.{content_of}
use Rattle.stream.specs.Ucs2.{unit_octets}
use Rattle.filling.specs.Filling.{fewest, part_at}
use Rattle.headed.specs.Header.{concatenation_header, septets_over}
use Rattle.parted.specs.Behind.{packed_behind}

abbrev pub most_parts : ℕ
most_parts = 255

unfoldable pub room_behind : Bool → ℕ → ℕ
room_behind ucs2 h = cond ucs2 ((most_octets ShortMessage - h) / 2) (most_septets ShortMessage - septets_over h)

unfoldable pub parts_holding : Bool → ℕ → ℕ
parts_holding ucs2 n = cond (leb n (room_behind ucs2 0)) 1 (fewest most_parts (room_behind ucs2 6) n)

abbrev pub parts_of : Bool → List ℕ → ℕ
parts_of ucs2 units = parts_holding ucs2 (length (content_of ucs2 units))

abbrev pub is_marked : ℕ → Bool
is_marked total = not (eqb total 1)

abbrev pub mark_size : ℕ → ℕ
mark_size total = cond (is_marked total) 6 0

unfoldable pub part_header : ℕ → ℕ → ℕ → List ℕ
part_header reference total k =
    cond (is_marked total) (concatenation_header (record { reference = reference; total = total; number = k })) []

unfoldable pub part_content : Bool → ℕ → List ℕ → ℕ → List ℕ
part_content ucs2 total s k = part_at (room_behind ucs2 (mark_size total)) s k

-- the header is laid over the front of the stream, whose first septets are those that it reaches into
unfoldable pub headed_octets : Bool → List ℕ → List ℕ → List ℕ
headed_octets ucs2 h s = cond ucs2 (h ++ unit_octets s) (laid h (packed_behind (septets_over (length h)) s))

unfoldable pub headed_count : Bool → List ℕ → List ℕ → ℕ
headed_count ucs2 h s = cond ucs2 (length h + length (unit_octets s)) (septets_over (length h) + length s)

unfoldable pub part_octets : Bool → ℕ → ℕ → List ℕ → ℕ → List ℕ
part_octets ucs2 reference total s k = headed_octets ucs2 (part_header reference total k) (part_content ucs2 total s k)

unfoldable pub part_count : Bool → ℕ → ℕ → List ℕ → ℕ → ℕ
part_count ucs2 reference total s k = headed_count ucs2 (part_header reference total k) (part_content ucs2 total s k)
