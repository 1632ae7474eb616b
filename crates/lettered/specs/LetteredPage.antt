-- Document 02, W2: one broadcast page that begins with the letters of its language. (GSM 03.38, clause 5: 0001 0000, "The first 3 characters of
-- the message are a two-character representation of the language encoded according to ISO 639, followed by a CR character. The CR character is then
-- followed by 90 characters of text"; 0001 0001, "two 7-bit default alphabet character representation of the language .. padded to the octet
-- boundary with two bits set to 0 and then followed by 40 characters of UCS2-encoded message".)
-- Own rule: as on a page without letters, UCS2 is filled up with 000D, and closing 000D units are dropped. Cited by lettering::write_lettered and
-- lettering::read_lettered, and by the definitions of the whole writer and the whole reader. Assumes nothing.
-- A page is UCS2 where ucs2 is true, else 7-bit:
--   room_septets, room_units     == how much text has room behind the letters
--   lettered_septets l s         == the septets s of a text behind the letters l and their CR
--   lettered_units us            == the 40 units of a page with the text us
--   lettered_octets ucs2 l units == the octets of a page with the letters l and the text units
--   letters_in o, closed_by_cr o == the letters that the page with the octets o begins with; whether a CR is behind them
--   wrong_letters ucs2 o         == "a letter is not a to z or the CR is missing"
--   lettered_text ucs2 o         == its text: letters and CR are taken off first, then closing CRs dropped from the rest
-- What is refused, where the lent buffer has that much room:
--   lettered_size_rules, lettered_write_rules == a text by its size: 6, 5, 7; by its letters first: 11, 6, 5, 7
--   lettered_writes, lettered_write_leaves    == what write_lettered answers, and what it leaves in the lent buffer
--   lettered_read_rules                       == octets: 4, 11, 7
--   lettered_reads, lettered_read_leaves      == what read_lettered answers, and what it leaves in the lent buffer
use Rattle.std.specs.Prelude.{ℕ, Bool, not, cond, ◌&&◌, ◌||◌, List, [], ◌∷◌, ◌++◌, ltb, eqb, length, drop, get_or, replicate, Result, Ok, Err}
use Rattle.lists.specs.Lists.{laid}
use Rattle.lists.specs.Closing.{without_closing}
use Rattle.words.specs.declared.Service.TheVariants.{Broadcast}
use Rattle.words.specs.declared.Refusal.TheVariants.{WrongLength, WrongLetters, NoRoom}
use Rattle.words.specs.Judging.{Rule, when, verdict, settle}
use Rattle.words.specs.Sizes.{most_septets}
use Rattle.fields.specs.declared.Letters.{Letters}
use Rattle.fields.specs.Letters.{are_letters}
use Rattle.letters.specs.Sized.{sized_rules}
use Rattle.letters.specs.Writing.{septets_of}
use Rattle.letters.specs.Reading.{text_of}
use Rattle.stream.specs.Stream.{packed, unpacked}
use Rattle.stream.specs.UssdPacking.{cr}
use Rattle.stream.specs.Pages.{page_octets}
use Rattle.stream.specs.Ucs2.{unit_octets, octet_units}
use Rattle.stream.specs.SeptetCalls.{septets_fit}
use Rattle.lettered.specs.declared.LetteredRead.{LetteredRead}
use Rattle.words.specs.declared.Refusal.{Refusal}
use Rattle.lettered.specs.Successes.{ok_lettered_read}

-- 93 septets less two letters and their CR; 41 units less the two octets of the letters
abbrev pub room_septets : ℕ
room_septets = 90

abbrev pub room_units : ℕ
room_units = 40

-- "two letters, a CR and up to 90 septets"
abbrev pub lettered_septets : Letters → List ℕ → List ℕ
lettered_septets l s = l.first ∷ l.second ∷ cr ∷ s

unfoldable pub lettered_units : List ℕ → List ℕ
lettered_units us = laid us (replicate room_units cr)

-- "two letters as two septets with two zero bits, then up to 40 units"
unfoldable pub lettered_octets : Bool → Letters → List ℕ → List ℕ
lettered_octets ucs2 l units =
    cond ucs2 (packed (l.first ∷ l.second ∷ []) ++ unit_octets (lettered_units units))
    (page_octets (lettered_septets l (septets_of units)))

-- 6, 5, 7
unfoldable pub lettered_size_rules : Bool → Letters → List ℕ → ℕ → List Rule
lettered_size_rules ucs2 l units room = sized_rules room_septets room_units ucs2 units (lettered_octets ucs2 l units) room

-- 11, 6, 5, 7
unfoldable pub lettered_write_rules : Bool → Letters → List ℕ → ℕ → List Rule
lettered_write_rules ucs2 l units room = when (not (are_letters l)) WrongLetters ∷ lettered_size_rules ucs2 l units room

unfoldable pub lettered_writes : Bool → Letters → List ℕ → ℕ → Result ℕ Refusal
lettered_writes ucs2 l units room =
    settle (verdict (lettered_write_rules ucs2 l units room)) Err (Ok (length (lettered_octets ucs2 l units)))

unfoldable pub lettered_write_leaves : Bool → Letters → List ℕ → List ℕ → List ℕ
lettered_write_leaves ucs2 l units out =
    settle (verdict (lettered_write_rules ucs2 l units (length out))) (λ q. out) (laid (lettered_octets ucs2 l units) out)

-- the first two septets of either coding
unfoldable pub letters_in : List ℕ → Letters
letters_in o = record { first = get_or (unpacked 2 o) 0 0; second = get_or (unpacked 2 o) 1 0 }

unfoldable pub closed_by_cr : List ℕ → Bool
closed_by_cr o = eqb (get_or (unpacked 3 o) 2 0) cr

unfoldable pub wrong_letters : Bool → List ℕ → Bool
wrong_letters ucs2 o = not (are_letters (letters_in o)) || (not ucs2 && not (closed_by_cr o))

unfoldable pub lettered_text : Bool → List ℕ → List ℕ
lettered_text ucs2 o =
    cond ucs2 (without_closing cr (octet_units (drop 2 o)))
    (text_of (without_closing cr (drop 3 (unpacked (most_septets Broadcast) o))))

-- 4, 11, 7
unfoldable pub lettered_read_rules : Bool → ℕ → List ℕ → ℕ → List Rule
lettered_read_rules ucs2 count o room =
    when (not (septets_fit Broadcast (length o) count)) WrongLength
    ∷ when (wrong_letters ucs2 o) WrongLetters
    ∷ when (ltb room (length (lettered_text ucs2 o))) NoRoom
    ∷ []

unfoldable pub lettered_reads : Bool → ℕ → List ℕ → ℕ → Result LetteredRead Refusal
lettered_reads ucs2 count o room =
    settle (verdict (lettered_read_rules ucs2 count o room)) Err (ok_lettered_read (length (lettered_text ucs2 o)) (letters_in o))

unfoldable pub lettered_read_leaves : Bool → ℕ → List ℕ → List ℕ → List ℕ
lettered_read_leaves ucs2 count o out =
    settle (verdict (lettered_read_rules ucs2 count o (length out))) (λ q. out) (laid (lettered_text ucs2 o) out)
