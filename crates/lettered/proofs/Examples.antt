-- Document 02, W2, by example: what the definitions give, computed as one statement over a list; the orders of refusal by inputs to which two apply.
-- The octets were computed apart from them. Assumes nothing.
use mathlib.Core.Bool.{Bool, true, false}
use mathlib.Core.List.{List, [], ◌∷◌, ◌++◌}
use Prim.Native.Nat.{ℕ, zero, suc}
use lib.Dec.{T, eqb}
use lib.ListN.{length, replicate}
use Rattle.lists.specs.Bits.{bit_of, gather}
use Rattle.lists.specs.Lists.{first_place, laid}
use Rattle.lists.specs.Closing.{before_kept, without_closing}
use Rattle.lists.proofs.Tests.{both}
use Rattle.words.specs.Refusals.{number_of, position_of}
use Rattle.words.specs.Judging.{verdict}
use Rattle.fields.specs.declared.Letters.{Letters}
use Rattle.fields.specs.Letters.{are_letters}
use Rattle.letters.specs.Tables.{main_table, extension, among, beside}
use Rattle.letters.specs.Writing.{septets_in, listed_in}
use Rattle.letters.specs.Reading.{unit_in, text_in, after_escape_in, escaped_in}
use Rattle.stream.specs.Stream.{stream_bit, cut, octets_for, packed, unpacked}
use Rattle.stream.specs.Pages.{page, page_octets}
use Rattle.stream.specs.Ucs2.{unit_octets, octet_units}
use Rattle.lettered.specs.declared.LetteredRead.{LetteredRead}
use Rattle.lettered.specs.LetteredPage.{lettered_units, lettered_octets, lettered_size_rules, lettered_write_rules, lettered_writes, lettered_write_leaves, letters_in, closed_by_cr, wrong_letters, lettered_text, lettered_read_rules, lettered_reads, lettered_read_leaves}
use Rattle.std.specs.Prelude.{Result, Ok, Err}
use Rattle.words.specs.declared.Refusal.{Refusal}

abbrev pub same : List ℕ → List ℕ → Bool
same [] [] = true
same [] (y ∷ ys) = false
same (x ∷ xs) [] = false
same (x ∷ xs) (y ∷ ys) = both (eqb x y) (same xs ys)

unfoldable pub times : ℕ → List ℕ → List ℕ
times zero l = []
times (suc n) l = l ++ times n l

-- of UCS2 where the first is true, else of 7-bit text: letters and a text are written as these octets, or refused in so much room with this number and
-- position; octets are read as letters and a text, or refused with this count in so much room with this number
pub data Case : Type 0 where
  writes : Bool → Letters → List ℕ → List ℕ → Case
  unwritten : Bool → Letters → List ℕ → ℕ → ℕ → ℕ → Case
  reads : Bool → List ℕ → Letters → List ℕ → Case
  unread : Bool → ℕ → List ℕ → ℕ → ℕ → Case

-- a lent buffer with room for every case
abbrev lent : List ℕ
lent = replicate 93 0xff

wrote : Result ℕ Refusal → List ℕ → List ℕ → Bool
wrote (Ok n) left octets = both (eqb n (length octets)) (same left (laid octets lent))
wrote (Err q) left octets = false

refused_as : Result ℕ Refusal → ℕ → ℕ → Bool
refused_as (Ok n) number position = false
refused_as (Err q) number position = both (eqb (number_of q) number) (eqb (position_of q) position)

was : Result LetteredRead Refusal → List ℕ → Letters → List ℕ → Bool
was (Ok got) left l text = both (both (eqb got.letters.first l.first) (eqb got.letters.second l.second)) (both (eqb got.units (length text)) (same left (laid text lent)))
was (Err q) left l text = false

was_refused : Result LetteredRead Refusal → ℕ → Bool
was_refused (Ok got) number = false
was_refused (Err q) number = eqb (number_of q) number

pub holds : Case → Bool
holds (writes ucs2 l text octets) = wrote (lettered_writes ucs2 l text (length lent)) (lettered_write_leaves ucs2 l text lent) octets
holds (unwritten ucs2 l text room number position) =
    both (refused_as (lettered_writes ucs2 l text room) number position) (same (lettered_write_leaves ucs2 l text (replicate room 0xff)) (replicate room 0xff))
holds (reads ucs2 octets l text) = was (lettered_reads ucs2 0 octets (length lent)) (lettered_read_leaves ucs2 0 octets lent) l text
holds (unread ucs2 count octets room number) =
    both (was_refused (lettered_reads ucs2 count octets room) number) (same (lettered_read_leaves ucs2 count octets (replicate room 0xff)) (replicate room 0xff))

pub all_hold : List Case → Bool
all_hold [] = true
all_hold (c ∷ cs) = both (holds c) (all_hold cs)

-- letters by their codes: a is 61, e 65, n 6E, z 7A
abbrev letters : ℕ → ℕ → Letters
letters a b = record { first = a; second = b }

abbrev en : Letters
en = letters 0x65 0x6e

-- these octets, and the rest of a 7-bit page whose last 85 septets are CR
filled_up : List ℕ → List ℕ
filled_up front = front ++ times 10 (0x8d ∷ 0x46 ∷ 0xa3 ∷ 0xd1 ∷ 0x68 ∷ 0x34 ∷ 0x1a ∷ []) ++ (0x8d ∷ 0x46 ∷ 0xa3 ∷ 0xd1 ∷ 0x00 ∷ [])

-- these octets, and n units 000D
units_up : List ℕ → ℕ → List ℕ
units_up front n = front ++ times n (0x00 ∷ 0x0d ∷ [])

-- en, CR, 89 septets a, and one more, which stands in these two octets behind the end of the last a
many_a : ℕ → ℕ → List ℕ
many_a x y = 0x65 ∷ 0x77 ∷ 0x23 ∷ 0x1c ∷ 0x0e ∷ 0x87 ∷ 0xc3 ∷ times 10 (0xe1 ∷ 0x70 ∷ 0x38 ∷ 0x1c ∷ 0x0e ∷ 0x87 ∷ 0xc3 ∷ []) ++ (0xe1 ∷ 0x70 ∷ 0x38 ∷ x ∷ y ∷ [])

-- en, CR and 45 times 1B 65
euros : List ℕ
euros = 0x65 ∷ 0x77 ∷ 0x63 ∷ 0x53 ∷ 0xde ∷ 0x94 ∷ 0x37 ∷ times 10 (0xe5 ∷ 0x4d ∷ 0x79 ∷ 0x53 ∷ 0xde ∷ 0x94 ∷ 0x37 ∷ []) ++ (0xe5 ∷ 0x4d ∷ 0x79 ∷ 0x53 ∷ 0x06 ∷ [])

-- en with no text: septets 65, 6E, 0D and 90 CRs; octets 65 and 37, and 40 units 000D
empty : List ℕ
empty = filled_up (0x65 ∷ 0x77 ∷ 0xa3 ∷ 0xd1 ∷ 0x68 ∷ 0x34 ∷ 0x1a ∷ [])

empty_units : List ℕ
empty_units = units_up (0x65 ∷ 0x37 ∷ []) 40

-- en and the text A
one : List ℕ
one = filled_up (0x65 ∷ 0x77 ∷ 0x23 ∷ 0xd8 ∷ 0x68 ∷ 0x34 ∷ 0x1a ∷ [])

-- a unit that the 7-bit alphabet lacks
chinese : List ℕ
chinese = 0x4e2d ∷ []

pub cases : List Case
cases =
    writes false en [] empty
    ∷ reads false empty en []
    ∷ writes true en [] empty_units
    ∷ reads true empty_units en []
    -- the first and the last letter: an odd code has its lowest bit in the octet before
    ∷ writes false (letters 0x61 0x61) [] (filled_up (0xe1 ∷ 0x70 ∷ 0xa3 ∷ 0xd1 ∷ 0x68 ∷ 0x34 ∷ 0x1a ∷ []))
    ∷ writes true (letters 0x61 0x7a) [] (units_up (0x61 ∷ 0x3d ∷ []) 40)
    ∷ reads true (units_up (0xfa ∷ 0x30 ∷ []) 40) (letters 0x7a 0x61) []
    -- a text; high octet first
    ∷ writes false en (0x0041 ∷ []) one
    ∷ writes true en (0x4e2d ∷ []) (units_up (0x65 ∷ 0x37 ∷ 0x4e ∷ 0x2d ∷ []) 39)
    ∷ reads true (units_up (0x65 ∷ 0x37 ∷ 0x4e ∷ 0x2d ∷ []) 39) en (0x4e2d ∷ [])
    -- closing CRs are as filling, and a CR that begins a text, right behind that of the letters, stays where another unit follows
    ∷ writes false en (0x0041 ∷ 0x000d ∷ 0x000d ∷ []) one
    ∷ reads false one en (0x0041 ∷ [])
    ∷ writes false en (0x000d ∷ 0x0041 ∷ []) (filled_up (0x65 ∷ 0x77 ∷ 0xa3 ∷ 0x11 ∷ 0x6c ∷ 0x34 ∷ 0x1a ∷ []))
    ∷ reads false (filled_up (0x65 ∷ 0x77 ∷ 0xa3 ∷ 0x11 ∷ 0x6c ∷ 0x34 ∷ 0x1a ∷ [])) en (0x000d ∷ 0x0041 ∷ [])
    ∷ writes false en (replicate 90 0x000d) empty
    ∷ reads true (units_up (0x65 ∷ 0x37 ∷ 0x00 ∷ 0x0d ∷ 0x00 ∷ 0x41 ∷ []) 38) en (0x000d ∷ 0x0041 ∷ [])
    -- 90 septets, also of 45 euros; 40 units; one more is refused
    ∷ writes false en (replicate 90 0x0061) (many_a 0x1c 0x06)
    ∷ reads false (many_a 0x1c 0x06) en (replicate 90 0x0061)
    ∷ unwritten false en (replicate 91 0x0061) 93 5 0
    ∷ unwritten false en (0x0061 ∷ replicate 45 0x20ac) 93 5 0
    ∷ writes false en (replicate 45 0x20ac) euros
    ∷ reads false euros en (replicate 45 0x20ac)
    ∷ writes true en (replicate 40 0x4e2d) (0x65 ∷ 0x37 ∷ times 40 (0x4e ∷ 0x2d ∷ []))
    ∷ unwritten true en (replicate 41 0x4e2d) 93 5 0
    -- an escape that ends the page is a space
    ∷ reads false (many_a 0xbc 0x01) en (replicate 89 0x0061 ++ (0x0020 ∷ []))
    -- the two spare bits behind the letters are not looked at
    ∷ reads true (units_up (0x65 ∷ 0xf7 ∷ []) 40) en []
    -- no letter: a capital, the codes before a and behind z, and none; on reading too
    ∷ unwritten false (letters 0x45 0x6e) [] 93 11 0
    ∷ unwritten false (letters 0x65 0x60) [] 93 11 0
    ∷ unwritten true (letters 0x7b 0x6e) [] 93 11 0
    ∷ unwritten true (letters 0x00 0x00) [] 93 11 0
    ∷ unread false 0 (filled_up (0x45 ∷ 0x77 ∷ 0xa3 ∷ 0xd1 ∷ 0x68 ∷ 0x34 ∷ 0x1a ∷ [])) 93 11
    ∷ unread false 0 (filled_up (0xe5 ∷ 0x7d ∷ 0xa3 ∷ 0xd1 ∷ 0x68 ∷ 0x34 ∷ 0x1a ∷ [])) 93 11
    ∷ unread true 0 (units_up (0x60 ∷ 0x37 ∷ []) 40) 93 11
    -- an A where the CR is to be
    ∷ unread false 0 (filled_up (0x65 ∷ 0x77 ∷ 0xb0 ∷ 0xd1 ∷ 0x68 ∷ 0x34 ∷ 0x1a ∷ [])) 93 11
    -- 11 before 6, 6 before 5, at its place in the text, 5 before 7, and 7
    ∷ unwritten false (letters 0x45 0x6e) chinese 93 11 0
    ∷ unwritten false en (replicate 91 0x0061 ++ chinese) 93 6 91
    ∷ unwritten false en (replicate 91 0x0061) 81 5 0
    ∷ unwritten false en [] 81 7 0
    ∷ unwritten true en [] 81 7 0
    -- 4 before 11, of one octet too few or too many and of a count; 11 before 7, and 7
    ∷ unread false 0 (replicate 81 0x00) 93 4
    ∷ unread true 0 (replicate 83 0x00) 93 4
    ∷ unread false 1 empty 93 4
    ∷ unread false 0 (replicate 82 0x00) 0 11
    ∷ unread false 0 one 0 7
    ∷ unread true 0 (units_up (0x65 ∷ 0x37 ∷ 0x4e ∷ 0x2d ∷ []) 39) 0 7
    ∷ []

pub cases-hold : T (all_hold cases)
unfolding all_hold holds cases times filled_up units_up many_a euros empty empty_units one chinese wrote refused_as was was_refused lettered_writes lettered_write_leaves lettered_write_rules lettered_size_rules lettered_octets lettered_units lettered_reads lettered_read_leaves lettered_read_rules lettered_text letters_in closed_by_cr wrong_letters are_letters verdict first_place laid before_kept without_closing septets_in listed_in among beside main_table extension unit_in after_escape_in text_in escaped_in packed unpacked stream_bit cut gather bit_of octets_for page_octets page unit_octets octet_units
cases-hold = tt
