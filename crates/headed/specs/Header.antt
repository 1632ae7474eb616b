-- Document 02, W5 (TS 23.040, 9.2.3.24): the user data header. Its length octet says how many octets of elements follow; an element is an identifier, the
-- length of its data, and the data. "the 8-bit concatenation element: reference, total, number"; "Unknown elements are passed over by their length; of a
-- repeated one the last counts." "Refusals: 12 .. for a header longer than the octets .. or an element running past it or of wrong length".
-- Own rule: every occurrence of a known element must have its length, though only the last counts. No octets hold no header.
-- Cited by read_header, concatenation_header and septets_taken. Assumes nothing.
--   Element                      == an identifier, and the octets of its data
--   element_octets e             == the octets of an element
--   elements_octets es           == those of elements, one after the other
--   header_octets es             == the header with these elements: the length octet in front of them
--   Elements                     == elements that some octets are, or broken where one runs past their end
--   elements_up_to m o           == the elements that the octets o are, if there are no more than m
--   elements_of o                == the elements that they are: each takes an octet at least
--   concatenation                == the identifier of the concatenation element, whose data are three octets
--   numbers_of e                 == what such an element says
--   last_numbers found es        == what the last of the elements says that is one, and what was found before where none is
--   wrong_length es              == one of the elements is a concatenation element of another length
--   header_size o, header_body o == how many octets the header in front of o takes, by its length octet, and the octets behind that one
--   right_header o               == a header stands in front of o
--   header_numbers o             == the numbers that it gives
--   header_reads o               == what read_header answers
--   concatenation_header n       == the header that gives these numbers and nothing else
--   septets_over h               == how many septets a header of h octets takes: those that it reaches into
use Rattle.std.specs.Prelude.{ℕ, zero, suc, ◌+◌, ◌*◌, ◌/◌, Bool, true, false, not, cond, ◌&&◌, ◌||◌, List, [], ◌∷◌, ◌++◌, ltb, leb, eqb, length, get_or, take, drop, Result, Option, Err, Some, None}
use Rattle.words.specs.declared.Refusal.TheVariants.{WrongHeader}
use Rattle.words.specs.Judging.{Rule, when, verdict, settle}
use Rattle.headed.specs.declared.Numbers.{Numbers}
use Rattle.headed.specs.declared.HeaderRead.{HeaderRead}
use Rattle.words.specs.declared.Refusal.{Refusal}
use Rattle.headed.specs.Successes.{ok_header_read}

pub record Element : Type 0 where
  pub identifier : ℕ
  pub octets : List ℕ

abbrev pub element_octets : Element → List ℕ
element_octets e = e.identifier ∷ length e.octets ∷ e.octets

unfoldable pub elements_octets : List Element → List ℕ
elements_octets [] = []
elements_octets (e ∷ es) = element_octets e ++ elements_octets es

unfoldable pub header_octets : List Element → List ℕ
header_octets es = length (elements_octets es) ∷ elements_octets es

pub data Elements : Type 0 where
  broken : Elements
  whole : List Element → Elements

abbrev pub before : Element → Elements → Elements
before e broken = broken
before e (whole es) = whole (e ∷ es)

unfoldable pub elements_up_to : ℕ → List ℕ → Elements
elements_up_to zero [] = whole []
elements_up_to zero (i ∷ o) = broken
elements_up_to (suc m) [] = whole []
elements_up_to (suc m) (i ∷ []) = broken
elements_up_to (suc m) (i ∷ n ∷ o) =
    elim (ltb (length o) n) [
      | true ↦ broken
      | false ↦ before (record { identifier = i; octets = take n o }) (elements_up_to m (drop n o))
    ]

unfoldable pub elements_of : List ℕ → Elements
elements_of o = elements_up_to (length o) o

abbrev pub concatenation : ℕ
concatenation = 0x00

abbrev pub numbers_of : Element → Numbers
numbers_of e = record { reference = get_or e.octets 0 0; total = get_or e.octets 1 0; number = get_or e.octets 2 0 }

unfoldable pub last_numbers : Option Numbers → List Element → Option Numbers
last_numbers found [] = found
last_numbers found (e ∷ es) = last_numbers (cond (eqb e.identifier concatenation) (Some (numbers_of e)) found) es

unfoldable pub wrong_length : List Element → Bool
wrong_length [] = false
wrong_length (e ∷ es) = (eqb e.identifier concatenation && not (eqb (length e.octets) 3)) || wrong_length es

abbrev pub header_size : List ℕ → ℕ
header_size o = suc (get_or o 0 0)

unfoldable pub header_body : List ℕ → List ℕ
header_body o = take (get_or o 0 0) (drop 1 o)

abbrev pub right_elements : Elements → Bool
right_elements broken = false
right_elements (whole es) = not (wrong_length es)

unfoldable pub right_header : List ℕ → Bool
right_header o = leb (header_size o) (length o) && right_elements (elements_of (header_body o))

abbrev pub numbers_in : Elements → Option Numbers
numbers_in broken = None
numbers_in (whole es) = last_numbers None es

unfoldable pub header_numbers : List ℕ → Option Numbers
header_numbers o = numbers_in (elements_of (header_body o))

-- 12
unfoldable pub header_rules : List ℕ → List Rule
header_rules o = when (not (right_header o)) WrongHeader ∷ []

unfoldable pub header_reads : List ℕ → Result HeaderRead Refusal
header_reads o = settle (verdict (header_rules o)) Err (ok_header_read (header_size o) (header_numbers o))

unfoldable pub concatenation_header : Numbers → List ℕ
concatenation_header n = header_octets (record { identifier = concatenation; octets = n.reference ∷ n.total ∷ n.number ∷ [] } ∷ [])

-- 8h/7, rounded up
unfoldable pub septets_over : ℕ → ℕ
septets_over h = (8 * h + 6) / 7
