-- Document 01, "Packing" (TS 23.038 Release 9, 6.1.2.3.1): USSD adds a CR on packing and drops one on reading.
-- Own rule: none. Cited by packing::pack and packing::unpack. Assumes nothing.
--   cr             == the septet of a carriage return, and the unit
--   septets_in m   == how many septets m octets of USSD hold
--   last s         == the last septet of s, and 0 where there is none
--   adds_cr s      == whether a CR is added to the septets s before packing
--   with_cr b s    == s with a CR after it where b is true
--   closed s       == the septets that are packed for s
--   ussd_octets s  == the octets of s
--   drops_cr m s   == whether the last of the septets s, read from m octets, is dropped
--   opened m s     == what is left of the septets s, read from m octets
--   ussd_septets o == the septets that the octets o hold
use Rattle.std.specs.Prelude.{ℕ, ◌-◌, ◌*◌, ◌/◌, ◌%◌, Bool, true, false, ◌&&◌, ◌||◌, List, [], ◌∷◌, ◌++◌, length, get_or, take, eqb, ltb}
use Rattle.stream.specs.Stream.{packed, unpacked}

abbrev pub cr : ℕ
cr = 13

-- "m octets take 8m/7 septets rounded down"
abbrev pub septets_in : ℕ → ℕ
septets_in m = 8 * m / 7

unfoldable pub last : List ℕ → ℕ
last s = get_or s (length s - 1) 0

-- "if n leaves 7 over 8", or "if n is a non-zero multiple of 8 and the last septet is CR"
unfoldable pub adds_cr : List ℕ → Bool
adds_cr s = eqb (length s % 8) 7 || (ltb 0 (length s) && eqb (length s % 8) 0 && eqb (last s) cr)

abbrev pub with_cr : Bool → List ℕ → List ℕ
with_cr true s = s ++ cr ∷ []
with_cr false s = s

unfoldable pub closed : List ℕ → List ℕ
closed s = with_cr (adds_cr s) s

unfoldable pub ussd_octets : List ℕ → List ℕ
ussd_octets s = packed (closed s)

-- "if m is a non-zero multiple of 7 and the last septet is CR"
unfoldable pub drops_cr : ℕ → List ℕ → Bool
drops_cr m s = ltb 0 m && eqb (m % 7) 0 && eqb (last s) cr

unfoldable pub opened : ℕ → List ℕ → List ℕ
opened m s = elim (drops_cr m s) [ true ↦ take (length s - 1) s | false ↦ s ]

unfoldable pub ussd_septets : List ℕ → List ℕ
ussd_septets o = opened (length o) (unpacked (septets_in (length o)) o)
