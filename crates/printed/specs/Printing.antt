-- How a program puts words, octets and units into a lent buffer: at a place, as far as there is room.
-- Own rule: all of it; no standard says how a program prints. Cited by every call of this crate. Assumes nothing.
--   placed out at xs == out with xs laid over it from the place at on, as far as it reaches
--   end_of room at n == where n octets end that are put at a place of a buffer of so much room
--   written out at   == what is written of a buffer up to a place
--   octet_digits s   == the octets s, two hexadecimal digits each
--   unit_digits s    == the units s, four each: those of the higher octet, then those of the lower
--   distance z       == how far a number is from zero
use Rattle.std.specs.Prelude.{ℕ, zero, suc, ◌+◌, ◌-◌, ◌/◌, ◌%◌, min, List, [], ◌∷◌, ℤ, nat_abs, take}
use Rattle.typed.specs.Spelling.{digit_for}

unfoldable pub placed : List ℕ → ℕ → List ℕ → List ℕ
placed [] at xs = []
placed (y ∷ out) zero [] = y ∷ out
placed (y ∷ out) zero (x ∷ xs) = x ∷ placed out zero xs
placed (y ∷ out) (suc at) xs = y ∷ placed out at xs

unfoldable pub end_of : ℕ → ℕ → ℕ → ℕ
end_of room at n = at + min n (room - at)

abbrev pub written : List ℕ → ℕ → List ℕ
written out at = take at out

unfoldable pub octet_digits : List ℕ → List ℕ
octet_digits [] = []
octet_digits (v ∷ s) = digit_for (v / 16) ∷ digit_for v ∷ octet_digits s

unfoldable pub unit_octets : List ℕ → List ℕ
unit_octets [] = []
unit_octets (v ∷ s) = v / 256 % 256 ∷ v % 256 ∷ unit_octets s

unfoldable pub unit_digits : List ℕ → List ℕ
unit_digits s = octet_digits (unit_octets s)

abbrev pub distance : ℤ → ℕ
distance z = nat_abs z
