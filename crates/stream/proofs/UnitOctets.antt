-- UCS2 units and their octets, two a unit: lengths, the octets at a place, and the way there and back.
-- Assumes nothing.
use mathlib.Core.Path.{◌≡◌, refl, sym, ap, ap₂, ◌∙◌}
use mathlib.Core.List.{List, [], ◌∷◌}
use Prim.Native.Nat.{ℕ, zero, suc, ◌+◌, ◌*◌, ◌/◌, ◌%◌, ◌<◌}
use native.Mathlib.Nat.{not-suc-le-zero, le_of_suc-le-suc}
use native.Mathlib.Numerals.{add-one}
use native.Mathlib.Omega.{arith}
use lib.ListN.{length, get_or, drop}
use Rattle.lists.proofs.Below.{Below}
use Rattle.stream.specs.Ucs2.{unit_octets, octet_units}

pub unit-octets-length : (us : List ℕ) → length (unit_octets us) ≡ 2 * length us
unfolding unit_octets
unit-octets-length [] = refl
unit-octets-length (u ∷ us) = omega (arith, unit-octets-length us)

pub octet-units-length : (o : List ℕ) → length (octet_units o) ≡ length o / 2
unfolding octet_units
octet-units-length [] = refl
octet-units-length (a ∷ []) = refl
octet-units-length (a ∷ b ∷ o) = omega (arith, octet-units-length o)

-- the octets of the units from i on
pub unit-octets-next : (us : List ℕ) (i : ℕ) → i < length us
    → unit_octets (drop i us) ≡ get_or us i 0 / 256 ∷ get_or us i 0 % 256 ∷ unit_octets (drop (i + 1) us)
unfolding unit_octets
unit-octets-next [] i h = absurd (not-suc-le-zero h)
unit-octets-next (u ∷ us) zero h = refl
unit-octets-next (u ∷ us) (suc i) h =
    unit-octets-next us i (le_of_suc-le-suc h)
    ∙ ap (λ (k : ℕ). get_or us i 0 / 256 ∷ get_or us i 0 % 256 ∷ unit_octets (drop k us)) (add-one i)
    ∙ ap (λ (k : ℕ). get_or us i 0 / 256 ∷ get_or us i 0 % 256 ∷ unit_octets (drop k (u ∷ us))) (sym (add-one (suc i)))

-- the unit at i
pub octet-units-at : (o : List ℕ) (i : ℕ) → 2 * i + 1 < length o → get_or (octet_units o) i 0 ≡ 256 * get_or o (2 * i) 0 + get_or o (2 * i + 1) 0
unfolding octet_units
octet-units-at [] i h = absurd (not-suc-le-zero h)
octet-units-at (a ∷ []) i h = absurd (omega arith)
octet-units-at (a ∷ b ∷ o) zero h = refl
octet-units-at (a ∷ b ∷ o) (suc i) h =
    let high : suc (suc (2 * i)) ≡ 2 * suc i = omega arith in
    let low : suc (suc (2 * i + 1)) ≡ 2 * suc i + 1 = omega arith in
    octet-units-at o i (omega arith)
    ∙ ap₂ (λ (h l : ℕ). 256 * get_or (a ∷ b ∷ o) h 0 + get_or (a ∷ b ∷ o) l 0) high low

-- reading the octets of units gives the units
pub octet-units-unit-octets : (us : List ℕ) → octet_units (unit_octets us) ≡ us
unfolding unit_octets octet_units
octet-units-unit-octets [] = refl
octet-units-unit-octets (u ∷ us) =
    let whole : 256 * (u / 256) + u % 256 ≡ u = omega arith in
    ap₂ (λ (x : ℕ) (xs : List ℕ). x ∷ xs) whole (octet-units-unit-octets us)

pub unit-octets-below : (us : List ℕ) → Below 65536 us → Below 256 (unit_octets us)
unfolding unit_octets
unit-octets-below [] h k = omega arith
unit-octets-below (u ∷ us) h zero = omega (arith, h 0)
unit-octets-below (u ∷ us) h (suc zero) = omega arith
unit-octets-below (u ∷ us) h (suc (suc k)) = unit-octets-below us (λ i. h (suc i)) k

-- and the octets of the units of an even number of octets are the octets
pub unit-octets-octet-units : (o : List ℕ) → Below 256 o → length o % 2 ≡ 0 → unit_octets (octet_units o) ≡ o
unfolding unit_octets octet_units
unit-octets-octet-units [] h e = refl
unit-octets-octet-units (a ∷ []) h e = absurd (omega arith)
unit-octets-octet-units (a ∷ b ∷ o) h e =
    let small : b < 256 = h 1 in
    let high : (256 * a + b) / 256 ≡ a = omega arith in
    let low : (256 * a + b) % 256 ≡ b = omega arith in
    ap₂ (λ (x : ℕ) (xs : List ℕ). x ∷ xs) high (ap₂ (λ (x : ℕ) (xs : List ℕ). x ∷ xs) low (unit-octets-octet-units o (λ k. h (suc (suc k))) (omega arith)))
