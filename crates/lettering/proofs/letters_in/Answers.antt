-- The masks and the shifts take the bits of the first two septets. Assumes nothing.
use Prim.Native.Nat.{ℕ, ◌+◌, ◌*◌, ◌/◌, ◌%◌, ◌^◌, ◌<◌}
use mathlib.Core.Path.{◌≡◌, sym, ap, ap₂, ◌∙◌}
use mathlib.Core.List.{List}
use native.Mathlib.Omega.{arith}
use lib.Bits.{bit_and, bit_or, and_mask, or_shifted_r}
use lib.ListN.{get_or}
use Rattle.lists.proofs.Below.{Below}
use Rattle.fields.specs.declared.Letters.{Letters}
use Rattle.lettered.proofs.Bits.{letters-unpacked}
use Rattle.lettering.proofs.letters_in.Goals as goal

pub returns-then-octets-lt2 : goal.returns-then-octets-lt2
returns-then-octets-lt2 c = λ two. absurd (omega (arith, c.if-octets-lt2.true))

-- the highest bit of an octet below the six lowest of the next
joined : (x y : ℕ) → x < 256 → bit_or (x / 2 ^ 7) (bit_and y 63 * 2 ^ 1 % 2 ^ 8) ≡ x / 128 + 2 * (y % 64)
joined x y h =
    let fits : y % 64 * 2 ^ 1 % 2 ^ 8 ≡ y % 64 * 2 ^ 1 = omega arith in
    let one : x / 128 < 2 = omega arith in
    ap (λ (m : ℕ). bit_or (x / 128) (m * 2 ^ 1 % 2 ^ 8)) (and_mask y 6)
    ∙ ap (bit_or (x / 128)) fits
    ∙ or_shifted_r (y % 64) 1 (x / 128) one
    ∙ omega arith

abbrev made : ℕ → ℕ → Letters
made x y = record { first = x; second = y }

pub returns : goal.returns
returns c = λ two.
    let o : List ℕ = c.args.octets.now in
    let low : Below 256 o = λ k. (c.type_inv.octets k).fits in
    ap₂ made (and_mask (get_or o 0 0) 7) (joined (get_or o 0 0) (get_or o 1 0) (low 0)) ∙ sym (letters-unpacked o low)
