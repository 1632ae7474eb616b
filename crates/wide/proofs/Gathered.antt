-- The bits that numbers have together: each of them is at most those.
-- Assumes nothing.
use Prim.Native.Nat.{ℕ, suc, zero, ◌≤◌, ◌<◌}
use mathlib.Core.List.{List, [], ◌∷◌}
use native.Mathlib.Omega.{arith}
use lib.Bits.{bit_or, or_add_and, and_le_l, and_le_r}
use lib.ListN.{length, get_or}
use Rattle.std.specs.List.{fold}

-- a number is at most the bits of itself and others together
bits-least : (a : ℕ) (s : List ℕ) → a ≤ fold bit_or a s
bits-least a [] = omega arith
bits-least a (x ∷ s) = omega (arith, or_add_and a x, and_le_r a x, bits-least (bit_or a x) s)

pub bits-most : (a : ℕ) (s : List ℕ) (k : ℕ) → k < length s → get_or s k 0 ≤ fold bit_or a s
bits-most a [] k h = omega arith
bits-most a (x ∷ s) zero h = omega (arith, or_add_and a x, and_le_l a x, bits-least (bit_or a x) s)
bits-most a (x ∷ s) (suc k) h = bits-most (bit_or a x) s k (omega arith)
