-- The letters of a UCS2 page are 14 bits, so bits 7 and 6 of octet 1 stand in no septet of theirs: without them the 14 bits are the same.
-- Assumes nothing.
--   unpadded o   == the octets o with those two bits at 0
--   low_same     the 14 bits of the letters are those of o
use mathlib.Core.Path.{◌≡◌, sym, ap, ◌∙◌}
use mathlib.Core.List.{List}
use Prim.Native.Nat.{ℕ, ◌+◌, ◌-◌, ◌*◌, ◌/◌, ◌%◌, ◌^◌, ◌<◌}
use native.Mathlib.Decide.{ℕ_discrete, dec_le}
use native.Mathlib.Omega.{arith}
use lib.ListN.{length, get_or, set}
use lib.Seq.{get_or-set_same, get_or-set_other, set_out}
use lib.Pow.{field, mod-mod-pow}
use Rattle.lists.specs.Bits.{bit_of}

-- bit i of a number is that of its six lowest bits
low_bit : (x i : ℕ) → i < 6 → bit_of (x % 64) i ≡ bit_of x i
unfolding bit_of
low_bit x i h =
    let six : 6 ≡ (6 - i) + i = omega arith in
    let more : 6 - i ≡ (5 - i) + 1 = omega arith in
    ap (λ (k : ℕ). x % 2 ^ k / 2 ^ i % 2) six
    ∙ ap (λ (k : ℕ). k % 2) (field x (6 - i) i)
    ∙ ap (λ (k : ℕ). x / 2 ^ i % 2 ^ k % 2) more
    ∙ mod-mod-pow (x / 2 ^ i) (5 - i) 1

abbrev pub unpadded : List ℕ → List ℕ
unpadded o = set o 1 (get_or o 1 0 % 64)

pub low_same : (o : List ℕ) (j i : ℕ) → 8 * j + i < 14 → bit_of (get_or (unpadded o) j 0) i ≡ bit_of (get_or o j 0) i
low_same o j i h = elim (ℕ_discrete j 1) [ yes e ↦ at_1 e | no n ↦ ap (λ (x : ℕ). bit_of x i) (get_or-set_other o 1 j (get_or o 1 0 % 64) 0 n) ]
  where
    at_1 : j ≡ 1 → bit_of (get_or (unpadded o) j 0) i ≡ bit_of (get_or o j 0) i
    at_1 e =
        ap (λ (k : ℕ). bit_of (get_or (unpadded o) k 0) i) e
        ∙ elim (dec_le (length o) 1) [
          | yes short ↦ ap (λ (p : List ℕ). bit_of (get_or p 1 0) i) (set_out o 1 (get_or o 1 0 % 64) short)
          | no long ↦ ap (λ (x : ℕ). bit_of x i) (get_or-set_same o 1 (get_or o 1 0 % 64) 0 (omega arith)) ∙ low_bit (get_or o 1 0) i (omega arith)
        ]
        ∙ ap (λ (k : ℕ). bit_of (get_or o k 0) i) (sym e)
