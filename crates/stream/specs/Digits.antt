-- A stream of bits as one number, by its digits in a base, lowest first.
-- Own rule: none. Cited by the definition of a group of eight septets, and by private functions. Assumes nothing.
--   value b s    == the number whose digits in base b are s
--   digits b n v == the first n digits of v in base b
--   low_of w s   == the low w bits of each of s
use Rattle.std.specs.Prelude.{ℕ, zero, suc, ◌+◌, ◌*◌, ◌/◌, ◌%◌, ◌^◌, List, [], ◌∷◌, map}

unfoldable pub value : ℕ → List ℕ → ℕ
value b [] = 0
value b (x ∷ xs) = value b xs * b + x

unfoldable pub digits : ℕ → ℕ → ℕ → List ℕ
digits b zero v = []
digits b (suc n) v = v % b ∷ digits b n (v / b)

abbrev pub low_of : ℕ → List ℕ → List ℕ
low_of w s = map (λ (x : ℕ). x % 2 ^ w) s
