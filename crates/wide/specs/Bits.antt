-- The bits that septets have together: one test of them judges all septets (document 01, refusal 9).
-- Own rule: none. Cited by all_bits. Assumes nothing.
use Rattle.std.specs.Prelude.{ℕ, List, fold, bit_or}

abbrev pub any_bits : List ℕ → ℕ
any_bits s = fold bit_or 0 s
