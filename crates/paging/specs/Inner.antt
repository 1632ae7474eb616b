-- The content of a message as private functions hold it: no contract of a public call cites this file.
-- Own rule: none. Assumes nothing.
--   in_units c == it is units of UCS2, and else septets
--   held_in c  == its units or septets
--   IsLow c    == septets are below 128
use Rattle.std.specs.Prelude.{Bool, true, false, List, ℕ, ⊤}
use Rattle.lists.proofs.Below.{Below}
use Rattle.paging.specs.declared.Content.{Content}
use Rattle.paging.specs.declared.Content.TheVariants.{Units, Septets}

abbrev pub in_units : Content → Bool
in_units (Units u) = true
in_units (Septets s) = false

abbrev pub held_in : Content → List ℕ
held_in (Units u) = u.now
held_in (Septets s) = s.now

abbrev pub IsLow : Content → Type 0
IsLow (Units u) = ⊤
IsLow (Septets s) = Below 128 s.now
