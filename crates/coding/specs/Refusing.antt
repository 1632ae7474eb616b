-- Document 01, "Refusal numbers and their order": where a refusal is given. The theorems read-refuses, write-refuses and holds-refuses say that
-- each call of this crate refuses exactly so.
-- Own rule: none. Assumes nothing.
--   GivenBy rules q == the first rule of the list whose test holds gives the refusal q
use Rattle.std.specs.Prelude.{◌≡◌, true, false, List, [], ◌∷◌, ◌⊎◌}
use Rattle.words.specs.declared.Refusal.{Refusal}
use Rattle.words.specs.Judging.{Rule, when}

abbrev pub GivenBy : List Rule → Refusal → Type 0
GivenBy [] q = ⊥
GivenBy (when t r ∷ rules) q = ((t ≡ true) × (q ≡ r)) ⊎ ((t ≡ false) × GivenBy rules q)
