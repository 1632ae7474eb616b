-- Document 01, "Refusal numbers and their order": "A refusal reports 0 written, count 0 and data coding octet 0, and any reading in its answer
-- holds the unmentioned values. It stores nothing."
-- Own rule: none. Cited by the theorems of proofs/Refusing.antt alone. Assumes nothing.
--   among numbers n                       == n is one of the numbers
--   Judged number tell numbers a out left == the answer a is a success, whose number is 0; or it is a refusal with one of these numbers, as
--                                            `tell` puts it in numbers, and the lent buffer out is left as it came
use Rattle.std.specs.Prelude.{◌≡◌, Bool, true, false, List, [], ◌∷◌, ◌⊎◌, ℕ, eqb}
use Rattle.words.specs.declared.Refusal.{Refusal}
use Rattle.words.specs.Refusals.{number_of}

abbrev pub among : List ℕ → ℕ → Bool
among [] n = false
among (m ∷ numbers) n = elim (eqb n m) [ true ↦ true | false ↦ among numbers n ]

abbrev pub Judged : {A : Type 0} → (A → ℕ) → (Refusal → A) → List ℕ → A → List ℕ → List ℕ → Type 0
Judged number tell numbers a out left = (number a ≡ 0) ⊎ ((q : Refusal) × ((a ≡ tell q) × ((among numbers (number_of q) ≡ true) × (left ≡ out))))
