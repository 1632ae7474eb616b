-- Document 01, "Refusal numbers and their order": the last of all refusals, 7, by itself: what is stored in a lent buffer, where only 7 can refuse.
-- Own rule: none. Cited by to_units::store, and by the functions that store into a lent buffer. Assumes nothing.
--   given_rules xs room                        == what refuses to store xs in a buffer of that room
--   given_answers xs room, given_leaves xs out == what storing xs answers, and leaves in the buffer
use Rattle.std.specs.Prelude.{ℕ, List, [], ◌∷◌, length, ltb, Result, Ok, Err}
use Rattle.words.specs.declared.Refusal.TheVariants.{NoRoom}
use Rattle.lists.specs.Lists.{laid}
use Rattle.words.specs.Judging.{Rule, when, verdict, settle}
use Rattle.words.specs.declared.Refusal.{Refusal}

-- 7
abbrev pub given_rules : List ℕ → ℕ → List Rule
given_rules xs room = when (ltb room (length xs)) NoRoom ∷ []

unfoldable pub given_answers : List ℕ → ℕ → Result ℕ Refusal
given_answers xs room = settle (verdict (given_rules xs room)) Err (Ok (length xs))

unfoldable pub given_leaves : List ℕ → List ℕ → List ℕ
given_leaves xs out = settle (verdict (given_rules xs (length out))) (λ r. out) (laid xs out)
