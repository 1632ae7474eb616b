-- What a contract of two clauses, `answer` and `buffer`, owes, from the two as a pair.
-- Assumes nothing.
--   answered p  the two
--   passed e p  the same where the answer is another value, as the refusal that `?` hands on
use mathlib.Core.Path.{◌≡◌, ◌∙◌}

pub answered : {A B : Type 0} → A × B → record { answer : A; buffer : B }
answered p = record { answer = p.0; buffer = p.1 }

pub passed : {R B : Type 0} {x y z : R} → x ≡ y → (y ≡ z) × B → record { answer : x ≡ z; buffer : B }
passed e p = record { answer = e ∙ p.0; buffer = p.1 }
