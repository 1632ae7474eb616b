-- Document 02, W4: "For any keys whose taking back matches the text of the accepted keys, the shown number equals the service's size less the septets of
-- that text counted afresh." The words in which that is stated (proofs/Theorems.antt).
-- Own rule: none; a take-back that is refused need not match. Cited by theorems alone, and by no contract. Assumes nothing.
--   Called m k a n        == what a call of the key k says: on the record m it answered a and left n. The contract of each call of meter is this (meter/proofs/Theorems.antt)
--   Follows t k a u       == u is the text of the accepted keys once the key k was answered a, where it was t before: a take-back that goes names its last unit
--   Step                  == a key, what it was answered, and the record and the text after it
--   Types m t steps       == from the record m and the text t on, a call for each key, one after the other
--   last_meter, last_text == the record and the text at the end
use Rattle.std.specs.Prelude.{◌≡◌, List, [], ◌∷◌, ◌++◌, ℕ, Result, Ok, Err}
use Rattle.metered.specs.declared.Meter.{Meter}
use Rattle.metered.specs.Metered.{Key, add, back, clear, keyed}
use Rattle.words.specs.declared.Refusal.{Refusal}

abbrev pub Called : Meter → Key → Result (Unit {0}) Refusal → Meter → Type 0
Called m k a n = (a ≡ (keyed m k).answer) × (n ≡ (keyed m k).meter)

abbrev pub Follows : List ℕ → Key → Result (Unit {0}) Refusal → List ℕ → Type 0
Follows t k (Err r) u = u ≡ t
Follows t (add unit) (Ok tt) u = u ≡ t ++ (unit ∷ [])
Follows t (back unit) (Ok tt) u = t ≡ u ++ (unit ∷ [])
Follows t clear (Ok tt) u = u ≡ []

pub record Step : Type 0 where
  pub key : Key
  pub answer : Result (Unit {0}) Refusal
  pub meter : Meter
  pub text : List ℕ

unfoldable pub Types : Meter → List ℕ → List Step → Type 0
Types m t [] = Unit {0}
Types m t (x ∷ steps) =
    Called m x.key x.answer x.meter × (Follows t x.key x.answer x.text × Types x.meter x.text steps)

unfoldable pub last_meter : Meter → List Step → Meter
last_meter m [] = m
last_meter m (x ∷ steps) = last_meter x.meter steps

unfoldable pub last_text : List ℕ → List Step → List ℕ
last_text t [] = t
last_text t (x ∷ steps) = last_text x.text steps
