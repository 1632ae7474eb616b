-- Storing a list where only 7 can refuse: the two outcomes, as the code meets them.
-- Assumes nothing.
use mathlib.Core.Path.{◌≡◌, refl, ap}
use mathlib.Core.List.{List}
use Prim.Native.Nat.{ℕ, ◌≤◌, ◌<◌}
use borrow.Author.Tests.{lt-ltb, le-ltb}
use lib.ListN.{length}
use Rattle.words.specs.declared.Refusal.TheVariants.{NoRoom}
use Rattle.lists.specs.Lists.{laid}
use Rattle.words.specs.Judging.{verdict}
use Rattle.stream.specs.Storing.{given_answers, given_leaves}
use Rattle.std.specs.Prelude.{Result, Ok, Err}
use Rattle.words.specs.declared.Refusal.{Refusal}

-- what a function that stores xs into out owes: its answer, and what it leaves
abbrev pub Gives : List ℕ → List ℕ → Result ℕ Refusal → List ℕ → Type 0
Gives xs out answer left = (answer ≡ given_answers xs (length out)) × (left ≡ given_leaves xs out)

pub given-short : (xs out : List ℕ) → length out < length xs → Gives xs out (Err NoRoom) out
unfolding given_answers given_leaves verdict
given-short xs out h = simp (lt-ltb _ _ h) (refl, refl)

pub given-done : (xs out : List ℕ) {n : ℕ} {left : List ℕ} → n ≡ length xs → length xs ≤ length out → left ≡ laid xs out → Gives xs out (Ok n) left
unfolding given_answers given_leaves verdict
given-done xs out e h l = simp (le-ltb _ _ h) (ap Ok e, l)
