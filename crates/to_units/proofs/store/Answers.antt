-- The units are copied over the front of out.
-- Assumes nothing.
use mathlib.Core.Path.{refl, ap, ◌∙◌}
use mathlib.Core.List.{List, ◌++◌}
use Prim.Native.Nat.{ℕ}
use lib.ListN.{length, drop}
use borrow.Author.Rules.{rules}
use Rattle.lists.proofs.Laid.{laid-copy}
use Rattle.stream.proofs.Given.{given-short, given-done}
use Rattle.words.proofs.Clauses.{answered}
use Rattle.to_units.proofs.store.Goals as goal

pub returns-then-out-n : goal.returns-then-out-n
returns-then-out-n c = answered (given-short c.args.units.now c.args.out.now (search rules))

pub returns : goal.returns
returns c =
    let us : List ℕ = c.args.units.now in
    let d : List ℕ = c.args.out.now in
    answered (given-done us d refl (search rules) (ap (λ (l : List ℕ). l ++ drop (length us) d) c.copy_from_slice.ensures.after ∙ laid-copy us d (length us) refl))
