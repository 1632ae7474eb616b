-- The septets are copied over the front of out.
use mathlib.Core.Path.{refl, ap, ◌∙◌}
use mathlib.Core.List.{List, ◌++◌}
use Prim.Native.Nat.{ℕ}
use lib.ListN.{length, drop}
use borrow.Author.Rules.{rules}
use Rattle.lists.proofs.Laid.{laid-copy}
use Rattle.stream.proofs.Given.{given-short, given-done}
use Rattle.words.proofs.Clauses.{answered}
use Rattle.packing.proofs.septets.store.Goals as goal

pub returns-then-out-n : goal.returns-then-out-n
returns-then-out-n c = answered (given-short c.args.septets.now c.args.out.now (search rules))

pub returns : goal.returns
returns c =
    let s : List ℕ = c.args.septets.now in
    let d : List ℕ = c.args.out.now in
    answered (given-done s d refl (search rules) (ap (λ (l : List ℕ). l ++ drop (length s) d) c.copy_from_slice.ensures.after ∙ laid-copy s d (length s) refl))
