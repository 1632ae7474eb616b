-- The units are laid over the front of the 41 units 000D.
use mathlib.Core.Path.{refl, ap, ◌∙◌}
use mathlib.Core.List.{List, ◌++◌}
use Prim.Native.Nat.{ℕ}
use lib.ListN.{length, drop, replicate}
use Rattle.lists.proofs.Laid.{laid-copy}
use Rattle.stream.specs.Ucs2.{unit_page}
use Rattle.from_units.proofs.lay.Goals as goal

pub returns : goal.returns
unfolding unit_page
returns c =
    let us : List ℕ = c.args.units.now in
    ap (λ (l : List ℕ). l ++ drop (length us) (replicate 41 13)) c.copy_from_slice.ensures.after ∙ laid-copy us (replicate 41 13) (length us) refl
