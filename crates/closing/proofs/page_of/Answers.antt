-- As many septets as there is room for are laid over the front of the CRs.
use mathlib.Core.Path.{ap, ◌∙◌}
use mathlib.Core.List.{List, ◌++◌}
use Prim.Native.Nat.{ℕ}
use lib.ListN.{drop, replicate}
use Rattle.lists.proofs.Laid.{laid-front}
use Rattle.stream.specs.Pages.{page}
use Rattle.closing.proofs.page_of.Goals as goal

pub returns : goal.returns
unfolding page
returns c =
    let n = c.min-n.result in
    record {
      answer =
          ap (λ (l : List ℕ). l ++ drop n (replicate 93 13)) c.copy_from_slice.ensures.after
          ∙ laid-front c.args.septets.now (replicate 93 13) n 93 c.min-n.ensures;
    }
