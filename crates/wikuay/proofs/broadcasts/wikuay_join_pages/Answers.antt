-- `wikuay_join_pages` meets its contract: the library's call does. Assumes nothing.
use Rattle.page_answers.proofs.MostPages.{joined-within}
use Rattle.wikuay.specs.PageCalls.{join_pages_gives}
use Rattle.pages.specs.declared.Joined.{Joined}
use Rattle.pages.specs.Reports.{join_pages}
use Prim.Native.Nat.{◌≤◌}
use mathlib.Core.Path.{sym, subst}
use Rattle.wikuay.proofs.broadcasts.wikuay_join_pages.Goals as goal
use Rattle.std.specs.Prelude.{Result}
use Rattle.words.specs.declared.Refusal.{Refusal}

pub joined-requires : goal.joined-requires
joined-requires c = subst (λ (a : Result Joined Refusal). join_pages a ≤ 15) (sym c.join_pages.ensures.answer) (joined-within _ _)

pub returns : goal.returns
unfolding join_pages_gives
returns c =
    record { answer = simp (c.joined.ensures, c.join_pages.ensures.answer); buffer = c.join_pages.ensures.buffer }
