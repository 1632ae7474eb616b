-- `wikuay_count_pages` meets its contract: the library's call does, for what the numbers name. Assumes nothing.
use Rattle.page_answers.proofs.MostPages.{counted-within}
use Rattle.wikuay.specs.PageCalls.{count_pages_gives}
use Rattle.pages.specs.Reports.{counted_pages}
use Prim.Native.Nat.{◌≤◌}
use mathlib.Core.Path.{sym, subst}
use Rattle.wikuay.proofs.broadcasts.wikuay_count_pages.Goals as goal
use Rattle.std.specs.Prelude.{ℕ, Result}
use Rattle.words.specs.declared.Refusal.{Refusal}

pub counted-requires : goal.counted-requires
counted-requires c = subst (λ (a : Result ℕ Refusal). counted_pages a ≤ 15) (sym c.count_pages.ensures.answer) (counted-within _ _)

pub returns : goal.returns
unfolding count_pages_gives
returns c = record {
  answer = let n = sym c.in-Some.ensures.answer in
      simp (c.counted.ensures, c.count_pages.ensures.answer, n);
}

pub returns-in_default : goal.returns-in_default
unfolding count_pages_gives
returns-in_default c = record { answer = simp (c.pages_refused.ensures.answer, sym c.in_default.ensures.answer) }
