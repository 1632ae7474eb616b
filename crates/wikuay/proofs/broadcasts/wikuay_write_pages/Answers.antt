-- `wikuay_write_pages` meets its contract: the library's call does, for what the numbers name. Assumes nothing.
use Rattle.page_answers.proofs.MostPages.{pages-within}
use Rattle.wikuay.specs.PageCalls.{write_pages_gives, write_pages_keeps}
use Rattle.pages.specs.declared.PagesWritten.{PagesWritten}
use Rattle.pages.specs.Reports.{pages_pages}
use Prim.Native.Nat.{◌≤◌}
use mathlib.Core.Path.{sym, subst}
use Rattle.wikuay.proofs.broadcasts.wikuay_write_pages.Goals as goal
use Rattle.std.specs.Prelude.{Result}
use Rattle.words.specs.declared.Refusal.{Refusal}

pub pages_written-requires : goal.pages_written-requires
pages_written-requires c = subst (λ (a : Result PagesWritten Refusal). pages_pages a ≤ 15) (sym c.write_pages.ensures.answer) (pages-within _ _ _ _ _)

pub returns : goal.returns
unfolding write_pages_gives write_pages_keeps
returns c = let n = sym c.in-Some.ensures.answer in
    record { answer = simp (c.pages_written.ensures, c.write_pages.ensures.answer, n); buffer = simp (c.write_pages.ensures.buffer, n) }

pub returns-in_default : goal.returns-in_default
unfolding write_pages_gives write_pages_keeps
returns-in_default c = let n = sym c.in_default.ensures.answer in
    record { answer = simp (c.pages_refused.ensures.answer, n); buffer = simp n }
