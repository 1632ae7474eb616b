-- `wikuay_build_page` meets its contract: the library's call does, for what the numbers name. Assumes nothing.
use Rattle.page_answers.proofs.MostPages.{built-within}
use Rattle.pages.proofs.Accepting.{built-of}
use Rattle.wikuay.specs.PageCalls.{build_page_gives}
use Rattle.pages.specs.Written.{Built}
use Rattle.pages.specs.Reports.{counted_pages}
use Prim.Native.Nat.{◌≤◌}
use mathlib.Core.Path.{sym, ◌∙◌, subst}
use Rattle.wikuay.proofs.broadcasts.wikuay_build_page.Goals as goal

pub built-requires : goal.built-requires
built-requires c = subst (λ (b : Built). counted_pages b.answer ≤ 15) (sym (built-of _ _ _ _ _ _ c.build_page.ensures.answer)) (built-within _ _ _ _ _)

pub returns : goal.returns
unfolding build_page_gives
returns c = record {
  answer = let n = sym c.in-Some.ensures.answer in
      c.built.ensures ∙ simp (built-of _ _ _ _ _ _ c.build_page.ensures.answer, n);
}

pub returns-in_default : goal.returns-in_default
unfolding build_page_gives
returns-in_default c = record {
  answer = let n = sym c.in_default.ensures.answer in
      simp (c.page.ensures.answer, c.pages_refused.ensures.answer, n);
}
