-- The first 41 units at most are laid over a page, whose 82 octets fill the array. Assumes nothing.
use mathlib.Core.Path.{◌≡◌, ap, ◌∙◌}
use mathlib.Core.List.{List}
use Prim.Native.Nat.{ℕ, ◌≤◌}
use native.Mathlib.Omega.{arith}
use borrow.Author.Tests.{le-ltb}
use lib.ListN.{length, take, replicate}
use Rattle.words.specs.Judging.{verdict}
use Rattle.lists.proofs.Laid.{take-min, min-length, laid-full}
use Rattle.stream.specs.Ucs2.{unit_octets, unit_page}
use Rattle.stream.specs.Storing.{given_leaves}
use Rattle.stream.proofs.Pages.{unit-page-length}
use Rattle.stream.proofs.UnitOctets.{unit-octets-length}
use Rattle.from_units.proofs.page_octets.Goals as goal

-- a page in an array of 82 octets
filled : (us : List ℕ) → length us ≤ 41 → given_leaves (unit_octets (unit_page us)) (replicate 82 0) ≡ unit_octets (unit_page us)
unfolding given_leaves verdict
filled us few =
    let full : length (unit_octets (unit_page us)) ≡ 82 = omega (arith, unit-octets-length (unit_page us), unit-page-length us few) in
    simp (le-ltb 82 (length (unit_octets (unit_page us))) (omega arith)) (laid-full (unit_octets (unit_page us)) (replicate 82 0) (omega arith))

pub returns : goal.returns
returns c =
    let us : List ℕ = c.args.units.now in
    let few : length (take 41 us) ≤ 41 = omega (arith, min-length us _ 41 c.min.ensures, c.min.ensures) in
    record {
      answer =
          c.put_units.ensures.buffer
          ∙ ap (λ (p : List ℕ). given_leaves (unit_octets p) (replicate 82 0)) (c.lay-page.ensures ∙ ap unit_page (take-min us _ 41 c.min.ensures))
          ∙ filled (take 41 us) few;
    }
