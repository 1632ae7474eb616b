-- A part is laid over a page of its own, and septets are packed. Assumes nothing.
use Prim.Native.Nat.{ℕ, ◌+◌, ◌-◌, ◌*◌}
use mathlib.Core.Path.{◌≡◌, ap, subst, ◌∙◌}
use mathlib.Core.List.{List}
use native.Mathlib.Omega.{arith}
use lib.ListN.{length, take, drop, length-drop}
use lib.Seq.{take_all}
use Rattle.lists.proofs.Below.{Below, below-take, below-drop}
use Rattle.stream.specs.Pages.{page}
use Rattle.stream.specs.ArrayCalls.{page_leaves}
use Rattle.stream.specs.Ucs2.{unit_octets, unit_page}
use Rattle.filling.specs.Filling.{part_at}
use Rattle.filling.proofs.Parts.{part-length, part-from}
use Rattle.pages.proofs.Steps.{page-left}
use Rattle.paging.proofs.Content.put_page.Goals as goal

-- all that is left of a list from a place on
rest : (s : List ℕ) (n : ℕ) → take (length s - n) (drop n s) ≡ drop n s
rest s n = take_all (length s - n) (drop n s) (omega (arith, length-drop n s))

pub returns-in-Units : goal.returns-in-Units
returns-in-Units c = let k : ℕ = c.args.k in
    let us : List ℕ = c.in-Units.units.now in
    rw c.in-Units.is (c.copy_from_slice.ensures.after ∙ c.page_octets.ensures.answer ∙ ap (λ (l : List ℕ). unit_octets (unit_page l)) (ap (take 41) (rest us (41 * k)) ∙ part-from 41 us k))

pub returns-in-Septets : goal.returns-in-Septets
returns-in-Septets c = let k : ℕ = c.args.k in
    let s : List ℕ = c.in-Septets.septets.now in
    let all : Below 128 s = rw c.in-Septets.is at c.requires.1 in
    let low : Below 128 (part_at 93 s (k + 1)) = subst (Below 128) (part-from 93 s k) (below-take 128 (drop (93 * k) s) (below-drop 128 s all (93 * k)) 93) in
    rw c.in-Septets.is
    (c.pack_page.ensures.buffer
    ∙ ap (λ (p : List ℕ). page_leaves p c.args.text.now) (c.page_of.ensures.answer ∙ ap page (ap (take 93) (rest s (93 * k)) ∙ part-from 93 s k))
    ∙ page-left (part_at 93 s (k + 1)) c.args.text.now (part-length 93 s (k + 1)) low c.requires.3)
