-- Page k filled up with CR is part k of the text filled up, since past its end each has what it is filled up with.
-- Assumes nothing.
use mathlib.Core.Path.{◌≡◌, refl, sym, ap, ◌∙◌}
use mathlib.Core.List.{List, [], ◌∷◌, ◌++◌}
use Prim.Native.Nat.{ℕ, zero, suc, ◌+◌, ◌-◌, ◌*◌, ◌≤◌}
use native.Mathlib.Nat.{mul-le-mul_left}
use native.Mathlib.Omega.{arith}
use lib.ListN.{length, drop, get_or, replicate}
use lib.Seq.{get_or-take, get_or-drop, ext_get_or}
use Rattle.lists.specs.Lists.{laid}
use Rattle.filling.specs.Filling.{part_at}
use Rattle.filling.proofs.Parts.{part-length, part-full}
use Rattle.stream.proofs.Pages.{over-length, replicate-drop}
use Rattle.pages.specs.Messages.{filled_to}

-- past its end a list that is filled up has what it is filled up with
beyond : (n i x : ℕ) → get_or (replicate n x) i x ≡ x
beyond zero i x = refl
beyond (suc n) zero x = refl
beyond (suc n) (suc i) x = beyond n i x

filled_at : (s : List ℕ) (n i x : ℕ) → get_or (s ++ replicate n x) i x ≡ get_or s i x
filled_at [] n i x = beyond n i x
filled_at (y ∷ s) n zero x = refl
filled_at (y ∷ s) n (suc i) x = filled_at s n i x

laid-at : (s : List ℕ) (n i x : ℕ) → get_or (laid s (replicate n x)) i x ≡ get_or s i x
unfolding laid
laid-at s n i x = ap (λ (l : List ℕ). get_or (s ++ l) i x) (replicate-drop (length s) n x) ∙ filled_at s (n - length s) i x

-- page k filled up is part k of the text filled up, so that texts with one content filled up have one page k
pub part_filled : (room n : ℕ) (s : List ℕ) (k : ℕ) → length s ≤ room * n → 1 ≤ k → k ≤ n → filled_to room (part_at room s k) ≡ part_at room (filled_to (room * n) s) k
unfolding part_at
part_filled room n s k fits some most =
    let whole : List ℕ = filled_to (room * n) s in
    let long : length whole ≡ room * n = over-length (room * n) 13 s fits in
    let here : length (filled_to room (part_at room s k)) ≡ room = over-length room 13 (part_at room s k) (part-length room s k) in
    ext_get_or 13 (filled_to room (part_at room s k)) (part_at room whole k) (here ∙ sym (part-full room whole k some (omega (arith, mul-le-mul_left room most))))
    (λ i h.
    laid-at (part_at room s k) room i 13
    ∙ get_or-take room (drop (room * (k - 1)) s) i 13 (omega arith)
    ∙ get_or-drop (room * (k - 1)) s i 13
    ∙ sym (laid-at s (room * n) (room * (k - 1) + i) 13)
    ∙ sym (get_or-drop (room * (k - 1)) whole i 13)
    ∙ sym (get_or-take room (drop (room * (k - 1)) whole) i 13 (omega arith)))
