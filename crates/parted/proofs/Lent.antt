-- The rest of a buffer from a place on, lent to another function and put back.
-- Assumes nothing.
--   tail-lent     what is lent is what stands from there on
--   tail-put      nothing stands behind what is put back
--   tail-laid     what is laid over the rest is laid behind what was laid before it
use mathlib.Core.Path.{◌≡◌, refl, sym, ap, ◌∙◌}
use mathlib.Core.List.{List, ◌++◌, append_assoc, append-nil}
use Prim.Native.Nat.{ℕ, ◌+◌, ◌-◌}
use native.Mathlib.Omega.{arith}
use lib.ListN.{length, take, drop, length-drop, drop_of_length-le}
use lib.Seq.{take_all, drop-drop}
use Rattle.lists.specs.Lists.{laid}
use Rattle.lists.proofs.Laid.{laid_then}

pub tail-lent : (a : ℕ) (out : List ℕ) → take (length out - a) (drop a out) ≡ drop a out
tail-lent a out = take_all (length out - a) (drop a out) (omega (arith, length-drop a out))

pub tail-put : (a : ℕ) (out sub : List ℕ) → take a out ++ (sub ++ drop (length out - a) (drop a out)) ≡ take a out ++ sub
tail-put a out sub =
    ap (λ (l : List ℕ). take a out ++ (sub ++ l)) (drop_of_length-le (drop a out) {i = length out - a} (omega (arith, length-drop a out)))
    ∙ ap (λ (l : List ℕ). take a out ++ l) (append-nil sub)

pub tail-laid : (xs ys start out sub : List ℕ) (a : ℕ) → length xs ≡ a → out ≡ laid xs start → sub ≡ laid ys (take (length out - a) (drop a out))
    → take a out ++ (sub ++ drop (length out - a) (drop a out)) ≡ laid (xs ++ ys) start
unfolding laid
tail-laid xs ys start out sub a size e l =
    tail-put a out sub
    ∙ ap (λ (p : List ℕ). take a out ++ p) (l ∙ ap (λ (p : List ℕ). ys ++ drop (length ys) p) (tail-lent a out) ∙ ap (λ (p : List ℕ). ys ++ p) (drop-drop (length ys) a out))
    ∙ sym (append_assoc (take a out) ys (drop (a + length ys) out))
    ∙ ap (λ (p : List ℕ). take a p ++ ys ++ drop (a + length ys) p) e
    ∙ laid_then xs ys start a (length ys) size refl
