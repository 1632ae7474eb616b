-- Words put one behind the other are their joined word, put at once; and a word is laid over what stands at its place.
-- Assumes nothing.
use mathlib.Core.Path.{◌≡◌, refl, sym, ap, ap₂, ◌∙◌}
use mathlib.Core.List.{List, [], ◌∷◌, ◌++◌}
use Prim.Native.Nat.{ℕ, zero, suc, ◌+◌, ◌-◌, ◌≤◌, ◌<◌, min}
use native.Mathlib.Nat.{zero-min, min-zero, suc-min-suc, suc-sub-suc, sub-zero, zero-sub, suc-add, zero-add, add-zero, not-suc-le-zero, le_of_suc-le-suc}
use native.Mathlib.Numerals.{add-one}
use native.Mathlib.Omega.{arith}
use lib.ListN.{length, get_or, take, drop, length-append}
use lib.Seq.{drop-cons}
use Rattle.printed.specs.Printing.{placed, end_of, octet_digits, unit_octets, unit_digits}

-- ---- where a word ends

pub end_none : (room at : ℕ) → end_of room at 0 ≡ at
unfolding end_of
end_none room at = ap (λ (k : ℕ). at + k) (zero-min (room - at)) ∙ add-zero at

end-zero : (at n : ℕ) → end_of 0 at n ≡ at
unfolding end_of
end-zero at n = ap (λ (k : ℕ). at + min n k) (zero-sub at) ∙ ap (λ (k : ℕ). at + k) (min-zero n) ∙ add-zero at

end-first : (room n : ℕ) → end_of (suc room) 0 (suc n) ≡ suc (end_of room 0 n)
unfolding end_of
end-first room n =
    ap (λ (k : ℕ). 0 + min (suc n) k) (sub-zero (suc room))
    ∙ zero-add (min (suc n) (suc room))
    ∙ suc-min-suc n room
    ∙ ap suc (sym (zero-add (min n (room - 0)) ∙ ap (min n) (sub-zero room)))

end_later : (room at n : ℕ) → end_of (suc room) (suc at) n ≡ suc (end_of room at n)
unfolding end_of
end_later room at n = ap (λ (k : ℕ). suc at + min n k) (suc-sub-suc room at) ∙ suc-add at (min n (room - at))

pub end_more : (room at n m : ℕ) → end_of room (end_of room at n) m ≡ end_of room at (n + m)
end_more zero at n m = end-zero (end_of 0 at n) m ∙ end-zero at n ∙ sym (end-zero at (n + m))
end_more (suc room) zero zero m = ap (λ (k : ℕ). end_of (suc room) k m) (end_none (suc room) 0) ∙ ap (end_of (suc room) 0) (sym (zero-add m))
end_more (suc room) zero (suc n) m =
    ap (λ (k : ℕ). end_of (suc room) k m) (end-first room n)
    ∙ end_later room (end_of room 0 n) m
    ∙ ap suc (end_more room zero n m)
    ∙ sym (end-first room (n + m))
    ∙ ap (end_of (suc room) 0) (sym (suc-add n m))
end_more (suc room) (suc at) n m =
    ap (λ (k : ℕ). end_of (suc room) k m) (end_later room at n)
    ∙ end_later room (end_of room at n) m
    ∙ ap suc (end_more room at n m)
    ∙ sym (end_later room at (n + m))

-- ---- what it leaves in the buffer

pub placed-length : (out : List ℕ) (at : ℕ) (xs : List ℕ) → length (placed out at xs) ≡ length out
unfolding placed
placed-length [] at xs = refl
placed-length (y ∷ out) zero [] = refl
placed-length (y ∷ out) zero (x ∷ xs) = ap suc (placed-length out zero xs)
placed-length (y ∷ out) (suc at) xs = ap suc (placed-length out at xs)

pub placed-none : (out : List ℕ) (at : ℕ) → placed out at [] ≡ out
unfolding placed
placed-none [] at = refl
placed-none (y ∷ out) zero = refl
placed-none (y ∷ out) (suc at) = ap (λ (r : List ℕ). y ∷ r) (placed-none out at)

pub placed_past : (out : List ℕ) (at : ℕ) (xs : List ℕ) → length out ≤ at → placed out at xs ≡ out
unfolding placed
placed_past [] at xs h = refl
placed_past (y ∷ out) zero xs h = absurd (not-suc-le-zero h)
placed_past (y ∷ out) (suc at) xs h = ap (λ (r : List ℕ). y ∷ r) (placed_past out at xs (le_of_suc-le-suc h))

pub placed-more : (out : List ℕ) (at : ℕ) (xs ys : List ℕ) → placed (placed out at xs) (end_of (length out) at (length xs)) ys ≡ placed out at (xs ++ ys)
unfolding placed
placed-more [] at xs ys = refl
placed-more (y ∷ out) zero [] ys = ap (λ (k : ℕ). placed (y ∷ out) k ys) (end_none (suc (length out)) 0)
placed-more (y ∷ out) zero (x ∷ xs) ys =
    ap (λ (k : ℕ). placed (x ∷ placed out zero xs) k ys) (end-first (length out) (length xs))
    ∙ ap (λ (r : List ℕ). x ∷ r) (placed-more out zero xs ys)
placed-more (y ∷ out) (suc at) xs ys =
    ap (λ (k : ℕ). placed (y ∷ placed out at xs) k ys) (end_later (length out) at (length xs))
    ∙ ap (λ (r : List ℕ). y ∷ r) (placed-more out at xs ys)

-- ---- a word that is put: what stands in front of its place, as much of it as there is room for, and what stands behind its end

pub placed-parts : (out xs : List ℕ) (at n : ℕ) → at ≤ length out → n ≡ min (length xs) (length out - at) → take at out ++ (take n xs ++ drop n (drop at out)) ≡ placed out at xs
unfolding placed
placed-parts [] xs at n h e =
    let a : at ≡ 0 = omega arith in
    let k : n ≡ 0 = omega arith in
    rw (a, k) refl
placed-parts (y ∷ out) [] zero n h e =
    let k : n ≡ 0 = omega arith in
    rw k refl
placed-parts (y ∷ out) (x ∷ xs) zero n h e =
    let m : ℕ = min (length xs) (length out) in
    let k : n ≡ suc m = omega arith in
    rw k (ap (λ (r : List ℕ). x ∷ r) (placed-parts out xs zero m (omega arith) (omega arith)))
placed-parts (y ∷ out) xs (suc at) n h e =
    ap (λ (r : List ℕ). y ∷ r) (placed-parts out xs at n (omega arith) (omega arith))

-- ---- the loops that put digits: the digits of what is left, put behind those that are done

pub octets-one : (x : ℕ) (s : List ℕ) → octet_digits (x ∷ s) ≡ octet_digits (x ∷ []) ++ octet_digits s
unfolding octet_digits
octets-one x s = refl

pub units-one : (x : ℕ) (s : List ℕ) → unit_digits (x ∷ s) ≡ unit_digits (x ∷ []) ++ unit_digits s
unfolding octet_digits unit_octets unit_digits
units-one x s = refl

-- of any digits that are those of the first element and then those of the rest
pub digits-turn : (digits : List ℕ → List ℕ) → ((x : ℕ) (s : List ℕ) → digits (x ∷ s) ≡ digits (x ∷ []) ++ digits s) → (out xs : List ℕ) (end i : ℕ) → i < length xs
    → (out' : List ℕ) (end' : ℕ) → out' ≡ placed out end (digits (get_or xs i 0 ∷ [])) → end' ≡ end_of (length out) end (length (digits (get_or xs i 0 ∷ [])))
    → (placed out' end' (digits (drop (i + 1) xs)) ≡ placed out end (digits (drop i xs)))
    × (end_of (length out) end' (length (digits (drop (i + 1) xs))) ≡ end_of (length out) end (length (digits (drop i xs))))
digits-turn digits one out xs end i here out' end' p q =
    let x : ℕ = get_or xs i 0 in
    let first : List ℕ = digits (x ∷ []) in
    let rest : List ℕ = digits (drop (i + 1) xs) in
    let next : digits (drop i xs) ≡ first ++ rest =
    ap digits (drop-cons xs i 0 here ∙ ap (λ (k : ℕ). x ∷ drop k xs) (sym (add-one i))) ∙ one x (drop (i + 1) xs) in (
      ap₂ (λ (o : List ℕ) (k : ℕ). placed o k rest) p q ∙ placed-more out end first rest ∙ ap (placed out end) (sym next),
      ap (λ (k : ℕ). end_of (length out) k (length rest)) q ∙ end_more (length out) end (length first) (length rest) ∙ ap (end_of (length out) end) (sym (ap length next ∙ length-append first rest)),
    )

-- ---- a place behind the buffer

pub end-past : (room at n : ℕ) → room ≤ at → end_of room at n ≡ at
unfolding end_of
end-past room at n h =
    let none : room - at ≡ 0 = omega arith in
    ap (λ (k : ℕ). at + min n k) none ∙ ap (λ (k : ℕ). at + k) (min-zero n) ∙ add-zero at
