-- A run of a text's septets laid over an array in two steps: first by some units, then the rest behind what those take.
-- Assumes nothing.
--   window-laid    what is laid over a window of an array and put back is laid over the array
--   at-then        a run laid right behind another
--   first_septets t unit some   the septets of the first so many units from a unit on
--   first_then     they, and behind them those of the other units, are all from there on
--   first-told     how many they are, by what the encoder answers
--   first-laid, first-length   what the first step leaves: as many of them as there is room for, over an array that keeps its length
--   first-whole    where they fill the room they are the run
--   rest-there, rest-laid   where they do not, the other units have the rest of it, and laid behind them it makes the run whole
use mathlib.Core.Path.{◌≡◌, sym, ap, ap₂, ◌∙◌}
use mathlib.Core.List.{List, ◌++◌, append_assoc}
use Prim.Native.Nat.{ℕ, ◌+◌, ◌-◌, ◌≤◌, ◌<◌}
use native.Mathlib.Omega.{arith}
use lib.ListN.{length, take, drop, length-append, length-drop, length-take, take-append-drop}
use lib.Seq.{take-append-le, take-append-add, take_all, drop-append-le, drop_at, drop-drop, length-take-le}
use Rattle.lists.specs.Lists.{laid}
use Rattle.letters.specs.declared.Encoded.{Encoded}
use Rattle.letters.specs.Writing.{septets_of, listed_front, encoded_as, encoded_leaves}
use Rattle.letters.proofs.Theorems.{Codable, codable-front, septets-append}
use Rattle.parted.proofs.Windows.{codable-take, codable-drop}
use Rattle.parted.proofs.WriteSteps.{laid_at, at_length, at_front}

-- ---- what is laid

window-laid : (n : ℕ) (w x : List ℕ) → length w ≤ n → n ≤ length x → laid w (take n x) ++ drop n x ≡ laid w x
unfolding laid
window-laid n w x h k =
    append_assoc w (drop (length w) (take n x)) (drop n x)
    ∙ ap (λ (l : List ℕ). w ++ l) (sym (drop-append-le (length w) (take n x) (drop n x) (omega (arith, length-take-le n x k))) ∙ ap (drop (length w)) (take-append-drop n x))

at-then : (at : ℕ) (v w a : List ℕ) → at + length v ≤ length a → laid_at (at + length v) w (laid_at at v a) ≡ laid_at at (v ++ w) a
unfolding laid
at-then at v w a h =
    let x : List ℕ = drop at a in
    let front : length (take at a ++ v) ≡ at + length v = length-append (take at a) v ∙ omega (arith, length-take-le at a (omega arith)) in
    let behind : drop (at + length v) (laid_at at v a) ≡ drop (length v) x =
    ap (drop (at + length v)) (sym (append_assoc (take at a) v (drop (length v) x))) ∙ drop_at (take at a ++ v) (drop (length v) x) (at + length v) front in
    ap₂ (λ (f b : List ℕ). f ++ laid w b) (at_front at v a h) behind
    ∙ append_assoc (take at a) v (w ++ drop (length w) (drop (length v) x))
    ∙ ap (λ (l : List ℕ). take at a ++ (v ++ (w ++ l))) (drop-drop (length w) (length v) x ∙ ap (λ (k : ℕ). drop k x) (sym (length-append v w)))
    ∙ ap (λ (l : List ℕ). take at a ++ l) (sym (append_assoc v w (drop (length (v ++ w)) x)))

-- ---- the two steps

abbrev pub first_septets : List ℕ → ℕ → ℕ → List ℕ
first_septets t unit some = septets_of (take some (drop unit t))

module _ (t : List ℕ) (unit some : ℕ) where
  first_then : septets_of (drop unit t) ≡ first_septets t unit some ++ septets_of (drop (unit + some) t)
  first_then =
      ap septets_of (sym (take-append-drop some (drop unit t)))
      ∙ septets-append (take some (drop unit t)) (drop some (drop unit t))
      ∙ ap (λ (l : List ℕ). first_septets t unit some ++ septets_of l) (drop-drop some unit t)

  -- every unit is listed, so that none ends them early
  first-front : Codable t → listed_front (take (unit + some - unit) (drop unit t)) ≡ take some (drop unit t)
  first-front c =
      let k : unit + some - unit ≡ some = omega arith in
      ap (λ (i : ℕ). listed_front (take i (drop unit t))) k ∙ codable-front (take some (drop unit t)) (codable-take (drop unit t) some (codable-drop t unit c))

  pub first-told : Codable t → {told : Encoded} → told ≡ encoded_as (take (unit + some - unit) (drop unit t)) → told.septets ≡ length (first_septets t unit some)
  unfolding encoded_as
  first-told c e = ap (λ (x : Encoded). x.septets) e ∙ ap (λ (l : List ℕ). length (septets_of l)) (first-front c)

  pub rest-there : (n : ℕ) → n ≤ length (septets_of (drop unit t)) → n - length (first_septets t unit some) ≤ length (septets_of (drop (unit + some) t))
  rest-there n h = omega (arith, ap length first_then, length-append (first_septets t unit some) (septets_of (drop (unit + some) t)))

module _ (t a : List ℕ) (unit at n some : ℕ) (room : at + n ≤ length a) where
  first-most : length (take n (first_septets t unit some)) ≤ n
  first-most = omega (arith, length-take n (first_septets t unit some))

  pub first-laid : Codable t → (sub : List ℕ) → sub ≡ encoded_leaves (take (unit + some - unit) (drop unit t)) (take (at + n - at) (drop at a))
      → take at a ++ (sub ++ drop (at + n - at) (drop at a)) ≡ laid_at at (take n (first_septets t unit some)) a
  unfolding encoded_leaves
  first-laid c sub e =
      let m : at + n - at ≡ n = omega arith in
      let there : n ≤ length (drop at a) = omega (arith, length-drop at a) in
      let run : sub ≡ laid (take n (first_septets t unit some)) (take n (drop at a)) =
      e
      ∙ ap₂ (λ (s : List ℕ) (j : ℕ). laid (take (length (take j (drop at a))) (septets_of s)) (take j (drop at a))) (first-front t unit some c) m
      ∙ ap (λ (j : ℕ). laid (take j (first_septets t unit some)) (take n (drop at a))) (length-take-le n (drop at a) there) in
      ap₂ (λ (w : List ℕ) (j : ℕ). take at a ++ (w ++ drop j (drop at a))) run m
      ∙ ap (λ (l : List ℕ). take at a ++ l) (window-laid n (take n (first_septets t unit some)) (drop at a) first-most there)

  pub first-length : length (laid_at at (take n (first_septets t unit some)) a) ≡ length a
  first-length = at_length at (take n (first_septets t unit some)) a (omega (arith, first-most))

  pub first-whole : n ≤ length (first_septets t unit some) → laid_at at (take n (first_septets t unit some)) a ≡ laid_at at (take n (septets_of (drop unit t))) a
  first-whole h =
      ap (λ (w : List ℕ). laid_at at w a)
      (sym (ap (take n) (first_then t unit some) ∙ take-append-le n (first_septets t unit some) (septets_of (drop (unit + some) t)) h))

  pub rest-laid : (done : ℕ) → done ≡ length (first_septets t unit some) → done < n
      → laid_at (at + done) (take (n - done) (septets_of (drop (unit + some) t))) (laid_at at (take n (first_septets t unit some)) a) ≡ laid_at at (take n (septets_of (drop unit t))) a
  rest-laid done e h =
      let v : List ℕ = first_septets t unit some in
      let s : List ℕ = septets_of (drop (unit + some) t) in
      let n-is : n ≡ length v + (n - length v) = omega (arith, e) in
      let run : take n (septets_of (drop unit t)) ≡ v ++ take (n - length v) s =
      ap (take n) (first_then t unit some) ∙ ap (λ (k : ℕ). take k (v ++ s)) n-is ∙ take-append-add v s (n - length v) in
      ap₂ (λ (k : ℕ) (w : List ℕ). laid_at (at + k) (take (n - k) s) (laid_at at w a)) e (take_all n v (omega (arith, e)))
      ∙ at-then at v (take (n - length v) s) a (omega (arith, e))
      ∙ ap (λ (w : List ℕ). laid_at at w a) (sym run)
