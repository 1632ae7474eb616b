-- The groups passed are laid over the front of out, and each turn lays eight more units right after them; the last eight begin among those that are laid.
use Prim.Native.Nat.{ℕ, ◌≤◌, ◌+◌, ◌-◌, ◌*◌}
use mathlib.Core.Path.{◌≡◌, refl, sym, ap, ap₂, ◌∙◌}
use mathlib.Core.List.{List, ◌++◌}
use native.Mathlib.Omega.{arith}
use lib.ListN.{length, take, drop}
use lib.Seq.{length-take-le, take-take, take-add, take-append-le, drop-append-add, drop-drop}
use Rattle.lists.specs.Lists.{laid}
use Rattle.stream.specs.Ucs2.{octet_units}
use Rattle.stream.proofs.UnitOctets.{octet-units-length}
use Rattle.to_units.proofs.get_many.Goals as goal

-- m elements of a list from p on, stored at their place where those before k are laid, and p is among these or right after them
laid-over : (xs d : List ℕ) (p m k : ℕ) → p ≤ k → k ≤ p + m → p + m ≤ length xs
    → take p (laid (take k xs) d) ++ take m (drop p xs) ++ drop (p + m) (laid (take k xs) d) ≡ laid (take (p + m) xs) d
unfolding laid
laid-over xs d p m k low high fits =
    let front : List ℕ = take k xs in
    let back : List ℕ = drop (length front) d in
    let size : length front ≡ k = length-take-le k xs (omega arith) in
    let r : ℕ = p + m - k in
    let place : p + m ≡ length front + r = omega arith in
    let rest : drop (p + m) (front ++ back) ≡ drop (p + m) d =
    ap (λ (i : ℕ). drop i (front ++ back)) place ∙ drop-append-add front back r ∙ drop-drop r (length front) d ∙ ap (λ (i : ℕ). drop i d) (sym place) in
    ap₂ (λ (a b : List ℕ). a ++ take m (drop p xs) ++ b) (take-append-le p front back (omega arith) ∙ take-take p k xs low) rest
    ∙ ap₂ (λ (a : List ℕ) (i : ℕ). a ++ drop i d) (sym (take-add p m xs)) (sym (length-take-le (p + m) xs fits))

-- eight from p on are stored, where those before k are laid, and they end at n
eight-over : (xs d out left : List ℕ) (p k n : ℕ) → out ≡ laid (take k xs) d → left ≡ take p out ++ take 8 (drop p xs) ++ drop (p + 8) out → p ≤ k → k ≤ p + 8 → p + 8 ≡ n → n ≤ length xs
    → left ≡ laid (take n xs) d
eight-over xs d out left p k n held stored low high ends fits =
    stored
    ∙ ap (λ (l : List ℕ). take p l ++ take 8 (drop p xs) ++ drop (p + 8) l) held
    ∙ laid-over xs d p 8 k low high (omega arith)
    ∙ ap (λ (i : ℕ). laid (take i xs) d) ends

pub loop-group-init : goal.loop-group-init
unfolding laid
loop-group-init c = refl

pub loop-group-preserved : goal.loop-group-preserved
loop-group-preserved c =
    let a = c.args in
    let k : ℕ = 8 * c.loop-group.group in
    eight-over (octet_units a.octets.now) a.out.now c.loop-group.out c.get_eight.new.out k k (8 * (c.loop-group.group + 1))
    c.loop-group.invariant c.get_eight.ensures (omega arith) (omega arith) (omega arith) (omega (arith, octet-units-length a.octets.now, c.requires, c.loop-group-test.true))

pub returns-then-n-ne0 : goal.returns-then-n-ne0
returns-then-n-ne0 c =
    let a = c.args in
    eight-over (octet_units a.octets.now) a.out.now c.loop-group.out c.get_eight-then-n-ne0.new.out (a.n - 8) (8 * c.loop-group.group) a.n
    c.loop-group.invariant c.get_eight-then-n-ne0.ensures (omega (arith, c.loop-group-test.false, c.loop-group.auto)) (omega (arith, c.loop-group-test.false, c.loop-group.auto)) (omega (arith, c.requires)) (omega (arith, octet-units-length a.octets.now, c.requires))
