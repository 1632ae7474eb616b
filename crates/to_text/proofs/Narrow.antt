-- Septets below 128: what an or of several tells of each, and what a mask leaves of one.
-- Assumes nothing.
use mathlib.Core.Path.{◌≡◌, ap, ◌∙◌}
use mathlib.Core.List.{List}
use Prim.Native.Nat.{ℕ, ◌-◌, ◌≤◌, ◌<◌}
use native.Mathlib.Omega.{arith}
use lib.Bits.{bit_and, bit_or, or_add_and, and_le_l, and_le_r, and_mask}
use lib.Dec.{leb}
use lib.ListN.{length, get_or, take, drop, length-drop}
use lib.Seq.{length-take-le, get_or-take, get_or-drop}
use Rattle.std.specs.List.{fold}
use Rattle.wide.proofs.Gathered.{bits-most}
use borrow.Author.Tests.{leb-false}
use Rattle.lists.specs.Lists.{first_wide}
use Rattle.lists.proofs.Places.{place-before}

-- bits that are below 128 together are below it each
pub or_left : (a b : ℕ) → bit_or a b < 128 → a < 128
or_left a b h = omega (arith, h, or_add_and a b, and_le_r a b)

pub or_right : (a b : ℕ) → bit_or a b < 128 → b < 128
or_right a b h = omega (arith, h, or_add_and a b, and_le_l a b)

-- where none is 128 or more, a mask leaves each as it is
pub masked : (s : List ℕ) (k : ℕ) → length s ≤ first_wide s → k < length s → bit_and (get_or s k 0) 0x7f ≡ get_or s k 0
masked s k none h =
    let below : get_or s k 0 < 128 = leb-false 128 (get_or s k 0) (place-before (leb 128) s k (omega (arith, none, h))) in
    and_mask (get_or s k 0) 7 ∙ omega (arith, below)

-- septets from a to b whose bits together are below 128 are below it each
pub narrow-part : (s : List ℕ) (a b bits : ℕ) → b ≤ length s → bits ≡ fold bit_or 0 (take (b - a) (drop a s)) → bits < 128 → (k : ℕ) → k < b → a ≤ k → get_or s k 0 < 128
narrow-part s a b bits within told low k h l =
    let part : List ℕ = take (b - a) (drop a s) in
    let before : k - a < b - a = omega arith in
    let size : length part ≡ b - a = length-take-le (b - a) (drop a s) (omega (arith, length-drop a s)) in
    let at : get_or part (k - a) 0 ≡ get_or s k 0 =
    get_or-take (b - a) (drop a s) (k - a) 0 before ∙ get_or-drop a s (k - a) 0 ∙ ap (λ (j : ℕ). get_or s j 0) (omega arith) in
    omega (arith, bits-most 0 part (k - a) (omega (arith, size)), at, told, low)
