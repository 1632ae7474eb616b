-- The tests are those of the definition, one after the other.
use mathlib.Core.Path.{◌≡◌, sym, ap, ◌∙◌}
use mathlib.Core.List.{List}
use Prim.Native.Nat.{ℕ, ◌-◌, ◌<◌, ◌%◌, ◌≤◌}
use native.Mathlib.Omega.{arith}
use lib.Bits.{bit_and, and_mask}
use lib.Dec.{eqb}
use lib.ListN.{length, get_or, length-map, get_or-map}
use borrow.Author.Tests.{eq-eqb, ne_eqb}
use Rattle.std.proofs.Common.{rules}
use Rattle.stream.specs.Digits.{low_of}
use Rattle.stream.specs.UssdPacking.{last}
use Rattle.stream.proofs.Ussd.{adds-seven, adds-eight, adds-other, adds_none}
use Rattle.closing.proofs.ussd_adds.Goals as goal

-- there are as many low bits
many : (s : List ℕ) → length (low_of 7 s) ≡ length s
many s = length-map s (λ (x : ℕ). x % 128)

-- the low bits of the septet that is tested are the last
last-bits : (s : List ℕ) → bit_and (get_or s (length s - 1) 0) 127 ≡ last (low_of 7 s)
unfolding last
last-bits s =
    and_mask (get_or s (length s - 1) 0) 7
    ∙ sym (get_or-map (λ (x : ℕ). x % 128) s (length s - 1) 0)
    ∙ ap (λ (k : ℕ). get_or (low_of 7 s) (k - 1) 0) (sym (many s))

pub returns-then-over-eq7 : goal.returns-then-over-eq7
returns-then-over-eq7 c =
    let s : List ℕ = c.args.septets.now in
    eq-eqb _ _ c.if-over-eq7.true ∙ sym (adds-seven (low_of 7 s) (ap (λ (k : ℕ). k % 8) (many s) ∙ c.if-over-eq7.true))

pub returns-then-over-eq0 : goal.returns-then-over-eq0
returns-then-over-eq0 c =
    let s : List ℕ = c.args.septets.now in
    let found : c.in-Some.last.now ≡ get_or s (length s - 1) 0 = search rules in
    let some : 0 < length s = search rules in
    ap (λ (x : ℕ). eqb (bit_and x 127) 13) found
    ∙ ap (λ (x : ℕ). eqb x 13) (last-bits s)
    ∙ sym (adds-eight (low_of 7 s) (omega (arith, many s)) (ap (λ (k : ℕ). k % 8) (many s) ∙ c.if-over-eq0.true))

pub returns-else-over-eq0 : goal.returns-else-over-eq0
returns-else-over-eq0 c =
    let s : List ℕ = c.args.septets.now in
    let e = ap (λ (k : ℕ). k % 8) (many s) in
    ne_eqb _ _ c.if-over-eq0.false ∙ sym (adds-other (low_of 7 s) (λ h. c.if-over-eq7.false (sym e ∙ h)) (λ h. c.if-over-eq0.false (sym e ∙ h)))

pub returns-in-None : goal.returns-in-None
returns-in-None c =
    let s : List ℕ = c.args.septets.now in
    let none : length s ≤ 0 = search rules in sym (adds_none (low_of 7 s) (omega (arith, many s)))
