-- How many octets a text takes, with the CR after it or without, and how many of them whole groups fill.
-- Assumes nothing.
use Prim.Native.Nat.{ℕ, ◌+◌, ◌*◌, ◌/◌, ◌≤◌}
use mathlib.Core.Path.{◌≡◌, ap, ◌∙◌}
use mathlib.Core.Bool.{Bool}
use mathlib.Core.List.{List}
use native.Mathlib.Omega.{arith}
use lib.ListN.{length}
use Rattle.stream.specs.Stream.{octets_for}
use Rattle.stream.specs.UssdPacking.{with_cr}
use Rattle.stream.proofs.Sent.{cr-length, sent-count}

-- from the count of the septets
pub octets-taken : (t : List ℕ) (cr : Bool) {n k m : ℕ} → length t ≡ n → ((l : List ℕ) → length l ≡ n → k ≡ length (with_cr cr l)) → m ≡ octets_for k → m ≡ octets_for (length (with_cr cr t))
octets-taken t cr size h e = e ∙ ap octets_for (h t size)

-- whole groups leave at most seven of them
pub groups-within : (t : List ℕ) (cr : Bool) {n m : ℕ} → length t ≡ n → m ≡ octets_for (length (with_cr cr t)) → (7 * (n / 8) ≤ m) × (m ≤ 7 * (n / 8) + 7)
groups-within t cr {n} {m} size e =
    let all : ℕ = length (with_cr cr t) in
    let least : n ≤ all = omega (arith, cr-length cr t) in
    let most : all ≤ n + 1 = omega (arith, cr-length cr t) in
    omega (arith, sent-count n all least most)
