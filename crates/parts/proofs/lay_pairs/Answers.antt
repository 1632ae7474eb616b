-- Lemmas here are over a place of the walk by the prover's name: over plain values each would take every value of the place, and be longer than what it says.
-- `lay_pairs` meets its contract: the run is laid with the escape before it, which is taken away, and its septets tell where it ends. Assumes nothing.
use mathlib.Core.Path.{◌≡◌, refl, sym, ap, subst, ◌∙◌}
use mathlib.Core.Bool.{Bool, cond}
use mathlib.Core.List.{List}
use Prim.Native.Nat.{ℕ, ◌+◌, ◌-◌, ◌≤◌}
use native.Mathlib.Omega.{arith}
use lib.ListN.{length, set, take, drop}
use Rattle.letters.specs.Writing.{septets_of}
use Rattle.parted.specs.Inner.{codes_in, open_after}
use Rattle.parted.proofs.Windows.{PlaceAt}
use Rattle.parted.proofs.WriteSteps.{laid_at, at_length, run-there, pairs-whole, pairs-open, pairs_next, run_fits}
use borrow.Author.Rules.{rules}
use Rattle.parts.proofs.lay_pairs.Lts as lts
use Rattle.parts.proofs.lay_pairs.Reads as reads
use Rattle.parts.proofs.lay_pairs.Tie as tie
use Rattle.parts.proofs.lay_pairs.Goals.{else-from, then-from}
use Rattle.parts.proofs.lay_pairs.Goals as goal

-- the array has its length behind the escape and the run
encoded-length : (c : lts.After-encode_part-arg tie.the-claims reads.Pre reads.Post tie.handed_clauses) → let a = c.args in
    length (laid_at (a.over - 1) (take (a.n + 1) (septets_of (drop a.from.unit a.units.now))) a.septets.now) ≡ length a.septets.now
encoded-length c =
    let a = c.args in
    let some = (c.requires.over_nonzero c.if-from.true).0 in
    at_length (a.over - 1) (take (a.n + 1) (septets_of (drop a.from.unit a.units.now))) a.septets.now (run_fits (a.over - 1) (a.n + 1) (septets_of (drop a.from.unit a.units.now)) a.septets.now (omega (arith, c.requires.codable.1)))

-- however it is laid, the run is there
laid-is : (c : lts.Joined1 tie.the-claims reads.Pre reads.Post tie.handed_clauses) → let a = c.args in
    (m : ℕ) → PlaceAt a.units.now m a.from.unit a.from.half → m + a.n ≤ length (septets_of a.units.now)
    → c.if-from.septets ≡ laid_at a.over (take a.n (drop m (septets_of a.units.now))) a.septets.now
laid-is c m p h =
    let a = c.args in
    let t : List ℕ = a.units.now in
    elim c.if-from.branch [
      | then-from w ↦ w.septets-is
          ∙ ap (λ (l : List ℕ). set l (a.over - 1) 0) w.encode_part.ensures
          ∙ pairs-open t c.requires.codable.0 m a.from.unit a.from.half p a.n h w.if-from.true a.septets.now a.over (c.requires.over_nonzero w.if-from.true).0 c.requires.codable.1 (c.requires.over_nonzero w.if-from.true).1
      | else-from w ↦ w.septets-is ∙ w.encode_part-else-from.ensures ∙ pairs-whole t c.requires.codable.0 m a.from.unit a.from.half p a.n h w.if-from.false a.septets.now a.over
    ]

left-length : (c : lts.Joined1 tie.the-claims reads.Pre reads.Post tie.handed_clauses) → length c.if-from.septets ≡ length c.args.septets.now
left-length c =
    let a = c.args in
    let w = c.requires.by_index in
    ap length (laid-is c w.0 w.1.0 w.1.1)
    ∙ at_length a.over (take a.n (drop w.0 (septets_of a.units.now))) a.septets.now (run_fits a.over a.n (drop w.0 (septets_of a.units.now)) a.septets.now c.requires.codable.1)

-- and its septets tell where it ends
next-is : (c : lts.Joined1 tie.the-claims reads.Pre reads.Post tie.handed_clauses) (codes : ℕ) (half : Bool) → let a = c.args in
    (codes ≡ codes_in (take (a.over + a.n - a.over) (drop a.over c.if-from.septets))) × (half ≡ open_after a.from.half (take (a.over + a.n - a.over) (drop a.over c.if-from.septets)))
    → (m : ℕ) → PlaceAt a.units.now m a.from.unit a.from.half → m + a.n ≤ length (septets_of a.units.now) → PlaceAt a.units.now (m + a.n) (a.from.unit + codes) half
next-is c codes half e m p h =
    let a = c.args in
    let t : List ℕ = a.units.now in
    let n = pairs_next t c.requires.codable.0 m a.from.unit a.from.half p a.n h a.septets.now a.over c.requires.codable.1 c.if-from.septets _ (laid-is c m p h) refl in
    let w : List ℕ = take (a.over + a.n - a.over) (drop a.over c.if-from.septets) in
    subst (λ (b : Bool). PlaceAt t (m + a.n) (a.from.unit + codes) b) (sym e.1) (subst (λ (k : ℕ). PlaceAt t (m + a.n) (a.from.unit + k) (open_after a.from.half w)) (sym e.0) n)

pub encode_part-requires : goal.encode_part-requires
encode_part-requires c = let a = c.args in
    let w = c.requires.by_index in
    let half = c.if-from.true in
    let some = (c.requires.over_nonzero half).0 in
    let there : a.n + 1 ≤ length (septets_of (drop a.from.unit a.units.now)) =
    subst (λ (b : Bool). a.n + cond b 1 0 ≤ length (septets_of (drop a.from.unit a.units.now))) half (run-there a.units.now c.requires.codable.0 w.0 a.from.unit a.from.half w.1.0 a.n w.1.1) in
    (c.requires.codable.0, w.1.0.within, omega (arith, c.requires.codable.1), c.requires.codable.2, there)

pub encode_part-requires-else-from : goal.encode_part-requires-else-from
encode_part-requires-else-from c = let a = c.args in
    let w = c.requires.by_index in
    let there : a.n + 0 ≤ length (septets_of (drop a.from.unit a.units.now)) =
    subst (λ (b : Bool). a.n + cond b 1 0 ≤ length (septets_of (drop a.from.unit a.units.now))) c.if-from.false (run-there a.units.now c.requires.codable.0 w.0 a.from.unit a.from.half w.1.0 a.n w.1.1) in
    (c.requires.codable.0, w.1.0.within, c.requires.codable.1, c.requires.codable.2, omega arith)

pub overflow_add-result : goal.overflow_add-result
overflow_add-result c = let w = c.requires.by_index in
    let within : c.args.from.unit + c.run_of-run.result.codes ≤ length c.args.units.now = (next-is c.before.before.before.before.before _ _ c.run_of-run.ensures w.0 w.1.0 w.1.1).within in
    search rules

pub returns : goal.returns
returns c =
    record { by_index_2 = next-is c.before.before.before.before.before _ _ c.run_of-run.ensures; by_index_3 = laid-is c.before.before.before.before.before }
