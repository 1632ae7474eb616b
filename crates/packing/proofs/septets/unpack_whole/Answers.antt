-- Rule 4 is judged whole, then the room; past them all septets are laid over the front of out.
use Prim.Native.Nat.{ℕ, ◌≤◌, ◌<◌}
use mathlib.Core.Path.{◌≡◌, refl, sym, ap, ◌∙◌}
use mathlib.Core.Bool.{true, false}
use mathlib.Core.List.{List}
use native.Mathlib.Omega.{arith}
use borrow.Author.Tests.{lt-ltb, le-ltb}
use lib.ListN.{length}
use Rattle.words.specs.declared.Service.{Service}
use Rattle.lists.specs.Lists.{laid}
use Rattle.words.specs.Judging.{verdict}
use Rattle.stream.specs.Stream.{octets_for, unpacked}
use Rattle.stream.proofs.Stream.{unpacked-length}
use Rattle.stream.specs.SeptetCalls.{septets_fit}
use Rattle.stream.specs.ArrayCalls.{all_septets, all_rules, all_answers, all_leaves, held_count}
use Rattle.stream.proofs.Calls.{fit-held}
use Rattle.stream.proofs.Arrays.{held-septets}
use borrow.Author.Rules.{rules}
use Rattle.words.proofs.Clauses.{answered}
use Rattle.packing.proofs.septets.unpack_whole.Goals as goal
use Rattle.std.specs.Prelude.{Ok}

pub returns-then-not-fits : goal.returns-then-not-fits
unfolding all_rules all_answers all_leaves verdict
returns-then-not-fits c =
    let a = c.args in
    let wrong : septets_fit a.service (length a.octets.now) a.count ≡ false = cc in
    answered (simp wrong (refl, refl))

pub septets_held-all-requires : goal.septets_held-all-requires
septets_held-all-requires c = cc

-- all septets, and how many they are
all : (service : Service) (count : ℕ) (o : List ℕ) {k : ℕ} → k ≡ held_count service (length o) count → unpacked k o ≡ all_septets service count o
all service count o e = ap (λ (n : ℕ). unpacked n o) e ∙ held-septets service count o

size : (service : Service) (count : ℕ) (o : List ℕ) {k : ℕ} → k ≡ held_count service (length o) count → length (all_septets service count o) ≡ k
size service count o {k} e = sym (ap length (all service count o e)) ∙ unpacked-length k o

pub returns-then-out-all : goal.returns-then-out-all
unfolding all_rules all_answers all_leaves verdict
returns-then-out-all c =
    let a = c.args in
    let fit : septets_fit a.service (length a.octets.now) a.count ≡ true = cc in
    let short : length a.out.now < length (all_septets a.service a.count a.octets.now) = omega (arith, size a.service a.count a.octets.now c.septets_held-all.ensures) in
    answered (simp (fit, lt-ltb _ _ short) (refl, refl))

pub unpack_into-requires : goal.unpack_into-requires
unpack_into-requires c =
    let a = c.args in
    let fit : septets_fit a.service (length a.octets.now) a.count ≡ true = cc in
    (fit-held a.service (length a.octets.now) a.count fit ∙ ap octets_for (sym c.septets_held-all.ensures), search rules)

pub returns : goal.returns
unfolding all_rules all_answers all_leaves verdict
returns c =
    let a = c.args in
    let o : List ℕ = a.octets.now in
    let fit : septets_fit a.service (length o) a.count ≡ true = cc in
    let same : length (all_septets a.service a.count o) ≡ c.septets_held-all.result = size a.service a.count o c.septets_held-all.ensures in
    let room : length (all_septets a.service a.count o) ≤ length a.out.now = omega arith in
    answered
    (simp (fit, le-ltb _ _ room) (ap Ok (sym same), c.unpack_into.ensures ∙ ap (λ (l : List ℕ). laid l a.out.now) (all a.service a.count o c.septets_held-all.ensures)))
