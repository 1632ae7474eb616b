-- All septets are unpacked into an array, which has room for them, so that only rule 4 can refuse there; what is kept of them is stored from its front.
use Prim.Native.Nat.{ℕ, ◌≤◌}
use mathlib.Core.Path.{◌≡◌, refl, sym, ap, ◌∙◌, subst}
use mathlib.Core.Bool.{true}
use mathlib.Core.List.{List}
use native.Mathlib.Omega.{arith}
use borrow.Author.Rules.{rules}
use lib.ListN.{length, take, replicate, length-replicate}
use lib.Seq.{length-take-le}
use Rattle.words.specs.declared.Service.{Service}
use Rattle.words.specs.Judging.{verdict}
use Rattle.stream.specs.SeptetCalls.{septets_fit, septets_of, unpack_rules, unpack_answers, unpack_leaves}
use Rattle.stream.specs.ArrayCalls.{all_septets, all_answers, all_leaves, kept_count}
use Rattle.stream.proofs.Given.{Gives}
use Rattle.stream.proofs.Arrays.{kept-count}
use Rattle.stream.proofs.Calls.{unpack-passed, all_most, kept-most, array-done, array-refused, array-length, array-all, array-front}
use Rattle.words.proofs.Clauses.{answered}
use Rattle.packing.proofs.unpack.Goals as goal
use Rattle.std.specs.Prelude.{Ok, Err}

-- the array before
abbrev zeros : List ℕ
zeros = replicate 184 0

zeros-length : length zeros ≡ 184
zeros-length = length-replicate {A = ℕ} 184 0

-- what the array is after septets of some octets were laid over it: the octets fit, they hold n septets, and the array is as long as it was
record Held (service : Service) (o : List ℕ) (count n : ℕ) (array : List ℕ) : Type 0 where
  pub fit : septets_fit service (length o) count ≡ true
  pub size : n ≡ length (all_septets service count o)
  pub laid-over : array ≡ all_leaves service o count zeros
  pub long : length array ≡ 184
  pub room : n ≤ length array

held : (service : Service) (o : List ℕ) (count : ℕ) {n : ℕ} {array : List ℕ} → Ok n ≡ all_answers service o count (length zeros) → array ≡ all_leaves service o count zeros → Held service o count n array
held service o count {n} {array} e left =
    let d = array-done service o count zeros zeros-length n e in
    let long : length array ≡ 184 = array-length service o count zeros zeros-length array d.0 left in
    record { fit = d.0; size = d.1; laid-over = left; long = long; room = omega (arith, d.1, long, all_most service o count d.0) }

-- how many are kept of them
kept : (service : Service) (o : List ℕ) (count : ℕ) {n : ℕ} {array : List ℕ} → Held service o count n array → kept_count service (take n array) ≡ length (septets_of service count o)
kept service o count {n} {array} h =
    ap (kept_count service) (ap (λ (k : ℕ). take k array) h.size ∙ array-all service o count zeros zeros-length array h.fit h.laid-over) ∙ kept-count service count o

pub slice_bounds-septets-end : goal.slice_bounds-septets-end
slice_bounds-septets-end c = let a = c.args in (held a.service a.octets.now a.count (sym c.in_ok-all.was ∙ c.unpack_whole.ensures.answer) c.unpack_whole.ensures.buffer).room

pub slice_bounds-text_length-end : goal.slice_bounds-text_length-end
slice_bounds-text_length-end c =
    let a = c.args in
    sym (length-take-le _ _ (held a.service a.octets.now a.count (sym c.in_ok-all.was ∙ c.unpack_whole.ensures.answer) c.unpack_whole.ensures.buffer).room)

-- there is room for what is kept
within : (service : Service) (o : List ℕ) (count : ℕ) {n m : ℕ} {array : List ℕ} → Held service o count n array → m ≡ kept_count service (take n array) → m ≤ length array
within service o count h e = omega (arith, e, kept service o count h, kept-most service o count, all_most service o count h.fit, h.long)

pub slice_bounds-septets-end-2 : goal.slice_bounds-septets-end-2
slice_bounds-septets-end-2 c =
    let a = c.args in
    let h = held a.service a.octets.now a.count (sym c.in_ok-all.was ∙ c.unpack_whole.ensures.answer) c.unpack_whole.ensures.buffer in
    within a.service a.octets.now a.count h c.text_length-n.ensures.answer

pub slice_bounds-store-end : goal.slice_bounds-store-end
slice_bounds-store-end c =
    let a = c.args in
    let h = held a.service a.octets.now a.count (sym c.in_ok-all.was ∙ c.unpack_whole.ensures.answer) c.unpack_whole.ensures.buffer in
    sym (length-take-le _ _ (within a.service a.octets.now a.count h c.text_length-n.ensures.answer))

pub returns : goal.returns
returns c =
    let a = c.args in
    let array : List ℕ = c.unpack_whole.new.out in
    let h = held a.service a.octets.now a.count (sym c.in_ok-all.was ∙ c.unpack_whole.ensures.answer) c.unpack_whole.ensures.buffer in
    let front : take c.text_length-n.result array ≡ septets_of a.service a.count a.octets.now =
    ap (λ (n : ℕ). take n array) (c.text_length-n.ensures.answer ∙ kept a.service a.octets.now a.count h)
    ∙ array-front a.service a.octets.now a.count zeros zeros-length array h.fit h.laid-over in
    answered
    (unpack-passed a.service a.octets.now a.out.now a.count h.fit
    (subst (λ (s : List ℕ). Gives s a.out.now c.store.result c.store.new.out) front (c.store.ensures.answer, c.store.ensures.buffer)))

pub returns-in_err-all : goal.returns-in_err-all
unfolding unpack_rules unpack_answers unpack_leaves verdict
returns-in_err-all c =
    let a = c.args in
    let told : c.from_residual.result ≡ Err c.in_err-all.field-0.0 = search rules in
    let f = array-refused a.service a.octets.now a.count zeros zeros-length c.in_err-all.field-0.0 (sym c.in_err-all.was ∙ c.unpack_whole.ensures.answer) in
    answered (simp f.0 (told ∙ ap Err f.1, refl))
