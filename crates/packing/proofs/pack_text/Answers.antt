-- The tests are the rules in their order; past them the first n septets are packed, or their page, and the room is judged there.
use Prim.Native.Nat.{ℕ, ◌≤◌, ◌<◌}
use mathlib.Core.Path.{◌≡◌, refl, sym, ap, ◌∙◌, subst}
use mathlib.Core.Bool.{Bool, true, false}
use mathlib.Core.List.{List}
use native.Mathlib.Omega.{arith}
use borrow.Author.Tests.{lt-ltb}
use lib.ListN.{length, take, length-take}
use lib.Seq.{take_all}
use native.Mathlib.Nat.{min-le_left}
use Rattle.words.specs.declared.Service.{Service}
use Rattle.words.specs.Sizes.{most_septets, is_old_page}
use Rattle.words.specs.Judging.{verdict}
use Rattle.stream.specs.Stream.{packed}
use Rattle.stream.specs.Digits.{low_of}
use Rattle.stream.specs.UssdPacking.{with_cr}
use Rattle.stream.specs.Pages.{page}
use Rattle.stream.specs.SeptetCalls.{octets_of, travels}
use Rattle.stream.specs.ArrayCalls.{array_rules, array_answers, array_leaves, adds_under}
use Rattle.stream.specs.Inner.{is_page, counted_as}
use Rattle.stream.proofs.Given.{Gives}
use Rattle.stream.proofs.Calls.{array-passed}
use Rattle.stream.proofs.LowBits.{low_part, low-page}
use Rattle.stream.proofs.Sent.{most-182, page-most, page-octets, closed-octets}
use borrow.Author.Rules.{rules}
use Rattle.words.proofs.Clauses.{answered}
use Rattle.packing.proofs.pack_text.Goals as goal
use Rattle.std.specs.Prelude.{Result}
use Rattle.words.specs.declared.Refusal.{Refusal}

pub returns-then-is_old_page : goal.returns-then-is_old_page
unfolding array_rules array_answers array_leaves verdict
returns-then-is_old_page c = let a = c.args in
    let old : is_old_page a.service ≡ true = sym c.is_old_page.ensures.answer ∙ c.if-is_old_page.true in
    answered
    (simp old (refl, refl))

pub returns-then-most_septets-n : goal.returns-then-most_septets-n
unfolding array_rules array_answers array_leaves verdict
returns-then-most_septets-n c =
    let a = c.args in
    let new : is_old_page a.service ≡ false = cc in
    let over : most_septets a.service < a.n = omega (arith, c.most_septets.ensures.answer) in
    answered (simp (new, lt-ltb _ _ over) (refl, refl))

-- what stands past both rules: the page is new, and n is within the service's size
record Passed (service : Service) (n : ℕ) : Type 0 where
  pub new : is_old_page service ≡ false
  pub most : n ≤ most_septets service

-- past them, what is stored is the service's octets
done : (service : Service) (s : List ℕ) (n : ℕ) (out : List ℕ) {stored : Result ℕ Refusal} {left xs : List ℕ} → Passed service n → xs ≡ octets_of service (take n (low_of 7 s)) → Gives xs out stored left
    → (counted_as stored (travels service n) ≡ array_answers service s n (length out)) × (left ≡ array_leaves service s n out)
done service s n out {stored} {left} p same gives = array-passed service s n out p.new p.most (subst (λ (l : List ℕ). Gives l out stored left) same gives)

pub front-text-requires : goal.front-text-requires
front-text-requires c = omega (arith, c.most_septets.ensures.answer, most-182 c.args.service)

pub returns-then-is_page : goal.returns-then-is_page
returns-then-is_page c =
    let a = c.args in
    let s : List ℕ = a.septets.now in
    let p : Passed a.service a.n = record { new = cc; most = omega (arith, c.most_septets.ensures.answer) } in
    let paged : is_page a.service ≡ true = sym c.is_page.ensures ∙ c.if-is_page.true in
    let few : a.n ≤ 93 = omega (arith, p.most, page-most a.service paged) in
    let whole : take 93 (take a.n s) ≡ take a.n s = take_all 93 (take a.n s) (omega (arith, length-take a.n s, min-le_left a.n (length s))) in
    let same : packed (low_of 7 c.page_of-page.result) ≡ octets_of a.service (take a.n (low_of 7 s)) =
    ap (λ (l : List ℕ). packed (low_of 7 l)) (c.page_of-page.ensures.answer ∙ ap (λ (l : List ℕ). page (take 93 l)) c.front-text.ensures ∙ ap page whole)
    ∙ ap packed (low-page (take a.n s) ∙ ap page (sym (low_part 7 a.n 0 s)))
    ∙ page-octets a.service (take a.n (low_of 7 s)) paged in
    let d = done a.service s a.n a.out.now p same (c.send_page.ensures.answer, c.send_page.ensures.buffer) in
    record { answer = c.counted.ensures ∙ ap (counted_as c.send_page.result) c.length_count-count.ensures.answer ∙ d.0; buffer = d.1 }

pub send_front-requires : goal.send_front-requires
send_front-requires c = (omega (arith, c.most_septets.ensures.answer, most-182 c.args.service), search rules)

pub returns : goal.returns
returns c =
    let a = c.args in
    let s : List ℕ = a.septets.now in
    let t : List ℕ = take a.n (low_of 7 s) in
    let p : Passed a.service a.n = record { new = cc; most = omega (arith, c.most_septets.ensures.answer) } in
    let same : packed (with_cr c.adds_cr-cr.result t) ≡ octets_of a.service t =
    ap (λ (b : Bool). packed (with_cr b t)) (c.adds_cr-cr.ensures.answer ∙ ap (λ (l : List ℕ). adds_under a.service (low_of 7 l)) c.front-text.ensures ∙ ap (adds_under a.service) (sym (low_part 7 a.n 0 s)))
    ∙ closed-octets a.service t (sym c.is_page.ensures ∙ c.if-is_page.false) p.new in
    let d = done a.service s a.n a.out.now p same (c.send_front.ensures.answer, c.send_front.ensures.buffer) in
    record { answer = c.counted-2.ensures ∙ ap (counted_as c.send_front.result) c.length_count-count.ensures.answer ∙ d.0; buffer = d.1 }
