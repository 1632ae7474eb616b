-- The tests are the rules in their order; past them the text is packed, or its page, and the room is judged there.
use Prim.Native.Nat.{ℕ, ◌≤◌, ◌<◌}
use mathlib.Core.Path.{◌≡◌, refl, sym, ap, ap₂, ◌∙◌, subst}
use mathlib.Core.Bool.{Bool, true, false}
use mathlib.Core.List.{List}
use native.Mathlib.Omega.{arith}
use borrow.Author.Tests.{lt-ltb, le-ltb}
use lib.Dec.{leb}
use lib.ListN.{length, take}
use lib.Seq.{take_all}
use Rattle.words.specs.declared.Refusal.TheVariants.{NoSeptet}
use Rattle.words.specs.declared.Service.{Service}
use Rattle.words.specs.Sizes.{most_septets, is_old_page}
use Rattle.lists.specs.Lists.{first_place}
use Rattle.words.specs.Judging.{verdict}
use Rattle.stream.specs.Stream.{packed}
use Rattle.stream.specs.Digits.{low_of}
use Rattle.stream.specs.UssdPacking.{with_cr}
use Rattle.stream.specs.Pages.{page}
use Rattle.stream.specs.SeptetCalls.{octets_of, count_of, pack_rules, pack_answers, pack_leaves}
use Rattle.stream.specs.Inner.{is_page, counted_as}
use Rattle.stream.specs.ArrayCalls.{adds_under}
use Rattle.stream.proofs.Given.{Gives}
use Rattle.stream.proofs.Calls.{none-high, pack-passed}
use Rattle.stream.proofs.LowBits.{low_same}
use Rattle.stream.proofs.Pages.{page-below}
use Rattle.stream.proofs.Sent.{most-182, page-most, page-octets, closed-octets}
use Rattle.words.proofs.Clauses.{answered}
use Rattle.packing.proofs.pack.Goals as goal
use Rattle.std.specs.Prelude.{Result, Err}
use Rattle.words.specs.declared.Refusal.{Refusal}

pub returns-then-is_old_page : goal.returns-then-is_old_page
unfolding pack_rules pack_answers pack_leaves verdict
returns-then-is_old_page c = let a = c.args in
    let old : is_old_page a.service ≡ true = sym c.is_old_page.ensures.answer ∙ c.if-is_old_page.true in
    answered
    (simp old (refl, refl))

-- what stands past the rules: the page is new, no septet is wide, and the text is within the service's size
record Passed (service : Service) (s : List ℕ) : Type 0 where
  pub new : is_old_page service ≡ false
  pub low : length s ≤ first_place (leb 128) s
  pub most : length s ≤ most_septets service

-- what is stored is the service's octets
done : (service : Service) (s out : List ℕ) {stored : Result ℕ Refusal} {left xs : List ℕ} → Passed service s → xs ≡ octets_of service s → Gives xs out stored left
    → (counted_as stored (count_of service s) ≡ pack_answers service s (length out)) × (left ≡ pack_leaves service s out)
done service s out {stored} {left} p same gives = pack-passed service s out p.new p.low p.most (subst (λ (l : List ℕ). Gives l out stored left) same gives)

pub returns-then-high-n : goal.returns-then-high-n
unfolding pack_rules pack_answers pack_leaves verdict
returns-then-high-n c =
    let s : List ℕ = c.args.septets.now in
    let new : is_old_page c.args.service ≡ false = cc in
    let high : first_place (leb 128) s < length s = omega (arith, c.first_wide-high.ensures.answer) in
    answered (simp (new, lt-ltb _ _ high) (ap (λ (k : ℕ). Err (NoSeptet k)) c.first_wide-high.ensures.answer, refl))

pub returns-then-most_septets-n : goal.returns-then-most_septets-n
unfolding pack_rules pack_answers pack_leaves verdict
returns-then-most_septets-n c =
    let s : List ℕ = c.args.septets.now in
    let new : is_old_page c.args.service ≡ false = cc in
    let low : length s ≤ first_place (leb 128) s = omega (arith, c.first_wide-high.ensures.answer) in
    let over : most_septets c.args.service < length s = omega (arith, c.most_septets.ensures.answer) in
    answered (simp (new, le-ltb _ _ low, lt-ltb _ _ over) (refl, refl))

pub returns-then-is_page : goal.returns-then-is_page
returns-then-is_page c =
    let a = c.args in
    let s : List ℕ = a.septets.now in
    let p : Passed a.service s = record { new = cc; low = omega (arith, c.first_wide-high.ensures.answer); most = omega (arith, c.most_septets.ensures.answer) } in
    let paged : is_page a.service ≡ true = sym c.is_page.ensures ∙ c.if-is_page.true in
    let whole : take 93 s ≡ s = take_all 93 s (omega (arith, p.most, page-most a.service paged)) in
    let same : packed (low_of 7 c.page_of-page.result) ≡ octets_of a.service s =
    ap (λ (l : List ℕ). packed (low_of 7 l)) (c.page_of-page.ensures.answer ∙ ap page whole)
    ∙ ap packed (low_same 7 (page s) (page-below s (none-high s p.low)))
    ∙ page-octets a.service s paged in
    let d = done a.service s a.out.now p same (c.send_page.ensures.answer, c.send_page.ensures.buffer) in
    record { answer = c.counted.ensures ∙ ap (counted_as c.send_page.result) c.length_count-count.ensures.answer ∙ d.0; buffer = d.1 }

pub send-requires : goal.send-requires
send-requires c = omega (arith, c.most_septets.ensures.answer, most-182 c.args.service)

pub returns : goal.returns
returns c =
    let a = c.args in
    let s : List ℕ = a.septets.now in
    let p : Passed a.service s = record { new = cc; low = omega (arith, c.first_wide-high.ensures.answer); most = omega (arith, c.most_septets.ensures.answer) } in
    let plain : low_of 7 s ≡ s = low_same 7 s (none-high s p.low) in
    let same : packed (with_cr c.adds_cr-cr.result (low_of 7 s)) ≡ octets_of a.service s =
    ap₂ (λ (b : Bool) (l : List ℕ). packed (with_cr b l)) (c.adds_cr-cr.ensures.answer ∙ ap (adds_under a.service) plain) plain
    ∙ closed-octets a.service s (sym c.is_page.ensures ∙ c.if-is_page.false) p.new in
    let d = done a.service s a.out.now p same (c.send.ensures.answer, c.send.ensures.buffer) in
    record { answer = c.counted-2.ensures ∙ ap (counted_as c.send.result) c.length_count-count.ensures.answer ∙ d.0; buffer = d.1 }
