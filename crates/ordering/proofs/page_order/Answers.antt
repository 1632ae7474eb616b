-- After each block the table holds the places of the numbers so far: a number that has a place already is repeated, and in the end the table is the
-- defined one. Assumes nothing.
use Rattle.std.proofs.Common.{rules, ◌≡◌, ◌∙◌, sym, ap, ap₂, subst, ℕ, ◌+◌, ◌-◌, ◌<◌, eqb, take, drop, refl, Bool, not, ◌&&◌, List, length, get_or, slice_set, arith}
use borrow.Author.Tests.{not-true, not-false}
use Rattle.filling.specs.Numbered.{lacks}
use Rattle.filling.proofs.Table.{placing-none, placing-more, belonging, lacking}
use Rattle.pages.specs.declared.Header.{Header}
use Rattle.pages.specs.Blocks.{header_of}
use Rattle.pages.specs.Joined.{block_count, block_at, header_at, number_at, total_at, of_one_message, alike_at}
use Rattle.pages.proofs.Placing.{total-small}
use Rattle.std.specs.List.{list_all}
use Rattle.pages.proofs.Table.{all-there, chunk-block, chunk-none, chunk-first, BlocksPlaced, number-at-small, order-none, order-foreign, order-repeated, order-missing, order-right}
use Rattle.ordering.proofs.page_order.Goals as goal

-- what is read of the first block and of block i, as the definitions say it
total-is : (o f : List ℕ) (head : Header) → f ≡ block_at o 0 → head ≡ header_of f → head.total ≡ total_at o 0
unfolding header_at
total-is o f head e h = ap (λ (h : Header). h.total) (h ∙ ap header_of e)

belongs-is : (o f b : List ℕ) (i : ℕ) (r : Bool) → f ≡ block_at o 0 → b ≡ block_at o i
    → r ≡ (of_one_message f b && not (lacks (header_of b).total (header_of b).number)) → r ≡ belonging (number_at o) (total_at o) (alike_at o) i
unfolding header_at
belongs-is o f b i r p q e = e ∙ ap₂ (λ (a b : List ℕ). of_one_message a b && not (lacks (header_of b).total (header_of b).number)) p q

number_is : (o b : List ℕ) (i k : ℕ) → b ≡ block_at o i → k ≡ (header_of b).number → k ≡ number_at o i
unfolding header_at
number_is o b i k q e = e ∙ ap (λ (b : List ℕ). (header_of b).number) q

total-within : {n : ℕ} (f places : List ℕ) (head : Header) → head ≡ header_of f → length places ≡ 16 → n ≡ head.total → n < length places
total-within f places head e long n = omega (arith, n, ap (λ (h : Header). h.total) e, total-small f, long)

lacking-is : (o places : List ℕ) (n : ℕ) (r : Bool) → n ≡ total_at o 0 → n < length places → r ≡ list_all (λ place. not (eqb place 0)) (take (n + 1 - 1) (drop 1 places))
    → r ≡ not (lacking places (total_at o 0))
lacking-is o places n r e h p =
    let size : n + 1 - 1 ≡ n = omega arith in
    p ∙ ap (λ (m : ℕ). list_all (λ place. not (eqb place 0)) (take m (drop 1 places))) size ∙ all-there places n h ∙ ap (λ (n : ℕ). not (lacking places n)) e

pub returns-in_err-first : goal.returns-in_err-first
returns-in_err-first c = record { answer = search rules ∙ sym (order-none _ (chunk-none c.args.blocks.now _ c.as_chunks.ensures.front c.in_err-first.ensures.value)) }

pub loop-i-init : goal.loop-i-init
loop-i-init c = let o : List ℕ = c.args.blocks.now in placing-none (number_at o) (total_at o) (alike_at o) (block_count o) 16

pub returns-then-not-belongs : goal.returns-then-not-belongs
returns-then-not-belongs c = record {
  answer = let o : List ℕ = c.args.blocks.now in
      let first = chunk-first o _ c.as_chunks.ensures.front _ c.in_ok-first.ensures.value in
      let here : c.loop-i.i < block_count o = omega (arith, c.loop-i-test.true, c.as_chunks.ensures.front_len) in
      let block = chunk-block o _ c.as_chunks.ensures.front c.loop-i.i here in
      sym (order-foreign _ _ here (sym (belongs-is _ _ _ _ _ first.1 block c.belongs.ensures) ∙ c.if-not-belongs.true));
}

pub returns-then-places-k-ne0 : goal.returns-then-places-k-ne0
returns-then-places-k-ne0 c = record {
  answer = let o : List ℕ = c.args.blocks.now in
      let here : c.loop-i.i < block_count o = omega (arith, c.loop-i-test.true, c.as_chunks.ensures.front_len) in
      let block = chunk-block o _ c.as_chunks.ensures.front c.loop-i.i here in
      let places : List ℕ = c.loop-i.places in
      let number = number_is _ _ _ _ block c.number_in-k.ensures.0 in
      sym (order-repeated _ c.loop-i.invariant here (λ e. omega (arith, ap (λ (k : ℕ). get_or places k 0) number, c.if-places-k-ne0.true)));
}

pub loop-i-preserved : goal.loop-i-preserved
loop-i-preserved c =
    let o : List ℕ = c.args.blocks.now in
    let i : ℕ = c.loop-i.i in
    let first = chunk-first o _ c.as_chunks.ensures.front _ c.in_ok-first.ensures.value in
    let here : i < block_count o = omega (arith, c.loop-i-test.true, c.as_chunks.ensures.front_len) in
    let block = chunk-block o _ c.as_chunks.ensures.front i here in
    let places : List ℕ = c.loop-i.places in
    let number = number_is _ _ _ _ block c.number_in-k.ensures.0 in
    subst (λ (k : ℕ). BlocksPlaced o (i + 1) (slice_set places k (i + 1))) (sym number)
    (placing-more c.loop-i.invariant here (number-at-small o i) (sym (belongs-is _ _ _ _ _ first.1 block c.belongs.ensures) ∙ c.if-not-belongs.false)
    (omega (arith, ap (λ (k : ℕ). get_or places k 0) number, c.if-places-k-ne0.false)))

pub slice_bounds-all_there-end : goal.slice_bounds-all_there-end
slice_bounds-all_there-end c =
    let places : List ℕ = c.loop-i.places in
    let within = total-within _ places _ c.read_header.ensures.answer c.loop-i.invariant.long refl in
    omega (arith, within)

pub returns-then-not-all_there : goal.returns-then-not-all_there
returns-then-not-all_there c = record {
  answer = let o : List ℕ = c.args.blocks.now in
      let first = chunk-first o _ c.as_chunks.ensures.front _ c.in_ok-first.ensures.value in
      let there = lacking-is o _ _ _ (total-is _ _ _ first.1 c.read_header.ensures.answer) (total-within _ _ _ c.read_header.ensures.answer c.loop-i.invariant.long refl) c.all_there.ensures in
      let all : c.loop-i.i ≡ block_count o = omega (arith, c.loop-i.auto.i-end, c.loop-i-test.false, c.as_chunks.ensures.front_len) in
      sym (order-missing _ c.loop-i.invariant all (not-false _ (sym there ∙ c.if-not-all_there.true)));
}

pub returns : goal.returns
returns c = record {
  answer = let o : List ℕ = c.args.blocks.now in
      let first = chunk-first o _ c.as_chunks.ensures.front _ c.in_ok-first.ensures.value in
      let there = lacking-is o _ _ _ (total-is _ _ _ first.1 c.read_header.ensures.answer) (total-within _ _ _ c.read_header.ensures.answer c.loop-i.invariant.long refl) c.all_there.ensures in
      let all : c.loop-i.i ≡ block_count o = omega (arith, c.loop-i.auto.i-end, c.loop-i-test.false, c.as_chunks.ensures.front_len) in
      sym (order-right _ c.loop-i.invariant all (omega (arith, first.0)) (not-true _ (sym there ∙ c.if-not-all_there.false)));
}
