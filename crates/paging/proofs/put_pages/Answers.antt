-- The blocks of the pages passed are laid over the front of out, one a turn. Assumes nothing.
use Prim.Native.Nat.{ℕ, ◌+◌, ◌-◌, ◌*◌, ◌≤◌}
use mathlib.Core.Path.{◌≡◌, sym, ap, ap₂, ◌∙◌}
use mathlib.Core.Bool.{Bool}
use mathlib.Core.List.{List, ◌++◌, append_assoc}
use native.Mathlib.Nat.{add_comm}
use native.Mathlib.Omega.{arith}
use borrow.Author.Rules.{rules}
use borrow.Rule.Slice.PartMut.{put_mid}
use lib.ListN.{length, take, drop}
use lib.Seq.{drop-drop}
use Rattle.lists.specs.Lists.{laid}
use Rattle.lists.proofs.Laid.{laid_then, laid-length}
use Rattle.pages.specs.Blocks.{block_of}
use Rattle.pages.specs.Written.{page_block, blocks_from}
use Rattle.pages.proofs.Blocks.{page-block-length, blocks-length, blocks_more}
use Rattle.paging.specs.Inner.{in_units, held_in}
use Rattle.paging.proofs.put_pages.Goals as goal

-- m places from a on
middle : (a m : ℕ) (xs ys : List ℕ) → put_mid a (a + m - a) xs ys ≡ take a xs ++ ys ++ drop (a + m) xs
middle a m xs ys =
    let end : a + (a + m - a) ≡ a + m = omega arith in
    ap (λ (l : List ℕ). take a xs ++ (ys ++ l)) (drop-drop (a + m - a) a xs ∙ ap (λ (j : ℕ). drop j xs) end)
    ∙ sym (append_assoc (take a xs) ys (drop (a + m) xs))

pub loop-k-init : goal.loop-k-init
unfolding laid blocks_from
loop-k-init c = search rules

pub loop-k-preserved : goal.loop-k-preserved
loop-k-preserved c = let h = c.args.head in
    let ucs2 : Bool = in_units c.args.content in
    let s : List ℕ = held_in c.args.content in
    let k : ℕ = c.loop-k.k in
    let out : List ℕ = c.loop-k.out in
    let lent : List ℕ = c.args.out.now in
    let page : ℕ → List ℕ = page_block h.sequence h.identifier h.coding h.total ucs2 s in
    let b : ℕ → List ℕ = blocks_from h.sequence h.identifier h.coding h.total ucs2 s 1 in
    let next : c.copy_from_slice.new.self ≡ page (1 + k) =
    c.copy_from_slice.ensures.after
    ∙ c.page_block-block.ensures.answer
    ∙ ap (block_of (record { sequence = h.sequence; identifier = h.identifier; coding = h.coding; total = h.total; number = k + 1 })) c.put_page.ensures
    ∙ ap page (add_comm k 1) in
    let more : put_mid (88 * k) (88 * k + 88 - 88 * k) out c.copy_from_slice.new.self ≡ laid (b (k + 1)) lent =
    middle (88 * k) 88 out c.copy_from_slice.new.self
    ∙ ap₂ (λ (l x : List ℕ). take (88 * k) l ++ x ++ drop (88 * k + 88) l) c.loop-k.invariant.1 next
    ∙ laid_then (b k) (page (1 + k)) lent (88 * k) 88 (blocks-length h.sequence h.identifier h.coding h.total ucs2 s 1 k) (page-block-length h.sequence h.identifier h.coding h.total ucs2 s (1 + k))
    ∙ ap (λ (l : List ℕ). laid l lent) (sym (blocks_more h.sequence h.identifier h.coding h.total ucs2 s 1 k)) in
    let fits : length (b (k + 1)) ≤ length lent = omega (arith, blocks-length h.sequence h.identifier h.coding h.total ucs2 s 1 (k + 1), c.requires.total_bound.1, c.loop-k-test.true) in
    (ap length more ∙ laid-length (b (k + 1)) lent fits, more)
