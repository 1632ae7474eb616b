-- The units of all pages fit the array, and those at its front that are left without closing CRs are the content, which is stored.
-- Assumes nothing.
use Rattle.std.proofs.Common.{◌∙◌, sym, true, List, ℕ, replicate, length-take-le, arith}
use Rattle.pages.proofs.Joining.{content-room, content-front, units-join}
use Rattle.words.proofs.Clauses.{answered}
use Rattle.joining.proofs.Pages.join_units.Goals as goal

pub slice_bounds-units-end-2 : goal.slice_bounds-units-end-2
slice_bounds-units-end-2 c = let s = c.args.self.now in
    content-room true s.blocks.now (replicate 615 0) c.take.new.out s.total s.right s.counted (omega arith) c.take.ensures c.kept-n.result c.kept-n.ensures.answer

pub slice_bounds-store-end : goal.slice_bounds-store-end
slice_bounds-store-end c = let s = c.args.self.now in
    sym (length-take-le _ _ (content-room true s.blocks.now (replicate 615 0) c.take.new.out s.total s.right s.counted (omega arith) c.take.ensures c.kept-n.result c.kept-n.ensures.answer))

pub returns : goal.returns
returns c = let s = c.args.self.now in
    let o : List ℕ = s.blocks.now in
    let run = content-front true o (replicate 615 0) c.take.new.out s.total s.right s.counted (omega arith) c.take.ensures c.kept-n.result c.kept-n.ensures.answer in
    let s = units-join o c.args.out.now _ s.right run in
    answered (c.store.ensures.answer ∙ s.0, c.store.ensures.buffer ∙ s.1)
