-- The septets of all pages fit the array, and those at its front that are left without closing CRs are the content, which is read.
-- Assumes nothing.
use Rattle.std.proofs.Common.{◌∙◌, sym, false, List, ℕ, replicate, length-take-le, arith}
use Rattle.pages.proofs.Joining.{content-room, content-front, septets-join}
use Rattle.words.proofs.Clauses.{answered}
use Rattle.joining.proofs.Pages.join_septets.Goals as goal

pub slice_bounds-septets-end-2 : goal.slice_bounds-septets-end-2
slice_bounds-septets-end-2 c = let s = c.args.self.now in
    content-room false s.blocks.now (replicate 1395 0) c.unpack.new.out s.total s.right s.counted (omega arith) c.unpack.ensures c.text_length-n.result c.text_length-n.ensures.answer

pub slice_bounds-septets_to_text-end : goal.slice_bounds-septets_to_text-end
slice_bounds-septets_to_text-end c = let s = c.args.self.now in
    sym (length-take-le _ _ (content-room false s.blocks.now (replicate 1395 0) c.unpack.new.out s.total s.right s.counted (omega arith) c.unpack.ensures c.text_length-n.result c.text_length-n.ensures.answer))

pub returns : goal.returns
returns c = let s = c.args.self.now in
    let o : List ℕ = s.blocks.now in
    let run = content-front false o (replicate 1395 0) c.unpack.new.out s.total s.right s.counted (omega arith) c.unpack.ensures c.text_length-n.result c.text_length-n.ensures.answer in
    let s = septets-join o c.args.out.now _ s.right s.octets run in
    answered (c.septets_to_text.ensures.answer ∙ s.0, c.septets_to_text.ensures.buffer ∙ s.1)
