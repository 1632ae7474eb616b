-- The length is refused, or there is no block, or the first block's coding octet, which no service refuses by itself, decides the rules that are left.
-- Assumes nothing.
use Rattle.std.proofs.Common.{◌≡◌, ap, ◌∙◌, ◌≤◌, List, ℕ, length, arith}
use Rattle.pages.specs.Blocks.{header_of}
use Rattle.pages.specs.Joined.{header_at}
use Rattle.pages.proofs.Joining.{octet-read-here, first-header, join-broken, join-none, join-read}
use Rattle.words.proofs.Clauses.{answered}
use Rattle.joining.proofs.join_pages.Goals as goal

pub returns-then-blocks-ne0 : goal.returns-then-blocks-ne0
returns-then-blocks-ne0 c = answered (join-broken c.args.blocks.now c.args.out.now c.if-blocks-ne0.true)

pub returns-then-blocks-eq0 : goal.returns-then-blocks-eq0
returns-then-blocks-eq0 c = answered (join-none c.args.blocks.now c.args.out.now c.if-blocks-ne0.false c.if-blocks-eq0.true)

pub join_held-requires : goal.join_held-requires
join_held-requires c = let o : List ℕ = c.args.blocks.now in
    let long : 88 ≤ length o = omega (arith, c.if-blocks-ne0.false, c.if-blocks-eq0.false) in
    (long, c.read_header-head.ensures.answer ∙ ap header_of c.block_at.ensures.answer ∙ first-header o long)

pub returns-in_err-reading : goal.returns-in_err-reading
returns-in_err-reading c = answered (absurd (octet-read-here _ _ c.in_err-reading.ensures.answer))

pub returns : goal.returns
returns c = let o : List ℕ = c.args.blocks.now in
    let long : 88 ≤ length o = omega (arith, c.if-blocks-ne0.false, c.if-blocks-eq0.false) in
    let first : c.read_header-head.result ≡ header_at o 0 = c.read_header-head.ensures.answer ∙ ap header_of c.block_at.ensures.answer ∙ first-header _ long in
    let s = join-read o c.args.out.now c.read_header-head.result _ c.if-blocks-ne0.false c.if-blocks-eq0.false first c.in_ok-reading.ensures.answer in
    answered (c.join_held.ensures.answer ∙ s.0, c.join_held.ensures.buffer ∙ s.1)
