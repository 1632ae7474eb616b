-- The units of each page are stored right behind those of the pages before it, and each page is full.
-- Assumes nothing.
use Rattle.std.proofs.Common.{rules, refl, true, ◌+◌, ◌*◌, ◌<◌, ◌≤◌, length, arith}
use Rattle.pages.specs.Joined.{total_at}
use Rattle.pages.proofs.Joining.{joined-start, page-text, page-laid}
use Rattle.joining.proofs.Pages.take.Goals as goal

pub loop-k-init : goal.loop-k-init
loop-k-init c = (refl, joined-start true c.args.self.now.blocks.now c.args.out.now)

pub loop-k-preserved : goal.loop-k-preserved
loop-k-preserved c = let s = c.args.self.now in
    let few : c.loop-k.k < total_at s.blocks.now 0 = omega (arith, s.counted, c.loop-k-test.true) in
    let fits : 41 * total_at s.blocks.now 0 ≤ length c.args.out.now = omega (arith, s.counted, c.requires) in (
      search rules,
      page-laid true s.blocks.now c.args.out.now s.right c.loop-k.k c.loop-k.out _ c.lay_units.new.out few fits c.loop-k.invariant.0
          c.loop-k.invariant.1 (page-text s.blocks.now s.places (1 + c.loop-k.k) s.right s.placed (omega arith) (omega arith) _ c.block-block.ensures) c.lay_units.ensures.buffer,
    )
