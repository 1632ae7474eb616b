-- The place of the page is in the table, and its block among the blocks. Assumes nothing.
use Rattle.std.proofs.Common.{◌≡◌, ap, ◌∙◌, ◌+◌, ◌<◌, ◌≤◌, List, ℕ, arith}
use Rattle.pages.specs.Joined.{total_at}
use Rattle.pages.specs.Ordered.{block_or_zeros}
use Rattle.pages.proofs.Joining.{page-there}
use Rattle.joining.proofs.Pages.block.Goals as goal

within : (o places : List ℕ) (k total : ℕ) → k < total → total ≡ total_at o 0 → 1 + k ≤ total_at o 0
within o places k total h e = omega (arith, h, e)

-- the block that is taken, by its number and not by how that is written
pub returns : goal.returns
returns c = let s = c.args.self.now in
    c.block_at.ensures.answer ∙ ap (block_or_zeros s.blocks.now) (grind arith) ∙ page-there s.blocks.now s.places (1 + c.args.k) s.right s.placed (omega arith) (within s.blocks.now s.places _ _ c.requires s.counted)
