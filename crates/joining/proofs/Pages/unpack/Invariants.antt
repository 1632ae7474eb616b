-- The septets of each page are stored right behind those of the pages before it, and each page is full.
-- Assumes nothing.
use Rattle.std.proofs.Common.{◌≡◌, false, length}
use Rattle.lists.specs.Lists.{laid}
use Rattle.pages.specs.Joined.{joined_from}
use Rattle.joining.proofs.Pages.unpack.Given as goal

abbrev pub invariant-loop-k : goal.invariant-loop-k
invariant-loop-k l = (length l.out ≡ length l.initial.out) × (l.out ≡ laid (joined_from false l.self.blocks.now 1 l.k) l.initial.out)
