-- The blocks of the pages passed are laid over the front of out, one a turn. Assumes nothing.
use mathlib.Core.Path.{◌≡◌}
use lib.ListN.{length}
use Rattle.lists.specs.Lists.{laid}
use Rattle.pages.specs.Written.{blocks_from}
use Rattle.paging.specs.Inner.{in_units, held_in}
use Rattle.paging.proofs.put_pages.Given as goal

abbrev pub invariant-loop-k : goal.invariant-loop-k
invariant-loop-k l = (length l.out ≡ length l.initial.out) × (l.out ≡ laid (blocks_from l.head.sequence l.head.identifier l.head.coding l.head.total (in_units l.content) (held_in l.content) 1 l.k) l.initial.out)
