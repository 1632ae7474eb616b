-- `to_septets::septets_in` meets its contract: the units passed are listed, and their septets are counted. Assumes nothing.
use mathlib.Core.Path.{◌≡◌}
use Prim.Native.Nat.{◌*◌, min}
use lib.ListN.{length}
use Rattle.letters.proofs.Counting.{Counted}
use Rattle.to_septets.proofs.septets_in.Given as goal

abbrev pub invariant-loop-block : goal.invariant-loop-block
invariant-loop-block l = Counted l.text l.n (min (64 * l.block) (length l.text)) × (length l.scrap ≡ 64)
