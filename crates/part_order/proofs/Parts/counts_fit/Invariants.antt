-- No count passed is too high, and what they ask and what is left are the octets, so that the first that is wrong decides, or what is left in the end.
-- Assumes nothing.
use Prim.Native.Nat.{ℕ, ◌+◌, ◌≤◌, ◌<◌}
use mathlib.Core.Path.{◌≡◌}
use lib.ListN.{length, get_or}
use Rattle.parted.specs.Joined.{most_count, start_at}
use Rattle.part_order.proofs.Parts.counts_fit.Given as goal

abbrev pub invariant-loop-count : goal.invariant-loop-count
invariant-loop-count l =
    ((j : ℕ) → j < l.count-index → get_or l.self.counts.now j 0 ≤ most_count l.self.ucs2) × (l.left + start_at l.self.ucs2 l.self.counts.now l.count-index ≡ length l.self.octets.now)
