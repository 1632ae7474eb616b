-- The units from n on are 000D.
use Prim.Native.Nat.{ℕ, ◌≤◌, ◌<◌}
use mathlib.Core.Path.{◌≡◌}
use lib.ListN.{length, get_or}
use Rattle.stream.specs.Ucs2.{octet_units}
use Rattle.to_units.proofs.page_kept.Given as goal

abbrev pub invariant-loop-n : goal.invariant-loop-n
invariant-loop-n l = (k : ℕ) → l.n ≤ k → k < length (octet_units l.octets) → get_or (octet_units l.octets) k 0 ≡ 13
