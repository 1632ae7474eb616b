-- `all_octets` meets its contract: parts before the last have 140 octets each. Assumes nothing.
use Prim.Native.Nat.{◌-◌}
use native.Mathlib.Omega.{arith}
use Rattle.parted.proofs.Plans.{octets-most}
use Rattle.parts.proofs.all_octets.Goals as goal

pub overflow_add-result : goal.overflow_add-result
overflow_add-result c = record { fits = omega (arith, c.requires, c.part_size-last.ensures.1, octets-most c.args.plan (c.args.plan.total - 1)) }
