-- `shown::unit_at` meets its contract: the shift brings the place's unit down, and the mask leaves it alone.
-- Assumes nothing.
use Prim.Native.Nat.{◌*◌, ◌/◌, ◌%◌, ◌^◌}
use lib.Bits.{and_mask, mask_lt}
use Rattle.shown.proofs.unit_at.Goals as goal

pub overflow_cast-result : goal.overflow_cast-result
overflow_cast-result c = record { fits = mask_lt (c.args.four / 2 ^ (16 * (c.args.place % 4))) 16 }

pub returns : goal.returns
returns c = and_mask (c.args.four / 2 ^ (16 * (c.args.place % 4))) 16
