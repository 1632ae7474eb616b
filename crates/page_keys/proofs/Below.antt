-- A key of group 01xx without the deletion mark leaves the place of the header mark free.
-- Assumes nothing.
use Prim.Native.Nat.{ℕ, ◌+◌, ◌/◌, ◌%◌, ◌≤◌, ◌<◌}
use mathlib.Core.Bool.{Bool, true, false, cond}
use native.Mathlib.Omega.{arith}
use lib.Dec.{eqb}
use Rattle.keys.specs.Keys.{key_from, reserved_key, general_key}

class-most : (b : Bool) (o : ℕ) → cond b (o % 4 + 1) 0 ≤ 4
class-most true o = omega arith
class-most false o = omega arith

pub general-below : (o : ℕ) → general_key o 0 < 2097152
unfolding general_key
general-below o = go (eqb (o / 4 % 4) 3) _ (class-most (eqb (o / 16 % 2) 1) o)
  where
    go : (b : Bool) (c : ℕ) → c ≤ 4 → cond b reserved_key (key_from (o / 4 % 4) c 15 0 (o / 32 % 2) 0 0 0 0) < 2097152
    go true c h = omega arith
    go false c h = omega arith
