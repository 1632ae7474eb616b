-- `part_length` meets its contract: the smaller of what is left and the room. Assumes nothing.
use Prim.Native.Nat.{ℕ, ◌-◌, ◌*◌, ◌≤◌, min}
use mathlib.Core.Path.{◌≡◌, sym, ap, subst, ◌∙◌}
use mathlib.Core.Bool.{Bool, cond}
use native.Mathlib.Nat.{mul-le-mul_right}
use native.Mathlib.Decide.{dec_le}
use native.Mathlib.Omega.{arith}
use borrow.Author.Tests.{lt-ltb, le-ltb}
use borrow.Author.Rules.{rules}
use lib.Dec.{ltb}
use Rattle.parted.specs.Cutting.{part_length}
use Rattle.parted.proofs.Plans.{room_most}
use Rattle.cutting.proofs.part_length.Goals as goal

smaller : (n m : ℕ) → min n m ≡ cond (ltb n m) n m
smaller n m = elim (dec_le m n) [
  | yes h ↦ let e : min n m ≡ m = omega arith in e ∙ sym (ap (λ (b : Bool). cond b n m) (le-ltb n m h))
  | no h ↦ let e : min n m ≡ n = omega arith in e ∙ sym (ap (λ (b : Bool). cond b n m) (lt-ltb n m (omega arith)))
]

pub overflow_mul-room : goal.overflow_mul-room
overflow_mul-room c = let r : c.part_room-room.result ≤ 160 = subst (λ (n : ℕ). n ≤ 160) (sym c.part_room-room.ensures.answer) (room_most c.args.plan) in
    let k : c.args.k ≤ 255 = search rules in
    record { fits = omega (arith, mul-le-mul_right c.args.k r) }

pub returns : goal.returns
unfolding part_length
returns c = record {
  answer = let p = c.args.plan in
      c.min.ensures
      ∙ ap (λ (n : ℕ). min n c.part_room-room.result) c.saturating_sub.ensures
      ∙ ap (λ (r : ℕ). min (p.content - r * c.args.k) r) c.part_room-room.ensures.answer
      ∙ smaller _ _;
}
