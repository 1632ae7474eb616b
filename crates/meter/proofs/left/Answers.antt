use mathlib.Core.Path.{◌≡◌, ◌∙◌, sym, ap, ap₂, subst}
use Prim.Native.Nat.{ℕ, ◌<◌, ◌^◌}
use native.Mathlib.Omega.{arith}
use lib.IntN.{ℤ, pos, ◌-ℤ◌}
use mir.Syntax.{w64}
use mir.Val.{SFits, to_z, of_z}
use mir.Facts.{to_z-of_z, to_z_pos}
use Rattle.words.specs.declared.Service.{Service}
use Rattle.words.specs.Sizes.{most_septets}
use Rattle.metered.specs.declared.Meter.{Meter}
use Rattle.metered.specs.Metered.{remains}
use Rattle.metered.proofs.Keys.{size_small, remains-fits}
use Rattle.meter.proofs.left.Goals as goal

-- the two numbers, read with a sign
shown : (s : Service) (size used : ℕ) → size ≡ most_septets s → used < 2 ^ 32 → to_z w64 size -ℤ to_z w64 used ≡ pos (most_septets s) -ℤ pos used
shown s size used e h =
    ap₂ (λ (a b : ℤ). a -ℤ b) (ap (to_z w64) e ∙ to_z_pos w64 (size_small s)) (to_z_pos w64 {n = used} (omega (arith, h)))

pub overflow_cast-size : goal.overflow_cast-size
overflow_cast-size c = record { sfits = subst (λ (n : ℕ). n < 2 ^ 63) (sym c.most_septets-size.ensures.answer) (size_small c.args.meter.service) }

pub overflow_sub-result : goal.overflow_sub-result
unfolding remains
overflow_sub-result c = let m : Meter = c.args.meter in
    let used : m.used < 2 ^ 32 = omega arith in
    subst (SFits w64) (sym (shown m.service c.most_septets-size.result m.used c.most_septets-size.ensures.answer used)) (remains-fits m used)

pub returns : goal.returns
unfolding remains
returns c = record {
  answer = let m : Meter = c.args.meter in
      let used : m.used < 2 ^ 32 = omega arith in
      ap (λ (z : ℤ). to_z w64 (of_z w64 z)) (shown m.service c.most_septets-size.result m.used c.most_septets-size.ensures.answer used)
      ∙ to_z-of_z (remains-fits m used);
}
