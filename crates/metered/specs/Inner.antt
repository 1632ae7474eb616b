-- What only private functions cite: a key by the numbers that the code has.
-- Own rule: none. Assumes nothing.
--   less_or used n         == the septets used less n; where that is below zero, one more than a sum may be
--   judged_as m n sum      == a key of a unit that takes n septets, where it leaves the sum
use Rattle.std.specs.Prelude.{ℕ, ◌-◌, cond, [], ◌∷◌, ltb, Ok}
use Rattle.words.specs.declared.Refusal.TheVariants.{Unlisted, TooLong}
use Rattle.words.specs.Judging.{when, verdict, settle}
use Rattle.metered.specs.declared.Meter.{Meter}
use Rattle.metered.specs.declared.Keyed.{Keyed}
use Rattle.metered.specs.Metered.{refused_key}

unfoldable pub less_or : ℕ → ℕ → ℕ
less_or used n = cond (ltb used n) 65536 (used - n)

unfoldable pub judged_as : Meter → ℕ → ℕ → Keyed
judged_as m n sum =
    settle (verdict (when (ltb n 1) (Unlisted 0) ∷ when (ltb 65535 sum) TooLong ∷ [])) (refused_key m)
    (record { meter = record { service = m.service; used = sum }; answer = (Ok tt) })
