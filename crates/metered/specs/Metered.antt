-- Document 02, W4: "While a clerk types, show how many septets remain, going below zero when the text is over. One record is kept and changed by each
-- key: add a unit, take the last one back, clear. Taking back names the unit that goes. .. A key with an unlisted unit, or one that would take the sum
-- below zero or above 65,535 septets, changes nothing. Refusals: 6, then 5."
-- Own rule: 6 and 5 are at position 0; an unlisted unit has no septets. Cited by the calls of meter. Assumes nothing.
--   Key                              == a key: add u types the unit u, back u takes the unit u back, clear takes the whole text
--   new_meter s                      == a new meter for a service
--   remains m                        == the number that is shown: the service's size less the septets used
--   unit_septets u                   == how many septets the unit u takes
--   of_unlisted k                    == the key's unit is unlisted
--   sum_after m k                    == the sum that the key would leave
--   no_sum z                         == a sum is below zero or above 65,535 septets
--   key_rules m k                    == what refuses a key: 6, 5
--   refused_key m                    == what a refused key gives: the record as it was
--   keyed m k                        == what a key gives: the record after it, and its answer
--   pressed_number, pressed_position == what an answer reports: the refusal's number and position, and 0 of a key that goes
use Rattle.std.specs.Prelude.{ℕ, Bool, false, ◌||◌, List, [], ◌∷◌, ◌++◌, ℤ, pos, ◌+ℤ◌, ◌-ℤ◌, nat_abs, length, Result, Ok, Err}
use Rattle.std.specs.Int.Signed.{lt_z}
use Rattle.words.specs.declared.Service.{Service}
use Rattle.words.specs.declared.Refusal.{Refusal}
use Rattle.words.specs.declared.Refusal.TheVariants.{Unlisted, TooLong}
use Rattle.words.specs.Refusals.{number_of, position_of}
use Rattle.words.specs.Judging.{Rule, when, verdict, settle, service_rules}
use Rattle.words.specs.Sizes.{most_septets}
use Rattle.letters.specs.Writing.{listed_as, is_unlisted, septets_for}
use Rattle.metered.specs.declared.Meter.{Meter}
use Rattle.metered.specs.declared.Keyed.{Keyed}

pub data Key : Type 0 where
  add : ℕ → Key
  back : ℕ → Key
  clear : Key

abbrev pub new_meter : Service → Meter
new_meter s = record { service = s; used = 0 }

unfoldable pub remains : Meter → ℤ
remains m = pos (most_septets m.service) -ℤ pos m.used

unfoldable pub unit_septets : ℕ → ℕ
unit_septets u = length (septets_for (listed_as u))

abbrev pub of_unlisted : Key → Bool
of_unlisted (add u) = is_unlisted (listed_as u)
of_unlisted (back u) = is_unlisted (listed_as u)
of_unlisted clear = false

abbrev pub sum_after : Meter → Key → ℤ
sum_after m (add u) = pos m.used +ℤ pos (unit_septets u)
sum_after m (back u) = pos m.used -ℤ pos (unit_septets u)
sum_after m clear = pos 0

abbrev pub no_sum : ℤ → Bool
no_sum z = lt_z z (pos 0) || lt_z (pos 65535) z

abbrev pub key_rules : Meter → Key → List Rule
key_rules m k =
    service_rules m.service
    ++ (when (of_unlisted k) (Unlisted 0)
    ∷ when (no_sum (sum_after m k)) TooLong
    ∷ [])

abbrev pub refused_key : Meter → Refusal → Keyed
refused_key m r = record { meter = m; answer = Err r }

unfoldable pub keyed : Meter → Key → Keyed
keyed m k =
    settle (verdict (key_rules m k)) (refused_key m)
    (record { meter = record { service = m.service; used = nat_abs (sum_after m k) }; answer = (Ok tt) })

abbrev pub pressed_number : Result (Unit {0}) Refusal → ℕ
pressed_number (Ok tt) = 0
pressed_number (Err r) = number_of r

abbrev pub pressed_position : Result (Unit {0}) Refusal → ℕ
pressed_position (Ok tt) = 0
pressed_position (Err r) = position_of r
