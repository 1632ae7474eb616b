-- What each exported call of a meter gives: the library's own answer for the service that the number names, in numbers.
-- Own rule: a record whose number names no service is refused 8 before all else and comes back as it is, and its number to show is 0. Cited by the exported
-- calls. Assumes nothing.
--   shown_for n x      == in numbers, where n is the service's: the answer of a key x, the record after it, and the number that this record shows
--   unnamed_meter m    == the refusal of a record with no service
--   named_meter m      == the record that the numbers m name, if their service is one
--   under n none give  == what give says of a record that is named, or none
--   under_meter m give == a call: what give says of the record that is named, in numbers, or that refusal
use Rattle.std.specs.Prelude.{ℕ, pos, Option, Some, None, Ok}
use Rattle.words.specs.declared.Refusal.TheVariants.{Unwritable}
use Rattle.words.specs.Refusals.{number_of, position_of}
use Rattle.words.specs.Services.{named_service, under_service}
use Rattle.metered.specs.declared.Meter.{Meter}
use Rattle.metered.specs.declared.Keyed.{Keyed}
use Rattle.metered.specs.Metered.{add, back, clear, remains, keyed, pressed_number, pressed_position}
use Rattle.wikuay.specs.declared.meters.MeterNumbers.{MeterNumbers}
use Rattle.wikuay.specs.declared.meters.MeterAnswer.{MeterAnswer}

abbrev pub shown_for : ℕ → Keyed → MeterAnswer
shown_for n x =
    record {
      refusal = pressed_number x.answer;
      position = pressed_position x.answer;
      left = remains x.meter;
      meter = record { service = n; used = x.meter.used };
    }

abbrev pub unnamed_meter : MeterNumbers → MeterAnswer
unnamed_meter m = record { refusal = number_of Unwritable; position = position_of Unwritable; left = pos 0; meter = m }

abbrev pub named_meter : MeterNumbers → Option Meter
named_meter m = under_service (named_service m.service) None (λ s. Some (record { service = s; used = m.used }))

abbrev pub under : Option Meter → MeterAnswer → (Meter → MeterAnswer) → MeterAnswer
under (Some x) none give = give x
under None none give = none

abbrev pub under_meter : MeterNumbers → (Meter → Keyed) → MeterAnswer
under_meter m give = under (named_meter m) (unnamed_meter m) (λ x. shown_for m.service (give x))

unfoldable pub room_left_gives : MeterNumbers → MeterAnswer
room_left_gives m = under_meter m (λ x. record { meter = x; answer = (Ok tt) })

unfoldable pub new_meter_gives : ℕ → MeterAnswer
new_meter_gives n = room_left_gives (record { service = n; used = 0 })

unfoldable pub unit_added_gives : MeterNumbers → ℕ → MeterAnswer
unit_added_gives m unit = under_meter m (λ x. keyed x (add unit))

unfoldable pub unit_taken_back_gives : MeterNumbers → ℕ → MeterAnswer
unit_taken_back_gives m unit = under_meter m (λ x. keyed x (back unit))

unfoldable pub meter_cleared_gives : MeterNumbers → MeterAnswer
meter_cleared_gives m = under_meter m (λ x. keyed x clear)
