-- Demand 1 of the exported calls of a meter: a refusal carries one of the numbers that document 02 lists for its call, leaves the record as it came, and shows
-- what that record shows; every other answer is a success. A number that names no service is 8.
-- Assumes nothing.
--   wikuay-new-meter-refuses, wikuay-room-left-refuses, wikuay-unit-added-refuses, wikuay-unit-taken-back-refuses, wikuay-meter-cleared-refuses
use mathlib.Core.Path.{refl}
use mathlib.Core.List.{List, [], ◌∷◌}
use mathlib.Core.Logic.{inl, inr}
use Prim.Native.Nat.{ℕ}
use Rattle.words.specs.declared.Service.{Service}
use Rattle.words.specs.declared.Refusal.{Refusal}
use Rattle.words.specs.declared.Refusal.TheVariants.{Unwritable}
use Rattle.words.specs.Refusals.{number_of, position_of}
use Rattle.words.specs.Judging.{Verdict, refused, accepted, verdict, settle}
use Rattle.words.specs.Services.{named_service, under_service}
use Rattle.metered.specs.declared.Meter.{Meter}
use Rattle.metered.specs.declared.Keyed.{Keyed}
use Rattle.metered.specs.Metered.{Key, add, back, clear, key_rules, refused_key, keyed}
use Rattle.wikuay.specs.declared.meters.MeterNumbers.{MeterNumbers}
use Rattle.wikuay.specs.declared.meters.MeterAnswer.{MeterAnswer}
use Rattle.wikuay.specs.MeterCalls.{shown_for, unnamed_meter, under, new_meter_gives, room_left_gives, unit_added_gives, unit_taken_back_gives, meter_cleared_gives}
use Rattle.wikuay.specs.Refusing.{Judged}
use Rattle.wikuay.proofs.Refusing.{VerdictAmong, verdict-among}
use Rattle.std.specs.Prelude.{Option, Ok, Some, None}

abbrev meter_number : MeterAnswer → ℕ
meter_number a = a.refusal

-- a refusal leaves the record, and shows what it shows
abbrev refused_meter : MeterNumbers → Refusal → MeterAnswer
refused_meter m q = record { refusal = number_of q; position = position_of q; left = (room_left_gives m).left; meter = m }

-- what the calls say of the record under the service that is named, or under none
abbrev under_named : MeterNumbers → Option Service → (Meter → Keyed) → MeterAnswer
under_named m v give = under (under_service v None (λ s. Some (record { service = s; used = m.used }))) (unnamed_meter m) (λ x. shown_for m.service (give x))

abbrev as-kept : Meter → Keyed
as-kept x = record { meter = x; answer = (Ok tt) }

-- of a key, by its verdict
key-judged : (m : MeterNumbers) (k : Key) (numbers : List ℕ) → ((x : Meter) → VerdictAmong (8 ∷ numbers) (verdict (key_rules x k)))
    → Judged meter_number (refused_meter m) (8 ∷ numbers) (under_named m (named_service m.service) (λ x. keyed x k)) [] []
unfolding room_left_gives keyed
key-judged m k numbers h = of-service (named_service m.service)
  where
    settled : (s : Service) (v : Verdict) → VerdictAmong (8 ∷ numbers) v → (gone : Meter)
        → Judged meter_number (λ (q : Refusal). record { refusal = number_of q; position = position_of q; left = (under_named m (Some s) as-kept).left; meter = m }) (8 ∷ numbers)
        (shown_for m.service (settle v (refused_key (record { service = s; used = m.used })) (record { meter = gone; answer = (Ok tt) }))) [] []
    settled s (refused q) a gone = inr (q, (refl, (a, refl)))
    settled s accepted a gone = inl refl

    of-service : (v : Option Service)
        → Judged meter_number (λ (q : Refusal). record { refusal = number_of q; position = position_of q; left = (under_named m v as-kept).left; meter = m }) (8 ∷ numbers) (under_named m v (λ x. keyed x k)) [] []
    of-service (Some s) = settled s (verdict (key_rules (record { service = s; used = m.used }) k)) (h (record { service = s; used = m.used })) _
    of-service None = inr (Unwritable, (refl, (refl, refl)))

pub wikuay-unit-added-refuses : (m : MeterNumbers) (unit : ℕ) → Judged meter_number (refused_meter m) (8 ∷ 6 ∷ 5 ∷ []) (unit_added_gives m unit) [] []
unfolding unit_added_gives
wikuay-unit-added-refuses m unit = key-judged m (add unit) (6 ∷ 5 ∷ []) (λ x. verdict-among (8 ∷ 6 ∷ 5 ∷ []) (key_rules x (add unit)) refl)

pub wikuay-unit-taken-back-refuses : (m : MeterNumbers) (unit : ℕ) → Judged meter_number (refused_meter m) (8 ∷ 6 ∷ 5 ∷ []) (unit_taken_back_gives m unit) [] []
unfolding unit_taken_back_gives
wikuay-unit-taken-back-refuses m unit = key-judged m (back unit) (6 ∷ 5 ∷ []) (λ x. verdict-among (8 ∷ 6 ∷ 5 ∷ []) (key_rules x (back unit)) refl)

-- clear always goes
pub wikuay-meter-cleared-refuses : (m : MeterNumbers) → Judged meter_number (refused_meter m) (8 ∷ []) (meter_cleared_gives m) [] []
unfolding meter_cleared_gives verdict
wikuay-meter-cleared-refuses m = key-judged m clear [] (λ x. refl)

pub wikuay-room-left-refuses : (m : MeterNumbers) → Judged meter_number (refused_meter m) (8 ∷ []) (room_left_gives m) [] []
unfolding room_left_gives
wikuay-room-left-refuses m = of-service (named_service m.service)
  where
    of-service : (v : Option Service)
        → Judged meter_number (λ (q : Refusal). record { refusal = number_of q; position = position_of q; left = (under_named m v as-kept).left; meter = m }) (8 ∷ []) (under_named m v as-kept) [] []
    of-service (Some s) = inl refl
    of-service None = inr (Unwritable, (refl, (refl, refl)))

pub wikuay-new-meter-refuses : (n : ℕ) → Judged meter_number (refused_meter (record { service = n; used = 0 })) (8 ∷ []) (new_meter_gives n) [] []
unfolding new_meter_gives
wikuay-new-meter-refuses n = wikuay-room-left-refuses (record { service = n; used = 0 })
