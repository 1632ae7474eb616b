-- How much room a header leaves, and how many parts a text takes by it: where a text does not fit alone, one part does not hold it behind a header either, so
-- that there are two at least.
-- Assumes nothing.
--   septets-over-0, septets-over-6        a header of no octets takes no septets, one of 6 takes 7
--   septets-over-reach, septets-over-least  it takes as many as it reaches into, and no more
--   alone-room, part_room   160 septets or 70 units alone, 153 or 67 behind a header of 6 octets
--   room-less               a header leaves no more than there is
--   parts-alone, parts-marked   how many parts a text takes that fits alone, and one that does not
--   parts-1-iff, parts-2    one exactly where the text fits alone, else two at least
--   parts-some              one at least
--   alone-part-room, marked-part-room   the room of each part, by how many there are
--   parts-hold, parts-over  255 or fewer hold the text, and more are asked for exactly where 255 do not
use mathlib.Core.Path.{◌≡◌, refl, sym, subst}
use mathlib.Core.Bool.{Bool, true, false, cond}
use mathlib.Core.Logic.{◌↔◌}
use Prim.Native.Nat.{ℕ, ◌+◌, ◌*◌, ◌≤◌, ◌<◌}
use native.Mathlib.Decide.{dec_le}
use native.Mathlib.Omega.{arith}
use borrow.Author.Tests.{le-leb, lt-leb, eq-eqb, ne_eqb}
use Rattle.filling.specs.Filling.{fewest}
use Rattle.filling.proofs.Parts.{fewest-some, fewest-hold, fewest-over}
use Rattle.headed.specs.Header.{septets_over}
use Rattle.parted.specs.Parts.{most_parts, room_behind, parts_holding, is_marked}

-- ---- the room

pub septets-over-0 : septets_over 0 ≡ 0
unfolding septets_over
septets-over-0 = refl

pub septets-over-6 : septets_over 6 ≡ 7
unfolding septets_over
septets-over-6 = refl

pub septets-over-reach : (h : ℕ) → 8 * h ≤ 7 * septets_over h
unfolding septets_over
septets-over-reach h = omega arith

pub septets-over-least : (h : ℕ) → 7 * septets_over h < 8 * h + 7
unfolding septets_over
septets-over-least h = omega arith

pub alone-room : (room_behind false 0 ≡ 160) × (room_behind true 0 ≡ 70)
unfolding room_behind septets_over
alone-room = (refl, refl)

pub part_room : (room_behind false 6 ≡ 153) × (room_behind true 6 ≡ 67)
unfolding room_behind septets_over
part_room = (refl, refl)

pub room-less : (ucs2 : Bool) → room_behind ucs2 6 ≤ room_behind ucs2 0
room-less true = omega (arith, alone-room.1, part_room.1)
room-less false = omega (arith, alone-room.0, part_room.0)

room-all : (ucs2 : Bool) → room_behind ucs2 0 ≤ room_behind ucs2 6 * most_parts
room-all true = omega (arith, alone-room.1, part_room.1)
room-all false = omega (arith, alone-room.0, part_room.0)

-- ---- the parts

module _ (ucs2 : Bool) (n : ℕ) where
  pub parts-alone : n ≤ room_behind ucs2 0 → parts_holding ucs2 n ≡ 1
  unfolding parts_holding
  parts-alone h = rw (le-leb _ _ h)

  pub parts-marked : room_behind ucs2 0 < n → parts_holding ucs2 n ≡ fewest most_parts (room_behind ucs2 6) n
  unfolding parts_holding
  parts-marked h = rw (lt-leb _ _ h)

  pub parts-some : 1 ≤ parts_holding ucs2 n
  parts-some =
      elim (dec_le n (room_behind ucs2 0)) [
        | yes h ↦ omega (arith, parts-alone h)
        | no h ↦ omega (arith, parts-marked (omega arith), fewest-some most_parts (room_behind ucs2 6) n)
      ]

  -- a single part behind a header holds less than a message alone
  pub parts-2 : room_behind ucs2 0 < n → 2 ≤ parts_holding ucs2 n
  parts-2 h =
      let room : ℕ = room_behind ucs2 6 in
      elim (dec_le 2 (parts_holding ucs2 n)) [
        | yes l ↦ l
        | no m ↦
            let one : fewest most_parts room n ≡ 1 = omega (arith, parts-marked h, parts-some) in
            let held : n ≤ room * 1 = subst (λ (k : ℕ). n ≤ room * k) one (fewest-hold most_parts room n (omega arith)) in
            absurd (omega (arith, room-less ucs2))
      ]

  pub parts-1-iff : (parts_holding ucs2 n ≡ 1) ↔ (n ≤ room_behind ucs2 0)
  parts-1-iff = (λ e. elim (dec_le n (room_behind ucs2 0)) [ yes h ↦ h | no h ↦ absurd (omega (arith, parts-2 (omega arith))) ], parts-alone)

  -- the room of each part, by how many there are
  pub alone-part-room : (total : ℕ) → total ≡ 1 → room_behind ucs2 (cond (is_marked total) 6 0) ≡ room_behind ucs2 0
  alone-part-room total e = rw (eq-eqb total 1 e)

  pub marked-part-room : (total : ℕ) → 2 ≤ total → room_behind ucs2 (cond (is_marked total) 6 0) ≡ room_behind ucs2 6
  marked-part-room total l = rw (ne_eqb total 1 (omega arith))

  pub parts-hold : parts_holding ucs2 n ≤ most_parts → n ≤ room_behind ucs2 (cond (is_marked (parts_holding ucs2 n)) 6 0) * parts_holding ucs2 n
  parts-hold few =
      let total : ℕ = parts_holding ucs2 n in
      elim (dec_le n (room_behind ucs2 0)) [
        | yes h ↦
            let one : total ≡ 1 = parts-alone h in
            subst (λ (k : ℕ). n ≤ k * total) (sym (alone-part-room total one)) (subst (λ (k : ℕ). n ≤ room_behind ucs2 0 * k) (sym one) (omega arith))
        | no h ↦
            let more : total ≡ fewest most_parts (room_behind ucs2 6) n = parts-marked (omega arith) in
            subst (λ (k : ℕ). n ≤ k * total) (sym (marked-part-room total (parts-2 (omega arith))))
            (subst (λ (k : ℕ). n ≤ room_behind ucs2 6 * k) (sym more) (fewest-hold most_parts (room_behind ucs2 6) n (omega arith)))
      ]

  -- "over 255 parts is 5"
  pub parts-over : (most_parts < parts_holding ucs2 n) ↔ (room_behind ucs2 6 * most_parts < n)
  parts-over =
      let over = fewest-over most_parts (room_behind ucs2 6) n (omega arith) in (
        λ h. elim (dec_le n (room_behind ucs2 0)) [ yes l ↦ absurd (omega (arith, parts-alone l)) | no l ↦ over.0 (subst (λ (k : ℕ). most_parts < k) (parts-marked (omega arith)) h) ],
        λ h. subst (λ (k : ℕ). most_parts < k) (sym (parts-marked (omega (arith, room-all ucs2)))) (over.1 h),
      )
