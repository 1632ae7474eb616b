-- Document 02, W5: "Parts are filled as W1's pages are": how a text is cut into parts, and how much each holds. 6, 5.
-- Own rule: none. Cited by plan, part_room and part_length. Assumes nothing.
--   plan_of ucs2 units    == how the text is cut: whether its units are laid as they stand, how many parts it takes, how much is laid into them
--   planned_as ucs2 units == what plan answers
--   plan_room p           == how much a part of the plan holds
--   part_length p k       == how much part k, from 0, of the plan holds: the room, or what is left
use Rattle.std.specs.Prelude.{ℕ, ◌-◌, ◌*◌, Bool, true, cond, List, ltb, length, Result, Ok, Err}
use Rattle.words.specs.Judging.{verdict, settle}
use Rattle.letters.specs.OwnCodes.{own_text}
use Rattle.letters.specs.Sized.{content_of}
use Rattle.parted.specs.declared.Plan.{Plan}
use Rattle.parted.specs.Parts.{room_behind, parts_of, mark_size}
use Rattle.parted.specs.Written.{size_rules}
use Rattle.words.specs.declared.Refusal.{Refusal}

abbrev pub plan_of : Bool → List ℕ → Plan
plan_of ucs2 units =
    record { ucs2 = ucs2; plain = cond ucs2 true (own_text units); total = parts_of ucs2 units; content = length (content_of ucs2 units) }

unfoldable pub planned_as : Bool → List ℕ → Result Plan Refusal
planned_as ucs2 units = settle (verdict (size_rules ucs2 units)) Err (Ok (plan_of ucs2 units))

abbrev pub plan_room : Plan → ℕ
plan_room p = room_behind p.ucs2 (mark_size p.total)

unfoldable pub part_length : Plan → ℕ → ℕ
part_length p k = cond (ltb (p.content - plan_room p * k) (plan_room p)) (p.content - plan_room p * k) (plan_room p)
