-- Document 02, W5: which of the parts has which number, where they are the parts of one message: 4, 12, 4, 10, each judged over all parts before the next.
-- Own rule: parts that are refused have no places and no starts: all are 0. Cited by Tables::new and Tables::order. Assumes nothing.
-- Parts are UCS2 where ucs2 is true, else 7-bit; cs are their counts and o their octets, end to end:
--   order_rules ucs2 cs o    == what refuses them
--   places_of ucs2 cs o      == for each number from 0 to 255 one more than the place of the first part with it, and 0 where none has it
--   starts_of ucs2 cs        == for each place from 0 to 255 where the part there begins, and 0 where there is none
--   part_order_of ucs2 cs o  == the reference that they share, if they are the parts of one message
--   no_table                 == a table in which no part stands
--   places_left, starts_left == the two tables, as Tables::order leaves them
use Rattle.std.specs.Prelude.{ℕ, Bool, cond, List, [], ◌∷◌, map, ltb, length, replicate, Result, Ok, Err}
use Rattle.words.specs.declared.Refusal.{Refusal}
use Rattle.words.specs.declared.Refusal.TheVariants.{WrongLength, WrongHeader, WrongPages}
use Rattle.words.specs.Judging.{Rule, when, verdict, settle}
use Rattle.lists.specs.Lists.{numbers_from}
use Rattle.filling.specs.Numbered.{table_among}
use Rattle.parted.specs.Joined.{start_at, wrong_counts, wrong_heads, odd_parts, wrong_parts, numbers_at, number_at, reference_in}

-- 4, 12, 4, 10
unfoldable pub order_rules : Bool → List ℕ → List ℕ → List Rule
order_rules ucs2 cs o =
    when (wrong_counts ucs2 cs o) WrongLength
    ∷ when (wrong_heads ucs2 cs o) WrongHeader
    ∷ when (odd_parts ucs2 cs o) WrongLength
    ∷ when (wrong_parts ucs2 cs o) WrongPages
    ∷ []

abbrev pub places_of : Bool → List ℕ → List ℕ → List ℕ
places_of ucs2 cs o = table_among (number_at ucs2 cs o) (length cs) 256

abbrev pub start_entry : Bool → List ℕ → ℕ → ℕ
start_entry ucs2 cs i = cond (ltb i (length cs)) (start_at ucs2 cs i) 0

unfoldable pub starts_of : Bool → List ℕ → List ℕ
starts_of ucs2 cs = map (start_entry ucs2 cs) (numbers_from 0 256)

unfoldable pub part_order_of : Bool → List ℕ → List ℕ → Result ℕ Refusal
part_order_of ucs2 cs o = settle (verdict (order_rules ucs2 cs o)) Err (Ok (reference_in (numbers_at ucs2 cs o 0)))

abbrev pub no_table : List ℕ
no_table = replicate 256 0

unfoldable pub places_left : Bool → List ℕ → List ℕ → List ℕ
places_left ucs2 cs o = settle (verdict (order_rules ucs2 cs o)) (λ q. replicate 256 0) (places_of ucs2 cs o)

unfoldable pub starts_left : Bool → List ℕ → List ℕ → List ℕ
starts_left ucs2 cs o = settle (verdict (order_rules ucs2 cs o)) (λ q. replicate 256 0) (starts_of ucs2 cs)
