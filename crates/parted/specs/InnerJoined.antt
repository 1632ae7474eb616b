-- What private functions that join parts say of themselves: no contract of a public call cites this file.
-- Own rule: none. Assumes nothing.
-- Parts are UCS2 where ucs2 is true, else 7-bit; cs are their counts and o their octets, end to end:
--   heads_judged ucs2 cs o             == what the headers of all parts, and then the evenness of what stands behind them, are judged as: 12, 4
--   head_judged ucs2 count p           == what the part p with a count is judged as by itself: 12, or whether what stands behind its header is even
--   held_joins, held_join_leaves       == joining parts whose coding octet is read as r: 1, 2, 4, 12, 4, 10, 7
--   text_joins, text_join_leaves       == the same where the reading is known to hold UCS2 or 7-bit text: 4, 12, 4, 10, 7
--   joined_as r reference parts answer == the answer of storing a text, with what the parts say of it
--   Sorted ucs2 cs o places starts     == nothing refuses the parts, and the tables say which has which number and where it begins
--   numbered_content ucs2 cs o k       == what the part with the number k holds
--   over_in ucs2 p                     == how much of the count of the part p its header takes: octets of UCS2, or septets
-- Septets are read run by run, where an escape may end one run and its code begin the next:
--   ends_open half s                     == an escape without its code ends the septets s, where half says whether one stands before them
--   settled s                            == s without that escape
--   run_behind half s                    == s behind such an escape, or s
--   run_read last s, run_open last s     == what is read of a run, which keeps such an escape only if it is the last; whether one is left for the next
--   run_in septets begin end             == the run that stands between two places of an array
--   Ready septets begin end              == it stands there, and its septets are septets
--   read_up_to cs o k, open_up_to cs o k == what is read of the parts up to number k, and whether such an escape is left
use Rattle.std.specs.Prelude.{ℕ, suc, ◌-◌, ◌≤◌, ◌<◌, ◌≡◌, Bool, true, false, not, cond, List, [], ◌∷◌, leb, eqb, length, get_or, take, drop, Result, Ok, Err}
use Rattle.words.specs.declared.Refusal.{Refusal}
use Rattle.words.specs.declared.Refusal.TheVariants.{WrongLength, WrongHeader}
use Rattle.words.specs.Judging.{when, verdict, settle}
use Rattle.lists.specs.Lists.{laid}
use Rattle.coding.specs.declared.Reading.{Reading}
use Rattle.coding.specs.Holding.{is_ucs2}
use Rattle.letters.specs.Tables.{escape}
use Rattle.headed.specs.Header.{header_size, septets_over}
use Rattle.parted.specs.declared.PartsJoined.{PartsJoined}
use Rattle.parted.specs.Read.{wrong_head, odd_behind}
use Rattle.parted.specs.Joined.{start_at, wrong_counts, wrong_heads, odd_parts, numbers_at, reference_in, wrong_parts, place_of, content_at, joined_from, joined_text, parts_rules, join_rules}
use Rattle.parted.specs.Successes.{ok_parts_joined}

unfoldable pub heads_judged : Bool → List ℕ → List ℕ → Result (Unit {0}) Refusal
heads_judged ucs2 cs o =
    settle (verdict (when (wrong_heads ucs2 cs o) WrongHeader ∷ when (odd_parts ucs2 cs o) WrongLength ∷ [])) Err (Ok tt)

unfoldable pub head_judged : Bool → ℕ → List ℕ → Result Bool Refusal
head_judged ucs2 count p = settle (verdict (when (wrong_head ucs2 count p) WrongHeader ∷ [])) Err (Ok (not (odd_behind ucs2 (header_size p) p)))

unfoldable pub held_joins : Reading → List ℕ → List ℕ → ℕ → Result PartsJoined Refusal
held_joins r cs o room =
    settle (verdict (join_rules r cs o room)) Err
    (ok_parts_joined (length (joined_text (is_ucs2 r.alphabet) cs o)) r (reference_in (numbers_at (is_ucs2 r.alphabet) cs o 0)) (length cs))

unfoldable pub held_join_leaves : Reading → List ℕ → List ℕ → List ℕ → List ℕ
held_join_leaves r cs o out = settle (verdict (join_rules r cs o (length out))) (λ q. out) (laid (joined_text (is_ucs2 r.alphabet) cs o) out)

unfoldable pub text_joins : Reading → Bool → List ℕ → List ℕ → ℕ → Result PartsJoined Refusal
text_joins r ucs2 cs o room =
    settle (verdict (parts_rules ucs2 cs o room)) Err
    (ok_parts_joined (length (joined_text ucs2 cs o)) r (reference_in (numbers_at ucs2 cs o 0)) (length cs))

unfoldable pub text_join_leaves : Bool → List ℕ → List ℕ → List ℕ → List ℕ
text_join_leaves ucs2 cs o out = settle (verdict (parts_rules ucs2 cs o (length out))) (λ q. out) (laid (joined_text ucs2 cs o) out)

abbrev pub joined_as : Reading → ℕ → ℕ → Result ℕ Refusal → Result PartsJoined Refusal
joined_as r reference parts (Ok units) = ok_parts_joined units r reference parts
joined_as r reference parts (Err q) = Err q

pub record Sorted (ucs2 : Bool) (cs o places starts : List ℕ) : Type 0 where
  pub fits : wrong_counts ucs2 cs o ≡ false
  pub heads : wrong_heads ucs2 cs o ≡ false
  pub even : odd_parts ucs2 cs o ≡ false
  pub right : wrong_parts ucs2 cs o ≡ false
  pub few : length cs < 256
  pub placed : (k : ℕ) → 1 ≤ k → k ≤ length cs → get_or places k 0 ≡ suc (place_of ucs2 cs o k)
  pub starting : (i : ℕ) → i < length cs → get_or starts i 0 ≡ start_at ucs2 cs i

abbrev pub numbered_content : Bool → List ℕ → List ℕ → ℕ → List ℕ
numbered_content ucs2 cs o k = content_at ucs2 cs o (place_of ucs2 cs o k)

abbrev pub over_in : Bool → List ℕ → ℕ
over_in ucs2 p = cond ucs2 (header_size p) (septets_over (header_size p))

unfoldable pub ends_open : Bool → List ℕ → Bool
ends_open half [] = half
ends_open true (x ∷ s) = ends_open false s
ends_open false (x ∷ s) = ends_open (eqb x escape) s

unfoldable pub settled : List ℕ → List ℕ
settled s = cond (ends_open false s) (take (length s - 1) s) s

unfoldable pub run_behind : Bool → List ℕ → List ℕ
run_behind half s = cond half (escape ∷ s) s

unfoldable pub run_read : Bool → List ℕ → List ℕ
run_read last s = cond last s (settled s)

unfoldable pub run_open : Bool → List ℕ → Bool
run_open last s = cond last false (ends_open false s)

abbrev pub run_in : List ℕ → ℕ → ℕ → List ℕ
run_in septets begin end = take (end - begin) (drop begin septets)

pub record Ready (septets : List ℕ) (begin end : ℕ) : Type 0 where
  pub long : length septets ≡ 184
  pub forward : begin ≤ end
  pub most : end ≤ 160
  pub narrow : (k : ℕ) → get_or (run_in septets begin end) k 0 < 128

unfoldable pub read_up_to : List ℕ → List ℕ → ℕ → List ℕ
read_up_to cs o k = run_read (leb (length cs) k) (joined_from false cs o 1 k)

unfoldable pub open_up_to : List ℕ → List ℕ → ℕ → Bool
open_up_to cs o k = run_open (leb (length cs) k) (joined_from false cs o 1 k)
