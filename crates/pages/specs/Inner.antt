-- What private functions of the calls with pages say of themselves: no contract of a public call cites this file.
-- Own rule: none. Assumes nothing.
--   sized_as ucs2 units, paged_as room n      == how many pages a text takes, or 6 or 5; how many n take where a page has that room, or 5
--   text_builds, text_pages, text_pages_leaves == building one page and writing all pages of a text under a coding octet, by itself: 6, 5, then 10 or 7
--   text_joins, text_join_leaves              == the joining of blocks whose coding octet is read as ucs2 says, and what it leaves in the lent buffer: 10, 7
--   held_joins, held_join_leaves              == the joining of blocks whose first has the header h and is read as r: 1, 2, 3, 10, 7
--   joined_as h r answer                      == the answer of joining text, with the header h and the reading r
--   Places o places                           == the place of each page stands in the table at its number, one more than it is
use Rattle.std.specs.Prelude.{ℕ, suc, ◌≤◌, ◌≡◌, Bool, List, [], ◌∷◌, ◌++◌, ltb, length, get_or, Result, Ok, Err}
use Rattle.words.specs.declared.Refusal.{Refusal}
use Rattle.words.specs.declared.Refusal.TheVariants.{TooLong, NoRoom, WrongPages}
use Rattle.words.specs.Judging.{when, verdict, settle}
use Rattle.lists.specs.Lists.{laid}
use Rattle.filling.specs.Numbered.{lacks}
use Rattle.words.specs.declared.Service.TheVariants.{Broadcast}
use Rattle.coding.specs.declared.Reading.{Reading}
use Rattle.coding.specs.Holding.{is_ucs2, text_rules}
use Rattle.pages.specs.declared.Header.{Header}
use Rattle.pages.specs.declared.Page.{Page}
use Rattle.pages.specs.declared.PagesWritten.{PagesWritten}
use Rattle.pages.specs.declared.Joined.{Joined}
use Rattle.pages.specs.Parts.{most_pages, content_of, pages_holding, pages_of}
use Rattle.pages.specs.Written.{size_rules, page_block, blocks_from}
use Rattle.pages.specs.Joined.{total_at, place_of, joined_text, page_rules}
use Rattle.pages.specs.Successes.{ok_joined}
use Rattle.pages.specs.Successes.{ok_page, ok_pages_written}

unfoldable pub sized_as : Bool → List ℕ → Result ℕ Refusal
sized_as ucs2 units = settle (verdict (size_rules ucs2 units)) Err (Ok (pages_of ucs2 units))

unfoldable pub paged_as : ℕ → ℕ → Result ℕ Refusal
paged_as room n = settle (verdict (when (ltb most_pages (pages_holding room n)) TooLong ∷ [])) Err (Ok (pages_holding room n))

unfoldable pub text_builds : ℕ → ℕ → ℕ → Bool → List ℕ → ℕ → Result Page Refusal
text_builds sequence identifier coding ucs2 units k =
    settle (verdict (size_rules ucs2 units ++ (when (lacks (pages_of ucs2 units) k) WrongPages ∷ []))) Err
    (ok_page (page_block sequence identifier coding (pages_of ucs2 units) ucs2 (content_of ucs2 units) k) (pages_of ucs2 units))

abbrev pub text_blocks : ℕ → ℕ → ℕ → Bool → List ℕ → List ℕ
text_blocks sequence identifier coding ucs2 units =
    blocks_from sequence identifier coding (pages_of ucs2 units) ucs2 (content_of ucs2 units) 1 (pages_of ucs2 units)

unfoldable pub text_pages : ℕ → ℕ → ℕ → Bool → List ℕ → ℕ → Result PagesWritten Refusal
text_pages sequence identifier coding ucs2 units room =
    settle (verdict (size_rules ucs2 units ++ (when (ltb room (length (text_blocks sequence identifier coding ucs2 units))) NoRoom ∷ []))) Err
    (ok_pages_written (length (text_blocks sequence identifier coding ucs2 units)) (pages_of ucs2 units))

unfoldable pub text_pages_leaves : ℕ → ℕ → ℕ → Bool → List ℕ → List ℕ → List ℕ
text_pages_leaves sequence identifier coding ucs2 units out =
    settle (verdict (size_rules ucs2 units ++ (when (ltb (length out) (length (text_blocks sequence identifier coding ucs2 units))) NoRoom ∷ []))) (λ q. out)
    (laid (text_blocks sequence identifier coding ucs2 units) out)

unfoldable pub text_joins : Bool → List ℕ → ℕ → Result ℕ Refusal
text_joins ucs2 o room = settle (verdict (page_rules ucs2 o room)) Err (Ok (length (joined_text ucs2 o)))

unfoldable pub text_join_leaves : Bool → List ℕ → List ℕ → List ℕ
text_join_leaves ucs2 o out = settle (verdict (page_rules ucs2 o (length out))) (λ q. out) (laid (joined_text ucs2 o) out)

unfoldable pub held_joins : Header → Reading → List ℕ → ℕ → Result Joined Refusal
held_joins h r o room =
    settle (verdict (text_rules Broadcast r ++ page_rules (is_ucs2 r.alphabet) o room)) Err
    (ok_joined (length (joined_text (is_ucs2 r.alphabet) o)) r h.sequence h.identifier h.total)

unfoldable pub held_join_leaves : Reading → List ℕ → List ℕ → List ℕ
held_join_leaves r o out =
    settle (verdict (text_rules Broadcast r ++ page_rules (is_ucs2 r.alphabet) o (length out))) (λ q. out)
    (laid (joined_text (is_ucs2 r.alphabet) o) out)

abbrev pub joined_as : Header → Reading → Result ℕ Refusal → Result Joined Refusal
joined_as h r (Ok units) = ok_joined units r h.sequence h.identifier h.total
joined_as h r (Err q) = Err q

abbrev pub Places : List ℕ → List ℕ → Type 0
Places o places = (k : ℕ) → 1 ≤ k → k ≤ total_at o 0 → get_or places k 0 ≡ suc (place_of o k)
