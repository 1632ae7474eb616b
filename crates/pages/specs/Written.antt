-- Document 02, W1, and document 01, "Refusal numbers and their order": how many pages a text takes (8, 1, 2, 3, 6, 5), building one page
-- (then 10 for a page that the message lacks), writing all pages end to end (then 7 in its place). "over 15 pages is 5"; "a refused array is all zero".
-- Own rule: none. Cited by count_pages, build_page and write_pages. Assumes nothing.
--   page_block, blocks_from                  == page k, and n pages from page k on end to end, of a content under a header: sequence number, message
--                                               identifier, coding octet, total
--   block_as, blocks_as                      == page k, and all pages, of a text that is written as the reading r
--   count_rules, count_answers               == what refuses to count the pages of a text, and what count_pages answers
--   build_rules, build_answers               == the same of build_page
--   Built, built_of, built_as                == the same as C gets it: how many pages, and beside that the block, all zero where it is refused
--   pages_rules, pages_answers, pages_leaves == the same of write_pages, and what it leaves in the lent buffer
use Rattle.std.specs.Prelude.{ℕ, zero, suc, Bool, List, [], ◌∷◌, ◌++◌, ltb, length, replicate, Result, Ok, Err}
use Rattle.words.specs.declared.Service.TheVariants.{Broadcast}
use Rattle.words.specs.declared.Refusal.TheVariants.{Unlisted, TooLong, NoRoom, WrongPages}
use Rattle.words.specs.Judging.{Rule, when, verdict, settle}
use Rattle.lists.specs.Lists.{laid}
use Rattle.filling.specs.Filling.{part_at}
use Rattle.filling.specs.Numbered.{lacks}
use Rattle.coding.specs.declared.Reading.{Reading}
use Rattle.coding.specs.OctetWritten.{smallest}
use Rattle.coding.specs.LanguageLetters.{coding_rules}
use Rattle.coding.specs.Holding.{is_ucs2, text_rules}
use Rattle.letters.specs.Writing.{first_unlisted}
use Rattle.demands.specs.MessageWritten.{not_codable}
use Rattle.pages.specs.declared.Page.{Page}
use Rattle.pages.specs.declared.PagesWritten.{PagesWritten}
use Rattle.pages.specs.Blocks.{block_size, block_of}
use Rattle.pages.specs.Parts.{most_pages, page_room, content_of, pages_of, page_text}
use Rattle.words.specs.declared.Refusal.{Refusal}
use Rattle.pages.specs.Successes.{ok_page, ok_pages_written}

abbrev pub page_block : ℕ → ℕ → ℕ → ℕ → Bool → List ℕ → ℕ → List ℕ
page_block sequence identifier coding total ucs2 content k =
    block_of (record { sequence = sequence; identifier = identifier; coding = coding; total = total; number = k })
    (page_text ucs2 (part_at (page_room ucs2) content k))

unfoldable pub blocks_from : ℕ → ℕ → ℕ → ℕ → Bool → List ℕ → ℕ → ℕ → List ℕ
blocks_from sequence identifier coding total ucs2 content k zero = []
blocks_from sequence identifier coding total ucs2 content k (suc n) =
    page_block sequence identifier coding total ucs2 content k ++ blocks_from sequence identifier coding total ucs2 content (suc k) n

abbrev pub reading_pages : Reading → List ℕ → ℕ
reading_pages r units = pages_of (is_ucs2 r.alphabet) units

abbrev pub reading_content : Reading → List ℕ → List ℕ
reading_content r units = content_of (is_ucs2 r.alphabet) units

unfoldable pub block_as : ℕ → ℕ → Reading → List ℕ → ℕ → List ℕ
block_as sequence identifier r units k =
    page_block sequence identifier (smallest Broadcast r) (reading_pages r units) (is_ucs2 r.alphabet) (reading_content r units) k

unfoldable pub blocks_as : ℕ → ℕ → Reading → List ℕ → List ℕ
blocks_as sequence identifier r units =
    blocks_from sequence identifier (smallest Broadcast r) (reading_pages r units) (is_ucs2 r.alphabet) (reading_content r units) 1 (reading_pages r units)

-- 6, 5
unfoldable pub size_rules : Bool → List ℕ → List Rule
size_rules ucs2 units =
    when (not_codable ucs2 units) (Unlisted (first_unlisted units))
    ∷ when (ltb most_pages (pages_of ucs2 units)) TooLong
    ∷ []

unfoldable pub count_rules : Reading → List ℕ → List Rule
count_rules r units = coding_rules Broadcast r ++ (text_rules Broadcast r ++ size_rules (is_ucs2 r.alphabet) units)

unfoldable pub count_answers : Reading → List ℕ → Result ℕ Refusal
count_answers r units = settle (verdict (count_rules r units)) Err (Ok (reading_pages r units))

unfoldable pub build_rules : Reading → List ℕ → ℕ → List Rule
build_rules r units k = count_rules r units ++ (when (lacks (reading_pages r units) k) WrongPages ∷ [])

unfoldable pub build_answers : ℕ → ℕ → Reading → List ℕ → ℕ → Result Page Refusal
build_answers sequence identifier r units k = settle (verdict (build_rules r units k)) Err (ok_page (block_as sequence identifier r units k) (reading_pages r units))

pub record Built : Type 0 where
  pub answer : Result ℕ Refusal
  pub block : List ℕ

abbrev pub built_of : Result Page Refusal → Built
built_of (Ok p) = record { answer = Ok p.pages; block = p.block }
built_of (Err q) = record { answer = Err q; block = replicate block_size 0 }

unfoldable pub built_as : ℕ → ℕ → Reading → List ℕ → ℕ → Built
built_as sequence identifier r units k =
    record {
      answer = settle (verdict (build_rules r units k)) Err (Ok (reading_pages r units));
      block = settle (verdict (build_rules r units k)) (λ q. replicate block_size 0) (block_as sequence identifier r units k);
    }

unfoldable pub pages_rules : ℕ → ℕ → Reading → List ℕ → ℕ → List Rule
pages_rules sequence identifier r units room =
    count_rules r units ++ (when (ltb room (length (blocks_as sequence identifier r units))) NoRoom ∷ [])

unfoldable pub pages_answers : ℕ → ℕ → Reading → List ℕ → ℕ → Result PagesWritten Refusal
pages_answers sequence identifier r units room =
    settle (verdict (pages_rules sequence identifier r units room)) Err
    (ok_pages_written (length (blocks_as sequence identifier r units)) (reading_pages r units))

unfoldable pub pages_leaves : ℕ → ℕ → Reading → List ℕ → List ℕ → List ℕ
pages_leaves sequence identifier r units out =
    settle (verdict (pages_rules sequence identifier r units (length out))) (λ q. out) (laid (blocks_as sequence identifier r units) out)
