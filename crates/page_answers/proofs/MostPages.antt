-- No answer tells of more than 15 pages, so that the number crosses to C in 32 bits: an accepted text takes no more, and a block holds the total in
-- four bits. Assumes nothing.
--   counted-within, built-within, pages-within, joined-within: of count_pages, build_page, write_pages and join_pages
use mathlib.Core.Path.{◌≡◌, refl}
use mathlib.Core.List.{List}
use Prim.Native.Nat.{ℕ, ◌≤◌}
use native.Mathlib.Omega.{arith}
use lib.Dec.{ltb}
use lib.ListN.{get_or}
use borrow.Author.Tests.{ltb-false}
use Rattle.words.specs.declared.Service.TheVariants.{Broadcast}
use Rattle.words.specs.declared.Refusal.TheVariants.{Unlisted, TooLong}
use Rattle.words.specs.Judging.{Verdict, refused, accepted, verdict, settle}
use Rattle.words.proofs.Judging.{accepted-rule, accepted-parts}
use Rattle.lists.proofs.Bits.{bits-number}
use Rattle.coding.specs.declared.Reading.{Reading}
use Rattle.coding.specs.Holding.{is_ucs2, text_rules}
use Rattle.coding.specs.LanguageLetters.{coding_rules}
use Rattle.letters.specs.Writing.{first_unlisted}
use Rattle.demands.specs.MessageWritten.{not_codable}
use Rattle.pages.specs.Blocks.{header_of}
use Rattle.pages.specs.Parts.{most_pages}
use Rattle.pages.specs.Written.{size_rules, count_rules, reading_pages, count_answers, build_rules, built_as, pages_rules, pages_answers}
use Rattle.pages.specs.Joined.{block_at, header_at, total_at, join_rules, join_answers}
use Rattle.pages.specs.Reports.{counted_pages, pages_pages, join_pages}
use Rattle.std.specs.Prelude.{Ok, Err}
use Rattle.pages.specs.Successes.{ok_joined}
use Rattle.pages.specs.Successes.{ok_pages_written}

-- ---- an answer that is given only where the verdict is accepted

counted-settled : (v : Verdict) (n : ℕ) → (v ≡ accepted → n ≤ 15) → counted_pages (settle v Err (Ok n)) ≤ 15
counted-settled (refused q) n h = omega arith
counted-settled accepted n h = h refl

pages-settled : (v : Verdict) (octets n : ℕ) → (v ≡ accepted → n ≤ 15) → pages_pages (settle v Err (ok_pages_written octets n)) ≤ 15
pages-settled (refused q) octets n h = omega arith
pages-settled accepted octets n h = h refl

joined-settled : (v : Verdict) (units : ℕ) (r : Reading) (sequence identifier n : ℕ) → n ≤ 15
    → join_pages (settle v Err (ok_joined units r sequence identifier n)) ≤ 15
joined-settled (refused q) units r sequence identifier n h = omega arith
joined-settled accepted units r sequence identifier n h = h

-- ---- the calls

sized : (r : Reading) (us : List ℕ) → verdict (count_rules r us) ≡ accepted → reading_pages r us ≤ 15
unfolding count_rules size_rules
sized r us e =
    let size = (accepted-parts (text_rules Broadcast r) _ (accepted-parts (coding_rules Broadcast r) _ e).1).1 in
    let two = (accepted-rule (not_codable (is_ucs2 r.alphabet) us) (Unlisted (first_unlisted us)) _ size).1 in
    ltb-false _ _ (accepted-rule (ltb most_pages (reading_pages r us)) TooLong _ two).0

pub counted-within : (r : Reading) (us : List ℕ) → counted_pages (count_answers r us) ≤ 15
unfolding count_answers
counted-within r us = counted-settled (verdict (count_rules r us)) _ (sized r us)

pub built-within : (sequence identifier : ℕ) (r : Reading) (us : List ℕ) (k : ℕ) → counted_pages (built_as sequence identifier r us k).answer ≤ 15
unfolding built_as build_rules
built-within sequence identifier r us k =
    counted-settled (verdict (build_rules r us k)) _ (λ e. sized r us (accepted-parts (count_rules r us) _ e).0)

pub pages-within : (sequence identifier : ℕ) (r : Reading) (us : List ℕ) (room : ℕ) → pages_pages (pages_answers sequence identifier r us room) ≤ 15
unfolding pages_answers pages_rules
pages-within sequence identifier r us room =
    pages-settled (verdict (pages_rules sequence identifier r us room)) _ _ (λ e. sized r us (accepted-parts (count_rules r us) _ e).0)

total-within : (o : List ℕ) (i : ℕ) → total_at o i ≤ 15
unfolding header_at header_of
total-within o i = omega (arith, bits-number (get_or (block_at o i) 5 0) 3 0)

pub joined-within : (o : List ℕ) (room : ℕ) → join_pages (join_answers o room) ≤ 15
unfolding join_answers
joined-within o room = joined-settled (verdict (join_rules o room)) _ _ _ _ _ (total-within o 0)
