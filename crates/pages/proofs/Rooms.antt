-- Which room is always enough: 15 blocks, and as many units as 15 pages have septets, since a text has no more units than septets. Assumes nothing.
--   write-room  1,320 octets hold all pages of any text that is not refused before 7
--   join-room   1,395 units hold the text of any blocks that are the pages of one message
use mathlib.Core.Path.{◌≡◌}
use mathlib.Core.Bool.{Bool, true, false}
use mathlib.Core.List.{List}
use Prim.Native.Nat.{ℕ, ◌*◌, ◌≤◌}
use native.Mathlib.Omega.{arith}
use lib.ListN.{length}
use Rattle.lists.proofs.Closing.{closing-length}
use Rattle.coding.specs.declared.Reading.{Reading}
use Rattle.letters.specs.Reading.{read_as}
use Rattle.letters.proofs.Septets.{read-most}
use Rattle.pages.specs.Parts.{page_room}
use Rattle.pages.specs.Joined.{total_at, wrong_pages, joined_from, joined_content, joined_text}
use Rattle.pages.specs.Messages.{PagesWritable, PagesStorable}
use Rattle.pages.proofs.Joining.{total-below, joined_length}

pub write-room : (r : Reading) (t : List ℕ) (room : ℕ) → PagesWritable r t → 1320 ≤ room → PagesStorable r t room
write-room r t room w h = record { writable = w; fits = omega (arith, w.sized) }

module _ (o : List ℕ) (right : wrong_pages o ≡ false) where
  content-most : (ucs2 : Bool) → length (joined_content ucs2 o) ≤ page_room ucs2 * total_at o 0
  unfolding joined_content
  content-most ucs2 = omega (arith, closing-length 13 (joined_from ucs2 o 1 (total_at o 0)), joined_length ucs2 o right (total_at o 0) (omega arith))

  pub join-room : (ucs2 : Bool) → length (joined_text ucs2 o) ≤ 1395
  unfolding read_as
  join-room true = omega (arith, content-most true, total-below o 0)
  join-room false = omega (arith, read-most false (joined_content false o), content-most false, total-below o 0)
