-- What a page's octets hold is its part filled up with CR, and that is a part of the whole content filled up; so the pages joined are the
-- content and the CRs behind it, and without closing CRs they are the text without its own.
-- Assumes nothing.
--   page-content         a page's octets hold its part and CRs behind it
--   page-text-filled     pages whose parts are the same once filled up have the same octets
--   joined-whole         pages that stand in their places join into the content filled up
--   filled-behind        which is the content and CRs behind it
--   content-below        the content of a 7-bit text is septets
--   closed-text          without closing CRs it reads as the text without closing CRs
--   closed-content       texts that are the same without closing CRs have contents that are so too
use mathlib.Core.Path.{◌≡◌, refl, sym, ap, ap₂, ◌∙◌}
use mathlib.Core.Bool.{Bool, true, false}
use mathlib.Core.List.{List, ◌++◌}
use Prim.Native.Nat.{ℕ, zero, suc, ◌+◌, ◌-◌, ◌*◌, ◌≤◌}
use native.Mathlib.Omega.{arith}
use lib.ListN.{length, drop, replicate}
use Rattle.lists.specs.Lists.{laid}
use Rattle.lists.proofs.Below.{Below, below-take, below-drop}
use Rattle.filling.specs.Filling.{part_at, parts_from}
use Rattle.filling.proofs.Parts.{part-length, parts_all}
use Rattle.letters.proofs.Theorems.{septets-below}
use Rattle.stream.specs.Stream.{packed, unpacked}
use Rattle.stream.specs.UssdPacking.{cr}
use Rattle.stream.specs.Pages.{page, page_octets}
use Rattle.stream.specs.Ucs2.{unit_octets, unit_page}
use Rattle.stream.proofs.Stream.{unpacked-packed}
use Rattle.stream.proofs.UnitOctets.{octet-units-unit-octets}
use Rattle.stream.proofs.Pages.{replicate-drop, over-length, page-length, page-below}
pub use Rattle.lettered.proofs.Texts.{closed-text, closed-content}
use Rattle.pages.specs.Blocks.{text_in}
use Rattle.pages.specs.Parts.{page_room, content_of, page_text}
use Rattle.pages.specs.Joined.{block_at, place_of, page_content, joined_from}
use Rattle.pages.specs.Messages.{filled_to}
use Rattle.pages.proofs.Parts.{part_filled}

-- ---- one page

pub page-content : (ucs2 : Bool) (part : List ℕ) → length part ≤ page_room ucs2 → (ucs2 ≡ false → Below 128 part) → page_content ucs2 (page_text ucs2 part) ≡ filled_to (page_room ucs2) part
unfolding unit_page page_octets page
page-content true part h b = octet-units-unit-octets (unit_page part)
page-content false part h b = ap (λ (k : ℕ). unpacked k (packed (page part))) (sym (page-length part h)) ∙ unpacked-packed (page part) (page-below part (b refl))

pub page-text-filled : (ucs2 : Bool) (p q : List ℕ) → filled_to (page_room ucs2) p ≡ filled_to (page_room ucs2) q → page_text ucs2 p ≡ page_text ucs2 q
unfolding unit_page page_octets page
page-text-filled true p q e = ap unit_octets e
page-text-filled false p q e = ap packed e

pub filled-behind : (n : ℕ) (s : List ℕ) → filled_to n s ≡ s ++ replicate (n - length s) cr
unfolding laid
filled-behind n s = ap (λ (l : List ℕ). s ++ l) (replicate-drop (length s) n cr)

-- ---- pages in their places

-- page k, from 1 to n, of a content stands in its place among the blocks o
pub record Placed (ucs2 : Bool) (content : List ℕ) (n : ℕ) (o : List ℕ) : Type 0 where
  pub septets : ucs2 ≡ false → Below 128 content
  pub holds : length content ≤ page_room ucs2 * n
  pub page : (k : ℕ) → 1 ≤ k → k ≤ n → text_in (block_at o (place_of o k)) ≡ page_text ucs2 (part_at (page_room ucs2) content k)

module _ (ucs2 : Bool) (content : List ℕ) (n : ℕ) (o : List ℕ) (p : Placed ucs2 content n o) where
  joined-parts : (k m : ℕ) → 1 ≤ k → k + m ≤ suc n → joined_from ucs2 o k m ≡ parts_from (page_room ucs2) (filled_to (page_room ucs2 * n) content) k m
  unfolding joined_from parts_from part_at
  joined-parts k zero some most = refl
  joined-parts k (suc m) some most =
      ap₂ (λ (a b : List ℕ). a ++ b)
      (ap (page_content ucs2) (p.page k some (omega arith))
      ∙ page-content ucs2 (part_at (page_room ucs2) content k) (part-length (page_room ucs2) content k)
      (λ b. below-take 128 (drop (page_room ucs2 * (k - 1)) content) (below-drop 128 content (p.septets b) (page_room ucs2 * (k - 1))) (page_room ucs2))
      ∙ part_filled (page_room ucs2) n content k p.holds some (omega arith))
      (joined-parts (suc k) m (omega arith) (omega arith))

  pub joined-whole : joined_from ucs2 o 1 n ≡ filled_to (page_room ucs2 * n) content
  joined-whole =
      joined-parts 1 n (omega arith) (omega arith)
      ∙ parts_all (page_room ucs2) (filled_to (page_room ucs2 * n) content) n (omega (arith, over-length (page_room ucs2 * n) cr content p.holds))

-- ---- texts and contents

pub content-below : (ucs2 : Bool) (t : List ℕ) → ucs2 ≡ false → Below 128 (content_of ucs2 t)
content-below true t e = let z : ◌≡◌ {A = ℕ} 0 1 = cc in absurd (omega arith)
content-below false t e = septets-below t
