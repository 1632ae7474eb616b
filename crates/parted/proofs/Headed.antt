-- One short message with a header in front of its content, or with none: the header ends before the first septet of the text, and its length octet says
-- where, so that header and content are each read back by themselves. A header of no octets is none.
-- Assumes nothing.
--   tail_of ucs2 h s  == what stands behind the header
--   headed-front     the octets begin with the header
--   headed-length, headed-fits   there are as many octets as the count asks, and they fit
--   headed-size, headed-right, headed-numbers   the header is read back
--   headed-content   and so is the content
--   headed-even, headed-head   neither 12 nor 4 of evenness refuses it
--   headed-same, headed-header   the same octets and count behind one header are the same content, and the same octets have the same header
use mathlib.Core.Path.{◌≡◌, refl, sym, ap, ap₂, ◌∙◌}
use mathlib.Core.Bool.{Bool, true, false, not, cond, ◌||◌}
use mathlib.Core.List.{List, ◌++◌}
use Prim.Native.Nat.{ℕ, ◌+◌, ◌-◌, ◌%◌, ◌≤◌}
use native.Mathlib.Nat.{add-sub_cancel_left}
use native.Mathlib.Omega.{arith}
use borrow.Author.Tests.{le-leb, le-ltb, eq-eqb, ne_eqb}
use lib.Dec.{ltb}
use lib.ListN.{length, drop, length-append}
use lib.Seq.{drop-append_seam}
use Rattle.lists.specs.Lists.{laid}
use Rattle.lists.proofs.Below.{Below}
use Rattle.lists.proofs.Laid.{laid-length}
use Rattle.stream.specs.Stream.{octets_for}
use Rattle.stream.specs.Ucs2.{unit_octets, octet_units}
use Rattle.stream.proofs.UnitOctets.{unit-octets-length, octet-units-unit-octets}
use Rattle.headed.specs.Header.{header_size, right_header, header_numbers, septets_over}
use Rattle.headed.proofs.Theorems.{size-front, right-front, numbers-front, header-front}
use Rattle.parted.specs.Behind.{packed_behind, unpacked_behind}
use Rattle.parted.specs.Parts.{room_behind, headed_octets, headed_count}
use Rattle.parted.specs.Read.{count_fits, wrong_head, odd_behind, content_behind}
use Rattle.parted.specs.Joined.{octets_asked}
use Rattle.parted.proofs.Behind.{packed-behind-length, behind-laid, behind-back}
use Rattle.parted.proofs.Rooms.{septets-over-reach}

abbrev pub tail_of : Bool → List ℕ → List ℕ → List ℕ
tail_of ucs2 h s = cond ucs2 (unit_octets s) (drop (length h) (packed_behind (septets_over (length h)) s))

pub headed-front : (ucs2 : Bool) (h s : List ℕ) → headed_octets ucs2 h s ≡ h ++ tail_of ucs2 h s
unfolding headed_octets laid
headed-front true h s = refl
headed-front false h s = refl

-- the stream reaches over the header
front_fits : (h s : List ℕ) → length h ≤ length (packed_behind (septets_over (length h)) s)
unfolding octets_for
front_fits h s = omega (arith, packed-behind-length (septets_over (length h)) s, septets-over-reach (length h))

pub headed-length : (ucs2 : Bool) (h s : List ℕ) → length (headed_octets ucs2 h s) ≡ octets_asked ucs2 (headed_count ucs2 h s)
unfolding headed_octets headed_count
headed-length true h s = length-append h (unit_octets s)
headed-length false h s = laid-length h (packed_behind (septets_over (length h)) s) (front_fits h s) ∙ packed-behind-length (septets_over (length h)) s

pub headed-fits : (ucs2 : Bool) (h s : List ℕ) → length h ≤ 140 → length s ≤ room_behind ucs2 (length h) → count_fits ucs2 (length (headed_octets ucs2 h s)) (headed_count ucs2 h s) ≡ true
unfolding count_fits headed_count room_behind septets_over
headed-fits true h s small fits =
    let size : length (headed_octets true h s) ≡ length h + length (unit_octets s) = headed-length true h s in
    let most : length (headed_octets true h s) ≤ 140 = omega (arith, unit-octets-length s) in
    simp (le-leb _ _ most, eq-eqb _ _ (sym size))
headed-fits false h s small fits =
    let size : length (headed_octets false h s) ≡ octets_for (septets_over (length h) + length s) = headed-length false h s in
    let most : septets_over (length h) + length s ≤ 160 = omega arith in
    simp (le-leb _ _ most, eq-eqb _ _ size)

pub headed-content : (ucs2 : Bool) (h s : List ℕ) → (ucs2 ≡ false → Below 128 s) → content_behind ucs2 (length h) (headed_count ucs2 h s) (headed_octets ucs2 h s) ≡ s
unfolding content_behind headed_count headed_octets
headed-content true h s b = ap octet_units (drop-append_seam h (unit_octets s)) ∙ octet-units-unit-octets s
headed-content false h s b =
    let front : ℕ = septets_over (length h) in
    ap (λ (n : ℕ). unpacked_behind front n (laid h (packed_behind front s))) (add-sub_cancel_left front (length s))
    ∙ behind-laid front (length s) h (packed_behind front s) (septets-over-reach (length h))
    ∙ behind-back front s (b refl)

pub headed-even : (ucs2 : Bool) (h s : List ℕ) → odd_behind ucs2 (length h) (headed_octets ucs2 h s) ≡ false
unfolding odd_behind headed_octets
headed-even true h s =
    let even : (length (h ++ unit_octets s) - length h) % 2 ≡ 0 = omega (arith, length-append h (unit_octets s), unit-octets-length s) in
    ne_eqb ((length (h ++ unit_octets s) - length h) % 2) 1 (omega arith)
headed-even false h s = refl

-- ---- the header, whose length octet says its length

module _ (ucs2 : Bool) (h s : List ℕ) (own : length h ≡ header_size h) where
  pub headed-size : header_size (headed_octets ucs2 h s) ≡ length h
  headed-size = ap header_size (headed-front ucs2 h s) ∙ size-front h (tail_of ucs2 h s) own ∙ sym own

  pub headed-right : right_header (headed_octets ucs2 h s) ≡ right_header h
  headed-right = ap right_header (headed-front ucs2 h s) ∙ right-front h (tail_of ucs2 h s) own

  pub headed-numbers : header_numbers (headed_octets ucs2 h s) ≡ header_numbers h
  headed-numbers = ap header_numbers (headed-front ucs2 h s) ∙ numbers-front h (tail_of ucs2 h s) own

  pub headed-head : right_header h ≡ true → wrong_head ucs2 (headed_count ucs2 h s) (headed_octets ucs2 h s) ≡ false
  unfolding wrong_head headed_count
  headed-head right =
      ap₂ (λ (t : Bool) (k : ℕ). not t || cond ucs2 false (ltb (headed_count ucs2 h s) (septets_over k))) (headed-right ∙ right) headed-size ∙ covered ucs2
    where
      covered : (u : Bool) → cond u false (ltb (headed_count u h s) (septets_over (length h))) ≡ false
      covered true = refl
      covered false = le-ltb (septets_over (length h) + length s) (septets_over (length h)) (omega arith)

-- ---- which messages have the same octets

-- with one header in front: the content tells them apart
pub headed-same : (ucs2 : Bool) (h s t : List ℕ) → (ucs2 ≡ false → Below 128 s) → (ucs2 ≡ false → Below 128 t)
    → headed_octets ucs2 h s ≡ headed_octets ucs2 h t → headed_count ucs2 h s ≡ headed_count ucs2 h t → s ≡ t
headed-same ucs2 h s t a b e n = sym (headed-content ucs2 h s a) ∙ ap₂ (content_behind ucs2 (length h)) n e ∙ headed-content ucs2 h t b

-- and so do headers whose length octets say their lengths, by the octets alone
pub headed-header : (ucs2 : Bool) (h k s t : List ℕ) → length h ≡ header_size h → length k ≡ header_size k → headed_octets ucs2 h s ≡ headed_octets ucs2 k t → h ≡ k
headed-header ucs2 h k s t p q e =
    (header-front h k (tail_of ucs2 h s) (tail_of ucs2 k t) p q (sym (headed-front ucs2 h s) ∙ e ∙ headed-front ucs2 k t)).0
