-- Part k of a message, by its header and its content: parts have a header exactly where there are several, and a lone one holds the whole content.
-- Assumes nothing.
--   header-marked, header-none   the header of a part of several, and of a lone one
--   header-own, header-long      its length octet says its length, which is 6 octets, or none
--   part-fits, part-head, part_right, part-even, part-numbers, part-content   what read_part finds in a part's octets
--   content-below                what a part holds of septets is septets
--   lone-content, lone-header    a lone part holds the content, behind no header
--   numbers-same                 the same header of several parts has the same reference, total and number
use mathlib.Core.Path.{◌≡◌, refl, sym, ap, ◌∙◌, subst}
use mathlib.Core.Bool.{Bool, true, false, cond}
use mathlib.Core.List.{List, []}
use Prim.Native.Nat.{ℕ, ◌-◌, ◌*◌, ◌≤◌}
use native.Mathlib.Nat.{mul-zero}
use native.Mathlib.Omega.{arith}
use lib.ListN.{length, take, drop}
use lib.Seq.{take_all}
use Rattle.lists.proofs.Below.{Below, below-take, below-drop}
use Rattle.filling.specs.Filling.{part_at}
use Rattle.filling.proofs.Parts.{part-length}
use Rattle.headed.specs.declared.Numbers.{Numbers}
use Rattle.headed.specs.Header.{header_size, right_header, header_numbers, concatenation_header}
use Rattle.headed.proofs.Theorems.{concatenation-size, concatenation-length, concatenation-right, concatenation-numbers}
use Rattle.parted.specs.Parts.{room_behind, is_marked, part_header, part_content, part_octets, part_count}
use Rattle.parted.specs.Read.{count_fits, head_size, wrong_head, odd_behind, content_behind, marked_numbers}
use Rattle.parted.proofs.Headed.{headed-fits, headed-size, headed-numbers, headed-content, headed-even, headed-head}
use Rattle.std.specs.Prelude.{Some, None}

module _ (reference total k : ℕ) where
  abbrev numbers : Numbers
  numbers = record { reference = reference; total = total; number = k }

  pub header-marked : is_marked total ≡ true → part_header reference total k ≡ concatenation_header numbers
  unfolding part_header
  header-marked m = rw m

  pub header-none : is_marked total ≡ false → part_header reference total k ≡ []
  unfolding part_header
  header-none m = rw m

  pub header-own : is_marked total ≡ true → length (part_header reference total k) ≡ header_size (part_header reference total k)
  header-own m = subst (λ (h : List ℕ). length h ≡ header_size h) (sym (header-marked m)) (concatenation-size numbers)

  pub header-long : length (part_header reference total k) ≡ cond (is_marked total) 6 0
  unfolding part_header
  header-long = go (is_marked total)
    where
      go : (m : Bool) → length (cond m (concatenation_header numbers) []) ≡ cond m 6 0
      go true = concatenation-length numbers
      go false = refl

pub numbers-same : (reference total k reference' total' k' : ℕ) → is_marked total ≡ true → is_marked total' ≡ true
    → part_header reference total k ≡ part_header reference' total' k' → (reference ≡ reference') × (total ≡ total') × (k ≡ k')
numbers-same reference total k reference' total' k' m n e =
    let same : Some (numbers reference total k) ≡ Some (numbers reference' total' k') =
    sym (concatenation-numbers (numbers reference total k))
    ∙ ap header_numbers (sym (header-marked reference total k m) ∙ e ∙ header-marked reference' total' k' n)
    ∙ concatenation-numbers (numbers reference' total' k') in
    let both : numbers reference total k ≡ numbers reference' total' k' = cc in
    (ap (λ (n : Numbers). n.reference) both, ap (λ (n : Numbers). n.total) both, ap (λ (n : Numbers). n.number) both)

module _ (ucs2 : Bool) (reference total : ℕ) (s : List ℕ) (k : ℕ) where
  abbrev header : List ℕ
  header = part_header reference total k

  abbrev content : List ℕ
  content = part_content ucs2 total s k

  content-room : length content ≤ room_behind ucs2 (length header)
  unfolding part_content
  content-room = subst (λ (h : ℕ). length content ≤ room_behind ucs2 h) (sym (header-long reference total k)) (part-length (room_behind ucs2 (cond (is_marked total) 6 0)) s k)

  pub content-below : (ucs2 ≡ false → Below 128 s) → ucs2 ≡ false → Below 128 content
  unfolding part_content part_at
  content-below b e =
      let room : ℕ = room_behind ucs2 (cond (is_marked total) 6 0) in
      below-take 128 (drop (room * (k - 1)) s) (below-drop 128 s (b e) (room * (k - 1))) room

  pub part-fits : count_fits ucs2 (length (part_octets ucs2 reference total s k)) (part_count ucs2 reference total s k) ≡ true
  unfolding part_octets part_count
  part-fits = headed-fits ucs2 header content (subst (λ (n : ℕ). n ≤ 140) (sym (header-long reference total k)) (small (is_marked total))) content-room
    where
      small : (m : Bool) → cond m 6 0 ≤ 140
      small true = omega arith
      small false = omega arith

  pub part-head : head_size (is_marked total) (part_octets ucs2 reference total s k) ≡ length header
  unfolding part_octets
  part-head = go (is_marked total) refl
    where
      go : (m : Bool) → is_marked total ≡ m → head_size m (part_octets ucs2 reference total s k) ≡ length header
      go true m = headed-size ucs2 header content (header-own reference total k m)
      go false m = sym (ap length (header-none reference total k m))

  pub part_right : is_marked total ≡ true → wrong_head ucs2 (part_count ucs2 reference total s k) (part_octets ucs2 reference total s k) ≡ false
  unfolding part_octets part_count
  part_right m = headed-head ucs2 header content (header-own reference total k m) (ap right_header (header-marked reference total k m) ∙ concatenation-right (numbers reference total k))

  pub part-even : odd_behind ucs2 (head_size (is_marked total) (part_octets ucs2 reference total s k)) (part_octets ucs2 reference total s k) ≡ false
  unfolding part_octets
  part-even = ap (λ (h : ℕ). odd_behind ucs2 h (part_octets ucs2 reference total s k)) part-head ∙ headed-even ucs2 header content

  pub part-numbers : marked_numbers (is_marked total) (part_octets ucs2 reference total s k) ≡ cond (is_marked total) (Some (record { reference = reference; total = total; number = k })) None
  unfolding part_octets
  part-numbers = go (is_marked total) refl
    where
      go : (m : Bool) → is_marked total ≡ m → marked_numbers m (part_octets ucs2 reference total s k) ≡ cond m (Some (numbers reference total k)) None
      go true m = headed-numbers ucs2 header content (header-own reference total k m) ∙ ap header_numbers (header-marked reference total k m) ∙ concatenation-numbers (numbers reference total k)
      go false m = refl

  pub part-content : (ucs2 ≡ false → Below 128 s)
      → content_behind ucs2 (head_size (is_marked total) (part_octets ucs2 reference total s k)) (part_count ucs2 reference total s k) (part_octets ucs2 reference total s k) ≡ part_content ucs2 total s k
  unfolding part_octets part_count
  part-content b =
      ap (λ (h : ℕ). content_behind ucs2 h (part_count ucs2 reference total s k) (part_octets ucs2 reference total s k)) part-head
      ∙ headed-content ucs2 header content (content-below b)

-- ---- a lone message

pub lone-content : (ucs2 : Bool) (s : List ℕ) → length s ≤ room_behind ucs2 0 → part_content ucs2 1 s 1 ≡ s
unfolding part_content part_at
lone-content ucs2 s fits = ap (λ (n : ℕ). take (room_behind ucs2 0) (drop n s)) (mul-zero (room_behind ucs2 0)) ∙ take_all (room_behind ucs2 0) s fits

pub lone-header : (reference : ℕ) → part_header reference 1 1 ≡ []
lone-header reference = header-none reference 1 1 refl
