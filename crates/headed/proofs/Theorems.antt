-- An element's length octet says where it ends, and a header's where the header does, so that octets are elements in one way at most, and a header is told
-- by its own octets whatever stands behind it.
-- Assumes nothing.
--   elements-joined    the elements that octets are, joined, are the octets
--   elements-back      joined elements are read as themselves
--   right-header       a right header is its elements' octets, and gives their numbers
--   header-size, header-right, header-numbers   what a header with octets behind it is read as, by its elements
--   header-accepts     a right header is accepted
--   header-accounted   an accepted header is accounted for octet by octet
--   any-header-back, header-back     a written header is read back: any, and that of a part
--   concatenation-size, concatenation-length, concatenation-right, concatenation-numbers   that of a part by itself: it has 6 octets, as its length octet says, is right, and gives the numbers
--   header-refused-iff, header-refuses-only     12, exactly where there is no right header, and no other refusal
--   last-counts        of a repeated element the last counts
--   other-passed, other-right   an element of another identifier, at any place, changes neither the numbers nor whether a length is wrong
--   header-front       headers whose length octet says their length are told apart from what stands behind them
--   size-front, right-front, numbers-front      and what stands behind such a header changes nothing in how it is read
use mathlib.Core.Path.{◌≡◌, refl, sym, ap, ap₂, ◌∙◌}
use mathlib.Core.Bool.{Bool, true, false, not, cond, ◌&&◌, ◌||◌}
use mathlib.Core.List.{List, [], ◌∷◌, ◌++◌}
use mathlib.Core.Logic.{◌↔◌, ◌⊎◌, inl, inr}
use Prim.Native.Nat.{ℕ, zero, suc, ◌≤◌}
use native.Mathlib.Omega.{arith}
use borrow.Author.Tests.{leb-true, le-leb, eq-eqb, ne_eqb, ltb-false, not-true}
use lib.Dec.{ltb, leb, eqb}
use lib.ListN.{length, get_or, take, drop, length-append, length-drop, take-append-drop, get_or-append}
use lib.Seq.{length-take-le, take-append_seam, drop-append_seam, drop-append-le, take-append-le, take_at, drop_at}
use Rattle.lists.proofs.Tests.{and_left, and_right}
use Rattle.words.specs.declared.Refusal.{Refusal}
use Rattle.words.specs.declared.Refusal.TheVariants.{WrongHeader}
use Rattle.words.specs.Judging.{verdict}
use Rattle.words.proofs.Rules.{ok-inside}
use Rattle.headed.specs.declared.Numbers.{Numbers}
use Rattle.headed.specs.declared.HeaderRead.{HeaderRead}
use Rattle.headed.specs.Header.{Element, elements_octets, header_octets, Elements, broken, whole, before, elements_up_to, elements_of, concatenation, numbers_of, last_numbers, wrong_length, header_size, header_body, right_elements, right_header, numbers_in, header_numbers, header_rules, header_reads, concatenation_header}
use Rattle.headed.proofs.Steps.{chosen, elements-none, elements-next}
use Rattle.std.specs.Prelude.{Result, Option, Err, Some, None}
use Rattle.headed.specs.Successes.{ok_header_read}

-- ---- elements

broken-whole : (es : List Element) → broken ≡ whole es → ⊥
broken-whole es e = let z : ◌≡◌ {A = ℕ} 0 1 = cc in omega arith

same_whole : (es fs : List Element) → whole es ≡ whole fs → es ≡ fs
same_whole es fs e = cc

-- one element more
joined-next : (i n : ℕ) (o : List ℕ) (t : Bool) → ltb (length o) n ≡ t → (x : Elements) → ((fs : List Element) → x ≡ whole fs → elements_octets fs ≡ drop n o)
    → (es : List Element) → chosen t (record { identifier = i; octets = take n o }) x ≡ whole es → elements_octets es ≡ i ∷ n ∷ o
unfolding elements_octets
joined-next i n o true l x rest es e = absurd (broken-whole es e)
joined-next i n o false l broken rest es e = absurd (broken-whole es e)
joined-next i n o false l (whole fs) rest es e =
    let first : Element = record { identifier = i; octets = take n o } in
    ap elements_octets (sym (same_whole (first ∷ fs) es e))
    ∙ ap₂ (λ (k : ℕ) (r : List ℕ). i ∷ k ∷ (take n o ++ r)) (length-take-le n o (ltb-false (length o) n l)) (rest fs refl)
    ∙ ap (λ (r : List ℕ). i ∷ n ∷ r) (take-append-drop n o)

joined-up-to : (m : ℕ) (o : List ℕ) (es : List Element) → elements_up_to m o ≡ whole es → elements_octets es ≡ o
unfolding elements_up_to elements_octets
joined-up-to zero [] es e = ap elements_octets (sym (same_whole [] es e))
joined-up-to zero (i ∷ o) es e = absurd (broken-whole es e)
joined-up-to (suc m) [] es e = ap elements_octets (sym (same_whole [] es e))
joined-up-to (suc m) (i ∷ []) es e = absurd (broken-whole es e)
joined-up-to (suc m) (i ∷ n ∷ o) es e = joined-next i n o (ltb (length o) n) refl (elements_up_to m (drop n o)) (λ fs. joined-up-to m (drop n o) fs) es e

pub elements-joined : (o : List ℕ) (es : List Element) → elements_of o ≡ whole es → elements_octets es ≡ o
unfolding elements_of
elements-joined o es e = joined-up-to (length o) o es e

pub elements-back : (es : List Element) → elements_of (elements_octets es) ≡ whole es
unfolding elements_octets
elements-back [] = elements-none
elements-back (e ∷ es) =
    let d : List ℕ = e.octets in
    let rest : List ℕ = elements_octets es in
    elements-next e.identifier (length d) (d ++ rest) (omega (arith, length-append d rest))
    ∙ ap₂ (λ (x y : List ℕ). before (record { identifier = e.identifier; octets = x }) (elements_of y)) (take-append_seam d rest) (drop-append_seam d rest)
    ∙ ap (before e) (elements-back es)

-- ---- a header

-- what a right header is made of
module _ (o : List ℕ) (right : right_header o ≡ true) where
  right-long : header_size o ≤ length o
  unfolding right_header
  right-long = leb-true (header_size o) (length o) (and_left _ _ right)

  right-elements : right_elements (elements_of (header_body o)) ≡ true
  unfolding right_header
  right-elements = and_right (leb (header_size o) (length o)) _ right

-- the octets of a header, by those behind the length octet
body-front : (o : List ℕ) → header_size o ≤ length o → (take (header_size o) o ≡ length (header_body o) ∷ header_body o)
unfolding header_body
body-front [] h = absurd (omega arith)
body-front (x ∷ o) h = ap (λ (n : ℕ). n ∷ take x o) (sym (length-take-le x o (omega arith)))

pub right-header : (o : List ℕ) → right_header o ≡ true
    → (es : List Element) × ((take (header_size o) o ≡ header_octets es) × ((header_numbers o ≡ last_numbers None es) × (wrong_length es ≡ false)))
unfolding header_numbers header_octets
right-header o right = go (elements_of (header_body o)) refl (right-elements o right)
  where
    go : (x : Elements) → elements_of (header_body o) ≡ x → right_elements x ≡ true
        → (es : List Element) × ((take (header_size o) o ≡ header_octets es) × ((header_numbers o ≡ last_numbers None es) × (wrong_length es ≡ false)))
    go broken e r = absurd (let z : ◌≡◌ {A = ℕ} 0 1 = cc in omega arith)
    go (whole es) e r =
        let front : take (header_size o) o ≡ header_octets es = body-front o (right-long o right) ∙ ap (λ (b : List ℕ). length b ∷ b) (sym (elements-joined (header_body o) es e)) in
        (es, (front, (ap numbers_in e, not-true (wrong_length es) r)))

-- a header with octets behind it
module _ (es : List Element) (rest : List ℕ) where
  pub header-size : header_size (header_octets es ++ rest) ≡ length (header_octets es)
  unfolding header_octets
  header-size = refl

  header-elements : elements_of (header_body (header_octets es ++ rest)) ≡ whole es
  unfolding header_octets header_body
  header-elements = ap elements_of (take-append_seam (elements_octets es) rest) ∙ elements-back es

  pub header-numbers : header_numbers (header_octets es ++ rest) ≡ last_numbers None es
  unfolding header_numbers
  header-numbers = ap numbers_in header-elements

  pub header-right : wrong_length es ≡ false → right_header (header_octets es ++ rest) ≡ true
  unfolding right_header header_octets
  header-right right =
      let fits : header_size (header_octets es ++ rest) ≤ length (header_octets es ++ rest) = omega (arith, length-append (elements_octets es) rest) in
      ap₂ (λ (t : Bool) (x : Elements). t && right_elements x) (le-leb _ _ fits) header-elements ∙ ap not right

-- ---- read_header

-- the two answers that there are
abbrev Outcome : List ℕ → Result HeaderRead Refusal → Type 0
Outcome o a = ((right_header o ≡ true) × (a ≡ ok_header_read (header_size o) (header_numbers o))) ⊎ ((right_header o ≡ false) × (a ≡ Err WrongHeader))

module _ (o : List ℕ) where
  pub header-accepts : right_header o ≡ true → header_reads o ≡ ok_header_read (header_size o) (header_numbers o)
  unfolding header_reads header_rules verdict
  header-accepts right = rw right

  header-refuses : right_header o ≡ false → header_reads o ≡ Err WrongHeader
  unfolding header_reads header_rules verdict
  header-refuses wrong = rw wrong

  header-either : (a : Result HeaderRead Refusal) → header_reads o ≡ a → Outcome o a
  header-either a e = go (right_header o) refl
    where
      go : (t : Bool) → right_header o ≡ t → Outcome o a
      go true r = inl (r, sym e ∙ header-accepts r)
      go false r = inr (r, sym e ∙ header-refuses r)

  pub header-accounted : (n : ℕ) (c : Option Numbers) → header_reads o ≡ ok_header_read n c
      → (es : List Element) × ((take n o ≡ header_octets es) × ((c ≡ last_numbers None es) × (wrong_length es ≡ false)))
  header-accounted n c e = go (header-either (ok_header_read n c) e)
    where
      go : Outcome o (ok_header_read n c) → (es : List Element) × ((take n o ≡ header_octets es) × ((c ≡ last_numbers None es) × (wrong_length es ≡ false)))
      go (inl (r, d)) =
          let size : n ≡ header_size o = ap (λ (m : HeaderRead). m.octets) (ok-inside d) in
          let numbers : c ≡ header_numbers o = ap (λ (m : HeaderRead). m.concatenation) (ok-inside d) in
          let w = right-header o r in
          (w.0, (ap (λ (k : ℕ). take k o) size ∙ w.1.0, (numbers ∙ w.1.1.0, w.1.1.1)))
      go (inr (r, d)) = absurd (let z : ◌≡◌ {A = ℕ} 0 1 = cc in omega arith)

  pub header-refused-iff : (header_reads o ≡ Err WrongHeader) ↔ (right_header o ≡ false)
  header-refused-iff = (λ e. go (header-either (Err WrongHeader) e), header-refuses)
    where
      go : Outcome o (Err WrongHeader) → right_header o ≡ false
      go (inl (r, d)) = absurd (let z : ◌≡◌ {A = ℕ} 0 1 = cc in omega arith)
      go (inr (r, d)) = r

  pub header-refuses-only : (q : Refusal) → header_reads o ≡ Err q → q ≡ WrongHeader
  header-refuses-only q e = go (header-either (Err q) e)
    where
      go : Outcome o (Err q) → q ≡ WrongHeader
      go (inl (r, d)) = absurd (let z : ◌≡◌ {A = ℕ} 0 1 = cc in omega arith)
      go (inr (r, d)) = cc

pub any-header-back : (es : List Element) (rest : List ℕ) → wrong_length es ≡ false
    → header_reads (header_octets es ++ rest) ≡ ok_header_read (length (header_octets es)) (last_numbers None es)
any-header-back es rest right =
    header-accepts (header_octets es ++ rest) (header-right es rest right) ∙ ap₂ ok_header_read (header-size es rest) (header-numbers es rest)

pub header-back : (n : Numbers) (rest : List ℕ) → header_reads (concatenation_header n ++ rest) ≡ ok_header_read 6 (Some n)
unfolding concatenation_header header_octets elements_octets last_numbers wrong_length
header-back n rest = any-header-back (record { identifier = concatenation; octets = n.reference ∷ n.total ∷ n.number ∷ [] } ∷ []) rest refl

-- the header of a part, by itself
module _ (n : Numbers) where
  pub concatenation-size : length (concatenation_header n) ≡ header_size (concatenation_header n)
  unfolding concatenation_header header_octets elements_octets
  concatenation-size = refl

  pub concatenation-length : length (concatenation_header n) ≡ 6
  unfolding concatenation_header header_octets elements_octets
  concatenation-length = refl

  pub concatenation-right : right_header (concatenation_header n) ≡ true
  unfolding concatenation_header header_octets elements_octets right_header header_body elements_of elements_up_to wrong_length
  concatenation-right = refl

  pub concatenation-numbers : header_numbers (concatenation_header n) ≡ Some n
  unfolding concatenation_header header_octets elements_octets header_numbers header_body elements_of elements_up_to last_numbers
  concatenation-numbers = refl

-- ---- several elements

pub last-counts : (found : Option Numbers) (es : List Element) (e : Element) → e.identifier ≡ concatenation → last_numbers found (es ++ (e ∷ [])) ≡ Some (numbers_of e)
unfolding last_numbers
last-counts found [] e i = rw (eq-eqb e.identifier concatenation i)
last-counts found (f ∷ es) e i = last-counts (cond (eqb f.identifier concatenation) (Some (numbers_of f)) found) es e i

module _ (e : Element) (other : e.identifier ≡ concatenation → ⊥) (gs : List Element) where
  pub other-passed : (found : Option Numbers) (fs : List Element) → last_numbers found (fs ++ (e ∷ gs)) ≡ last_numbers found (fs ++ gs)
  unfolding last_numbers
  other-passed found [] = ap (λ (t : Bool). last_numbers (cond t (Some (numbers_of e)) found) gs) (ne_eqb e.identifier concatenation other)
  other-passed found (f ∷ fs) = other-passed (cond (eqb f.identifier concatenation) (Some (numbers_of f)) found) fs

  pub other-right : (fs : List Element) → wrong_length (fs ++ (e ∷ gs)) ≡ wrong_length (fs ++ gs)
  unfolding wrong_length
  other-right [] = rw (ne_eqb e.identifier concatenation other)
  other-right (f ∷ fs) = ap (λ (t : Bool). (eqb f.identifier concatenation && not (eqb (length f.octets) 3)) || t) (other-right fs)

-- ---- a header that its length octet tells

module _ (h s : List ℕ) (own : length h ≡ header_size h) where
  pub size-front : header_size (h ++ s) ≡ header_size h
  size-front = ap suc (get_or-append h s 0 0 (omega arith))

  body-of-front : header_body (h ++ s) ≡ header_body h
  unfolding header_body
  body-of-front =
      ap₂ take (get_or-append h s 0 0 (omega arith)) (drop-append-le 1 h s (omega arith))
      ∙ take-append-le (get_or h 0 0) (drop 1 h) s (omega (arith, length-drop 1 h))

  pub numbers-front : header_numbers (h ++ s) ≡ header_numbers h
  unfolding header_numbers
  numbers-front = ap (λ (b : List ℕ). numbers_in (elements_of b)) body-of-front

  pub right-front : right_header (h ++ s) ≡ right_header h
  unfolding right_header
  right-front =
      let fits : header_size (h ++ s) ≤ length (h ++ s) = omega (arith, size-front, length-append h s) in
      ap₂ (λ (t : Bool) (b : List ℕ). t && right_elements (elements_of b)) (le-leb _ _ fits ∙ sym (le-leb (header_size h) (length h) (omega arith))) body-of-front

pub header-front : (h k s t : List ℕ) → length h ≡ header_size h → length k ≡ header_size k → h ++ s ≡ k ++ t → (h ≡ k) × (s ≡ t)
header-front h k s t p q e =
    let size : length k ≡ length h = q ∙ sym (size-front k t q) ∙ ap header_size (sym e) ∙ size-front h s p ∙ sym p in
    (sym (take-append_seam h s) ∙ ap (take (length h)) e ∙ take_at k t (length h) size, sym (drop-append_seam h s) ∙ ap (drop (length h)) e ∙ drop_at k t (length h) size)
