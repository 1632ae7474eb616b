-- Elements gone through one by one: what the octets that are left are, and what reading them answers, with what was found before them.
-- Assumes nothing.
--   chosen t e x         the definition's choice at an element e with x behind it: broken where t is true
--   elements-none, elements-lone, elements-past, elements-next   what octets are by their first element
--   Scanned              reading goes on at the octets that are left, with what was found before them
--   scan-ends, scan-lone, scan-past, scan-other, scan-wrong, scan-numbers   one step of it, by what these begin with
--   header-short, header-body   what a header is read as, by its length octet
--   header-fits, header-told, header-refusal   what an answer tells of the octets
use mathlib.Core.Path.{◌≡◌, refl, sym, ap, ◌∙◌}
use mathlib.Core.Bool.{Bool, true, false, not}
use mathlib.Core.List.{List, [], ◌∷◌}
use Prim.Native.Nat.{ℕ, zero, suc, ◌+◌, ◌≤◌, ◌<◌}
use native.Mathlib.Omega.{arith}
use borrow.Author.Tests.{lt-ltb, le-ltb, le-leb, lt-leb, leb-true, eq-eqb, ne_eqb}
use lib.Dec.{ltb, leb}
use lib.ListN.{length, get_or, take, drop, length-drop}
use lib.Seq.{length-take-le}
use Rattle.words.specs.declared.Refusal.{Refusal}
use Rattle.words.specs.declared.Refusal.TheVariants.{WrongHeader}
use Rattle.words.specs.Judging.{when, verdict, settle}
use Rattle.words.proofs.Rules.{ok-inside}
use Rattle.headed.specs.declared.HeaderRead.{HeaderRead}
use Rattle.lists.proofs.Tests.{and_left}
use Rattle.headed.specs.declared.Numbers.{Numbers}
use Rattle.headed.specs.Header.{Element, Elements, broken, whole, before, elements_up_to, elements_of, concatenation, numbers_of, last_numbers, wrong_length, header_size, header_body, right_header, header_numbers, header_rules, header_reads}
use Rattle.headed.specs.Inner.{body_reads}
use Rattle.std.specs.Prelude.{Option, Err, Some, None}
use Rattle.headed.specs.Successes.{ok_header_read}

-- ---- what octets are

length-zero : (o : List ℕ) → length o ≡ 0 → o ≡ []
length-zero [] h = refl
length-zero (x ∷ o) h = absurd (omega arith)

-- the definition's choice between the two
abbrev pub chosen : Bool → Element → Elements → Elements
chosen t e x = elim t as (λ (b : Bool). Elements) [ true ↦ broken | false ↦ before e x ]

-- of octets no more are elements than there are octets
enough : (m n : ℕ) (o : List ℕ) → length o ≤ m → length o ≤ n → elements_up_to m o ≡ elements_up_to n o
unfolding elements_up_to
enough zero zero [] h k = refl
enough zero (suc n) [] h k = refl
enough (suc m) zero [] h k = refl
enough (suc m) (suc n) [] h k = refl
enough zero n (i ∷ o) h k = absurd (omega arith)
enough (suc m) zero (i ∷ o) h k = absurd (omega arith)
enough (suc m) (suc n) (i ∷ []) h k = refl
enough (suc m) (suc n) (i ∷ l ∷ o) h k =
    ap (chosen (ltb (length o) l) (record { identifier = i; octets = take l o }))
    (enough m n (drop l o) (omega (arith, length-drop l o)) (omega (arith, length-drop l o)))

pub elements-none : elements_of [] ≡ whole []
unfolding elements_of elements_up_to
elements-none = refl

pub elements-lone : (i : ℕ) → elements_of (i ∷ []) ≡ broken
unfolding elements_of elements_up_to
elements-lone i = refl

pub elements-past : (i n : ℕ) (o : List ℕ) → length o < n → elements_of (i ∷ n ∷ o) ≡ broken
unfolding elements_of elements_up_to
elements-past i n o h =
    ap (λ (t : Bool). chosen t (record { identifier = i; octets = take n o }) (elements_up_to (suc (length o)) (drop n o))) (lt-ltb (length o) n h)

pub elements-next : (i n : ℕ) (o : List ℕ) → n ≤ length o → elements_of (i ∷ n ∷ o) ≡ before (record { identifier = i; octets = take n o }) (elements_of (drop n o))
unfolding elements_of elements_up_to
elements-next i n o h =
    ap (λ (t : Bool). chosen t (record { identifier = i; octets = take n o }) (elements_up_to (suc (length o)) (drop n o))) (le-ltb (length o) n h)
    ∙ ap (before (record { identifier = i; octets = take n o })) (enough (suc (length o)) (length (drop n o)) (drop n o) (omega (arith, length-drop n o)) (omega arith))

-- ---- what reading an element adds

module _ (size : ℕ) (found : Option Numbers) (e : Element) where
  other-reads : (x : Elements) → (e.identifier ≡ concatenation → ⊥) → body_reads size found (before e x) ≡ body_reads size found x
  unfolding wrong_length last_numbers
  other-reads broken d = refl
  other-reads (whole es) d = simp (ne_eqb e.identifier concatenation d)

  wrong-reads : (x : Elements) → e.identifier ≡ concatenation → (length e.octets ≡ 3 → ⊥) → body_reads size found (before e x) ≡ Err WrongHeader
  unfolding wrong_length last_numbers verdict
  wrong-reads broken i d = refl
  wrong-reads (whole es) i d = simp (eq-eqb e.identifier concatenation i, ne_eqb (length e.octets) 3 d)

  numbers-read : (x : Elements) → e.identifier ≡ concatenation → length e.octets ≡ 3 → body_reads size found (before e x) ≡ body_reads size (Some (numbers_of e)) x
  unfolding wrong_length last_numbers
  numbers-read broken i l = refl
  numbers-read (whole es) i l = simp (eq-eqb e.identifier concatenation i, eq-eqb (length e.octets) 3 l)

-- ---- at an element

module _ (size : ℕ) (body : List ℕ) where
  abbrev pub Scanned : List ℕ → Option Numbers → Type 0
  Scanned rest found = body_reads size found (elements_of rest) ≡ body_reads size None (elements_of body)

  module _ (rest : List ℕ) (found : Option Numbers) (s : Scanned rest found) where
    pub scan-ends : length rest ≡ 0 → ok_header_read size found ≡ body_reads size None (elements_of body)
    unfolding wrong_length last_numbers verdict
    scan-ends h = sym (ap (λ (o : List ℕ). body_reads size found (elements_of o)) (length-zero rest h) ∙ ap (body_reads size found) elements-none) ∙ s

    pub scan-lone : (i : ℕ) (after : List ℕ) → rest ≡ i ∷ after → length after ≡ 0 → Err WrongHeader ≡ body_reads size None (elements_of body)
    scan-lone i after e h =
        sym (ap (λ (o : List ℕ). body_reads size found (elements_of o)) (e ∙ ap (λ (o : List ℕ). i ∷ o) (length-zero after h)) ∙ ap (body_reads size found) (elements-lone i)) ∙ s

    module _ (i n : ℕ) (after : List ℕ) (e : rest ≡ i ∷ n ∷ after) where
      pub scan-past : length after < n → Err WrongHeader ≡ body_reads size None (elements_of body)
      scan-past h = sym (ap (λ (o : List ℕ). body_reads size found (elements_of o)) e ∙ ap (body_reads size found) (elements-past i n after h)) ∙ s

      module _ (h : n ≤ length after) (told : List ℕ) (d : told ≡ take n after) where
        abbrev here : Element
        here = record { identifier = i; octets = told }

        here-next : elements_of rest ≡ before here (elements_of (drop n after))
        here-next = ap elements_of e ∙ elements-next i n after h ∙ ap (λ (l : List ℕ). before (record { identifier = i; octets = l }) (elements_of (drop n after))) (sym d)

        pub scan-wrong : i ≡ 0 → (length told ≡ 3 → ⊥) → Err WrongHeader ≡ body_reads size None (elements_of body)
        scan-wrong o l = sym (ap (body_reads size found) here-next ∙ wrong-reads size found here (elements_of (drop n after)) o l) ∙ s

        module _ (next : List ℕ) (b : next ≡ drop n after) where
          before-next : body_reads size found (before here (elements_of next)) ≡ body_reads size None (elements_of body)
          before-next = ap (λ (l : List ℕ). body_reads size found (before here (elements_of l))) b ∙ sym (ap (body_reads size found) here-next) ∙ s

          pub scan-other : (i ≡ 0 → ⊥) → Scanned next found
          scan-other o = sym (other-reads size found here (elements_of next) o) ∙ before-next

          pub scan-numbers : i ≡ 0 → length told ≡ 3 → Scanned next (Some (numbers_of here))
          scan-numbers o l = sym (numbers-read size found here (elements_of next) o l) ∙ before-next

-- ---- a header

module _ (o : List ℕ) where
  -- no octets hold none, and not fewer than the length octet asks
  pub header-short : length o < header_size o → header_reads o ≡ Err WrongHeader
  unfolding header_reads header_rules right_header verdict
  header-short h = simp (lt-leb (header_size o) (length o) h)

  pub header-body : header_size o ≤ length o → header_reads o ≡ body_reads (length (header_body o) + 1) None (elements_of (header_body o))
  unfolding header_reads header_rules right_header header_numbers header_body verdict
  header-body h =
      let long : length (header_body o) + 1 ≡ header_size o = body-size in
      split (elements_of (header_body o)) refl ∙ ap (λ (n : ℕ). body_reads n None (elements_of (header_body o))) (sym long)
    where
      body-size : length (header_body o) + 1 ≡ header_size o
      body-size = omega (arith, length-take-le (get_or o 0 0) (drop 1 o) (omega (arith, length-drop 1 o)))

      judged : (es : List Element) (t : Bool) → settle (verdict (when (not (not t)) WrongHeader ∷ [])) Err (ok_header_read (header_size o) (last_numbers None es)) ≡ settle (verdict (when t WrongHeader ∷ [])) Err (ok_header_read (header_size o) (last_numbers None es))
      judged es true = refl
      judged es false = refl

      split : (x : Elements) → elements_of (header_body o) ≡ x → header_reads o ≡ body_reads (header_size o) None (elements_of (header_body o))
      split broken e = simp (le-leb (header_size o) (length o) h, e)
      split (whole es) e = simp (le-leb (header_size o) (length o) h, e) (judged es (wrong_length es))

  pub header-fits : right_header o ≡ true → header_size o ≤ length o
  unfolding right_header
  header-fits r = leb-true (header_size o) (length o) (and_left (leb (header_size o) (length o)) _ r)

  -- what an answer tells
  pub header-told : (n : ℕ) (c : Option Numbers) → ok_header_read n c ≡ header_reads o → (right_header o ≡ true) × (n ≡ header_size o) × (c ≡ header_numbers o) × (header_size o ≤ length o)
  unfolding header_reads header_rules verdict
  header-told n c e = go (right_header o) refl e
    where
      go : (t : Bool) → right_header o ≡ t → ok_header_read n c ≡ settle (verdict (when (not t) WrongHeader ∷ [])) Err (ok_header_read (header_size o) (header_numbers o))
          → (right_header o ≡ true) × (n ≡ header_size o) × (c ≡ header_numbers o) × (header_size o ≤ length o)
      go true r d = let same = ok-inside d in (r, ap (λ (m : HeaderRead). m.octets) same, ap (λ (m : HeaderRead). m.concatenation) same, header-fits r)
      go false r d = let z : ◌≡◌ {A = ℕ} 0 1 = cc in absurd (omega arith)

  pub header-refusal : (q : Refusal) → Err q ≡ header_reads o → (right_header o ≡ false) × (q ≡ WrongHeader)
  unfolding header_reads header_rules verdict
  header-refusal q e = go (right_header o) refl e
    where
      go : (t : Bool) → right_header o ≡ t → Err q ≡ settle (verdict (when (not t) WrongHeader ∷ [])) Err (ok_header_read (header_size o) (header_numbers o)) → (right_header o ≡ false) × (q ≡ WrongHeader)
      go true r d = let z : ◌≡◌ {A = ℕ} 0 1 = cc in absurd (omega arith)
      go false r d = (r, (cc))
