-- How writing and reading a page with letters come to their verdict, one test after the other, as the code meets them. Assumes nothing.
use mathlib.Core.Path.{◌≡◌, refl, sym, ap, ◌∙◌, subst}
use mathlib.Core.Bool.{Bool, true, false}
use mathlib.Core.List.{List, [], ◌∷◌}
use Prim.Native.Nat.{ℕ, ◌≤◌, ◌<◌}
use native.Mathlib.Omega.{arith}
use borrow.Author.Tests.{lt-ltb, le-ltb, eq-eqb, ne_eqb, eqb-true}
use lib.Dec.{ltb, leb, eqb, lit<}
use lib.ListN.{length, drop, get_or}
use Rattle.words.specs.declared.Service.TheVariants.{Broadcast}
use Rattle.words.specs.declared.Refusal.TheVariants.{WrongLength, WrongLetters, Unlisted, TooLong, NoRoom}
use Rattle.words.specs.Judging.{when, Verdict, refused, accepted, verdict, settle}
use Rattle.lists.specs.Lists.{first_place, laid}
use Rattle.lists.specs.Closing.{without_closing}
use Rattle.lists.proofs.Below.{Below, below-take, below-drop}
use Rattle.lists.proofs.Places.{place-most}
use Rattle.lists.proofs.Laid.{laid-full}
use Rattle.lists.proofs.Closing.{closing-front}
use Rattle.lists.proofs.Tests.{and_right}
use Rattle.fields.specs.declared.Letters.{Letters}
use Rattle.fields.specs.Letters.{are_letters}
use Rattle.letters.specs.declared.Encoded.{Encoded}
use Rattle.letters.specs.Writing.{listed_as, is_unlisted, septets_of, first_unlisted, encoded_as}
use Rattle.letters.proofs.Theorems.{Codable, codable-front}
use Rattle.letters.specs.Reading.{text_of, text_rules, text_answers, text_leaves}
use Rattle.letters.proofs.Theorems.{septets-below}
use Rattle.stream.specs.Stream.{unpacked}
use Rattle.stream.specs.Pages.{page, page_octets}
use Rattle.stream.specs.Ucs2.{octet_units}
use Rattle.stream.specs.SeptetCalls.{septets_fit}
use Rattle.stream.specs.ArrayCalls.{page_rules, page_answers, page_leaves, all_rules, all_leaves}
use Rattle.stream.proofs.Numbers.{digits-below}
use Rattle.stream.proofs.Stream.{unpacked-digits, unpacked-length}
use Rattle.stream.proofs.Pages.{page-below}
use Rattle.stream.proofs.Sent.{low_narrow}
use Rattle.stream.specs.Storing.{given_answers, given_leaves}
use Rattle.lettered.specs.declared.LetteredRead.{LetteredRead}
use Rattle.lettered.specs.LetteredPage.{lettered_septets, lettered_octets, lettered_size_rules, lettered_write_rules, lettered_writes, lettered_write_leaves, letters_in, closed_by_cr, wrong_letters, lettered_text, lettered_read_rules, lettered_reads, lettered_read_leaves}
use Rattle.lettered.proofs.Bits.{unpacked-same}
use Rattle.lettered.proofs.Pages.{lettered-below}
use Rattle.lettered.proofs.Theorems.{lettered-length}
use Rattle.lettering.specs.Inner.{behind_letters}
use Rattle.std.specs.Prelude.{Result, Ok, Err}
use Rattle.words.specs.declared.Refusal.{Refusal}
use Rattle.lettered.specs.Successes.{ok_lettered_read}

-- ---- writing

-- an answer and what is left in the buffer are those of the call
abbrev pub Writes : Bool → Letters → List ℕ → List ℕ → Result ℕ Refusal → List ℕ → Type 0
Writes ucs2 l t out answer left = (answer ≡ lettered_writes ucs2 l t (length out)) × (left ≡ lettered_write_leaves ucs2 l t out)

pub write-unnamed : (ucs2 : Bool) (l : Letters) (t out : List ℕ) → are_letters l ≡ false → Writes ucs2 l t out (Err WrongLetters) out
unfolding lettered_writes lettered_write_leaves lettered_write_rules verdict
write-unnamed ucs2 l t out e = simp e (refl, refl)

module _ (l : Letters) (t out : List ℕ) (named : are_letters l ≡ true) where
  pub write-unlisted : (w : Encoded) → w ≡ encoded_as t → w.units < length t → Writes false l t out (Err (Unlisted w.units)) out
  unfolding lettered_writes lettered_write_leaves lettered_write_rules lettered_size_rules verdict encoded_as
  write-unlisted w e h =
      let u : w.units ≡ first_unlisted t = ap (λ (x : Encoded). x.units) e in
      simp (named, lt-ltb (first_unlisted t) (length t) (omega arith)) (ap (λ (n : ℕ). Err (Unlisted n)) u, refl)

  -- what is told of a text that is encoded whole
  pub told : (w : Encoded) → w ≡ encoded_as t → length t ≤ w.units → Codable t × (w.septets ≡ length (septets_of t))
  unfolding encoded_as
  told w e h =
      let u : w.units ≡ first_unlisted t = ap (λ (x : Encoded). x.units) e in
      let all : first_unlisted t ≡ length t = omega (arith, place-most (λ unit. is_unlisted (listed_as unit)) t) in
      (all, ap (λ (x : Encoded). x.septets) e ∙ ap (λ (s : List ℕ). length (septets_of s)) (codable-front t all))

  pub write-over : (w : Encoded) → w ≡ encoded_as t → length t ≤ w.units → 90 < w.septets → Writes false l t out (Err TooLong) out
  unfolding lettered_writes lettered_write_leaves lettered_write_rules lettered_size_rules verdict
  write-over w e h over =
      let d = told w e h in
      simp (named, le-ltb (first_unlisted t) (length t) (omega (arith, d.0)), lt-ltb 90 (length (septets_of t)) (omega (arith, d.1))) (refl, refl)

  pub write-page : (w : Encoded) → w ≡ encoded_as t → length t ≤ w.units → w.septets ≤ 90 → (p : List ℕ) → p ≡ page (lettered_septets l (septets_of t))
      → (page_answers p (length out) ≡ lettered_writes false l t (length out)) × (page_leaves p out ≡ lettered_write_leaves false l t out)
  unfolding lettered_writes lettered_write_leaves lettered_write_rules lettered_size_rules lettered_octets page_octets page_answers page_leaves page_rules verdict
  write-page w e h fits p is =
      let d = told w e h in
      let s : List ℕ = lettered_septets l (septets_of t) in
      let narrow : length (page s) ≤ first_place (leb 128) (page s) = low_narrow (page s) (page-below s (lettered-below l (septets_of t) named (septets-below t))) in
      simp (is, named, le-ltb (first_unlisted t) (length t) (omega (arith, d.0)), le-ltb 90 (length (septets_of t)) (omega (arith, d.1)), le-ltb _ _ narrow) (refl, refl)

  pub write-long : 40 < length t → Writes true l t out (Err TooLong) out
  unfolding lettered_writes lettered_write_leaves lettered_write_rules lettered_size_rules verdict
  write-long h = simp (named, lt-ltb 40 (length t) h) (refl, refl)

  pub write-short : length t ≤ 40 → length out < 82 → Writes true l t out (Err NoRoom) out
  unfolding lettered_writes lettered_write_leaves lettered_write_rules lettered_size_rules verdict
  write-short h short =
      let few : ltb 40 (length t) ≡ false = le-ltb 40 (length t) h in
      simp (named, few, lettered-length true l t few, lt-ltb (length out) 82 short) (refl, refl)

  pub write_done : length t ≤ 40 → 82 ≤ length out → (left : List ℕ) → left ≡ laid (lettered_octets true l t) out → Writes true l t out (Ok 82) left
  unfolding lettered_writes lettered_write_leaves lettered_write_rules lettered_size_rules verdict
  write_done h room left e =
      let few : ltb 40 (length t) ≡ false = le-ltb 40 (length t) h in
      simp (named, few, lettered-length true l t few, le-ltb (length out) 82 room) (refl, e)

-- ---- reading

abbrev pub Reads : Bool → ℕ → List ℕ → List ℕ → Result LetteredRead Refusal → List ℕ → Type 0
Reads ucs2 count o out answer left = (answer ≡ lettered_reads ucs2 count o (length out)) × (left ≡ lettered_read_leaves ucs2 count o out)

pub read-misfit : (ucs2 : Bool) (count : ℕ) (o out : List ℕ) → septets_fit Broadcast (length o) count ≡ false → Reads ucs2 count o out (Err WrongLength) out
unfolding lettered_reads lettered_read_leaves lettered_read_rules verdict
read-misfit ucs2 count o out e = simp e (refl, refl)

pub read-unnamed : (ucs2 : Bool) (count : ℕ) (o out : List ℕ) → septets_fit Broadcast (length o) count ≡ true → are_letters (letters_in o) ≡ false
    → Reads ucs2 count o out (Err WrongLetters) out
unfolding lettered_reads lettered_read_leaves lettered_read_rules wrong_letters verdict
read-unnamed ucs2 count o out e w = simp (e, w) (refl, refl)

-- octets that fit come with the count 0
pub read-counted : (ucs2 : Bool) (count : ℕ) (o out : List ℕ) (answer : Result LetteredRead Refusal) (left : List ℕ) → septets_fit Broadcast (length o) count ≡ true → Reads ucs2 0 o out answer left
    → Reads ucs2 count o out answer left
read-counted ucs2 count o out answer left e r =
    subst (λ (n : ℕ). Reads ucs2 n o out answer left) (sym (eqb-true count 0 (and_right (eqb (length o) 82) (eqb count 0) e))) r

-- the septets of a page in an array
pub all-unpacked : (o z : List ℕ) → length o ≡ 82 → length z ≡ 93 → all_leaves Broadcast o 0 z ≡ unpacked 93 o
unfolding all_leaves all_rules verdict
all-unpacked o z e n =
    let size : length (unpacked 93 o) ≡ 93 = unpacked-length 93 o in
    rw e (simp (le-ltb (length z) (length (unpacked 93 o)) (omega arith)) (laid-full (unpacked 93 o) z (omega arith)))

settled : (l : Letters) (v : Verdict) (n : ℕ) → behind_letters l (settle v Err (Ok n)) ≡ settle v Err (ok_lettered_read n l)
settled l (refused q) n = refl
settled l accepted n = refl

module _ (l : Letters) (o out : List ℕ) (size : length o ≡ 82) (is : l ≡ letters_in o) (named : are_letters l ≡ true) where
  right : are_letters (letters_in o) ≡ true
  right = ap are_letters (sym is) ∙ named

  -- the CR behind the letters is the third of all septets
  closed : Below 256 o → get_or (unpacked 3 o) 2 0 ≡ get_or (unpacked 93 o) 2 0
  closed h = unpacked-same o h 3 93 2 (lit< tt) (lit< tt)

  pub read-open : Below 256 o → (get_or (unpacked 93 o) 2 0 ≡ 13 → ⊥) → Reads false 0 o out (Err WrongLetters) out
  unfolding lettered_reads lettered_read_leaves lettered_read_rules wrong_letters closed_by_cr verdict
  read-open h other = simp (size, right, ne_eqb (get_or (unpacked 3 o) 2 0) 13 (λ e. other (sym (closed h) ∙ e))) (refl, refl)

  -- the text of septets
  pub read-text : Below 256 o → get_or (unpacked 93 o) 2 0 ≡ 13 → (s : List ℕ) → s ≡ without_closing 13 (drop 3 (unpacked 93 o))
      → (behind_letters l (text_answers s (text_of s) (length out)) ≡ lettered_reads false 0 o (length out)) × (text_leaves s (text_of s) out ≡ lettered_read_leaves false 0 o out)
  unfolding lettered_reads lettered_read_leaves lettered_read_rules wrong_letters closed_by_cr lettered_text text_answers text_leaves text_rules verdict
  read-text h cr s e =
      let all : List ℕ = drop 3 (unpacked 93 o) in
      let low : Below 128 all = below-drop 128 (unpacked 93 o) (subst (Below 128) (sym (unpacked-digits 93 o h)) (digits-below 128 93 _ (lit< tt))) 3 in
      let below : Below 128 s = subst (Below 128) (closing-front 13 all ∙ sym e) (below-take 128 all low (length (without_closing 13 all))) in
      simp (size, named, eq-eqb (get_or (unpacked 3 o) 2 0) 13 (closed h ∙ cr), le-ltb _ _ (low_narrow s below), sym e, sym is)
      (settled l (verdict (when (ltb (length out) (length (text_of s))) NoRoom ∷ [])) (length (text_of s)), refl)

  -- the text of units
  pub read-stored : (s : List ℕ) → s ≡ without_closing 13 (octet_units (drop 2 o))
      → (behind_letters l (given_answers s (length out)) ≡ lettered_reads true 0 o (length out)) × (given_leaves s out ≡ lettered_read_leaves true 0 o out)
  unfolding lettered_reads lettered_read_leaves lettered_read_rules wrong_letters lettered_text given_answers given_leaves verdict
  read-stored s e = simp (size, named, sym e, sym is) (settled l (verdict (when (ltb (length out) (length s)) NoRoom ∷ [])) (length s), refl)
