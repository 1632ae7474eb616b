-- What a broadcast page that begins with the letters of its language is, and what its two calls answer. Each theorem is of the definitions, for
-- 7-bit text (0001 0000) and for UCS2 (0001 0001) alike, and holds because letters and text come back from the octets each by itself.
-- For crates above: cite these, and open no definition.
--
-- The page
--   lettered-length        a page has 82 octets, whatever its letters
--   lettered-back          its octets give back the letters, and the text without closing CRs
--   lettered-same-iff      two pages are the same exactly when their letters are and their texts are but for closing CRs
--   wrong-letters-iff, right-letters-iff   octets are refused for their letters exactly when one is not a to z, or a 7-bit page has no CR behind them
--   spare-bits-zero        the two bits that pad the letters of a UCS2 page, 7 and 6 of octet 1, are 0 on writing
--   spare-bits-ignored, spare-bits-read    and do not count on reading: octets read the same unpadded, with those two at 0
-- The calls
--   write-accepts-iff, write-leaves   the writer accepts exactly a WritablePage where there is room for 82 octets, and then leaves the page's octets
--   write-refuses-letters-iff         it refuses with 11 exactly where the letters are not both a to z, whatever else is wrong
--   read-accepts-iff, read-leaves     the reader accepts exactly a ReadablePage, and then leaves its text
--   read-refuses-letters-iff          it refuses with 11 exactly 82 octets with the count 0 whose letters are wrong
--   write-refuses-kept, read-refuses-kept   a refused call leaves the lent buffer as it came
--   lettered-written-read             what was written is read: these letters, and the text without closing CRs
-- Assumes nothing.
use mathlib.Core.Path.{◌≡◌, refl, sym, ap, ap₂, ◌∙◌, subst}
use mathlib.Core.Bool.{Bool, true, false, cond, not, ◌&&◌, ◌||◌}
use mathlib.Core.List.{List, [], ◌∷◌}
use mathlib.Core.Logic.{◌↔◌, ◌⊎◌, inl, inr}
use Prim.Native.Nat.{ℕ, ◌%◌, ◌≤◌, ◌<◌}
use native.Mathlib.Omega.{arith}
use borrow.Author.Tests.{le-ltb, ltb-false, eq-eqb, eqb-true, not-true, not-false}
use lib.Dec.{ltb, eqb, lit<}
use lib.ListN.{length, get_or, length-set, get_or-append}
use lib.Seq.{drop-set-lt}
use Rattle.lists.specs.Bits.{bit_of}
use Rattle.lists.specs.Lists.{laid}
use Rattle.lists.specs.Closing.{without_closing}
use Rattle.words.specs.declared.Service.TheVariants.{Broadcast}
use Rattle.words.specs.declared.Refusal.{Refusal}
use Rattle.words.specs.declared.Refusal.TheVariants.{WrongLength, WrongLetters, Unlisted, TooLong, NoRoom}
use Rattle.words.specs.Judging.{when, Verdict, refused, accepted, verdict, settle}
use Rattle.words.proofs.Judging.{settle-given}
use Rattle.words.proofs.Rules.{gives, given-iff, accepted-iff, settle-refused-iff, settle-given-iff, ok-inside, verdict_of}
use Rattle.lists.proofs.Below.{Below}
use Rattle.lists.proofs.Tests.{and_right}
use Rattle.fields.specs.declared.Letters.{Letters}
use Rattle.fields.specs.Letters.{are_letters}
use Rattle.letters.specs.Sized.{not_codable, over_room}
use Rattle.letters.specs.Writing.{first_unlisted}
use Rattle.letters.specs.Reading.{text_of}
use Rattle.stream.specs.Stream.{octets_for, packed, unpacked}
use Rattle.stream.specs.UssdPacking.{cr}
use Rattle.stream.specs.Ucs2.{octet_units}
use Rattle.stream.specs.SeptetCalls.{septets_fit}
use Rattle.stream.proofs.Stream.{packed-length}
use Rattle.stream.proofs.Pages.{over-closing, over-same}
use Rattle.stream.proofs.Calls.{fit-page}
use Rattle.stream.proofs.Theorems.{pack-spare, unpack-spare}
use Rattle.lettered.specs.declared.LetteredRead.{LetteredRead}
use Rattle.lettered.specs.LetteredPage.{room_septets, room_units, lettered_octets, lettered_size_rules, lettered_write_rules, lettered_writes, lettered_write_leaves, letters_in, closed_by_cr, wrong_letters, lettered_text, lettered_read_rules, lettered_reads, lettered_read_leaves}
use Rattle.lettered.proofs.Texts.{held_of, closed-text, closed-content}
use Rattle.lettered.proofs.Pages.{room_of, room-held, filling, filling-length, filling-below, framed, lettered-framed, behind, text-behind, framed-length, framed-letters, framed-cr, framed-behind}
use Rattle.lettered.proofs.Spare.{unpadded, low_same}
use Rattle.std.specs.Prelude.{Result, Ok, Err}
use Rattle.lettered.specs.Successes.{ok_lettered_read}

-- letters and a text that a page can be written of, where there is room for its octets
pub record WritablePage (ucs2 : Bool) (l : Letters) (t : List ℕ) : Type 0 where
  pub letters : are_letters l ≡ true
  pub codable : not_codable ucs2 t ≡ false
  pub sized : over_room room_septets room_units ucs2 t ≡ false

-- octets and a count that are a page, whose text has that much room
pub record ReadablePage (ucs2 : Bool) (count : ℕ) (o : List ℕ) (room : ℕ) : Type 0 where
  pub whole : length o ≡ 82
  pub uncounted : count ≡ 0
  pub right : wrong_letters ucs2 o ≡ false
  pub fits : length (lettered_text ucs2 o) ≤ room

-- ---- the letters of a page

module _ (ucs2 : Bool) (o : List ℕ) where
  pub wrong-letters-iff : (wrong_letters ucs2 o ≡ true) ↔ ((are_letters (letters_in o) ≡ false) ⊎ ((ucs2 ≡ false) × (closed_by_cr o ≡ false)))
  unfolding wrong_letters
  wrong-letters-iff = (to (are_letters (letters_in o)) ucs2 (closed_by_cr o), from (are_letters (letters_in o)) ucs2 (closed_by_cr o))
    where
      to : (a b c : Bool) → (not a || (not b && not c)) ≡ true → (a ≡ false) ⊎ ((b ≡ false) × (c ≡ false))
      to false b c e = inl refl
      to true false false e = inr (refl, refl)
      to true false true e = inl (sym e)
      to true true c e = inl (sym e)

      from : (a b c : Bool) → (a ≡ false) ⊎ ((b ≡ false) × (c ≡ false)) → (not a || (not b && not c)) ≡ true
      from a b c (inl e) = rw e
      from false b c (inr e) = refl
      from true b c (inr e) = rw (e.0, e.1)

  pub right-letters-iff : (wrong_letters ucs2 o ≡ false) ↔ ((are_letters (letters_in o) ≡ true) × (ucs2 ≡ false → closed_by_cr o ≡ true))
  unfolding wrong_letters
  right-letters-iff = (to (are_letters (letters_in o)) ucs2 (closed_by_cr o), λ w. from (are_letters (letters_in o)) ucs2 (closed_by_cr o) w.0 w.1)
    where
      to : (a b c : Bool) → (not a || (not b && not c)) ≡ false → (a ≡ true) × (b ≡ false → c ≡ true)
      to false b c e = absurd (let z : ◌≡◌ {A = ℕ} 0 1 = cc in omega arith)
      to true false c e = (refl, λ n. not-false c e)
      to true true c e = (refl, λ n. absurd (let z : ◌≡◌ {A = ℕ} 0 1 = cc in omega arith))

      from : (a b c : Bool) → a ≡ true → (b ≡ false → c ≡ true) → (not a || (not b && not c)) ≡ false
      from a false c e f = rw (e, f refl)
      from a true c e f = rw e

-- ---- the page

pub lettered-length : (ucs2 : Bool) (l : Letters) (t : List ℕ) → over_room room_septets room_units ucs2 t ≡ false → length (lettered_octets ucs2 l t) ≡ 82
lettered-length ucs2 l t e = ap length (lettered-framed ucs2 l t) ∙ framed-length l (filling ucs2 t) ucs2 (filling-length ucs2 t e)

module _ (ucs2 : Bool) (l : Letters) (t : List ℕ) (w : WritablePage ucs2 l t) where
  -- what stands behind the letters
  long : length (filling ucs2 t) ≡ room_of ucs2
  long = filling-length ucs2 t w.sized

  low : ucs2 ≡ false → Below 128 (filling ucs2 t)
  low e = subst (λ (b : Bool). Below 128 (filling b t)) (sym e) (filling-below t)

  letters-back : letters_in (lettered_octets ucs2 l t) ≡ l
  unfolding letters_in
  letters-back =
      ap (λ (s : List ℕ). record { first = get_or s 0 0; second = get_or s 1 0 })
      (ap (unpacked 2) (lettered-framed ucs2 l t) ∙ framed-letters l (filling ucs2 t) w.letters ucs2 low)

  cr-back : ucs2 ≡ false → closed_by_cr (lettered_octets ucs2 l t) ≡ true
  unfolding closed_by_cr
  cr-back e =
      ap (λ (b : Bool). eqb (get_or (unpacked 3 (lettered_octets b l t)) 2 0) cr) e
      ∙ ap (λ (s : List ℕ). eqb (get_or s 2 0) cr) (ap (unpacked 3) (lettered-framed false l t) ∙ framed-cr l (filling false t) w.letters (filling-below t))

  text-back : lettered_text ucs2 (lettered_octets ucs2 l t) ≡ without_closing 0x000d t
  text-back =
      text-behind ucs2 (lettered_octets ucs2 l t)
      ∙ ap (λ (p : List ℕ). cond ucs2 p (text_of p))
      (ap (without_closing cr) (ap (behind ucs2) (lettered-framed ucs2 l t) ∙ framed-behind l (filling ucs2 t) w.letters ucs2 long low)
      ∙ over-closing (room_of ucs2) cr (held_of ucs2 t))
      ∙ closed-text ucs2 t w.codable

  pub lettered-back : (letters_in (lettered_octets ucs2 l t) ≡ l) × (wrong_letters ucs2 (lettered_octets ucs2 l t) ≡ false) × (lettered_text ucs2 (lettered_octets ucs2 l t) ≡ without_closing 0x000d t)
  lettered-back = (letters-back, (right-letters-iff ucs2 (lettered_octets ucs2 l t)).1 (ap are_letters letters-back ∙ w.letters, cr-back), text-back)

pub lettered-same-iff : (ucs2 : Bool) (l m : Letters) (t u : List ℕ) → WritablePage ucs2 l t → WritablePage ucs2 m u
    → (lettered_octets ucs2 l t ≡ lettered_octets ucs2 m u) ↔ ((l ≡ m) × (without_closing 0x000d t ≡ without_closing 0x000d u))
lettered-same-iff ucs2 l m t u w v = (
  λ e. (
    sym (lettered-back ucs2 l t w).0 ∙ ap letters_in e ∙ (lettered-back ucs2 m u v).0,
    sym (lettered-back ucs2 l t w).2 ∙ ap (lettered_text ucs2) e ∙ (lettered-back ucs2 m u v).2,
  ),
  λ e. lettered-framed ucs2 l t
      ∙ ap₂ (framed ucs2) e.0 (over-same (room_of ucs2) cr (held_of ucs2 t) (held_of ucs2 u) (room-held ucs2 t w.sized) (room-held ucs2 u v.sized) (closed-content ucs2 t u w.codable v.codable e.1))
      ∙ sym (lettered-framed ucs2 m u),
)

-- ---- the two bits that pad the letters of a UCS2 page

pub spare-bits-zero : (l : Letters) (t : List ℕ) (i : ℕ) → 6 ≤ i → i < 8 → bit_of (get_or (lettered_octets true l t) 1 0) i ≡ 0
unfolding lettered_octets octets_for
spare-bits-zero l t i low high =
    let two : List ℕ = l.first ∷ l.second ∷ [] in
    ap (λ (x : ℕ). bit_of x i) (get_or-append (packed two) _ 0 1 (omega (arith, packed-length two)))
    ∙ pack-spare two 1 i (lit< tt) high (omega arith)

pub spare-bits-ignored : (o : List ℕ) → (letters_in (unpadded o) ≡ letters_in o) × (lettered_text true (unpadded o) ≡ lettered_text true o)
unfolding letters_in lettered_text
spare-bits-ignored o = (
  ap (λ (s : List ℕ). record { first = get_or s 0 0; second = get_or s 1 0 }) (unpack-spare 2 (unpadded o) o (λ j i hi h. low_same o j i h)),
  ap (λ (p : List ℕ). without_closing cr (octet_units p)) (drop-set-lt 2 o 1 (get_or o 1 0 % 64) (lit< tt)),
)

-- so reading answers and leaves the same
pub spare-bits-read : (count : ℕ) (o out : List ℕ)
    → (lettered_reads true count (unpadded o) (length out) ≡ lettered_reads true count o (length out)) × (lettered_read_leaves true count (unpadded o) out ≡ lettered_read_leaves true count o out)
unfolding lettered_reads lettered_read_leaves lettered_read_rules wrong_letters
spare-bits-read count o out = rw ((spare-bits-ignored o).0, (spare-bits-ignored o).1, length-set o 1 (get_or o 1 0 % 64)) (refl, refl)

-- ---- the writer

module _ (ucs2 : Bool) (l : Letters) (t : List ℕ) (room : ℕ) where
  write-refused-iff : (q : Refusal) → (lettered_writes ucs2 l t room ≡ Err q) ↔ (verdict (lettered_write_rules ucs2 l t room) ≡ refused q)
  unfolding lettered_writes
  write-refused-iff = settle-refused-iff verdict_of Err (Ok (length (lettered_octets ucs2 l t))) (λ r. refl) refl (verdict (lettered_write_rules ucs2 l t room))

  pub write-refuses-letters-iff : (lettered_writes ucs2 l t room ≡ Err WrongLetters) ↔ (are_letters l ≡ false)
  unfolding lettered_write_rules lettered_size_rules gives verdict
  write-refuses-letters-iff =
      let answer = write-refused-iff WrongLetters in
      let rule = given-iff [] (not (are_letters l)) WrongLetters (lettered_size_rules ucs2 l t room) refl refl in
      (λ e. not-true (are_letters l) (rule.0 (answer.0 e)).1, λ e. answer.1 (rule.1 (refl, ap not e)))

  write-rules-iff : (verdict (lettered_write_rules ucs2 l t room) ≡ accepted) ↔ (WritablePage ucs2 l t × (82 ≤ room))
  unfolding lettered_write_rules lettered_size_rules verdict
  write-rules-iff = (to, λ w. from w.0 w.1)
    where
      short : Bool
      short = ltb room (length (lettered_octets ucs2 l t))

      eleven : (verdict (lettered_write_rules ucs2 l t room) ≡ accepted) ↔ ((not (are_letters l) ≡ false) × (verdict (lettered_size_rules ucs2 l t room) ≡ accepted))
      eleven = accepted-iff (not (are_letters l)) WrongLetters (lettered_size_rules ucs2 l t room)

      to : verdict (lettered_write_rules ucs2 l t room) ≡ accepted → WritablePage ucs2 l t × (82 ≤ room)
      to e =
          let a = eleven.0 e in
          let six = (accepted-iff (not_codable ucs2 t) (Unlisted (first_unlisted t)) (when (over_room room_septets room_units ucs2 t) TooLong ∷ when short NoRoom ∷ [])).0 a.1 in
          let five = (accepted-iff (over_room room_septets room_units ucs2 t) TooLong (when short NoRoom ∷ [])).0 six.1 in
          let seven = (accepted-iff short NoRoom []).0 five.1 in (
            record { letters = not-false (are_letters l) a.0; codable = six.0; sized = five.0 },
            omega (arith, ltb-false room (length (lettered_octets ucs2 l t)) seven.0, lettered-length ucs2 l t five.0),
          )

      from : WritablePage ucs2 l t → 82 ≤ room → verdict (lettered_write_rules ucs2 l t room) ≡ accepted
      from w h =
          let some : length (lettered_octets ucs2 l t) ≤ room = omega (arith, lettered-length ucs2 l t w.sized) in
          simp (w.letters, w.codable, w.sized, le-ltb _ _ some)

  pub write-accepts-iff : (n : ℕ) → (lettered_writes ucs2 l t room ≡ Ok n) ↔ (WritablePage ucs2 l t × (82 ≤ room) × (n ≡ 82))
  unfolding lettered_writes
  write-accepts-iff n =
      let answer = settle-given-iff verdict_of Err (Ok (length (lettered_octets ucs2 l t))) (λ r. refl) refl (verdict (lettered_write_rules ucs2 l t room)) (Ok n) refl in (
        λ e. let a = answer.0 e in
            let w = write-rules-iff.0 a.0 in
            (w.0, w.1, ok-inside a.1 ∙ lettered-length ucs2 l t w.0.sized),
        λ w. answer.1 (write-rules-iff.1 (w.0, w.1), ap Ok (w.2 ∙ sym (lettered-length ucs2 l t w.0.sized))),
      )

module _ (ucs2 : Bool) (l : Letters) (t out : List ℕ) where
  pub write-leaves : WritablePage ucs2 l t → 82 ≤ length out → lettered_write_leaves ucs2 l t out ≡ laid (lettered_octets ucs2 l t) out
  unfolding lettered_write_leaves
  write-leaves w h = settle-given (verdict (lettered_write_rules ucs2 l t (length out))) (λ q. out) (laid (lettered_octets ucs2 l t) out) ((write-rules-iff ucs2 l t (length out)).1 (w, h))

  pub write-refuses-kept : (q : Refusal) → lettered_writes ucs2 l t (length out) ≡ Err q → lettered_write_leaves ucs2 l t out ≡ out
  unfolding lettered_write_leaves
  write-refuses-kept q e = ap (λ (v : Verdict). settle v (λ q. out) (laid (lettered_octets ucs2 l t) out)) ((write-refused-iff ucs2 l t (length out) q).0 e)

-- ---- the reader

-- 82 octets, and no count
fits_iff : (m n : ℕ) → (septets_fit Broadcast m n ≡ true) ↔ ((m ≡ 82) × (n ≡ 0))
fits_iff m n = (
  λ e. (fit-page m n e, eqb-true n 0 (and_right (eqb m 82) (eqb n 0) e)),
  λ e. simp (eq-eqb m 82 e.0, eq-eqb n 0 e.1),
)

module _ (ucs2 : Bool) (count : ℕ) (o : List ℕ) (room : ℕ) where
  read-refused-iff : (q : Refusal) → (lettered_reads ucs2 count o room ≡ Err q) ↔ (verdict (lettered_read_rules ucs2 count o room) ≡ refused q)
  unfolding lettered_reads
  read-refused-iff = settle-refused-iff verdict_of Err (ok_lettered_read (length (lettered_text ucs2 o)) (letters_in o)) (λ r. refl) refl (verdict (lettered_read_rules ucs2 count o room))

  pub read-refuses-letters-iff : (lettered_reads ucs2 count o room ≡ Err WrongLetters) ↔ ((length o ≡ 82) × (count ≡ 0) × (wrong_letters ucs2 o ≡ true))
  unfolding lettered_read_rules gives verdict
  read-refuses-letters-iff =
      let fit : Bool = septets_fit Broadcast (length o) count in
      let answer = read-refused-iff WrongLetters in
      let rule = given-iff (when (not fit) WrongLength ∷ []) (wrong_letters ucs2 o) WrongLetters (when (ltb room (length (lettered_text ucs2 o))) NoRoom ∷ []) refl refl in
      let four = accepted-iff (not fit) WrongLength [] in (
        λ e. let a = rule.0 (answer.0 e) in
            let f = (fits_iff (length o) count).0 (not-false fit (four.0 a.0).0) in
            (f.0, f.1, a.1),
        λ w. answer.1 (rule.1 (four.1 (ap not ((fits_iff (length o) count).1 (w.0, w.1)), refl), w.2)),
      )

  read-rules-iff : (verdict (lettered_read_rules ucs2 count o room) ≡ accepted) ↔ ReadablePage ucs2 count o room
  unfolding lettered_read_rules verdict
  read-rules-iff = (to, from)
    where
      fit : Bool
      fit = septets_fit Broadcast (length o) count

      short : Bool
      short = ltb room (length (lettered_text ucs2 o))

      to : verdict (lettered_read_rules ucs2 count o room) ≡ accepted → ReadablePage ucs2 count o room
      to e =
          let four = (accepted-iff (not fit) WrongLength (when (wrong_letters ucs2 o) WrongLetters ∷ when short NoRoom ∷ [])).0 e in
          let eleven = (accepted-iff (wrong_letters ucs2 o) WrongLetters (when short NoRoom ∷ [])).0 four.1 in
          let seven = (accepted-iff short NoRoom []).0 eleven.1 in
          let f = (fits_iff (length o) count).0 (not-false fit four.0) in
          record { whole = f.0; uncounted = f.1; right = eleven.0; fits = ltb-false _ _ seven.0 }

      from : ReadablePage ucs2 count o room → verdict (lettered_read_rules ucs2 count o room) ≡ accepted
      from w = simp ((fits_iff (length o) count).1 (w.whole, w.uncounted), w.right, le-ltb _ _ w.fits)

  pub read-accepts-iff : (n : ℕ) (l : Letters) → (lettered_reads ucs2 count o room ≡ ok_lettered_read n l) ↔ (ReadablePage ucs2 count o room × (n ≡ length (lettered_text ucs2 o)) × (l ≡ letters_in o))
  unfolding lettered_reads
  read-accepts-iff n l =
      let answer = settle-given-iff verdict_of Err (ok_lettered_read (length (lettered_text ucs2 o)) (letters_in o)) (λ r. refl) refl (verdict (lettered_read_rules ucs2 count o room)) (ok_lettered_read n l) refl in (
        λ e. let a = answer.0 e in
            let same = ok-inside a.1 in
            (read-rules-iff.0 a.0, ap (λ (m : LetteredRead). m.units) same, ap (λ (m : LetteredRead). m.letters) same),
        λ w. answer.1 (read-rules-iff.1 w.0, ap₂ ok_lettered_read w.1 w.2),
      )

module _ (ucs2 : Bool) (count : ℕ) (o out : List ℕ) where
  pub read-leaves : ReadablePage ucs2 count o (length out) → lettered_read_leaves ucs2 count o out ≡ laid (lettered_text ucs2 o) out
  unfolding lettered_read_leaves
  read-leaves w = settle-given (verdict (lettered_read_rules ucs2 count o (length out))) (λ q. out) (laid (lettered_text ucs2 o) out) ((read-rules-iff ucs2 count o (length out)).1 w)

  pub read-refuses-kept : (q : Refusal) → lettered_reads ucs2 count o (length out) ≡ Err q → lettered_read_leaves ucs2 count o out ≡ out
  unfolding lettered_read_leaves
  read-refuses-kept q e = ap (λ (v : Verdict). settle v (λ q. out) (laid (lettered_text ucs2 o) out)) ((read-refused-iff ucs2 count o (length out) q).0 e)

-- ---- what was written is read

pub lettered-written-read : (ucs2 : Bool) (l : Letters) (t out : List ℕ) → WritablePage ucs2 l t → length (without_closing 0x000d t) ≤ length out
    → (lettered_reads ucs2 0 (lettered_octets ucs2 l t) (length out) ≡ ok_lettered_read (length (without_closing 0x000d t)) l)
    × (lettered_read_leaves ucs2 0 (lettered_octets ucs2 l t) out ≡ laid (without_closing 0x000d t) out)
lettered-written-read ucs2 l t out w h =
    let o : List ℕ = lettered_octets ucs2 l t in
    let b = lettered-back ucs2 l t w in
    let n : length (without_closing 0x000d t) ≡ length (lettered_text ucs2 o) = ap length (sym b.2) in
    let r : ReadablePage ucs2 0 o (length out) = record { whole = lettered-length ucs2 l t w.sized; uncounted = refl; right = b.1; fits = omega arith } in (
      (read-accepts-iff ucs2 0 o (length out) (length (without_closing 0x000d t)) l).1 (r, n, sym b.0),
      read-leaves ucs2 0 o out r ∙ ap (λ (s : List ℕ). laid s out) b.2,
    )
