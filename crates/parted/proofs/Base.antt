-- What the base writes and reads is what the calls with parts do of lone messages and of messages without a mark: a header of no octets takes no septets, the
-- packing behind none is the base's, and each rule that the calls add does not apply.
-- Assumes nothing.
--   lone-octets, lone-count   the octets and the count of a text that fits alone are the base's
--   lone-is-base         such a text is written as the base writes it, without a mark, as the one part, and refused as the base refuses it
--   unmarked-is-base     a message without the mark is read and refused as the base reads and refuses it
use mathlib.Core.Path.{◌≡◌, refl, ap, ap₂, ◌∙◌, sym}
use mathlib.Core.Bool.{Bool, true, false, not, ◌&&◌}
use mathlib.Core.List.{List, [], ◌∷◌, ◌++◌, append_assoc}
use Prim.Native.Nat.{ℕ, ◌-◌, ◌%◌, ◌≤◌}
use native.Mathlib.Nat.{zero-add, sub-zero}
use native.Mathlib.Decide.{ℕ_discrete}
use native.Mathlib.Omega.{arith}
use borrow.Author.Tests.{le-ltb, eq-eqb, ne_eqb}
use lib.Dec.{ltb, leb, eqb}
use lib.ListN.{length}
use Rattle.words.specs.declared.Service.TheVariants.{ShortMessage}
use Rattle.words.specs.declared.Refusal.TheVariants.{WrongLength, TooLong, Unlisted, NoRoom, WrongPages, WrongHeader}
use Rattle.words.specs.Judging.{Rule, when, Verdict, refused, accepted, verdict, settle}
use Rattle.lists.specs.Lists.{laid}
use Rattle.coding.specs.declared.Reading.{Reading}
use Rattle.coding.specs.OctetRead.{octet_rules, read_under}
use Rattle.coding.specs.OctetWritten.{smallest}
use Rattle.coding.specs.LanguageLetters.{coding_rules}
use Rattle.coding.specs.Holding.{is_ucs2, text_rules}
use Rattle.letters.specs.Writing.{first_unlisted}
use Rattle.letters.specs.Reading.{text_of}
use Rattle.letters.specs.Sized.{content_of, not_codable}
use Rattle.stream.specs.Ucs2.{unit_octets}
use Rattle.demands.specs.MessageRead.{fits_text, held_text, text_length_rules, read_rules, read_answers, read_leaves}
use Rattle.demands.specs.MessageWritten.{over_size, text_octets, text_count, text_size_rules, message_octets, message_count, write_rules, write_answers, write_leaves}
use Rattle.filling.specs.Numbered.{lacks}
use Rattle.parted.specs.Behind.{packed_behind, unpacked_behind}
use Rattle.parted.specs.Parts.{most_parts, room_behind, is_marked, headed_octets, headed_count, part_octets, part_count}
use Rattle.parted.specs.Written.{reading_parts, reading_content, octets_as, count_as, size_rules, count_rules, part_rules, part_answers, part_leaves}
use Rattle.parted.specs.Read.{count_fits, odd_behind, content_behind, text_behind, behind_rules, part_read_rules, part_reads, part_read_leaves}
use Rattle.parted.specs.Messages.{alone, unmarked}
use Rattle.parted.proofs.Behind.{packed-behind-0, unpacked-behind-0}
use Rattle.parted.proofs.Rooms.{septets-over-0, alone-room, parts-alone}
use Rattle.parted.proofs.Parts.{lone-content, lone-header}
use Rattle.std.specs.Prelude.{Err, None}
use Rattle.parted.specs.Successes.{ok_part_read}
use Rattle.demands.specs.Successes.{ok_message_read}
use Rattle.demands.specs.Successes.{ok_message_written}
use Rattle.parted.specs.Successes.{ok_part_written}

-- the same rules in front
same-behind : (first x y : List Rule) → verdict x ≡ verdict y → verdict (first ++ x) ≡ verdict (first ++ y)
unfolding verdict
same-behind [] x y e = e
same-behind (when true q ∷ first) x y e = refl
same-behind (when false q ∷ first) x y e = same-behind first x y e

-- ---- writing

-- behind no header
none-octets : (ucs2 : Bool) (t : List ℕ) → headed_octets ucs2 [] (content_of ucs2 t) ≡ text_octets ShortMessage ucs2 t
unfolding headed_octets laid
none-octets true t = refl
none-octets false t = ap (λ (h : ℕ). packed_behind h (content_of false t)) septets-over-0 ∙ packed-behind-0 (content_of false t)

none-count : (ucs2 : Bool) (t : List ℕ) → headed_count ucs2 [] (content_of ucs2 t) ≡ text_count ShortMessage ucs2 t
unfolding headed_count
none-count true t = zero-add (length (unit_octets t))
none-count false t = omega (arith, septets-over-0)

alone-sized : (ucs2 : Bool) (t : List ℕ) → length (content_of ucs2 t) ≤ room_behind ucs2 0 → over_size ShortMessage ucs2 t ≡ false
alone-sized true t h = le-ltb 70 (length t) (omega (arith, alone-room.1))
alone-sized false t h = le-ltb 160 (length (content_of false t)) (omega (arith, alone-room.0))

-- neither 5 nor 10 applies
lone-tail : (a b : Bool) (u : ℕ)
    → verdict (when a (Unlisted u) ∷ when false TooLong ∷ when false WrongPages ∷ when b NoRoom ∷ []) ≡ verdict (when a (Unlisted u) ∷ when false TooLong ∷ when b NoRoom ∷ [])
unfolding verdict
lone-tail true b u = refl
lone-tail false b u = refl

alone-settle : (v : Verdict) (n c d : ℕ) → settle v Err (ok_part_written n c false d 1) ≡ alone (settle v Err (ok_message_written n c d))
alone-settle (refused q) n c d = refl
alone-settle accepted n c d = refl

module _ (r : Reading) (reference : ℕ) (t : List ℕ) (fits : length (reading_content r t) ≤ room_behind (is_ucs2 r.alphabet) 0) where
  one : reading_parts r t ≡ 1
  one = parts-alone (is_ucs2 r.alphabet) (length (reading_content r t)) fits

  pub lone-octets : octets_as r reference t 1 ≡ message_octets ShortMessage r t
  unfolding part_octets
  lone-octets =
      ap (λ (n : ℕ). part_octets (is_ucs2 r.alphabet) reference n (reading_content r t) 1) one
      ∙ ap₂ (headed_octets (is_ucs2 r.alphabet)) (lone-header reference) (lone-content (is_ucs2 r.alphabet) (reading_content r t) fits)
      ∙ none-octets (is_ucs2 r.alphabet) t

  pub lone-count : count_as r reference t 1 ≡ message_count ShortMessage r t
  unfolding part_count
  lone-count =
      ap (λ (n : ℕ). part_count (is_ucs2 r.alphabet) reference n (reading_content r t) 1) one
      ∙ ap₂ (headed_count (is_ucs2 r.alphabet)) (lone-header reference) (lone-content (is_ucs2 r.alphabet) (reading_content r t) fits)
      ∙ none-count (is_ucs2 r.alphabet) t

  lone-verdict : (room : ℕ) → verdict (part_rules r reference t 1 room) ≡ verdict (write_rules ShortMessage r t room)
  unfolding part_rules count_rules size_rules write_rules text_size_rules
  lone-verdict room =
      let ucs2 : Bool = is_ucs2 r.alphabet in
      let behind : List Rule = when (lacks (reading_parts r t) 1) WrongPages ∷ when (ltb room (length (octets_as r reference t 1))) NoRoom ∷ [] in
      let five : ltb most_parts (reading_parts r t) ≡ false = le-ltb most_parts (reading_parts r t) (omega (arith, one)) in
      let ten : lacks (reading_parts r t) 1 ≡ false = ap (λ (n : ℕ). lacks n 1) one in
      let tail : verdict (size_rules ucs2 t ++ behind) ≡ verdict (text_size_rules ShortMessage ucs2 t room) =
      ap₂ (λ (p q : Bool). verdict (when (not_codable ucs2 t) (Unlisted (first_unlisted t)) ∷ when p TooLong ∷ when q WrongPages ∷ when (ltb room (length (octets_as r reference t 1))) NoRoom ∷ [])) five ten
      ∙ lone-tail (not_codable ucs2 t) (ltb room (length (octets_as r reference t 1))) (first_unlisted t)
      ∙ ap₂ (λ (p : Bool) (o : List ℕ). verdict (when (not_codable ucs2 t) (Unlisted (first_unlisted t)) ∷ when p TooLong ∷ when (ltb room (length o)) NoRoom ∷ [])) (sym (alone-sized ucs2 t fits)) lone-octets in
      ap verdict (append_assoc (coding_rules ShortMessage r) (text_rules ShortMessage r ++ size_rules ucs2 t) behind)
      ∙ same-behind (coding_rules ShortMessage r) ((text_rules ShortMessage r ++ size_rules ucs2 t) ++ behind) (text_rules ShortMessage r ++ text_size_rules ShortMessage ucs2 t room)
      (ap verdict (append_assoc (text_rules ShortMessage r) (size_rules ucs2 t) behind)
      ∙ same-behind (text_rules ShortMessage r) (size_rules ucs2 t ++ behind) (text_size_rules ShortMessage ucs2 t room) tail)

  pub lone-is-base : (out : List ℕ)
      → (part_answers r reference t 1 (length out) ≡ alone (write_answers ShortMessage r t (length out))) × (part_leaves r reference t 1 out ≡ write_leaves ShortMessage r t out)
  unfolding part_answers part_leaves write_answers write_leaves
  lone-is-base out =
      let v = lone-verdict (length out) in (
        ap₂ (λ (w : Verdict) (o : List ℕ). settle w Err (ok_part_written (length o) (count_as r reference t 1) (is_marked (reading_parts r t)) (smallest ShortMessage r) (reading_parts r t))) v lone-octets
            ∙ ap₂
            (λ (c n : ℕ). settle (verdict (write_rules ShortMessage r t (length out))) Err (ok_part_written (length (message_octets ShortMessage r t)) c (is_marked n) (smallest ShortMessage r) n))
            lone-count one
            ∙ alone-settle (verdict (write_rules ShortMessage r t (length out))) (length (message_octets ShortMessage r t)) (message_count ShortMessage r t) (smallest ShortMessage r),
        ap₂ (λ (w : Verdict) (o : List ℕ). settle w (λ q. out) (laid o out)) v lone-octets,
      )

-- ---- reading

-- behind no header
none-text : (ucs2 : Bool) (count : ℕ) (o : List ℕ) → text_behind ucs2 0 count o ≡ held_text ShortMessage ucs2 count o
unfolding content_behind
none-text true count o = refl
none-text false count o =
    ap text_of (ap₂ (λ (h n : ℕ). unpacked_behind h (count - n) o) septets-over-0 septets-over-0 ∙ ap (λ (n : ℕ). unpacked_behind 0 n o) (sub-zero count) ∙ unpacked-behind-0 count o)

-- odd is not even
odd-told : (n : ℕ) → eqb (n % 2) 1 ≡ not (eqb (n % 2) 0)
odd-told n =
    elim (ℕ_discrete (n % 2) 0) [
      | yes e ↦ ne_eqb (n % 2) 1 (omega arith) ∙ ap not (sym (eq-eqb (n % 2) 0 e))
      | no d ↦ eq-eqb (n % 2) 1 (omega arith) ∙ ap not (sym (ne_eqb (n % 2) 0 d))
    ]

-- evenness is judged with the length where no header is in front
even-tail : (a b c d : Bool)
    → verdict (when (not (a && b)) WrongLength ∷ when false WrongHeader ∷ when (not c) WrongLength ∷ when d NoRoom ∷ []) ≡ verdict (when (not (a && b && c)) WrongLength ∷ when d NoRoom ∷ [])
unfolding verdict
even-tail true true true d = refl
even-tail true true false d = refl
even-tail true false c d = refl
even-tail false b c d = refl

seven-tail : (a d : Bool) → verdict (when a WrongLength ∷ when false WrongHeader ∷ when false WrongLength ∷ when d NoRoom ∷ []) ≡ verdict (when a WrongLength ∷ when d NoRoom ∷ [])
unfolding verdict
seven-tail true d = refl
seven-tail false d = refl

unmarked-tail : (ucs2 : Bool) (count : ℕ) (o : List ℕ) (room : ℕ) → verdict (behind_rules ucs2 false count o room) ≡ verdict (text_length_rules ShortMessage ucs2 count o room)
unfolding behind_rules text_length_rules count_fits odd_behind
unmarked-tail true count o room =
    let odd : eqb ((length o - 0) % 2) 1 ≡ not (eqb (length o % 2) 0) = ap (λ (n : ℕ). eqb (n % 2) 1) (sub-zero (length o)) ∙ odd-told (length o) in
    ap₂ (λ (p : Bool) (l : List ℕ). verdict (when (not (leb (length o) 140 && eqb count (length o))) WrongLength ∷ when false WrongHeader ∷ when p WrongLength ∷ when (ltb room (length l)) NoRoom ∷ [])) odd (none-text true count o)
    ∙ even-tail (leb (length o) 140) (eqb count (length o)) (eqb (length o % 2) 0) (ltb room (length (held_text ShortMessage true count o)))
unmarked-tail false count o room =
    ap (λ (l : List ℕ). verdict (when (not (fits_text ShortMessage false (length o) count)) WrongLength ∷ when false WrongHeader ∷ when false WrongLength ∷ when (ltb room (length l)) NoRoom ∷ [])) (none-text false count o)
    ∙ seven-tail (not (fits_text ShortMessage false (length o) count)) (ltb room (length (held_text ShortMessage false count o)))

unmarked-settle : (v : Verdict) (n : ℕ) (r : Reading) → settle v Err (ok_part_read n r None) ≡ unmarked (settle v Err (ok_message_read n r))
unmarked-settle (refused q) n r = refl
unmarked-settle accepted n r = refl

pub unmarked-is-base : (coding count : ℕ) (o out : List ℕ)
    → (part_reads coding false count o (length out) ≡ unmarked (read_answers ShortMessage coding count o (length out))) × (part_read_leaves coding false count o out ≡ read_leaves ShortMessage coding count o out)
unfolding part_reads part_read_leaves part_read_rules read_answers read_leaves read_rules octet_rules
unmarked-is-base coding count o out =
    let r : Reading = read_under ShortMessage coding in
    let ucs2 : Bool = is_ucs2 (read_under ShortMessage coding).alphabet in
    let v : verdict (part_read_rules (read_under ShortMessage coding) false count o (length out)) ≡ verdict (read_rules ShortMessage coding count o (length out)) =
    same-behind (text_rules ShortMessage r) (behind_rules ucs2 false count o (length out)) (text_length_rules ShortMessage ucs2 count o (length out)) (unmarked-tail ucs2 count o (length out)) in (
      ap₂ (λ (w : Verdict) (l : List ℕ). settle w Err (ok_part_read (length l) r None)) v (none-text ucs2 count o)
          ∙ unmarked-settle (verdict (read_rules ShortMessage coding count o (length out))) (length (held_text ShortMessage ucs2 count o)) r,
      ap₂ (λ (w : Verdict) (l : List ℕ). settle w (λ q. out) (laid l out)) v (none-text ucs2 count o),
    )
