-- Reading one message step by step: each test that the code makes settles one rule, and what is left of the rules is what the next function answers.
-- Assumes nothing.
--   held_first, held-stops  what is left of the rules behind the reading, and that a reading which holds no text stops them
--   octet-reads          a short message's coding octet is never refused by itself
--   read-octet           the whole call by the reading of its coding octet
--   held-behind, held_none   what the reading holds says how the text is read
--   behind-misfit, behind-alone, behind-headless, behind-headed   a text by its length, its mark and its header
--   head-none, head-right, not-past   whether a header stands in front
--   units-odd, units-short, units-tail, units-behind   UCS2 by itself, and behind a header
--   septets-room, septets-given, septets-behind   7-bit text from the array that all septets stand in, and behind a header
use mathlib.Core.Path.{◌≡◌, refl, sym, ap, ap₂, ◌∙◌}
use mathlib.Core.Bool.{Bool, true, false, cond, ◌&&◌}
use mathlib.Core.List.{List, [], ◌∷◌, ◌++◌}
use Prim.Native.Nat.{ℕ, ◌+◌, ◌-◌, ◌*◌, ◌/◌, ◌%◌, ◌^◌, ◌≤◌, ◌<◌}
use native.Mathlib.Nat.{mod-lt}
use native.Mathlib.Omega.{arith}
use borrow.Author.Tests.{lt-ltb, le-ltb, lt-leb, leb-true, ltb-false, eq-eqb, ne_eqb}
use lib.Dec.{lit<, ltb, leb, eqb}
use lib.ListN.{length, get_or, take, drop, replicate, length-drop}
use lib.Seq.{drop-append-le, take_all, take_at}
use Rattle.words.specs.declared.Service.TheVariants.{ShortMessage}
use Rattle.words.specs.declared.Refusal.{Refusal}
use Rattle.words.specs.declared.Refusal.TheVariants.{WrongLength, WrongHeader, NoRoom}
use Rattle.words.specs.Judging.{Rule, when, Verdict, refused, accepted, verdict, settle}
use Rattle.words.proofs.Judging.{verdict-refused-first, verdict-accepted-first}
use Rattle.lists.specs.Lists.{first_wide, laid}
use Rattle.lists.specs.Bits.{bit_of}
use Rattle.lists.proofs.Below.{Below}
use Rattle.lists.proofs.Tests.{and_left}
use Rattle.lists.proofs.Places.{place_none}
use Rattle.lists.proofs.Laid.{laid-length}
use Rattle.coding.specs.declared.Reading.{Reading}
use Rattle.coding.specs.OctetRead.{octet_rules, octet_reads, read_under}
use Rattle.coding.specs.Holding.{is_ucs2, text_rules, holds_text}
use Rattle.coding.proofs.Prefixed.{read-given}
use Rattle.letters.specs.Reading.{text_of, text_answers, text_leaves, text_rules as shown_rules}
use Rattle.stream.specs.Stream.{stream_bit, unpacked}
use Rattle.stream.specs.ArrayCalls.{all_rules, all_leaves}
use Rattle.stream.specs.Ucs2.{octet_units}
use Rattle.stream.specs.Storing.{given_answers, given_leaves}
use Rattle.stream.proofs.Stream.{unpacked-length}
use Rattle.stream.proofs.UnitOctets.{octet-units-length}
use Rattle.demands.proofs.Steps.{held-verdict, leaves-agree, held_as, told_text, holds-text}
use Rattle.demands.proofs.Septets.{cut_below}
use Rattle.headed.specs.Header.{header_size, right_header, header_numbers, septets_over}
use Rattle.parted.specs.Behind.{unpacked_behind}
use Rattle.parted.specs.Read.{count_fits, head_size, wrong_head, odd_behind, content_behind, text_behind, marked_numbers, behind_rules, part_read_rules, part_reads, part_read_leaves}
use Rattle.parted.specs.Inner.{held_reads, held_read_leaves, behind_reads, behind_read_leaves, tail_rules, tail_reads, tail_leaves, with_reading, with_numbers}
use Rattle.parted.proofs.Behind.{unpacked-behind}
use Rattle.std.specs.Prelude.{Option, Ok, Err, None}
use Rattle.headed.specs.declared.Numbers.{Numbers}
use Rattle.parted.specs.Successes.{ok_text_read}
use Rattle.parted.specs.Successes.{ok_part_read}

-- ---- by what the coding octet is read as

pub held_first : (r : Reading) (ucs2 : Bool) (rules : Bool → List Rule) → held_as ucs2 ≡ holds_text ShortMessage r
    → verdict (text_rules ShortMessage r ++ rules (is_ucs2 r.alphabet)) ≡ verdict (rules ucs2)
held_first r ucs2 rules e =
    verdict-accepted-first (text_rules ShortMessage r) (rules (is_ucs2 r.alphabet)) (held-verdict ShortMessage r (held_as ucs2) e ∙ told_text ucs2)
    ∙ ap (λ (x : Bool). verdict (rules x)) (holds-text ShortMessage r ucs2 e)

pub held-stops : (r : Reading) (q : Refusal) (rules : List Rule) → Err q ≡ holds_text ShortMessage r → verdict (text_rules ShortMessage r ++ rules) ≡ refused q
held-stops r q rules e = verdict-refused-first (text_rules ShortMessage r) rules q (held-verdict ShortMessage r (Err q) e)

pub octet-reads : (coding : ℕ) (q : Refusal) → Err q ≡ octet_reads ShortMessage coding → ⊥
unfolding octet_reads octet_rules verdict
octet-reads coding q e = let z : ◌≡◌ {A = ℕ} 0 1 = cc in omega arith

read-settle : (v : Verdict) (n : ℕ) (r : Reading) (c : Option Numbers) → with_reading r (settle v Err (ok_text_read n c)) ≡ settle v Err (ok_part_read n r c)
read-settle (refused q) n r c = refl
read-settle accepted n r c = refl

numbers-settle : (v : Verdict) (n : ℕ) (c : Option Numbers) → with_numbers c (settle v Err (Ok n)) ≡ settle v Err (ok_text_read n c)
numbers-settle (refused q) n c = refl
numbers-settle accepted n c = refl

module _ (marked : Bool) (count : ℕ) (o out : List ℕ) where
  pub read-octet : (coding : ℕ) (r : Reading) → Ok r ≡ octet_reads ShortMessage coding
      → (held_reads r marked count o (length out) ≡ part_reads coding marked count o (length out)) × (held_read_leaves r marked count o out ≡ part_read_leaves coding marked count o out)
  unfolding held_reads held_read_leaves part_reads part_read_leaves
  read-octet coding r e =
      let same : read_under ShortMessage coding ≡ r = read-given ShortMessage coding r e in
      (ap (λ (x : Reading). held_reads x marked count o (length out)) (sym same), ap (λ (x : Reading). held_read_leaves x marked count o out) (sym same))

  pub held-behind : (r : Reading) (ucs2 : Bool) → held_as ucs2 ≡ holds_text ShortMessage r
      → (with_reading r (behind_reads ucs2 marked count o (length out)) ≡ held_reads r marked count o (length out)) × (behind_read_leaves ucs2 marked count o out ≡ held_read_leaves r marked count o out)
  unfolding held_reads held_read_leaves behind_reads behind_read_leaves part_read_rules
  held-behind r ucs2 e =
      let v = held_first r ucs2 (λ x. behind_rules x marked count o (length out)) e in
      let t = ap (λ (x : Bool). text_behind x (head_size marked o) count o) (holds-text ShortMessage r ucs2 e) in (
        read-settle (verdict (behind_rules ucs2 marked count o (length out))) (length (text_behind ucs2 (head_size marked o) count o)) r (marked_numbers marked o)
            ∙ sym (ap₂ (λ (w : Verdict) (x : List ℕ). settle w Err (ok_part_read (length x) r (marked_numbers marked o))) v t),
        leaves-agree out v t,
      )

  pub held_none : (r : Reading) (q : Refusal) → Err q ≡ holds_text ShortMessage r
      → (Err q ≡ held_reads r marked count o (length out)) × (out ≡ held_read_leaves r marked count o out)
  unfolding held_reads held_read_leaves part_read_rules
  held_none r q e =
      let v = held-stops r q (behind_rules (is_ucs2 r.alphabet) marked count o (length out)) e in
      let x = text_behind (is_ucs2 r.alphabet) (head_size marked o) count o in
      (sym (ap (λ (w : Verdict). settle w Err (ok_part_read (length x) r (marked_numbers marked o))) v), leaves-agree {x = x} out v refl)

-- ---- by its length, its mark and its header

module _ (ucs2 marked : Bool) (count : ℕ) (o out : List ℕ) where
  pub behind-misfit : count_fits ucs2 (length o) count ≡ false
      → (Err WrongLength ≡ behind_reads ucs2 marked count o (length out)) × (out ≡ behind_read_leaves ucs2 marked count o out)
  unfolding behind_reads behind_read_leaves behind_rules verdict
  behind-misfit h = simp h (refl, refl)

  -- what is left of the rules, where the length and the header are right
  tail-left : count_fits ucs2 (length o) count ≡ true → marked && wrong_head ucs2 count o ≡ false
      → (with_numbers (marked_numbers marked o) (tail_reads ucs2 (head_size marked o) count o (length out)) ≡ behind_reads ucs2 marked count o (length out))
      × (tail_leaves ucs2 (head_size marked o) count o out ≡ behind_read_leaves ucs2 marked count o out)
  unfolding tail_reads tail_leaves tail_rules behind_reads behind_read_leaves behind_rules verdict
  tail-left fits right =
      let v : verdict (behind_rules ucs2 marked count o (length out)) ≡ verdict (tail_rules ucs2 (head_size marked o) count o (length out)) = simp (fits, right) in (
        numbers-settle (verdict (tail_rules ucs2 (head_size marked o) count o (length out))) (length (text_behind ucs2 (head_size marked o) count o)) (marked_numbers marked o)
            ∙ sym (ap (λ (w : Verdict). settle w Err (ok_text_read (length (text_behind ucs2 (head_size marked o) count o)) (marked_numbers marked o))) v),
        leaves-agree {x = text_behind ucs2 (head_size marked o) count o} out v refl,
      )

  pub behind-alone : count_fits ucs2 (length o) count ≡ true → marked ≡ false
      → (with_numbers None (tail_reads ucs2 0 count o (length out)) ≡ behind_reads ucs2 marked count o (length out)) × (tail_leaves ucs2 0 count o out ≡ behind_read_leaves ucs2 marked count o out)
  behind-alone fits alone =
      let t = tail-left fits (ap (λ (m : Bool). m && wrong_head ucs2 count o) alone) in (
        sym (ap (λ (m : Bool). with_numbers (marked_numbers m o) (tail_reads ucs2 (head_size m o) count o (length out))) alone) ∙ t.0,
        sym (ap (λ (m : Bool). tail_leaves ucs2 (head_size m o) count o out) alone) ∙ t.1,
      )

  pub behind-headed : count_fits ucs2 (length o) count ≡ true → marked ≡ true → wrong_head ucs2 count o ≡ false
      → (with_numbers (header_numbers o) (tail_reads ucs2 (header_size o) count o (length out)) ≡ behind_reads ucs2 marked count o (length out))
      × (tail_leaves ucs2 (header_size o) count o out ≡ behind_read_leaves ucs2 marked count o out)
  behind-headed fits mark right =
      let t = tail-left fits (ap (λ (m : Bool). m && wrong_head ucs2 count o) mark ∙ right) in (
        sym (ap (λ (m : Bool). with_numbers (marked_numbers m o) (tail_reads ucs2 (head_size m o) count o (length out))) mark) ∙ t.0,
        sym (ap (λ (m : Bool). tail_leaves ucs2 (head_size m o) count o out) mark) ∙ t.1,
      )

  pub behind-headless : count_fits ucs2 (length o) count ≡ true → marked ≡ true → wrong_head ucs2 count o ≡ true
      → (Err WrongHeader ≡ behind_reads ucs2 marked count o (length out)) × (out ≡ behind_read_leaves ucs2 marked count o out)
  unfolding behind_reads behind_read_leaves behind_rules verdict
  behind-headless fits mark wrong = simp (fits, mark, wrong) (refl, refl)

-- ---- UCS2

module _ (o out : List ℕ) where
  pub units-odd : length o % 2 ≡ 1 → (Err WrongLength ≡ tail_reads true 0 0 o (length out)) × (out ≡ tail_leaves true 0 0 o out)
  unfolding tail_reads tail_leaves tail_rules odd_behind verdict
  units-odd odd = simp (eq-eqb ((length o - 0) % 2) 1 (omega (arith, odd))) (refl, refl)

  pub units-short : (length o % 2 ≡ 1 → ⊥) → length out < length o / 2
      → (Err NoRoom ≡ tail_reads true 0 0 o (length out)) × (out ≡ tail_leaves true 0 0 o out)
  unfolding tail_reads tail_leaves tail_rules odd_behind content_behind verdict
  units-short even short =
      simp (ne_eqb ((length o - 0) % 2) 1 (λ e. even (omega (arith, e))), lt-ltb (length out) (length (octet_units o)) (omega (arith, octet-units-length o))) (refl, refl)

  pub units-tail : (length o % 2 ≡ 1 → ⊥) → length o / 2 ≤ length out
      → (Ok (length (take (length out) (octet_units o))) ≡ tail_reads true 0 0 o (length out)) × (laid (take (length out) (octet_units o)) out ≡ tail_leaves true 0 0 o out)
  unfolding tail_reads tail_leaves tail_rules odd_behind content_behind verdict
  units-tail even room =
      let all : take (length out) (octet_units o) ≡ octet_units o = take_all (length out) (octet_units o) (omega (arith, octet-units-length o)) in
      simp (ne_eqb ((length o - 0) % 2) 1 (λ e. even (omega (arith, e))), le-ltb (length out) (length (octet_units o)) (omega (arith, octet-units-length o)), all) (refl, refl)

-- behind a header of so many octets
module _ (size count : ℕ) (o out : List ℕ) where
  pub units-behind : (tail_reads true 0 0 (drop size o) (length out) ≡ tail_reads true size count o (length out)) × (tail_leaves true 0 0 (drop size o) out ≡ tail_leaves true size count o out)
  unfolding tail_reads tail_leaves tail_rules odd_behind content_behind
  units-behind =
      let long : length (drop size o) - 0 ≡ length o - size = omega (arith, length-drop size o) in (
        ap (λ (n : ℕ). settle (verdict (when (eqb (n % 2) 1) WrongLength ∷ when (ltb (length out) (length (octet_units (drop size o)))) NoRoom ∷ [])) Err (Ok (length (octet_units (drop size o))))) long,
        ap (λ (n : ℕ). settle (verdict (when (eqb (n % 2) 1) WrongLength ∷ when (ltb (length out) (length (octet_units (drop size o)))) NoRoom ∷ [])) (λ q. out) (laid (octet_units (drop size o)) out)) long,
      )

-- ---- 7-bit text

module _ (count : ℕ) (o : List ℕ) (fits : count_fits false (length o) count ≡ true) where
  -- the octets are what the count asks, so that all septets stand at the front of the array
  septets-laid : (array left : List ℕ) → length array ≡ 184 → left ≡ all_leaves ShortMessage o count array → left ≡ laid (unpacked count o) array
  unfolding count_fits all_leaves all_rules verdict
  septets-laid array left n e =
      let most : count ≤ 160 = septets-most in
      e ∙ simp (fits, le-ltb (length array) (length (unpacked count o)) (omega (arith, unpacked-length count o)))
    where
      septets-most : count ≤ 160
      septets-most = leb-true count 160 (and_left (leb count 160) _ fits)

  pub septets-room : (left : List ℕ) → left ≡ all_leaves ShortMessage o count (replicate 184 0) → count ≤ length left
  unfolding count_fits
  septets-room left e =
      let most : count ≤ 160 = leb-true count 160 (and_left (leb count 160) _ fits) in
      let long : length left ≡ 184 = ap length (septets-laid (replicate 184 0) left refl e) ∙ laid-length (unpacked count o) (replicate 184 0) (omega (arith, unpacked-length count o)) in
      omega arith

  -- what stands in the array from the header on
  run-behind : (over : ℕ) → over ≤ count → (left : List ℕ) → left ≡ all_leaves ShortMessage o count (replicate 184 0) → take (count - over) (drop over left) ≡ unpacked_behind over (count - over) o
  unfolding laid
  run-behind over h left e =
      let s : List ℕ = unpacked count o in
      let long : length s ≡ count = unpacked-length count o in
      let rest : length (drop over s) ≡ count - over = length-drop over s ∙ ap (λ (n : ℕ). n - over) long in
      let whole : over + (count - over) ≡ count = omega arith in
      ap (λ (l : List ℕ). take (count - over) (drop over l)) (septets-laid (replicate 184 0) left refl e)
      ∙ ap (take (count - over)) (drop-append-le over s (drop (length s) (replicate 184 0)) (omega arith))
      ∙ take_at (drop over s) (drop (length s) (replicate 184 0)) (count - over) rest
      ∙ sym (unpacked-behind over (count - over) o ∙ ap (λ (n : ℕ). drop over (unpacked n o)) whole)

  narrow : (over n : ℕ) → length (unpacked_behind over n o) ≤ first_wide (unpacked_behind over n o)
  unfolding unpacked_behind stream_bit bit_of
  narrow over n =
      let s : List ℕ = unpacked_behind over n o in
      let below : Below 128 s = cut_below (stream_bit 8 o) (λ m. mod-lt (get_or o (m / 8) 0 / 2 ^ (m % 8)) (lit< tt)) (7 * over) n in
      omega (arith, place_none (leb 128) s (λ k l. lt-leb 128 (get_or s k 0) (below k)))

  pub septets-given : (over : ℕ) → over ≤ count → (left : List ℕ) → left ≡ all_leaves ShortMessage o count (replicate 184 0) → (out s : List ℕ) → s ≡ take (count - over) (drop over left)
      → (text_answers s (text_of s) (length out) ≡ given_answers (text_of (unpacked_behind over (count - over) o)) (length out))
      × (text_leaves s (text_of s) out ≡ given_leaves (text_of (unpacked_behind over (count - over) o)) out)
  unfolding text_answers text_leaves shown_rules given_answers given_leaves verdict
  septets-given over h left e out s p =
      let run : s ≡ unpacked_behind over (count - over) o = p ∙ run-behind over h left e in
      simp (run, le-ltb _ _ (narrow over (count - over))) (refl, refl)

-- behind a header of so many octets
module _ (size count : ℕ) (o out : List ℕ) (over : ℕ) (is : over ≡ septets_over size) where
  pub septets-behind : (given_answers (text_of (unpacked_behind over (count - over) o)) (length out) ≡ tail_reads false size count o (length out))
      × (given_leaves (text_of (unpacked_behind over (count - over) o)) out ≡ tail_leaves false size count o out)
  unfolding given_answers given_leaves tail_reads tail_leaves tail_rules odd_behind content_behind verdict
  septets-behind = simp is (refl, refl)

-- ---- whether a header stands in front

module _ (ucs2 : Bool) (count : ℕ) (o : List ℕ) where
  pub head-none : right_header o ≡ false → wrong_head ucs2 count o ≡ true
  unfolding wrong_head
  head-none e = simp e

  pub head-right : right_header o ≡ true → (over : ℕ) → over ≡ septets_over (header_size o) → wrong_head ucs2 count o ≡ cond ucs2 false (ltb count over)
  unfolding wrong_head
  head-right e over is = simp (e, is)

  pub not-past : (over : ℕ) → cond ucs2 false (ltb count over) ≡ false → ucs2 ≡ false → over ≤ count
  not-past over e seven = ltb-false count over (sym (ap (λ (t : Bool). cond t false (ltb count over)) seven) ∙ e)
