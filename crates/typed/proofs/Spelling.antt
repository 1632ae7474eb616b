-- Laws of what is typed: digits by their ranges, the number of one digit more, the size of a number, and the two outcomes of reading numbers.
-- Assumes nothing.
use Prim.Native.Nat.{ℕ, zero, suc, ◌+◌, ◌-◌, ◌*◌, ◌/◌, ◌%◌, ◌^◌, ◌≤◌, ◌<◌}
use mathlib.Core.Path.{◌≡◌, refl, sym, ap, ap₂, ◌∙◌, subst}
use mathlib.Core.Bool.{Bool, true, false, cond, ◌&&◌}
use mathlib.Core.List.{List, [], ◌∷◌, ◌++◌, map, append_assoc}
use native.Mathlib.Nat.{mul-suc, mul-zero, pow-suc, mod-mod, mul-le-mul, mul-le-mul_left, le_of_suc-le-suc, not-suc-le-zero}
use native.Mathlib.Numerals.{add-one}
use native.Mathlib.Omega.{arith}
use borrow.Author.Tests.{lt-ltb, le-ltb, le-leb, lt-leb, leb-false, eq-eqb, ne_eqb, leb-true, ltb-true, ltb-false}
use lib.Dec.{T, leb, ltb, eqb, eqb→eq, leb→le}
use lib.ListN.{length, take, drop, set, get_or}
use Rattle.std.proofs.lemmas.List.{map-append, map-id, length-map, length-take, length-drop, set_at, take_more, take_at, drop_at, length-append}
use lib.Seq.{take-suc, take-length, drop-drop, drop-cons, get_or-take, get_or-drop}
use Rattle.lists.specs.Lists.{laid, first_place, numbers_from}
use Rattle.lists.proofs.Places.{Passed, passed_none, passed-more, passed_here, passed_over, place-before, place-most, place_none}
use Rattle.lists.proofs.Tests.{every_below, every-below}
use Rattle.typed.specs.Spelling.{digit_of, digit_for, number_from, number_in, numbers_in, only_digits, number_spelled, other_place, other_answers, digit_answers, digits, fitting, elements_answers, elements_leave, elements_leave_as, zero_led, number_answers}
use Rattle.std.proofs.Common.{lit<}
use Rattle.std.proofs.lemmas.List.Recursion.{is_position_or_len}
use Rattle.std.specs.Prelude.{Option, Some, None, unwrap_or, is_some, Result, Ok, Err}
use Rattle.std.specs.Result.{OkIff, result_ok}
use Rattle.std.specs.List.{position_or_len}

-- ---- digits

-- a digit by the ranges in which digits lie
abbrev pub by_range : ℕ → ℕ
by_range c = cond (ltb c 48) 16 (cond (ltb c 58) (c - 48) (cond (ltb c 65) 16 (cond (ltb c 71) (c - 55) 16)))

ranged : T (every_below (λ (c : ℕ). eqb (digit_of c) (by_range c)) 256)
unfolding digit_of first_place numbers_from
ranged = tt

pub digit-ranged : (c : ℕ) → c < 256 → digit_of c ≡ by_range c
digit-ranged c h = eqb→eq _ _ (every-below (λ (c : ℕ). eqb (digit_of c) (by_range c)) 256 ranged c h)

pub digit-first : (c : ℕ) → 48 ≤ c → c ≤ 57 → digit_answers c ≡ Some (c - 48)
unfolding digit_answers
digit-first c l h =
    let e : digit_of c ≡ c - 48 = digit-ranged c (omega arith) ∙ simp (le-ltb c 48 l, lt-ltb c 58 (omega arith)) refl in
    let small : c - 48 < 16 = omega arith in
    rw e (simp (lt-ltb _ _ small) refl)

pub digit-letter : (c : ℕ) → 65 ≤ c → c ≤ 70 → digit_answers c ≡ Some (c - 65 + 10)
unfolding digit_answers
digit-letter c l h =
    let e : digit_of c ≡ c - 55 = digit-ranged c (omega arith) ∙ simp (le-ltb c 48 (omega arith), le-ltb c 58 (omega arith), le-ltb c 65 l, lt-ltb c 71 (omega arith)) refl in
    let same : c - 55 ≡ c - 65 + 10 = omega arith in
    let small : c - 65 + 10 < 16 = omega arith in
    rw (e, same) (simp (lt-ltb _ _ small) refl)

digit-none : (c : ℕ) → digit_of c ≡ 16 → digit_answers c ≡ None
unfolding digit_answers
digit-none c e = rw e refl

pub digit-before : (c : ℕ) → c < 48 → digit_answers c ≡ None
digit-before c h = digit-none c (digit-ranged c (omega arith) ∙ simp (lt-ltb c 48 h) refl)

pub digit-between : (c : ℕ) → 57 < c → c < 65 → digit_answers c ≡ None
digit-between c l h = digit-none c (digit-ranged c (omega arith) ∙ simp (le-ltb c 48 (omega arith), le-ltb c 58 l, lt-ltb c 65 h) refl)

pub digit-behind : (c : ℕ) → 70 < c → c < 256 → digit_answers c ≡ None
digit-behind c l h = digit-none c (digit-ranged c h ∙ simp (le-ltb c 48 (omega arith), le-ltb c 58 (omega arith), le-ltb c 65 (omega arith), le-ltb c 71 l) refl)

-- whatever an octet is, one of these says what it answers
pub ruleset digit_cases = (digit-first, digit-letter, digit-before, digit-between, digit-behind)

digit-most : (c : ℕ) → digit_of c ≤ 16
unfolding digit_of numbers_from
digit-most c = place-most (eqb c) digits

-- 16 in the place of none
pub digit_or : (c : ℕ) → unwrap_or (digit_answers c) 16 ≡ digit_of c
unfolding digit_answers
digit_or c = go (ltb (digit_of c) 16) refl
  where
    go : (b : Bool) → ltb (digit_of c) 16 ≡ b → unwrap_or (cond b (Some (digit_of c)) None) 16 ≡ digit_of c
    go true e = refl
    go false e = let far : 16 ≤ digit_of c = ltb-false _ _ e in omega (arith, digit-most c)

abbrev pub for_range : ℕ → ℕ
for_range v = cond (ltb v 10) (48 + v) (65 + (v - 10))

for-ranged : T (every_below (λ (v : ℕ). eqb (digit_for v) (for_range v)) 16)
unfolding digit_for numbers_from
for-ranged = tt

pub digit_for_ranged : (v : ℕ) → digit_for v ≡ for_range (v % 16)
unfolding digit_for
digit_for_ranged v = ap (λ (k : ℕ). get_or digits k 0) (sym (mod-mod v 16)) ∙ eqb→eq _ _ (every-below (λ (v : ℕ). eqb (digit_for v) (for_range v)) 16 for-ranged (v % 16) (omega arith))

pub digit-is : (c d : ℕ) → digit_answers c ≡ Some d → digit_of c ≡ d
digit-is c d e = sym (digit_or c) ∙ ap (λ (o : Option ℕ). unwrap_or o 16) e

pub digit-is-none : (c : ℕ) → digit_answers c ≡ None → digit_of c ≡ 16
digit-is-none c e = sym (digit_or c) ∙ ap (λ (o : Option ℕ). unwrap_or o 16) e

-- ---- only digits

-- c is no digit of base b
abbrev pub other : ℕ → ℕ → Bool
other b c = leb b (digit_of c)

pub only_yes : (b : ℕ) (s : List ℕ) → length s ≤ first_place (λ (c : ℕ). leb b (digit_of c)) s → only_digits b s ≡ true
unfolding only_digits
only_yes b s h = le-leb _ _ h

pub only_no : (b : ℕ) (s : List ℕ) → first_place (λ (c : ℕ). leb b (digit_of c)) s < length s → only_digits b s ≡ false
unfolding only_digits
only_no b s h = lt-leb _ _ h

first-position : (f : ℕ → Bool) (s : List ℕ) → position_or_len f s ≡ first_place f s
unfolding first_place
first-position f s = sym (is_position_or_len (first_place f) f refl (λ x xs. grind arith) s)

-- the search of the library is the one that the definitions speak of
pub other-at : (b : ℕ) (s : List ℕ) → other_answers b s ≡ cond (ltb (other_place b s) (length s)) (Some (other_place b s)) None
other-at b s = ap (λ (k : ℕ). cond (ltb k (length s)) (Some k) None) (first-position (other b) s)

pub other-some : (b : ℕ) (s : List ℕ) → is_some (other_answers b s) ≡ true → only_digits b s ≡ false
unfolding only_digits
other-some b s h = go (ltb (other_place b s) (length s)) refl (ap is_some (sym (other-at b s)) ∙ h)
  where
    go : (x : Bool) → ltb (other_place b s) (length s) ≡ x → is_some (cond x (Some (other_place b s)) None) ≡ true → leb (length s) (other_place b s) ≡ false
    go true e h = lt-leb _ _ (ltb-true _ _ e)
    go false e h = cc

pub other-none : (b : ℕ) (s : List ℕ) → is_some (other_answers b s) ≡ false → only_digits b s ≡ true
unfolding only_digits
other-none b s h = go (ltb (other_place b s) (length s)) refl (ap is_some (sym (other-at b s)) ∙ h)
  where
    go : (x : Bool) → ltb (other_place b s) (length s) ≡ x → is_some (cond x (Some (other_place b s)) None) ≡ false → leb (length s) (other_place b s) ≡ true
    go true e h = cc
    go false e h = le-leb _ _ (ltb-false _ _ e)

pub digits-below : (b : ℕ) (s : List ℕ) → length s ≤ first_place (λ (c : ℕ). leb b (digit_of c)) s → (k : ℕ) → k < length s → digit_of (get_or s k 0) < b
digits-below b s h k l = leb-false _ _ (place-before (λ (c : ℕ). leb b (digit_of c)) s k (omega arith))

-- ---- numbers

from-append : (b : ℕ) (s t : List ℕ) (a : ℕ) → number_from b a (s ++ t) ≡ number_from b (number_from b a s) t
unfolding number_from
from-append b [] t a = refl
from-append b (c ∷ s) t a = from-append b s t (a * b + digit_of c)

-- the number of one digit more
pub number_more : (b : ℕ) (s : List ℕ) (i : ℕ) → i < length s → number_in b (take (i + 1) s) ≡ number_in b (take i s) * b + digit_of (get_or s i 0)
unfolding number_in number_from
number_more b s i h =
    ap (λ (k : ℕ). number_from b 0 (take k s)) (add-one i) ∙ ap (number_from b 0) (take-suc s i 0 h) ∙ from-append b (take i s) (get_or s i 0 ∷ []) 0

power-most : T (every_below (λ (i : ℕ). leb (16 ^ i) 68719476736) 10)
power-most = tt

-- a number of few digits fits, with one digit more
pub number_fits : (b v d i : ℕ) → b ≤ 16 → v < 16 ^ i → d < b → i < 10 → (v * b ≤ v * 16) × (v * 16 + 16 ≤ 16 * 68719476736)
number_fits b v d i small most digit few =
    let p : 16 ^ i ≤ 68719476736 = leb→le _ _ (every-below (λ (i : ℕ). leb (16 ^ i) 68719476736) 10 power-most i few) in
    (mul-le-mul (omega arith) small, omega arith)

pub number_step : (b v d i : ℕ) → b ≤ 16 → v < 16 ^ i → d < b → v * b + d < 16 ^ (i + 1)
number_step b v d i small most digit =
    let p : v * b ≤ v * 16 = mul-le-mul (omega arith) small in
    let e : 16 ^ (i + 1) ≡ 16 ^ i * 16 = ap (λ (k : ℕ). 16 ^ k) (add-one i) ∙ pow-suc 16 i in
    omega arith

number-nothing : (b : ℕ) → number_in b [] ≡ 0
unfolding number_in number_from
number-nothing b = refl

-- what a loop over digits knows: what it passed are digits of the base, and v is their number
pub record Reading (b : ℕ) (s : List ℕ) (i v : ℕ) : Type 0 where
  pub passed : Passed (other b) s i
  pub number : v ≡ number_in b (take i s)
  pub small : v < 16 ^ i

pub reading-none : (b : ℕ) (s : List ℕ) → Reading b s 0 0
reading-none b s = record { passed = passed_none (other b) s; number = sym (number-nothing b); small = lit< tt }

-- one digit more
pub reading-more : (b : ℕ) (s : List ℕ) (i v d : ℕ) → Reading b s i v → i < length s → b ≤ 16 → digit_of (get_or s i 0) ≡ d → d < b → Reading b s (i + 1) (v * b + d)
reading-more b s i v d r h most e less = record {
  passed = passed-more (other b) s i r.passed h (lt-leb _ _ (subst (λ (x : ℕ). x < b) (sym e) less));
  number = ap₂ (λ (x y : ℕ). x * b + y) r.number (sym e) ∙ sym (number_more b s i h);
  small = number_step b v d i most r.small less;
}

-- an octet that is no digit of the base ends it
pub reading-other : (b : ℕ) (s : List ℕ) (i v : ℕ) → Reading b s i v → i < length s → b ≤ digit_of (get_or s i 0) → number_spelled b s ≡ None
unfolding number_spelled
reading-other b s i v r h e =
    let at : other_place b s ≡ i = passed_here (other b) s i r.passed h (le-leb _ _ e) in
    rw (only_no b s (omega arith)) refl

-- all are passed
pub reading-all : (b : ℕ) (s : List ℕ) (v : ℕ) → Reading b s (length s) v → number_spelled b s ≡ Some v
unfolding number_spelled
reading-all b s v r =
    let end : other_place b s ≡ length s = passed_over (other b) s (length s) r.passed (omega arith) in
    let same : number_in b s ≡ v = ap (number_in b) (sym (take-length s)) ∙ sym r.number in
    rw (only_yes b s (omega arith), same) refl

-- what each turn of such a loop asks
pub ruleset reading_laws = (reading-none, reading-more, reading-other, reading-all, digit-is, digit-is-none, number_fits)

pub spelled-yes : (b : ℕ) (s : List ℕ) → only_digits b s ≡ true → number_spelled b s ≡ Some (number_in b s)
unfolding number_spelled
spelled-yes b s e = rw e refl

pub spelled-is : (b : ℕ) (s : List ℕ) (v : ℕ) → number_spelled b s ≡ Some v → (only_digits b s ≡ true) × (number_in b s ≡ v)
unfolding number_spelled
spelled-is b s v = go (only_digits b s) refl
  where
    go : (x : Bool) → only_digits b s ≡ x → cond x (Some (number_in b s)) None ≡ Some v → (only_digits b s ≡ true) × (number_in b s ≡ v)
    go true e h = (e, (cc))
    go false e h = cc

pub spelled-none : (b : ℕ) (s : List ℕ) → number_spelled b s ≡ None → only_digits b s ≡ false
unfolding number_spelled
spelled-none b s = go (only_digits b s) refl
  where
    go : (x : Bool) → only_digits b s ≡ x → cond x (Some (number_in b s)) None ≡ None → only_digits b s ≡ false
    go true e h = cc
    go false e h = e

-- ---- numbers of w digits each

pub numbers-length : (w n : ℕ) (s : List ℕ) → length (numbers_in w n s) ≡ n
unfolding numbers_in
numbers-length w zero s = refl
numbers-length w (suc n) s = ap suc (numbers-length w n (drop w s))

pub numbers-at : (w n : ℕ) (s : List ℕ) (k : ℕ) → k < n → get_or (numbers_in w n s) k 0 ≡ number_in 16 (take w (drop (w * k) s))
unfolding numbers_in
numbers-at w zero s k h = absurd (not-suc-le-zero h)
numbers-at w (suc n) s zero h = ap (λ (m : ℕ). number_in 16 (take w (drop m s))) (sym (mul-zero w))
numbers-at w (suc n) s (suc k) h =
    let next : w + w * k ≡ w * suc k = omega (arith, mul-suc w k) in
    numbers-at w n (drop w s) k (le_of_suc-le-suc h)
    ∙ ap (λ (l : List ℕ). number_in 16 (take w l)) (drop-drop (w * k) w s ∙ ap (λ (m : ℕ). drop m s) next)

-- digits are digits in every part
pub only-part : (b : ℕ) (s : List ℕ) (k n : ℕ) → only_digits b s ≡ true → k + n ≤ length s → only_digits b (take n (drop k s)) ≡ true
unfolding only_digits
only-part b s k n h fits =
    let all : length s ≤ other_place b s = leb-true _ _ h in
    let size : length (take n (drop k s)) ≡ n = simp (length-take, length-drop) (omega arith) in
    let each : (j : ℕ) → j < length (take n (drop k s)) → other b (get_or (take n (drop k s)) j 0) ≡ false
    = λ j l. ap (other b) (get_or-take n (drop k s) j 0 (omega arith) ∙ get_or-drop k s j 0) ∙ place-before (other b) s (k + j) (omega arith)
    in
    let end : other_place b (take n (drop k s)) ≡ length (take n (drop k s)) = place_none (other b) (take n (drop k s)) each in
    le-leb _ _ (omega arith)

-- the digits of each of the n numbers are within the text
pub part-within : (w n i size : ℕ) → 0 < w → n ≡ size / w → i < n → w * i + w ≤ size
part-within w n i size some e h =
    let next : w * suc i ≡ w * i + w = mul-suc w i in
    let most : w * suc i ≤ w * n = mul-le-mul_left w (omega arith) in
    let all : w * n ≤ size = rw e (omega arith) in
    omega arith

-- the k-th chunk of w digits, behind which rest' is left of what was left before it
pub chunk-at : (w k : ℕ) (s rest x rest' : List ℕ) → rest ≡ drop (w * k) s → rest ≡ x ++ rest' → length x ≡ w → x ≡ take w (drop (w * k) s)
chunk-at w k s rest x rest' e f h = sym (take_at x rest' w h) ∙ ap (take w) (sym f ∙ e)

pub chunk-behind : (w k : ℕ) (s rest x rest' : List ℕ) → rest ≡ drop (w * k) s → rest ≡ x ++ rest' → length x ≡ w → rest' ≡ drop (w * (k + 1)) s
chunk-behind w k s rest x rest' e f h =
    let next : w * k + w ≡ w * (k + 1) = rw add-one (sym (mul-suc w k)) in
    sym (drop_at x rest' w h) ∙ ap (drop w) (sym f ∙ e) ∙ drop-drop w (w * k) s ∙ ap (λ (m : ℕ). drop m s) next

pub chunk-within : (w k : ℕ) (s rest x rest' : List ℕ) → 0 < w → rest ≡ drop (w * k) s → rest ≡ x ++ rest' → length x ≡ w → k < length s / w
chunk-within w k s rest x rest' some e f h =
    let size : length rest ≡ length x + length rest' = ap length f ∙ length-append x rest' in
    let left : length rest ≡ length s - w * k = ap length e ∙ length-drop (w * k) s in
    let go : ¬ (length s / w ≤ k) = λ l. (let most : w * (length s / w) ≤ w * k = mul-le-mul_left w l in omega arith) in
    omega arith

-- where less than a chunk is left, all are taken
pub chunks-end : (w n k : ℕ) (s rest : List ℕ) → 0 < w → n ≡ length s / w → k ≤ n → rest ≡ drop (w * k) s → length rest < w → k ≡ n
chunks-end w n k s rest some e few is short =
    let left : length rest ≡ length s - w * k = ap length is ∙ length-drop (w * k) s in
    let go : ¬ (k < n) = λ l. (let within : w * k + w ≤ length s = part-within w n k (length s) some e l in omega arith) in
    omega arith

-- element i is spelled by the digits from w * i on
pub spelled-part : (w n i : ℕ) (s x : List ℕ) (o : Option ℕ) → only_digits 16 s ≡ true → 0 < w → n ≡ length s / w → i < n
    → x ≡ take w (drop (w * i) s) → o ≡ number_spelled 16 x → o ≡ Some (get_or (numbers_in w n s) i 0)
spelled-part w n i s x o only some e h at is =
    is ∙ ap (number_spelled 16) at
    ∙ spelled-yes 16 (take w (drop (w * i) s)) (only-part 16 s (w * i) w only (part-within w n i (length s) some e h))
    ∙ ap Some (sym (numbers-at w n s i h))

-- where f makes elements of numbers, out has at its first i places the elements of xs, and from i on what the buffer had at the start
module _ {A : Type 0} (f : ℕ → A) where
  abbrev pub Filling : List ℕ → List A → ℕ → List A → Type 0
  Filling xs start i out = out ≡ map f (take i xs) ++ drop i start

  pub fill-none : (xs : List ℕ) (start : List A) → Filling xs start 0 start
  fill-none xs start = refl

  pub fill-more : (xs : List ℕ) (start out : List A) (i v : ℕ) → Filling xs start i out → i < length xs → i < length start → v ≡ get_or xs i 0 → Filling xs start (i + 1) (set out i (f v))
  fill-more xs start out i v l h room e =
      let size : length (map f (take i xs)) ≡ i = simp (length-map, length-take) (omega arith) in
      rw (l, drop-cons start i (f 0) room, set_at (map f (take i xs)) (get_or start i (f 0)) (drop (suc i) start) (f v) i size, take_more xs i 0 h, map-append, e) (simp (append_assoc, add-one) refl)

  pub fill-all : (xs : List ℕ) (start out : List A) (n : ℕ) → Filling xs start n out → length xs ≡ n → out ≡ map f xs ++ drop n start
  fill-all xs start out n l e = l ∙ ap (λ (ys : List ℕ). map f ys ++ drop n start) (ap (λ (k : ℕ). take k xs) (sym e) ∙ take-length xs)

-- ---- the outcomes of reading numbers

none_first : (a b d : Bool) → a ≡ false → (a && b && d) ≡ false
none_first a b d e = ap (λ (x : Bool). x && b && d) e

none-second : (a b d : Bool) → b ≡ false → (a && b && d) ≡ false
none-second true b d e = ap (λ (x : Bool). x && d) e
none-second false b d e = refl

none-third : (a b d : Bool) → d ≡ false → (a && b && d) ≡ false
none-third true true d e = e
none-third true false d e = refl
none-third false b d e = refl

-- what a call owes that reads elements of w digits
module _ {A : Type 0} (f : ℕ → A) (w : ℕ) (s : List ℕ) (out : List A) where
  abbrev pub Reads : Option ℕ → List A → Type 0
  Reads answer left = (answer ≡ elements_answers w s (length out)) × (left ≡ elements_leave_as f w s out)

  reads_nothing : fitting w s (length out) ≡ false → Reads None out
  unfolding elements_answers elements_leave_as
  reads_nothing e = rw e (refl, refl)

  pub reads-parted : (length s % w ≡ 0 → ⊥) → Reads None out
  reads-parted h = reads_nothing (none_first (eqb (length s % w) 0) (leb (length s / w) (length out)) (only_digits 16 s) (ne_eqb _ _ h))

  pub reads_short : length out < length s / w → Reads None out
  reads_short h = reads_nothing (none-second (eqb (length s % w) 0) (leb (length s / w) (length out)) (only_digits 16 s) (lt-leb _ _ h))

  pub reads_other : only_digits 16 s ≡ false → Reads None out
  reads_other o = reads_nothing (none-third (eqb (length s % w) 0) (leb (length s / w) (length out)) (only_digits 16 s) o)

  pub reads-done : length s % w ≡ 0 → length s / w ≤ length out → only_digits 16 s ≡ true
      → (left : List A) → left ≡ map f (numbers_in w (length s / w) s) ++ drop (length s / w) out → Reads (Some (length s / w)) left
  unfolding elements_answers elements_leave_as
  reads-done e h o left l =
      let all : fitting w s (length out) ≡ true = ap₂ ◌&&◌ (ap₂ ◌&&◌ (eq-eqb _ _ e) (le-leb _ _ h)) o in
      rw all (refl, l)

-- where the elements are the numbers themselves
pub leave_plain : (w : ℕ) (s out : List ℕ) → elements_leave_as (λ (n : ℕ). n) w s out ≡ elements_leave w s out
unfolding elements_leave_as elements_leave laid
leave_plain w s out =
    ap (λ (xs : List ℕ). cond (fitting w s (length out)) xs out)
    (ap₂ (λ (xs : List ℕ) (k : ℕ). xs ++ drop k out) (map-id (numbers_in w (length s / w) s)) (sym (numbers-length w (length s / w) s)))

-- ---- the outcomes of reading a number

module _ (s : List ℕ) where
  pub number-none : length s ≤ 0 → number_answers s ≡ None
  unfolding number_answers
  number-none h = simp (le-ltb _ _ h) refl

  pub number-long : 10 < length s → number_answers s ≡ None
  unfolding number_answers
  number-long h =
      let some : 0 < length s = omega arith in
      simp (lt-ltb _ _ some, lt-leb _ _ h) refl

  module _ (some : 0 < length s) (few : length s ≤ 10) where
    pub number-led : zero_led s ≡ true → number_answers s ≡ None
    unfolding number_answers
    number-led z = simp (lt-ltb _ _ some, le-leb _ _ few, z) refl

    module _ (plain : zero_led s ≡ false) where
      pub number-other : only_digits 10 s ≡ false → number_answers s ≡ None
      unfolding number_answers
      number-other o = simp (lt-ltb _ _ some, le-leb _ _ few, plain, o) refl

      module _ (digits : only_digits 10 s ≡ true) where
        pub number-large : 4294967295 < number_in 10 s → number_answers s ≡ None
        unfolding number_answers
        number-large h = simp (lt-ltb _ _ some, le-leb _ _ few, plain, digits, lt-leb _ _ h) refl

        pub number_is : number_in 10 s ≤ 4294967295 → number_answers s ≡ Some (number_in 10 s)
        unfolding number_answers
        number_is h = simp (lt-ltb _ _ some, le-leb _ _ few, plain, digits, le-leb _ _ h) refl

        -- what the conversion of the number answers
        pub number-converted : {E : Type 0} (v : ℕ) (r : Result ℕ E) → number_in 10 s ≡ v → OkIff r (v < 4294967296) v → result_ok r ≡ number_answers s
        number-converted v (Ok x) e (h, same) = ap Some (same ∙ sym e) ∙ sym (number_is (omega arith))
        number-converted v (Err d) e never = go (ltb 4294967295 v) refl
          where
            go : (b : Bool) → ltb 4294967295 v ≡ b → None ≡ number_answers s
            go true t = let far : 4294967295 < v = ltb-true _ _ t in sym (number-large (omega arith))
            go false t = let near : v ≤ 4294967295 = ltb-false _ _ t in absurd (never (omega arith))
