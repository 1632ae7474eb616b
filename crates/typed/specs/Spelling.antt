-- How numbers are typed: octets and units in hexadecimal digits, other numbers in decimal ones (docs/CASES.md, "Values").
-- Own rule: all of it; no standard says how a person types an octet. Cited by every call of this crate. Assumes nothing.
--   digit_of c                       == the value of the digit c: its place among 0 to 9 and A to F, and 16 where it is none of them
--   digit_for v                      == the digit whose value is v mod 16
--   number_in b s                    == the number that the digits s are in base b, the highest first
--   numbers_in w n s                 == the n numbers that s spells with w hexadecimal digits each
--   digit_answers c                  == what asking for that value answers: none where c is no digit
--   only_digits b s                  == every octet of s is a digit of base b
--   other_answers b s                == what looking for the first octet that is no digit of base b answers
--   number_spelled b s               == the number that s is in base b, and none where s has anything but digits of it
--   elements_answers, elements_leave == what reading numbers of w digits answers, and leaves in the lent buffer
--   elements_leave_as f              == the same of a buffer of elements, of which f n is the one that the number n spells
--   number_answers s                 == what reading a decimal number answers
use Rattle.std.specs.Prelude.{ℕ, zero, suc, ◌+◌, ◌*◌, ◌/◌, ◌%◌, Bool, not, cond, ◌&&◌, List, [], ◌∷◌, ◌++◌, map, leb, ltb, eqb, length, take, drop, get_or, Option, Some, None, position}
use Rattle.lists.specs.Lists.{laid, first_place, numbers_from}

-- 0 to 9 are 30 to 39 in ASCII, A to F are 41 to 46
abbrev pub digits : List ℕ
digits = numbers_from 48 10 ++ numbers_from 65 6

unfoldable pub digit_of : ℕ → ℕ
digit_of c = first_place (eqb c) digits

unfoldable pub digit_answers : ℕ → Option ℕ
digit_answers c = cond (ltb (digit_of c) 16) (Some (digit_of c)) None

unfoldable pub digit_for : ℕ → ℕ
digit_for v = get_or digits (v % 16) 0

-- the number so far is a, and the digits s follow
unfoldable pub number_from : ℕ → ℕ → List ℕ → ℕ
number_from b a [] = a
number_from b a (c ∷ s) = number_from b (a * b + digit_of c) s

unfoldable pub number_in : ℕ → List ℕ → ℕ
number_in b s = number_from b 0 s

unfoldable pub numbers_in : ℕ → ℕ → List ℕ → List ℕ
numbers_in w zero s = []
numbers_in w (suc n) s = number_in 16 (take w s) ∷ numbers_in w n (drop w s)

-- the place of the first octet that is no digit of base b, or how many octets there are
abbrev pub other_place : ℕ → List ℕ → ℕ
other_place b s = first_place (λ (c : ℕ). leb b (digit_of c)) s

abbrev pub other_answers : ℕ → List ℕ → Option ℕ
other_answers b s = position (λ (c : ℕ). leb b (digit_of c)) s

unfoldable pub only_digits : ℕ → List ℕ → Bool
only_digits b s = leb (length s) (other_place b s)

unfoldable pub number_spelled : ℕ → List ℕ → Option ℕ
number_spelled b s = cond (only_digits b s) (Some (number_in b s)) None

-- s is hexadecimal digits and nothing else, w of them to each number, and there is room for the numbers
abbrev pub fitting : ℕ → List ℕ → ℕ → Bool
fitting w s room = eqb (length s % w) 0 && leb (length s / w) room && only_digits 16 s

unfoldable pub elements_answers : ℕ → List ℕ → ℕ → Option ℕ
elements_answers w s room = cond (fitting w s room) (Some (length s / w)) None

unfoldable pub elements_leave : ℕ → List ℕ → List ℕ → List ℕ
elements_leave w s out = cond (fitting w s (length out)) (laid (numbers_in w (length s / w) s) out) out

unfoldable pub elements_leave_as : {A : Type 0} → (ℕ → A) → ℕ → List ℕ → List A → List A
elements_leave_as f w s out = cond (fitting w s (length out)) (map f (numbers_in w (length s / w) s) ++ drop (length s / w) out) out

-- a zero stands in front of other digits
unfoldable pub zero_led : List ℕ → Bool
zero_led s = ltb 1 (length s) && eqb (get_or s 0 0) 48

-- digits that no zero leads; a number of more than ten digits is larger anyway
abbrev pub is_number : List ℕ → Bool
is_number s =
    ltb 0 (length s)
    && leb (length s) 10
    && not (zero_led s)
    && only_digits 10 s
    && leb (number_in 10 s) 4294967295

unfoldable pub number_answers : List ℕ → Option ℕ
number_answers s = cond (is_number s) (Some (number_in 10 s)) None
