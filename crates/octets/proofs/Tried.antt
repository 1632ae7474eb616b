-- The octet tried for a key is the smallest that has it, wherever one does, and never has a reserved key: one computed test over the 256
-- octets of each table, and one law that carries it to every key.
-- Assumes nothing.
use mathlib.Core.Path.{◌≡◌, refl, ap, ◌∙◌, sym, subst}
use mathlib.Core.Bool.{Bool, true, false, cond, not}
use Prim.Native.Nat.{ℕ, ◌≤◌, ◌<◌}
use native.Mathlib.Omega.{arith}
use native.Mathlib.Decide.{dec_le}
use borrow.Author.Tests.{lt-ltb}
use lib.Dec.{T, eqb, ltb, leb, leb→le, eqb→eq}
use Rattle.lists.proofs.Tests.{both, both_left, both_right, every_below, every-below}
use Rattle.keys.specs.Keys.{alphabet_digit, language_digit, notice_digit, prefix_digit, reserved_digit, general_key, notice_key, last_key, short_key, language_key, header_key, page_key}
use Rattle.octets.specs.Smallest.{first_octet, short_octet, page_octet, octet_or_none}
use Rattle.std.specs.Prelude.{Option, Some, None}
use Rattle.octets.specs.Inner.{general_try, headed_try, short_try, page_try}
use Rattle.octets.proofs.First.{first-most, first_holds, first-least}

-- k is the key of octet o: if it is reserved, what is tried for it has another key, else what is tried is no larger than o and has it
abbrev good_for : (ℕ → ℕ) → (ℕ → ℕ) → ℕ → ℕ → Bool
good_for key try o k = cond (eqb (reserved_digit k) 1) (not (eqb (key (try k)) k)) (both (leb (try k) o) (eqb (key (try k)) k))

abbrev good : (ℕ → ℕ) → (ℕ → ℕ) → ℕ → Bool
good key try o = good_for key try o (key o)

short-good : T (every_below (good short_key short_try) 256)
unfolding short_key general_key notice_key last_key short_try general_try
short-good = tt

page-good : T (every_below (good page_key page_try) 256)
unfolding page_key language_key general_key header_key last_key page_try headed_try general_try
page-good = tt

-- what the code answers for the key k
abbrev pub checked_octet : (ℕ → ℕ) → (ℕ → ℕ) → ℕ → ℕ
checked_octet key try k = cond (eqb (key (try k)) k) (try k) 256

module _ (key try : ℕ → ℕ) (all : T (every_below (good key try) 256)) (k : ℕ) (l : try k < 256) where
  abbrev found : ℕ
  found = first_octet (λ (o : ℕ). eqb (key o) k)

  good-at : (o : ℕ) → o < 256 → T (eqb (key o) k) → T (good_for key try o k)
  good-at o m h = subst (λ (n : ℕ). T (good_for key try o n)) (eqb→eq (key o) k h) (every-below (good key try) 256 all o m)

  settled : (marked tried : Bool) → eqb (reserved_digit k) 1 ≡ marked → eqb (key (try k)) k ≡ tried → cond marked 256 found ≡ cond tried (try k) 256
  settled true true e h =
      absurd (subst T (ap (λ (b : Bool). cond b (not (eqb (key (try k)) k)) (both (leb (try k) (try k)) (eqb (key (try k)) k))) e ∙ ap not h) (good-at (try k) l (subst T (sym h) tt)))
  settled true false e h = refl
  settled false true e h =
      let low : found ≤ try k = first-least (λ (o : ℕ). eqb (key o) k) (try k) l (subst T (sym h) tt) in
      let good : T (both (leb (try k) found) (eqb (key (try k)) k)) =
      subst T (ap (λ (b : Bool). cond b (not (eqb (key (try k)) k)) (both (leb (try k) found) (eqb (key (try k)) k))) e)
      (good-at found (omega arith) (first_holds (λ (o : ℕ). eqb (key o) k) (omega arith))) in
      let high : try k ≤ found = leb→le _ _ (both_left (leb (try k) found) (eqb (key (try k)) k) good) in
      omega arith
  settled false false e h =
      let most : found ≤ 256 = first-most (λ (o : ℕ). eqb (key o) k) in
      elim (dec_le 256 found) [
        | yes m ↦ omega arith
        | no m ↦
            absurd
            (subst T h
            (both_right (leb (try k) found) (eqb (key (try k)) k)
            (subst T (ap (λ (b : Bool). cond b (not (eqb (key (try k)) k)) (both (leb (try k) found) (eqb (key (try k)) k))) e)
            (good-at found (omega arith) (first_holds (λ (o : ℕ). eqb (key o) k) (omega arith))))))
      ]

-- what is tried is an octet
below : (b : Bool) (x y n : ℕ) → x < n → y < n → cond b x y < n
below true x y n l m = l
below false x y n l m = m

short-try-octet : (k : ℕ) → short_try k < 256
unfolding short_try
short-try-octet k = below (eqb (notice_digit k) 0) _ _ 256 (omega arith) (omega arith)

page-try-octet : (k : ℕ) → page_try k < 256
unfolding page_try
page-try-octet k =
    below (ltb (language_digit k) 15) _ _ 256 (omega arith)
    (below (ltb 15 (language_digit k)) _ _ 256 (omega arith)
    (below (eqb (prefix_digit k) 1) _ _ 256 (omega arith)
    (below (eqb (alphabet_digit k) 3) _ _ 256 (omega arith)
    (below (eqb (alphabet_digit k) 4) _ _ 256 (omega arith)
    (below (eqb (headed_try k) 0) _ _ 256 (omega arith) (omega arith))))))

-- the same as an option
checked-option : (key try : ℕ → ℕ) (k : ℕ) → try k < 256 → octet_or_none (checked_octet key try k) ≡ cond (eqb (key (try k)) k) (Some (try k)) None
checked-option key try k l = go (eqb (key (try k)) k)
  where
    go : (b : Bool) → octet_or_none (cond b (try k) 256) ≡ cond b (Some (try k)) None
    go true = simp (lt-ltb _ _ l) refl
    go false = refl

pub short-tried : (k : ℕ) → short_octet k ≡ checked_octet short_key short_try k
unfolding short_octet
short-tried k = settled short_key short_try short-good k (short-try-octet k) _ _ refl refl

pub page-tried : (k : ℕ) → page_octet k ≡ checked_octet page_key page_try k
unfolding page_octet
page-tried k = settled page_key page_try page-good k (page-try-octet k) _ _ refl refl

pub short-said : (k : ℕ) → octet_or_none (short_octet k) ≡ cond (eqb (short_key (short_try k)) k) (Some (short_try k)) None
short-said k = ap octet_or_none (short-tried k) ∙ checked-option short_key short_try k (short-try-octet k)

pub page-said : (k : ℕ) → octet_or_none (page_octet k) ≡ cond (eqb (page_key (page_try k)) k) (Some (page_try k)) None
page-said k = ap octet_or_none (page-tried k) ∙ checked-option page_key page_try k (page-try-octet k)
