-- Septets read run by run: an escape that ends one run without its code stands in front of the next, so that the texts of the runs are the text of all.
-- Assumes nothing.
--   open-append          whether what is put together ends in an open escape
--   Closing s i half     going back from the end of s to place i, only escapes were met, and half says whether they are odd
--   closing-none, closing-escape, closing-many, closing-other, closing-all   the same at the end, one escape further and many, and what it decides
--   open-behind, open-all   by the last septet that is no escape, if there is one
--   text-append          the text of what does not end in an open escape, and then the text of the rest
--   open-some            what ends in an open escape has a septet
--   settled-closed, whole-next, read_next, open_next   what is read of a run and left for the next: without the open escape, and with it in front
use mathlib.Core.Path.{◌≡◌, refl, sym, ap, subst, ◌∙◌}
use mathlib.Core.Bool.{Bool, true, false, not, cond, true≢false, false≢true}
use mathlib.Core.List.{List, [], ◌∷◌, ◌++◌, append_assoc}
use Prim.Native.Nat.{ℕ, zero, suc, ◌+◌, ◌-◌, ◌%◌, ◌≤◌, ◌<◌}
use native.Mathlib.Omega.{arith}
use borrow.Author.Tests.{eq-eqb, ne_eqb, eqb-true, eqb-false}
use lib.Dec.{eqb}
use lib.ListN.{length, get_or, take, length-append}
use lib.Seq.{take-suc, take-length, take-append-add}
use Rattle.letters.specs.Tables.{default, escape}
use Rattle.letters.specs.Reading.{unit_in, after_escape_in, text_in, escaped_in, text_of}
use Rattle.parted.specs.InnerJoined.{ends_open, settled, run_behind, run_read, run_open}

-- ---- what ends in an open escape

pub open-append : (h : Bool) (a b : List ℕ) → ends_open h (a ++ b) ≡ ends_open (ends_open h a) b
unfolding ends_open
open-append h [] b = refl
open-append true (x ∷ a) b = open-append false a b
open-append false (x ∷ a) b = open-append (eqb x escape) a b

-- one septet more at the end
open-escape : (s : List ℕ) (x : ℕ) → x ≡ escape → ends_open false (s ++ (x ∷ [])) ≡ not (ends_open false s)
unfolding ends_open
open-escape s x e = open-append false s (x ∷ []) ∙ go (ends_open false s)
  where
    go : (h : Bool) → ends_open h (x ∷ []) ≡ not h
    go true = refl
    go false = eq-eqb x escape e

open-other : (s : List ℕ) (x : ℕ) → (x ≡ escape → ⊥) → ends_open false (s ++ (x ∷ [])) ≡ false
unfolding ends_open
open-other s x e = open-append false s (x ∷ []) ∙ go (ends_open false s)
  where
    go : (h : Bool) → ends_open h (x ∷ []) ≡ false
    go true = refl
    go false = ne_eqb x escape e

-- of two numbers in a row one is odd
odd-suc : (n : ℕ) → eqb (suc n % 2) 1 ≡ not (eqb (n % 2) 1)
odd-suc n = go (eqb (n % 2) 1) refl
  where
    go : (b : Bool) → eqb (n % 2) 1 ≡ b → eqb (suc n % 2) 1 ≡ not b
    go true e = ne_eqb (suc n % 2) 1 (λ d. omega (arith, d, eqb-true (n % 2) 1 e))
    go false e = eq-eqb (suc n % 2) 1 (omega (arith, eqb-false (n % 2) 1 e))

-- ---- from the end back

module _ (s : List ℕ) where
  abbrev pub Closing : ℕ → Bool → Type 0
  Closing i half = ends_open false s ≡ cond half (not (ends_open false (take i s))) (ends_open false (take i s))

  pub closing-none : Closing (length s) false
  closing-none = ap (ends_open false) (sym (take-length s))

  -- the septet before place i
  last_of : (i : ℕ) → 0 < i → i ≤ length s → take i s ≡ take (i - 1) s ++ (get_or s (i - 1) 0 ∷ [])
  last_of i some h = let same : i ≡ suc (i - 1) = omega arith in ap (λ (n : ℕ). take n s) same ∙ take-suc s (i - 1) 0 (omega arith)

  pub closing-escape : (i : ℕ) (half : Bool) → Closing i half → 0 < i → i ≤ length s → get_or s (i - 1) 0 ≡ escape → Closing (i - 1) (not half)
  closing-escape i half p some h e =
      let one : ends_open false (take i s) ≡ not (ends_open false (take (i - 1) s)) = ap (ends_open false) (last_of i some h) ∙ open-escape (take (i - 1) s) (get_or s (i - 1) 0) e in
      p ∙ ap (λ (t : Bool). cond half (not t) t) one ∙ go half (ends_open false (take (i - 1) s))
    where
      go : (a t : Bool) → cond a (not (not t)) (not t) ≡ cond (not a) (not t) t
      go true true = refl
      go true false = refl
      go false t = refl

  pub closing-other : (i : ℕ) (half : Bool) → Closing i half → 0 < i → i ≤ length s → (get_or s (i - 1) 0 ≡ escape → ⊥) → half ≡ ends_open false s
  closing-other i half p some h e =
      let none : ends_open false (take i s) ≡ false = ap (ends_open false) (last_of i some h) ∙ open-other (take (i - 1) s) (get_or s (i - 1) 0) e in
      sym (p ∙ ap (λ (t : Bool). cond half (not t) t) none ∙ go half)
    where
      go : (a : Bool) → cond a true false ≡ a
      go true = refl
      go false = refl

  pub closing-all : (i : ℕ) (half : Bool) → Closing i half → i ≡ 0 → half ≡ ends_open false s
  unfolding ends_open
  closing-all i half p e = sym (p ∙ ap (λ (n : ℕ). cond half (not (ends_open false (take n s))) (ends_open false (take n s))) e ∙ go half)
    where
      go : (a : Bool) → cond a true false ≡ a
      go true = refl
      go false = refl

  closing-many : (n : ℕ) → n ≤ length s → ((k : ℕ) → length s - n ≤ k → k < length s → get_or s k 0 ≡ escape) → Closing (length s - n) (eqb (n % 2) 1)
  closing-many zero h all = subst (λ (i : ℕ). Closing i false) (omega arith) closing-none
  closing-many (suc n) h all =
      let before : Closing (length s - n) (eqb (n % 2) 1) = closing-many n (omega arith) (λ k low most. all k (omega (arith, low)) most) in
      let one : Closing (length s - n - 1) (not (eqb (n % 2) 1)) = closing-escape (length s - n) (eqb (n % 2) 1) before (omega arith) (omega arith) (all (length s - n - 1) (omega arith) (omega arith)) in
      subst (λ (b : Bool). Closing (length s - suc n) b) (sym (odd-suc n)) (subst (λ (i : ℕ). Closing i (not (eqb (n % 2) 1))) (omega arith) one)

  -- behind the last septet that is no escape, and of escapes alone
  pub open-behind : (i : ℕ) → i < length s → (get_or s i 0 ≡ escape → ⊥) → ((k : ℕ) → i < k → k < length s → get_or s k 0 ≡ escape) → eqb ((length s - 1 - i) % 2) 1 ≡ ends_open false s
  open-behind i h other all =
      let n : ℕ = length s - 1 - i in
      let here : length s - n - 1 ≡ i = omega arith in
      closing-other (length s - n) (eqb (n % 2) 1) (closing-many n (omega arith) (λ k low most. all k (omega (arith, low)) most)) (omega arith) (omega arith)
      (λ e. other (ap (λ (k : ℕ). get_or s k 0) (sym here) ∙ e))

  pub open-all : ((k : ℕ) → k < length s → get_or s k 0 ≡ escape) → eqb (length s % 2) 1 ≡ ends_open false s
  open-all all = closing-all (length s - length s) (eqb (length s % 2) 1) (closing-many (length s) (omega arith) (λ k low most. all k most)) (omega arith)

-- ---- the text of both

plain-append : (t : Bool) (x : ℕ) (a b : List ℕ) → (ends_open true a ≡ false → escaped_in default (a ++ b) ≡ escaped_in default a ++ text_of b)
    → (ends_open false a ≡ false → text_of (a ++ b) ≡ text_of a ++ text_of b) → ends_open t a ≡ false
    → elim t as (λ (u : Bool). List ℕ) [ true ↦ escaped_in default (a ++ b) | false ↦ unit_in default x ∷ text_of (a ++ b) ]
    ≡ elim t as (λ (u : Bool). List ℕ) [ true ↦ escaped_in default a | false ↦ unit_in default x ∷ text_of a ] ++ text_of b
plain-append true x a b escaped plain e = escaped e
plain-append false x a b escaped plain e = ap (λ (l : List ℕ). unit_in default x ∷ l) (plain e)

mutual
  unfolding text_in ends_open

  pub text-append : (a b : List ℕ) → ends_open false a ≡ false → text_of (a ++ b) ≡ text_of a ++ text_of b
  text-append [] b e = refl
  text-append (x ∷ a) b e = plain-append (eqb x escape) x a b (λ d. escaped-append a b d) (λ d. text-append a b d) e

  escaped-append : (a b : List ℕ) → ends_open true a ≡ false → escaped_in default (a ++ b) ≡ escaped_in default a ++ text_of b
  escaped-append [] b e = absurd (true≢false e)
  escaped-append (x ∷ a) b e = ap (λ (l : List ℕ). after_escape_in default x ∷ l) (text-append a b e)

-- ---- the open escape left out

-- it is the last septet, and before it none is open
module _ (s : List ℕ) (e : ends_open false s ≡ true) where
  pub open-some : 1 ≤ length s
  unfolding ends_open
  open-some = go s e
    where
      go : (t : List ℕ) → ends_open false t ≡ true → 1 ≤ length t
      go [] d = absurd (false≢true d)
      go (x ∷ t) d = omega arith

  open-last : (s ≡ take (length s - 1) s ++ (escape ∷ [])) × (ends_open false (take (length s - 1) s) ≡ false)
  unfolding ends_open
  open-last =
      let whole : s ≡ take (length s - 1) s ++ (get_or s (length s - 1) 0 ∷ []) = sym (take-length s) ∙ last_of s (length s) open-some (omega arith) in
      go (take (length s - 1) s) (get_or s (length s - 1) 0) whole (ends_open false (take (length s - 1) s)) refl
    where
      go : (front : List ℕ) (x : ℕ) → s ≡ front ++ (x ∷ []) → (h : Bool) → ends_open false front ≡ h → (s ≡ front ++ (escape ∷ [])) × (ends_open false front ≡ false)
      go front x whole true d = absurd (false≢true (sym (ap (ends_open false) whole ∙ open-append false front (x ∷ []) ∙ ap (λ (h : Bool). ends_open h (x ∷ [])) d) ∙ e))
      go front x whole false d =
          let last : x ≡ escape = eqb-true x escape (sym (ap (ends_open false) whole ∙ open-append false front (x ∷ []) ∙ ap (λ (h : Bool). ends_open h (x ∷ [])) d) ∙ e) in
          (whole ∙ ap (λ (z : ℕ). front ++ (z ∷ [])) last, d)

pub settled-closed : (s : List ℕ) → ends_open false (settled s) ≡ false
unfolding settled
settled-closed s = go (ends_open false s) refl
  where
    go : (h : Bool) → ends_open false s ≡ h → ends_open false (cond h (take (length s - 1) s) s) ≡ false
    go true e = (open-last s e).1
    go false e = e

module _ (a b : List ℕ) where
  -- what is left to read behind a run a that b follows
  abbrev next : List ℕ
  next = run_behind (ends_open false a) b

  pub whole-next : a ++ b ≡ settled a ++ next
  unfolding settled run_behind
  whole-next = go (ends_open false a) refl
    where
      go : (h : Bool) → ends_open false a ≡ h → a ++ b ≡ cond h (take (length a - 1) a) a ++ cond h (escape ∷ b) b
      go true e = ap (λ (l : List ℕ). l ++ b) (open-last a e).0 ∙ append_assoc (take (length a - 1) a) (escape ∷ []) b
      go false e = refl

  open-after : ends_open false (a ++ b) ≡ ends_open false next
  open-after = ap (ends_open false) whole-next ∙ open-append false (settled a) next ∙ ap (λ (h : Bool). ends_open h next) (settled-closed a)

  settled-after : settled (a ++ b) ≡ settled a ++ settled next
  unfolding settled
  settled-after = go (ends_open false next) refl
    where
      go : (h : Bool) → ends_open false next ≡ h → settled (a ++ b) ≡ settled a ++ cond h (take (length next - 1) next) next
      go false e = ap (λ (h : Bool). cond h (take (length (a ++ b) - 1) (a ++ b)) (a ++ b)) (open-after ∙ e) ∙ whole-next
      go true e =
          let some : 1 ≤ length next = open-some next e in
          let size : length (settled a ++ next) - 1 ≡ length (settled a) + (length next - 1) = omega (arith, length-append (settled a) next) in
          ap (λ (h : Bool). cond h (take (length (a ++ b) - 1) (a ++ b)) (a ++ b)) (open-after ∙ e)
          ∙ ap (λ (l : List ℕ). take (length l - 1) l) whole-next
          ∙ ap (λ (n : ℕ). take n (settled a ++ next)) size
          ∙ take-append-add (settled a) next (length next - 1)

  pub read_next : (last : Bool) → run_read last (a ++ b) ≡ settled a ++ run_read last next
  unfolding run_read
  read_next true = whole-next
  read_next false = settled-after

  pub open_next : (last : Bool) → run_open last (a ++ b) ≡ run_open last next
  unfolding run_open
  open_next true = refl
  open_next false = open-after
