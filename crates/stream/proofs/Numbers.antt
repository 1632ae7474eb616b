-- Numbers by their digits in a base, lowest first: `value` of a list of digits, and the `digits` of a value.
-- A list before another is the low digits of their number, so that a run of pieces is recut part by part.
-- Assumes nothing.
use mathlib.Core.Path.{◌≡◌, refl, sym, ap, ap₂, ◌∙◌, subst}
use mathlib.Core.List.{List, [], ◌∷◌, ◌++◌, append-nil}
use Prim.Native.Nat.{ℕ, zero, suc, ◌+◌, ◌-◌, ◌*◌, ◌/◌, ◌%◌, ◌^◌, ◌≤◌, ◌<◌}
use native.Mathlib.Nat.{mod-lt, pow-suc, pow-zero, pow-succ', mul-suc, mul-zero, mul_assoc, add-mul, add_assoc, add-zero, zero-add, suc-add, div-one, div-div-eq-div-mul, div-lt_iff_lt-mul, div-add-mod', mul-add-div_right, mul-add-mod_self_right, not-suc-le-zero, le_of_suc-le-suc, one-le-pow, mul-le-mul_left, mul_comm}
use native.Mathlib.Omega.{arith}
use lib.ListN.{length, get_or, take, drop}
use lib.Arith.{digits_lt, digits_div, digits_mod}
use lib.Dec.{lit<}
use lib.Pow.{pow-add, shl_exact}
use lib.Bits.{bit_and, bit_or, or_shifted_r, and_mask}
use lib.Seq.{length-take-le, take-add, take_at}
use native.Mathlib.Numerals.{add-one}
use Rattle.lists.proofs.Below.{Below, below-take}
use Rattle.stream.specs.Digits.{value, digits}

pub pow-mul : (a m n : ℕ) → a ^ (m * n) ≡ (a ^ m) ^ n
pow-mul a m zero = ap (λ (x : ℕ). a ^ x) (mul-zero m) ∙ pow-zero a ∙ sym (pow-zero (a ^ m))
pow-mul a m (suc n) = ap (λ (x : ℕ). a ^ x) (mul-suc m n) ∙ pow-add a (m * n) m ∙ ap (λ (x : ℕ). x * a ^ m) (pow-mul a m n) ∙ sym (pow-suc (a ^ m) n)

pow-above : (b n : ℕ) → 0 < b → 0 < b ^ n
pow-above b n p = one-le-pow n b p

pub digits-length : (b n v : ℕ) → length (digits b n v) ≡ n
unfolding digits
digits-length b zero v = refl
digits-length b (suc n) v = ap suc (digits-length b n (v / b))

pub digits-below : (b n v : ℕ) → 0 < b → Below b (digits b n v)
unfolding digits
digits-below b zero v p k = p
digits-below b (suc n) v p zero = mod-lt v p
digits-below b (suc n) v p (suc k) = digits-below b n (v / b) p k

-- a value is below the base to the number of its digits
pub value-lt : (b : ℕ) (s : List ℕ) → Below b s → value b s < b ^ length s
unfolding value
value-lt b [] h = omega (arith, pow-zero b)
value-lt b (x ∷ xs) h = rw pow-suc (digits_lt (value-lt b xs (λ k. h (suc k))) (h 0))

-- the digits of a list's value are the list
pub digits_value : (b : ℕ) (s : List ℕ) → Below b s → digits b (length s) (value b s) ≡ s
unfolding value digits
digits_value b [] h = refl
digits_value b (x ∷ xs) h =
    ap₂ (λ (y : ℕ) (ys : List ℕ). y ∷ ys) (digits_mod (value b xs) (h 0))
    (ap (digits b (length xs)) (digits_div (value b xs) (h 0)) ∙ digits_value b xs (λ k. h (suc k)))

-- the value of the first n digits of a number that has no more
pub value-digits : (b n v : ℕ) → 0 < b → v < b ^ n → value b (digits b n v) ≡ v
unfolding value digits
value-digits b zero v p h = omega (arith, pow-zero b)
value-digits b (suc n) v p h =
    ap (λ (q : ℕ). q * b + v % b) (value-digits b n (v / b) p ((div-lt_iff_lt-mul p).1 (rw pow-suc at h)))
    ∙ div-add-mod' v b

pub get_or-digits : (b n k v : ℕ) → k < n → get_or (digits b n v) k 0 ≡ v / b ^ k % b
unfolding digits
get_or-digits b zero k v h = absurd (not-suc-le-zero h)
get_or-digits b (suc n) zero v h = ap (λ (d : ℕ). d % b) (sym (div-one v) ∙ ap (λ (d : ℕ). v / d) (sym (pow-zero b)))
get_or-digits b (suc n) (suc k) v h =
    get_or-digits b n k (v / b) (le_of_suc-le-suc h)
    ∙ ap (λ (d : ℕ). d % b) (div-div-eq-div-mul v b (b ^ k) ∙ ap (λ (d : ℕ). v / d) (sym (pow-succ' b k)))

pub value-one : (b x : ℕ) → value b (x ∷ []) ≡ x
unfolding value
value-one b x = omega arith

-- the value of a list after another
pub value-append : (b : ℕ) (s t : List ℕ) → value b (s ++ t) ≡ value b t * b ^ length s + value b s
unfolding value
value-append b [] t = rw pow-zero (omega arith)
value-append b (x ∷ s) t = ap (λ (d : ℕ). d * b + x) (value-append b s t) ∙ simp (pow-suc, add-mul, mul_assoc, add_assoc)

-- the digits of a number above another of n digits
pub digits_append : (b n m y x : ℕ) → 0 < b → x < b ^ n → digits b (n + m) (y * b ^ n + x) ≡ digits b n x ++ digits b m y
unfolding digits
digits_append b zero m y x p h =
    let none : x < 1 = rw pow-zero at h in
    rw zero-add (ap (λ (d : ℕ). digits b m (y * d + x)) (pow-zero b) ∙ ap (digits b m) (omega arith))
digits_append b (suc n) m y x p h =
    let e : y * b ^ suc n + x ≡ y * b ^ n * b + x = ap (λ (d : ℕ). d + x) (ap (λ (d : ℕ). y * d) (pow-suc b n) ∙ sym (mul_assoc y (b ^ n) b)) in
    rw suc-add
    (ap₂ (λ (k : ℕ) (ks : List ℕ). k ∷ ks) (ap (λ (d : ℕ). d % b) e ∙ mul-add-mod_self_right (y * b ^ n) b x)
    (ap (λ (d : ℕ). digits b (n + m) (d / b)) e ∙ ap (digits b (n + m)) (mul-add-div_right p (y * b ^ n) x) ∙ digits_append b n m y (x / b) p ((div-lt_iff_lt-mul p).1 (rw pow-suc at h))))

-- what stands above the first n digits does not matter to them
pub digits_low : (b n v : ℕ) → 0 < b → digits b n (v % b ^ n) ≡ digits b n v
unfolding digits
digits_low b n v p =
    let rest : v % b ^ n < b ^ n = mod-lt v (pow-above b n p) in
    sym (append-nil (digits b n (v % b ^ n)))
    ∙ sym (digits_append b n 0 (v / b ^ n) (v % b ^ n) p rest)
    ∙ ap₂ (digits b) (add-zero n) (div-add-mod' v (b ^ n))

-- the digits of a number in two runs
pub digits-split : (b n m v : ℕ) → digits b (n + m) v ≡ digits b n v ++ digits b m (v / b ^ n)
unfolding digits
digits-split b zero m v = rw zero-add (ap (digits b m) (sym (div-one v) ∙ ap (λ (d : ℕ). v / d) (sym (pow-zero b))))
digits-split b (suc n) m v =
    rw suc-add
    (ap (λ (l : List ℕ). v % b ∷ l)
    (digits-split b n m (v / b) ∙ ap (λ (d : ℕ). digits b n (v / b) ++ digits b m d) (div-div-eq-div-mul v b (b ^ n) ∙ ap (λ (d : ℕ). v / d) (sym (pow-succ' b n)))))

-- the first digits are the same however many are written
pub digits-front : (b n k v : ℕ) → k ≤ n → take k (digits b n v) ≡ digits b k v
digits-front b n k v h =
    let whole : n ≡ k + (n - k) = omega arith in
    ap (λ (i : ℕ). take k (digits b i v)) whole
    ∙ ap (take k) (digits-split b k (n - k) v)
    ∙ take_at (digits b k v) (digits b (n - k) (v / b ^ k)) k (digits-length b k v)

-- pieces of w bits as pieces of u bits, part by part: s fills n pieces, and t goes on after it
pub recut-append : (w u n m : ℕ) (s t : List ℕ) → Below (2 ^ w) s → w * length s ≡ u * n
    → digits (2 ^ u) (n + m) (value (2 ^ w) (s ++ t)) ≡ digits (2 ^ u) n (value (2 ^ w) s) ++ digits (2 ^ u) m (value (2 ^ w) t)
recut-append w u n m s t h e =
    let same : (2 ^ w) ^ length s ≡ (2 ^ u) ^ n = sym (pow-mul 2 w (length s)) ∙ ap (λ (k : ℕ). 2 ^ k) e ∙ pow-mul 2 u n in
    ap (digits (2 ^ u) (n + m)) (value-append (2 ^ w) s t ∙ ap (λ (k : ℕ). value (2 ^ w) t * k + value (2 ^ w) s) same)
    ∙ digits_append (2 ^ u) n m (value (2 ^ w) t) (value (2 ^ w) s) (one-le-pow u 2 (lit< tt)) (subst (λ (k : ℕ). value (2 ^ w) s < k) same (value-lt (2 ^ w) s h))

-- ---- one piece by a shift and a mask: what the code computes

value-take-lt : (b i : ℕ) (l : List ℕ) → 0 < b → Below b l → value b (take i l) < b ^ i
unfolding value
value-take-lt b zero l p h = rw pow-zero (lit< tt)
value-take-lt b (suc i) [] p h = one-le-pow (suc i) b p
value-take-lt b (suc i) (x ∷ l) p h = rw pow-suc (digits_lt (value-take-lt b i l p (λ k. h (suc k))) (h 0))

-- one digit more of a value
value-more : (b i : ℕ) (l : List ℕ) → value b (take (suc i) l) ≡ get_or l i 0 * b ^ i + value b (take i l)
unfolding value
value-more b zero [] = omega arith
value-more b zero (x ∷ l) = rw pow-zero (omega arith)
value-more b (suc i) [] = omega arith
value-more b (suc i) (x ∷ l) = ap (λ (d : ℕ). d * b + x) (value-more b i l) ∙ simp (pow-suc, add-mul, mul_assoc, add_assoc)

-- a piece of w bits is put above those that are there
join-piece : (w i x v : ℕ) → x < 2 ^ w → v < 2 ^ (w * i) → w + w * i ≤ 64 → bit_or v (x * 2 ^ (w * i) % 2 ^ 64) ≡ x * (2 ^ w) ^ i + v
join-piece w i x v hx hv fits =
    ap (bit_or v) (shl_exact w (w * i) 64 hx fits)
    ∙ or_shifted_r x (w * i) v hv
    ∙ ap (λ (d : ℕ). x * d + v) (pow-mul 2 w i)

pub join_more : (w : ℕ) (l : List ℕ) → Below (2 ^ w) l → (i : ℕ) → w + w * i ≤ 64
    → bit_or (value (2 ^ w) (take i l)) (get_or l i 0 * 2 ^ (w * i) % 2 ^ 64) ≡ value (2 ^ w) (take (suc i) l)
join_more w l h i fits =
    join-piece w i (get_or l i 0) (value (2 ^ w) (take i l)) (h i) (rw (pow-mul 2 w i) (value-take-lt (2 ^ w) i l (one-le-pow w 2 (lit< tt)) h)) fits
    ∙ sym (value-more (2 ^ w) i l)

-- piece i of u bits of a number
pub piece-at : (u v n i : ℕ) → i < n → bit_and (v / 2 ^ (u * i)) (2 ^ u - 1) ≡ get_or (digits (2 ^ u) n v) i 0
piece-at u v n i h =
    and_mask (v / 2 ^ (u * i)) u
    ∙ ap (λ (d : ℕ). v / d % 2 ^ u) (pow-mul 2 u i)
    ∙ sym (get_or-digits (2 ^ u) n i v h)

-- ---- whole groups

-- the group after g groups of k pieces
pub group-next : (k g : ℕ) → k * (g + 1) ≡ k * g + k
group-next k g = ap (λ (n : ℕ). k * n) (add-one g) ∙ mul-suc k g

pub group-within : (k : ℕ) {g n : ℕ} → g < n → k * g + k ≤ k * n
group-within k {g} {n} h = subst (λ (x : ℕ). x ≤ k * n) (mul-suc k g) (mul-le-mul_left k h)

-- one group more: u pieces of w bits are w pieces of u bits
pub recut-group : (w u g : ℕ) (s : List ℕ) → Below (2 ^ w) s → u * g ≤ length s
    → digits (2 ^ u) (w * g) (value (2 ^ w) (take (u * g) s)) ++ digits (2 ^ u) w (value (2 ^ w) (take u (drop (u * g) s)))
    ≡ digits (2 ^ u) (w * (g + 1)) (value (2 ^ w) (take (u * (g + 1)) s))
recut-group w u g s h l =
    let size : w * length (take (u * g) s) ≡ u * (w * g) =
    ap (λ (n : ℕ). w * n) (length-take-le (u * g) s l) ∙ sym (mul_assoc w u g) ∙ ap (λ (n : ℕ). n * g) (mul_comm w u) ∙ mul_assoc u w g in
    sym (recut-append w u (w * g) w (take (u * g) s) (take u (drop (u * g) s)) (below-take (2 ^ w) s h (u * g)) size)
    ∙ ap₂ (λ (n : ℕ) (t : List ℕ). digits (2 ^ u) n (value (2 ^ w) t)) (sym (group-next w g))
    (sym (take-add (u * g) u s) ∙ ap (λ (n : ℕ). take n s) (sym (group-next u g)))
