-- Both directions of the stream, bit by bit: a piece that is cut from the stream has the stream's own bits, and a piece is its bits.
-- Said once over the two widths.
-- Assumes nothing.
use mathlib.Core.Path.{◌≡◌, refl, sym, ap, ap₂, ◌∙◌, subst}
use mathlib.Core.List.{List, ◌∷◌}
use Prim.Native.Nat.{ℕ, zero, suc, ◌+◌, ◌*◌, ◌/◌, ◌%◌, ◌^◌, ◌≤◌, ◌<◌}
use native.Mathlib.Nat.{mod-lt, div-one, div-div-eq-div-mul, pow-succ', add-suc, suc-add, add-zero, zero-add, mod-eq_of_lt, div-eq_of_lt, le_of_suc-le-suc, not-suc-le-zero, mul-suc, mul-zero, add_assoc, add_comm, zero-div, mul-add-div, mul-add-mod_self_left, le-div_iff_mul-le, mul_comm}
use native.Mathlib.Omega.{arith}
use lib.ListN.{length, get_or, get_or-eq_default}
use lib.Dec.{lit<}
use Rattle.lists.specs.Bits.{bit_of, gather}
use Rattle.lists.proofs.Bits.{gather-bits}
use Rattle.stream.specs.Stream.{stream_bit, cut}

bit-lt : (x i : ℕ) → bit_of x i < 2
unfolding bit_of
bit-lt x i = mod-lt (x / 2 ^ i) (lit< tt)

stream-bit-lt : (w : ℕ) (s : List ℕ) (m : ℕ) → stream_bit w s m < 2
unfolding stream_bit
stream-bit-lt w s m = bit-lt (get_or s (m / w) 0) (m % w)

-- bit i of a gathered number is the bit that was gathered there
gather-bit : (b : ℕ → ℕ) → ((m : ℕ) → b m < 2) → (m w i : ℕ) → i < w → bit_of (gather b m w) i ≡ b (m + i)
unfolding gather bit_of
gather-bit b h m zero i l = absurd (not-suc-le-zero l)
gather-bit b h m (suc w) zero l =
    let lt : b m < 2 = h m in
    let e : (b m + 2 * gather b (suc m) w) % 2 ≡ b m = omega arith in
    ap (λ (x : ℕ). x % 2) (div-one (b m + 2 * gather b (suc m) w)) ∙ e ∙ ap b (sym (add-zero m))
gather-bit b h m (suc w) (suc i) l =
    let lt : b m < 2 = h m in
    let e : (b m + 2 * gather b (suc m) w) / 2 ≡ gather b (suc m) w = omega arith in
    ap (λ (x : ℕ). x % 2)
    (ap (λ (d : ℕ). (b m + 2 * gather b (suc m) w) / d) (pow-succ' 2 i)
    ∙ sym (div-div-eq-div-mul (b m + 2 * gather b (suc m) w) 2 (2 ^ i))
    ∙ ap (λ (x : ℕ). x / 2 ^ i) e)
    ∙ gather-bit b h (suc m) w i (le_of_suc-le-suc l)
    ∙ ap b (suc-add m i ∙ sym (add-suc m i))

get_or-cut : (b : ℕ → ℕ) (w m n k : ℕ) → k < n → get_or (cut b w m n) k 0 ≡ gather b (m + w * k) w
unfolding cut
get_or-cut b w m zero k h = absurd (not-suc-le-zero h)
get_or-cut b w m (suc n) zero h = ap (λ (x : ℕ). gather b x w) (sym (add-zero m) ∙ ap (λ (x : ℕ). m + x) (sym (mul-zero w)))
get_or-cut b w m (suc n) (suc k) h =
    get_or-cut b w (m + w) n k (le_of_suc-le-suc h)
    ∙ ap (λ (x : ℕ). gather b x w) (add_assoc m w (w * k) ∙ ap (λ (x : ℕ). m + x) (add_comm w (w * k) ∙ sym (mul-suc w k)))

-- bit i of piece j of u bits, cut from the stream of pieces of w bits, is bit uj + i of that stream
pub cut-bit : (w u : ℕ) (s : List ℕ) (n j i : ℕ) → j < n → i < u → bit_of (get_or (cut (stream_bit w s) u 0 n) j 0) i ≡ stream_bit w s (u * j + i)
cut-bit w u s n j i hj hi =
    ap (λ (x : ℕ). bit_of x i) (get_or-cut (stream_bit w s) u 0 n j hj ∙ ap (λ (x : ℕ). gather (stream_bit w s) x u) (zero-add (u * j)))
    ∙ gather-bit (stream_bit w s) (stream-bit-lt w s) (u * j) u i hi

-- bit i of piece k of w bits is bit wk + i of the stream
pub stream-bit : (w : ℕ) (s : List ℕ) (k i : ℕ) → i < w → stream_bit w s (w * k + i) ≡ bit_of (get_or s k 0) i
unfolding stream_bit
stream-bit w s k i h =
    let piece : (w * k + i) / w ≡ k = mul-add-div {m = w} (omega arith) k i ∙ ap (λ (x : ℕ). k + x) (div-eq_of_lt h) ∙ add-zero k in
    ap₂ (λ (q r : ℕ). bit_of (get_or s q 0) r) piece (mul-add-mod_self_left w k i ∙ mod-eq_of_lt h)

-- past the last piece every bit is 0
pub stream_end : (w : ℕ) → 0 < w → (s : List ℕ) (m : ℕ) → w * length s ≤ m → stream_bit w s m ≡ 0
unfolding stream_bit bit_of
stream_end w p s m h =
    let past : length s ≤ m / w = le-div w (length s) m p h in
    ap (λ (x : ℕ). x / 2 ^ (m % w) % 2) (get_or-eq_default s 0 past) ∙ ap (λ (x : ℕ). x % 2) (zero-div (2 ^ (m % w)))
  where
    le-div : (w n m : ℕ) → 0 < w → w * n ≤ m → n ≤ m / w
    le-div w n m p h = (le-div_iff_mul-le p).1 (subst (λ (x : ℕ). x ≤ m) (mul_comm w n) h)

-- streams that agree in the first bits that are cut give the same pieces
pub cut-agree : (b c : ℕ → ℕ) (u m n : ℕ) → ((k : ℕ) → k < m + u * n → b k ≡ c k) → cut b u m n ≡ cut c u m n
unfolding cut gather
cut-agree b c u m zero h = refl
cut-agree b c u m (suc n) h =
    ap₂ (λ (x : ℕ) (xs : List ℕ). x ∷ xs) (gather-agree u m (λ k l. h k (omega (arith, mul-suc u n))))
    (cut-agree b c u (m + u) n (λ k l. h k (omega (arith, mul-suc u n))))
  where
    gather-agree : (w m : ℕ) → ((k : ℕ) → k < m + w → b k ≡ c k) → gather b m w ≡ gather c m w
    gather-agree zero m e = refl
    gather-agree (suc w) m e = ap₂ (λ (x y : ℕ). x + 2 * y) (e m (omega arith)) (gather-agree w (suc m) (λ k l. e k (omega arith)))

-- a number below 256 is gathered from its bits
octet-bits : (x : ℕ) → x < 256 → gather (bit_of x) 0 8 ≡ x
octet-bits x h = gather-bits x 0 8 ∙ ap (λ (y : ℕ). y % 256) (div-one x) ∙ mod-eq_of_lt h

-- numbers of eight bits with the same bits are the same
pub same_bits : (x y : ℕ) → x < 256 → y < 256 → ((i : ℕ) → i < 8 → bit_of x i ≡ bit_of y i) → x ≡ y
unfolding gather
same_bits x y hx hy e =
    sym (octet-bits x hx)
    ∙ cc (e 0 (lit< tt), e 1 (lit< tt), e 2 (lit< tt), e 3 (lit< tt), e 4 (lit< tt), e 5 (lit< tt), e 6 (lit< tt), e 7 (lit< tt))
    ∙ octet-bits y hy
