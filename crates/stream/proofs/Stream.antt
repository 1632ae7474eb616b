-- The stream of bits as one number: the stream of pieces of w bits is the pieces' value in base 2 ^ w, and cutting a number
-- into pieces of u bits gives its digits in base 2 ^ u. So packing and unpacking write one number in another base.
-- Assumes nothing.
use mathlib.Core.Path.{◌≡◌, refl, sym, ap, ap₂, ◌∙◌, subst, fun_ext}
use mathlib.Core.List.{List, [], ◌∷◌}
use Prim.Native.Nat.{ℕ, zero, suc, ◌+◌, ◌*◌, ◌-◌, ◌/◌, ◌%◌, ◌^◌, ◌≤◌, ◌<◌}
use native.Mathlib.Nat.{mul_assoc, zero-div, div-eq_of_lt, mod-eq_of_lt, add-div_left, add-mod_left, mul-add-div_right, mul-add-mod_self_right, div-one, lt_of_lt_of_le}
use native.Mathlib.Numerals.{add-one}
use native.Mathlib.Omega.{arith}
use native.Mathlib.Decide.{dec_le}
use lib.ListN.{length, get_or}
use lib.Dec.{lit<}
use lib.Pow.{pow_pos, pow_mono, pow-add, shr-shr, high}
use Rattle.lists.specs.Bits.{bit_of}
use Rattle.lists.proofs.Bits.{gather-bits}
use Rattle.lists.proofs.Below.{Below}
use Rattle.stream.specs.Stream.{stream_bit, cut, octets_for, packed, unpacked}
use Rattle.stream.specs.Digits.{value, digits}
use Rattle.stream.proofs.Numbers.{pow-mul, digits-below, value-lt, digits_value, value-digits}

-- cutting a number
cut-bits : (v w m n : ℕ) → cut (bit_of v) w m n ≡ digits (2 ^ w) n (v / 2 ^ m)
unfolding cut digits
cut-bits v w m zero = refl
cut-bits v w m (suc n) =
    ap₂ (λ (y : ℕ) (ys : List ℕ). y ∷ ys) (gather-bits v m w)
    (cut-bits v w (m + w) n ∙ ap (digits (2 ^ w) n) (sym (shr-shr v m w)))

-- bit m of high * 2 ^ w + low, for a low of w bits
bit-low : (w v x m : ℕ) → m < w → bit_of (v * 2 ^ w + x) m ≡ bit_of x m
unfolding bit_of
bit-low w v x m h =
    let d : ℕ = w - suc m in
    let p : 2 ^ w ≡ 2 ^ d * 2 * 2 ^ m = ap (λ (k : ℕ). 2 ^ k) (split_at w m h) ∙ pow-add 2 (d + 1) m ∙ ap (λ (k : ℕ). k * 2 ^ m) (pow-add 2 d 1) in
    ap (λ (k : ℕ). (v * k + x) / 2 ^ m % 2) p
    ∙ ap (λ (k : ℕ). (k + x) / 2 ^ m % 2) (sym (mul_assoc v (2 ^ d * 2) (2 ^ m)))
    ∙ ap (λ (k : ℕ). k % 2) (mul-add-div_right (pow_pos m) (v * (2 ^ d * 2)) x)
    ∙ ap (λ (k : ℕ). (k + x / 2 ^ m) % 2) (sym (mul_assoc v (2 ^ d) 2))
    ∙ mul-add-mod_self_right (v * 2 ^ d) 2 (x / 2 ^ m)
  where
    split_at : (w m : ℕ) → m < w → w ≡ w - suc m + 1 + m
    split_at w m h = omega arith

bit_high : (w v x m : ℕ) → x < 2 ^ w → bit_of (v * 2 ^ w + x) (w + m) ≡ bit_of v m
unfolding bit_of
bit_high w v x m h = ap (λ (k : ℕ). k % 2) (sym (shr-shr (v * 2 ^ w + x) w m) ∙ ap (λ (k : ℕ). k / 2 ^ m) (high v w h))

-- the stream's bits are those of the pieces' value
stream_bits : (w : ℕ) → 0 < w → (s : List ℕ) → Below (2 ^ w) s → (m : ℕ) → stream_bit w s m ≡ bit_of (value (2 ^ w) s) m
unfolding stream_bit value bit_of
stream_bits w p [] h m = ap (λ (k : ℕ). k % 2) (zero-div (2 ^ (m % w)) ∙ sym (zero-div (2 ^ m)))
stream_bits w p (x ∷ xs) h m = elim (dec_le w m) [ yes l ↦ beyond l (stream_bits w p xs (λ k. h (suc k)) (m - w)) | no l ↦ within (omega arith) ]
  where
    within : m < w → stream_bit w (x ∷ xs) m ≡ bit_of (value (2 ^ w) xs * 2 ^ w + x) m
    within l =
        ap₂ (λ (k i : ℕ). bit_of (get_or (x ∷ xs) k 0) i) (div-eq_of_lt l) (mod-eq_of_lt l)
        ∙ sym (bit-low w (value (2 ^ w) xs) x m l)

    after : (n : ℕ) → stream_bit w (x ∷ xs) (w + n) ≡ stream_bit w xs n
    after n = ap₂ (λ (k i : ℕ). bit_of (get_or (x ∷ xs) k 0) i) (add-div_left n p ∙ add-one (n / w)) (add-mod_left w n)

    back : (w m : ℕ) → w ≤ m → w + (m - w) ≡ m
    back w m l = omega arith

    beyond : w ≤ m → stream_bit w xs (m - w) ≡ bit_of (value (2 ^ w) xs) (m - w) → stream_bit w (x ∷ xs) m ≡ bit_of (value (2 ^ w) xs * 2 ^ w + x) m
    beyond l ih =
        subst (λ (k : ℕ). stream_bit w (x ∷ xs) k ≡ bit_of (value (2 ^ w) xs * 2 ^ w + x) k) (back w m l)
        (after (m - w) ∙ ih ∙ sym (bit_high w (value (2 ^ w) xs) x (m - w) (h 0)))

-- cutting the stream of pieces of w bits into n pieces of u bits
cut-stream : (w u : ℕ) → 0 < w → (s : List ℕ) → Below (2 ^ w) s → (n : ℕ) → cut (stream_bit w s) u 0 n ≡ digits (2 ^ u) n (value (2 ^ w) s)
cut-stream w u p s h n =
    ap (λ (b : ℕ → ℕ). cut b u 0 n) (fun_ext (stream_bits w p s h))
    ∙ cut-bits (value (2 ^ w) s) u 0 n
    ∙ ap (digits (2 ^ u) n) (div-one (value (2 ^ w) s))

pub packed-digits : (s : List ℕ) → Below 128 s → packed s ≡ digits 256 (octets_for (length s)) (value 128 s)
unfolding packed
packed-digits s h = cut-stream 7 8 (lit< tt) s h (octets_for (length s))

pub unpacked-digits : (n : ℕ) (o : List ℕ) → Below 256 o → unpacked n o ≡ digits 128 n (value 256 o)
unfolding unpacked
unpacked-digits n o h = cut-stream 8 7 (lit< tt) o h n

cut-length : (b : ℕ → ℕ) (w m n : ℕ) → length (cut b w m n) ≡ n
unfolding cut
cut-length b w m zero = refl
cut-length b w m (suc n) = ap suc (cut-length b w (m + w) n)

pub packed-length : (s : List ℕ) → length (packed s) ≡ octets_for (length s)
unfolding packed
packed-length s = cut-length (stream_bit 7 s) 8 0 (octets_for (length s))

pub unpacked-length : (n : ℕ) (o : List ℕ) → length (unpacked n o) ≡ n
unfolding unpacked
unpacked-length n o = cut-length (stream_bit 8 o) 7 0 n

-- octets have eight bits
pub packed-below : (s : List ℕ) → Below 128 s → Below 256 (packed s)
packed-below s h = rw (packed-digits s h) (digits-below 256 (octets_for (length s)) (value 128 s) (lit< tt))

-- the octets have room for every septet
room : (s : List ℕ) → Below 128 s → value 128 s < 256 ^ octets_for (length s)
unfolding octets_for
room s h =
    let n : ℕ = length s in
    let fits : 128 ^ n ≤ 256 ^ ((7 * n + 7) / 8) =
    rw (← (pow-mul 2 7 n), ← (pow-mul 2 8 ((7 * n + 7) / 8))) (pow_mono (omega arith)) in
    lt_of_lt_of_le (value-lt 128 s h) fits

-- unpacking gives back what was packed
pub unpacked-packed : (s : List ℕ) → Below 128 s → unpacked (length s) (packed s) ≡ s
unpacked-packed s h =
    unpacked-digits (length s) (packed s) (packed-below s h)
    ∙ ap (λ (o : List ℕ). digits 128 (length s) (value 256 o)) (packed-digits s h)
    ∙ ap (digits 128 (length s)) (value-digits 256 (octets_for (length s)) (value 128 s) (lit< tt) (room s h))
    ∙ digits_value 128 s h
