-- Eight septets that lie apart in one number, one in each octet, and eight that lie together: the steps from one to the other.
-- A step takes the lower of two neighbours by a mask, and the upper by the same mask of the number shifted down, at four, two or one places
-- of the number, and joins the two where the upper is to stand.
-- Assumes nothing.
use mathlib.Core.Path.{◌≡◌, refl, ap, ap₂, ◌∙◌, sym, subst}
use mathlib.Core.List.{List, [], ◌∷◌}
use Prim.Native.Nat.{ℕ, ◌+◌, ◌-◌, ◌*◌, ◌/◌, ◌%◌, ◌^◌, ◌≤◌, ◌<◌}
use native.Mathlib.Omega.{arith}
use lib.Dec.{lit<}
use lib.ListN.{length, take, drop, length-drop}
use lib.Seq.{length-take-le, take-add}
use native.Mathlib.Nat.{mod-lt}
use lib.Bits.{bit_and, bit_or, and_block, and_mask, or_block, or_shifted_r}
use lib.Pow.{low}
use Rattle.lists.proofs.Below.{Below, below-take, below-drop}
use Rattle.stream.specs.Digits.{value, digits}
use Rattle.stream.specs.Groups.{together, apart}
use Rattle.stream.proofs.Numbers.{value-digits, value-lt, digits_value, digits-below, digits_low, digits-length, value-append}

-- the lowest place of a masked number, and the places above it
masked : (k j A a B : ℕ) → a < 2 ^ k → 2 ^ j - 1 < 2 ^ k → bit_and (A * 2 ^ k + a) (B * 2 ^ k + (2 ^ j - 1)) ≡ bit_and A B * 2 ^ k + a % 2 ^ j
masked k j A a B h m = and_block k A B a (2 ^ j - 1) h m ∙ ap (λ (t : ℕ). bit_and A B * 2 ^ k + t) (and_mask a j)

-- numbers in four places of sixteen bits, and in two of thirty-two, the first lowest
abbrev four : ℕ → ℕ → ℕ → ℕ → ℕ
four a b c d = ((d * 65536 + c) * 65536 + b) * 65536 + a

abbrev two : ℕ → ℕ → ℕ
two a b = b * 4294967296 + a

masked-four : (a b c d s0 s1 s2 s3 : ℕ) → a < 65536 → b < 65536 → c < 65536 → a % 128 ≡ s0 → b % 128 ≡ s1 → c % 128 ≡ s2 → d % 128 ≡ s3
    → bit_and (four a b c d) 0x007f007f007f007f ≡ four s0 s1 s2 s3
masked-four a b c d s0 s1 s2 s3 ha hb hc ea eb ec ed =
    masked 16 7 ((d * 65536 + c) * 65536 + b) a 0x007f007f007f ha (lit< tt)
    ∙ ap₂ (λ (t r : ℕ). t * 65536 + r)
    (masked 16 7 (d * 65536 + c) b 0x007f007f hb (lit< tt)
    ∙ ap₂ (λ (t r : ℕ). t * 65536 + r) (masked 16 7 d c 0x007f hc (lit< tt) ∙ ap₂ (λ (t r : ℕ). t * 65536 + r) (and_mask d 7 ∙ ed) ec) eb)
    ea

masked-two : (a b s0 s1 : ℕ) → a < 4294967296 → a % 16384 ≡ s0 → b % 16384 ≡ s1 → bit_and (two a b) 0x00003fff00003fff ≡ two s0 s1
masked-two a b s0 s1 ha ea eb = masked 32 14 b a 0x3fff ha (lit< tt) ∙ ap₂ (λ (t r : ℕ). t * 4294967296 + r) (and_mask b 14 ∙ eb) ea

-- at each place the upper of two stands above the k bits of the lower
module _ (k : ℕ) where
  or-two : (a b x y : ℕ) → a < 2 ^ k → b < 2 ^ k → a < 4294967296 → x * 2 ^ k < 4294967296 → bit_or (two a b) (two (x * 2 ^ k) (y * 2 ^ k)) ≡ two (x * 2 ^ k + a) (y * 2 ^ k + b)
  or-two a b x y ha hb la lx = or_block 32 b (y * 2 ^ k) a (x * 2 ^ k) la lx ∙ ap₂ (λ (t r : ℕ). t * 4294967296 + r) (or_shifted_r y k b hb) (or_shifted_r x k a ha)

  or-four : (a b c d x y z u : ℕ) → a < 2 ^ k → b < 2 ^ k → c < 2 ^ k → d < 2 ^ k → a < 65536 → b < 65536 → c < 65536 → x * 2 ^ k < 65536 → y * 2 ^ k < 65536 → z * 2 ^ k < 65536
      → bit_or (four a b c d) (four (x * 2 ^ k) (y * 2 ^ k) (z * 2 ^ k) (u * 2 ^ k)) ≡ four (x * 2 ^ k + a) (y * 2 ^ k + b) (z * 2 ^ k + c) (u * 2 ^ k + d)
  or-four a b c d x y z u ha hb hc hd la lb lc lx ly lz =
      or_block 16 ((d * 65536 + c) * 65536 + b) ((u * 2 ^ k * 65536 + z * 2 ^ k) * 65536 + y * 2 ^ k) a (x * 2 ^ k) la lx
      ∙ ap₂ (λ (t r : ℕ). t * 65536 + r)
      (or_block 16 (d * 65536 + c) (u * 2 ^ k * 65536 + z * 2 ^ k) b (y * 2 ^ k) lb ly
      ∙ ap₂ (λ (t r : ℕ). t * 65536 + r)
      (or_block 16 d (u * 2 ^ k) c (z * 2 ^ k) lc lz ∙ ap₂ (λ (t r : ℕ). t * 65536 + r) (or_shifted_r u k d hd) (or_shifted_r z k c hc))
      (or_shifted_r y k b hb))
      (or_shifted_r x k a ha)

-- a step: what a mask leaves of a number, and what it leaves of the number shifted down, shifted up over it
abbrev pub step : ℕ → ℕ → ℕ → ℕ → ℕ
step mask down up x = bit_or (bit_and x mask) (bit_and (x / 2 ^ down) mask * 2 ^ up % 2 ^ 64)

-- eight septets moved together
abbrev pub moved_together : ℕ → ℕ
moved_together x = step 0x0fffffff 32 28 (step 0x00003fff00003fff 16 14 (step 0x007f007f007f007f 8 7 x))

-- eight septets moved apart
abbrev pub moved_apart : ℕ → ℕ
moved_apart v = step 0x007f007f007f007f 7 8 (step 0x00003fff00003fff 14 16 (step 0x0fffffff 28 32 v))

module _ (s0 s1 s2 s3 s4 s5 s6 s7 : ℕ) (h0 : s0 < 128) (h1 : s1 < 128) (h2 : s2 < 128) (h3 : s3 < 128) (h4 : s4 < 128) (h5 : s5 < 128) (h6 : s6 < 128) (h7 : s7 < 128) where
  -- a pair in each sixteen bits
  abbrev pairs : ℕ
  pairs = s0 + 128 * s1 + 65536 * s2 + 8388608 * s3 + 4294967296 * s4 + 549755813888 * s5 + 281474976710656 * s6 + 36028797018963968 * s7

  -- four in each half
  abbrev fours : ℕ
  fours = s0 + 128 * s1 + 16384 * s2 + 2097152 * s3 + 4294967296 * s4 + 549755813888 * s5 + 70368744177664 * s6 + 9007199254740992 * s7

  abbrev all : ℕ
  all = s0 + 128 * s1 + 16384 * s2 + 2097152 * s3 + 268435456 * s4 + 34359738368 * s5 + 4398046511104 * s6 + 562949953421312 * s7

  fours-together : step 0x00003fff00003fff 16 14 pairs ≡ fours
  fours-together =
      let p : pairs ≡ two (s0 + 128 * s1 + 65536 * (s2 + 128 * s3)) (s4 + 128 * s5 + 65536 * (s6 + 128 * s7)) = omega arith in
      let q : pairs / 65536 ≡ two (s2 + 128 * s3 + 65536 * (s4 + 128 * s5)) (s6 + 128 * s7) = omega arith in
      let low : bit_and pairs 0x00003fff00003fff ≡ two (s0 + 128 * s1) (s4 + 128 * s5) = ap (λ (t : ℕ). bit_and t 0x00003fff00003fff) p ∙ masked-two (s0 + 128 * s1 + 65536 * (s2 + 128 * s3)) (s4 + 128 * s5 + 65536 * (s6 + 128 * s7)) (s0 + 128 * s1) (s4 + 128 * s5) (omega arith) (omega arith) (omega arith) in
      let high : bit_and (pairs / 65536) 0x00003fff00003fff ≡ two (s2 + 128 * s3) (s6 + 128 * s7) = ap (λ (t : ℕ). bit_and t 0x00003fff00003fff) q ∙ masked-two (s2 + 128 * s3 + 65536 * (s4 + 128 * s5)) (s6 + 128 * s7) (s2 + 128 * s3) (s6 + 128 * s7) (omega arith) (omega arith) (omega arith) in
      let up : (two (s2 + 128 * s3) (s6 + 128 * s7)) * 16384 % 2 ^ 64 ≡ two ((s2 + 128 * s3) * 16384) ((s6 + 128 * s7) * 16384) = omega arith in
      ap₂ (λ (a b : ℕ). bit_or a (b * 2 ^ 14 % 2 ^ 64)) low high
      ∙ ap (bit_or (two (s0 + 128 * s1) (s4 + 128 * s5))) up
      ∙ or-two 14 (s0 + 128 * s1) (s4 + 128 * s5) (s2 + 128 * s3) (s6 + 128 * s7) (omega arith) (omega arith) (omega arith) (omega arith)
      ∙ omega arith

  all-together : step 0x0fffffff 32 28 fours ≡ all
  all-together =
      let low : bit_and fours 0x0fffffff ≡ s0 + 128 * s1 + 16384 * s2 + 2097152 * s3 = and_mask fours 28 ∙ omega arith in
      let high : bit_and (fours / 2 ^ 32) 0x0fffffff ≡ s4 + 128 * s5 + 16384 * s6 + 2097152 * s7 = and_mask (fours / 2 ^ 32) 28 ∙ omega arith in
      let up : (s4 + 128 * s5 + 16384 * s6 + 2097152 * s7) * 268435456 % 2 ^ 64 ≡ (s4 + 128 * s5 + 16384 * s6 + 2097152 * s7) * 268435456 = omega arith in
      ap₂ (λ (a b : ℕ). bit_or a (b * 2 ^ 28 % 2 ^ 64)) low high
      ∙ ap (bit_or (s0 + 128 * s1 + 16384 * s2 + 2097152 * s3)) up
      ∙ or_shifted_r (s4 + 128 * s5 + 16384 * s6 + 2097152 * s7) 28 (s0 + 128 * s1 + 16384 * s2 + 2097152 * s3) (omega arith)
      ∙ omega arith

  pairs-apart : step 0x00003fff00003fff 14 16 fours ≡ pairs
  pairs-apart =
      let p : fours ≡ two (s0 + 128 * s1 + 16384 * s2 + 2097152 * s3) (s4 + 128 * s5 + 16384 * s6 + 2097152 * s7) = omega arith in
      let q : fours / 16384 ≡ two (s2 + 128 * s3 + 262144 * (s4 + 128 * s5)) (s6 + 128 * s7) = omega arith in
      let low : bit_and fours 0x00003fff00003fff ≡ two (s0 + 128 * s1) (s4 + 128 * s5) = ap (λ (t : ℕ). bit_and t 0x00003fff00003fff) p ∙ masked-two (s0 + 128 * s1 + 16384 * s2 + 2097152 * s3) (s4 + 128 * s5 + 16384 * s6 + 2097152 * s7) (s0 + 128 * s1) (s4 + 128 * s5) (omega arith) (omega arith) (omega arith) in
      let high : bit_and (fours / 16384) 0x00003fff00003fff ≡ two (s2 + 128 * s3) (s6 + 128 * s7) = ap (λ (t : ℕ). bit_and t 0x00003fff00003fff) q ∙ masked-two (s2 + 128 * s3 + 262144 * (s4 + 128 * s5)) (s6 + 128 * s7) (s2 + 128 * s3) (s6 + 128 * s7) (omega arith) (omega arith) (omega arith) in
      let up : (two (s2 + 128 * s3) (s6 + 128 * s7)) * 65536 % 2 ^ 64 ≡ two ((s2 + 128 * s3) * 65536) ((s6 + 128 * s7) * 65536) = omega arith in
      ap₂ (λ (a b : ℕ). bit_or a (b * 2 ^ 16 % 2 ^ 64)) low high
      ∙ ap (bit_or (two (s0 + 128 * s1) (s4 + 128 * s5))) up
      ∙ or-two 16 (s0 + 128 * s1) (s4 + 128 * s5) (s2 + 128 * s3) (s6 + 128 * s7) (omega arith) (omega arith) (omega arith) (omega arith)
      ∙ omega arith

  -- one in each octet
  abbrev apart-all : ℕ
  apart-all = s0 + 256 * s1 + 65536 * s2 + 16777216 * s3 + 4294967296 * s4 + 1099511627776 * s5 + 281474976710656 * s6 + 72057594037927936 * s7

  all_apart : step 0x007f007f007f007f 7 8 pairs ≡ apart-all
  all_apart =
      let p : pairs ≡ four (s0 + 128 * s1) (s2 + 128 * s3) (s4 + 128 * s5) (s6 + 128 * s7) = omega arith in
      let q : pairs / 128 ≡ four (s1 + 512 * s2) (s3 + 512 * s4) (s5 + 512 * s6) s7 = omega arith in
      let low : bit_and pairs 0x007f007f007f007f ≡ four s0 s2 s4 s6 = ap (λ (t : ℕ). bit_and t 0x007f007f007f007f) p ∙ masked-four (s0 + 128 * s1) (s2 + 128 * s3) (s4 + 128 * s5) (s6 + 128 * s7) s0 s2 s4 s6 (omega arith) (omega arith) (omega arith) (omega arith) (omega arith) (omega arith) (omega arith) in
      let high : bit_and (pairs / 128) 0x007f007f007f007f ≡ four s1 s3 s5 s7 = ap (λ (t : ℕ). bit_and t 0x007f007f007f007f) q ∙ masked-four (s1 + 512 * s2) (s3 + 512 * s4) (s5 + 512 * s6) s7 s1 s3 s5 s7 (omega arith) (omega arith) (omega arith) (omega arith) (omega arith) (omega arith) (omega arith) in
      let up : (four s1 s3 s5 s7) * 256 % 2 ^ 64 ≡ four (s1 * 256) (s3 * 256) (s5 * 256) (s7 * 256) = omega arith in
      ap₂ (λ (a b : ℕ). bit_or a (b * 2 ^ 8 % 2 ^ 64)) low high
      ∙ ap (bit_or (four s0 s2 s4 s6)) up
      ∙ or-four 8 s0 s2 s4 s6 s1 s3 s5 s7 (omega arith) (omega arith) (omega arith) (omega arith) (omega arith) (omega arith) (omega arith) (omega arith) (omega arith) (omega arith)
      ∙ omega arith

  -- whatever stands above the 56 bits
  module _ (above : ℕ) where
    abbrev more : ℕ
    more = all + 72057594037927936 * above

    fours-apart : step 0x0fffffff 28 32 more ≡ fours
    fours-apart =
        let low : bit_and more 0x0fffffff ≡ s0 + 128 * s1 + 16384 * s2 + 2097152 * s3 = and_mask more 28 ∙ omega arith in
        let high : bit_and (more / 2 ^ 28) 0x0fffffff ≡ s4 + 128 * s5 + 16384 * s6 + 2097152 * s7 = and_mask (more / 2 ^ 28) 28 ∙ omega arith in
        let up : (s4 + 128 * s5 + 16384 * s6 + 2097152 * s7) * 4294967296 % 2 ^ 64 ≡ (s4 + 128 * s5 + 16384 * s6 + 2097152 * s7) * 4294967296 = omega arith in
        ap₂ (λ (a b : ℕ). bit_or a (b * 2 ^ 32 % 2 ^ 64)) low high
        ∙ ap (bit_or (s0 + 128 * s1 + 16384 * s2 + 2097152 * s3)) up
        ∙ or_shifted_r (s4 + 128 * s5 + 16384 * s6 + 2097152 * s7) 32 (s0 + 128 * s1 + 16384 * s2 + 2097152 * s3) (omega arith)
        ∙ omega arith

  odd-up : (four s1 s3 s5 s7) * 128 % 2 ^ 64 ≡ four (s1 * 128) (s3 * 128) (s5 * 128) (s7 * 128)
  odd-up = omega arith

  paired : four (s1 * 128 + s0) (s3 * 128 + s2) (s5 * 128 + s4) (s7 * 128 + s6) ≡ pairs
  paired = omega arith

  -- the octets of a number, whose low seven bits are the septets
  module _ (o0 o1 o2 o3 o4 o5 o6 o7 : ℕ) (l0 : o0 < 256) (e0 : o0 % 128 ≡ s0) (l1 : o1 < 256) (e1 : o1 % 128 ≡ s1) (l2 : o2 < 256) (e2 : o2 % 128 ≡ s2) (l3 : o3 < 256) (e3 : o3 % 128 ≡ s3) (l4 : o4 < 256) (e4 : o4 % 128 ≡ s4) (l5 : o5 < 256) (e5 : o5 % 128 ≡ s5) (l6 : o6 < 256) (e6 : o6 % 128 ≡ s6) (l7 : o7 < 256) (e7 : o7 % 128 ≡ s7) where
    abbrev octets : ℕ
    octets = o0 + 256 * o1 + 65536 * o2 + 16777216 * o3 + 4294967296 * o4 + 1099511627776 * o5 + 281474976710656 * o6 + 72057594037927936 * o7

    pairs-together : step 0x007f007f007f007f 8 7 octets ≡ pairs
    pairs-together =
        let p : octets ≡ four (o0 + 256 * o1) (o2 + 256 * o3) (o4 + 256 * o5) (o6 + 256 * o7) = omega arith in
        let q : octets / 256 ≡ four (o1 + 256 * o2) (o3 + 256 * o4) (o5 + 256 * o6) o7 = omega arith in
        let low : bit_and octets 0x007f007f007f007f ≡ four s0 s2 s4 s6 = ap (λ (t : ℕ). bit_and t 0x007f007f007f007f) p ∙ masked-four (o0 + 256 * o1) (o2 + 256 * o3) (o4 + 256 * o5) (o6 + 256 * o7) s0 s2 s4 s6 (omega arith) (omega arith) (omega arith) (omega arith) (omega arith) (omega arith) (omega arith) in
        let high : bit_and (octets / 256) 0x007f007f007f007f ≡ four s1 s3 s5 s7 = ap (λ (t : ℕ). bit_and t 0x007f007f007f007f) q ∙ masked-four (o1 + 256 * o2) (o3 + 256 * o4) (o5 + 256 * o6) o7 s1 s3 s5 s7 (omega arith) (omega arith) (omega arith) (omega arith) (omega arith) (omega arith) (omega arith) in
        ap₂ (λ (a b : ℕ). bit_or a (b * 2 ^ 7 % 2 ^ 64)) low high
        ∙ ap (bit_or (four s0 s2 s4 s6)) odd-up
        ∙ or-four 7 s0 s2 s4 s6 s1 s3 s5 s7 (omega arith) (omega arith) (omega arith) (omega arith) (omega arith) (omega arith) (omega arith) (omega arith) (omega arith) (omega arith)
        ∙ paired

    squeezed : (x : ℕ) → value 256 (o0 ∷ o1 ∷ o2 ∷ o3 ∷ o4 ∷ o5 ∷ o6 ∷ o7 ∷ []) ≡ x → moved_together x ≡ value 128 (s0 ∷ s1 ∷ s2 ∷ s3 ∷ s4 ∷ s5 ∷ s6 ∷ s7 ∷ [])
    unfolding value
    squeezed x e =
        let start : x ≡ octets = omega (arith, e) in
        let end : all ≡ value 128 (s0 ∷ s1 ∷ s2 ∷ s3 ∷ s4 ∷ s5 ∷ s6 ∷ s7 ∷ []) = omega arith in
        ap (λ (t : ℕ). step 0x0fffffff 32 28 (step 0x00003fff00003fff 16 14 t)) (ap (step 0x007f007f007f007f 8 7) start ∙ pairs-together) ∙ ap (step 0x0fffffff 32 28) fours-together ∙ all-together ∙ end

  stretched : (v above : ℕ) → value 128 (s0 ∷ s1 ∷ s2 ∷ s3 ∷ s4 ∷ s5 ∷ s6 ∷ s7 ∷ []) + 72057594037927936 * above ≡ v → moved_apart v ≡ value 256 (s0 ∷ s1 ∷ s2 ∷ s3 ∷ s4 ∷ s5 ∷ s6 ∷ s7 ∷ [])
  unfolding value
  stretched v above e =
      let start : v ≡ more above = omega (arith, e) in
      let end : apart-all ≡ value 256 (s0 ∷ s1 ∷ s2 ∷ s3 ∷ s4 ∷ s5 ∷ s6 ∷ s7 ∷ []) = omega arith in
      ap (λ (t : ℕ). step 0x007f007f007f007f 7 8 (step 0x00003fff00003fff 14 16 t)) (ap (step 0x0fffffff 28 32) start ∙ fours-apart above) ∙ ap (step 0x007f007f007f007f 7 8) pairs-apart ∙ all_apart ∙ end

-- the low seven bits of a number's octets
pub moved-together : (x : ℕ) → x < 2 ^ 64 → moved_together x ≡ together x
unfolding together digits
moved-together x fits =
    let h : Below 256 (digits 256 8 x) = digits-below 256 8 x (lit< tt) in
    squeezed _ _ _ _ _ _ _ _ (mod-lt _ (lit< tt)) (mod-lt _ (lit< tt)) (mod-lt _ (lit< tt)) (mod-lt _ (lit< tt)) (mod-lt _ (lit< tt)) (mod-lt _ (lit< tt)) (mod-lt _ (lit< tt)) (mod-lt _ (lit< tt)) _ _ _ _ _ _ _ _ (h 0) refl (h 1) refl (h 2) refl (h 3) refl (h 4) refl (h 5) refl (h 6) refl (h 7) refl x (value-digits 256 8 x (lit< tt) fits)

-- the septets of the low 56 bits of a number
pub moved-apart : (v : ℕ) → moved_apart v ≡ apart v
unfolding apart digits
moved-apart v =
    let h : Below 128 (digits 128 8 v) = digits-below 128 8 v (lit< tt) in
    let low : value 128 (digits 128 8 v) ≡ v % 2 ^ 56 = ap (value 128) (sym (digits_low 128 8 v (lit< tt))) ∙ value-digits 128 8 (v % 2 ^ 56) (lit< tt) (mod-lt v (lit< tt)) in
    stretched _ _ _ _ _ _ _ _ (h 0) (h 1) (h 2) (h 3) (h 4) (h 5) (h 6) (h 7) v (v / 2 ^ 56) (omega (arith, low))

-- n octets of a list are a number of n octets: seven of them, a number of eight septets
pub octets-fit : (s : List ℕ) (at n : ℕ) → Below 256 s → at + n ≤ length s → value 256 (take n (drop at s)) < 256 ^ n
octets-fit s at n h fits =
    let t : List ℕ = take n (drop at s) in
    let size : length t ≡ n = length-take-le n (drop at s) (omega (arith, length-drop at s)) in
    subst (λ (k : ℕ). value 256 t < 256 ^ k) size (value-lt 256 t (below-take 256 (drop at s) (below-drop 256 s h at) n))

-- eight octets with the last of them dropped
pub seven-octets : (s : List ℕ) (at : ℕ) → Below 256 s → at + 8 ≤ length s → bit_and (value 256 (take 8 (drop at s))) 0xffffffffffffff ≡ value 256 (take 7 (drop at s))
seven-octets s at h fits =
    let t : List ℕ = take 7 (drop at s) in
    let last : List ℕ = take 1 (drop 7 (drop at s)) in
    let size : length t ≡ 7 = length-take-le 7 (drop at s) (omega (arith, length-drop at s)) in
    and_mask (value 256 (take 8 (drop at s))) 56
    ∙ ap (λ (l : List ℕ). value 256 l % 2 ^ 56) (take-add 7 1 (drop at s))
    ∙ ap (λ (x : ℕ). x % 2 ^ 56) (value-append 256 t last ∙ ap (λ (k : ℕ). value 256 last * 256 ^ k + value 256 t) size)
    ∙ low (value 256 last) 56 (octets-fit s at 7 h (omega arith))

-- the octets of septets that lie apart
pub septets-apart : (v : ℕ) → digits 256 8 (value 256 (digits 128 8 v)) ≡ digits 128 8 v
septets-apart v =
    let h : Below 128 (digits 128 8 v) = digits-below 128 8 v (lit< tt) in
    ap (λ (n : ℕ). digits 256 n (value 256 (digits 128 8 v))) (sym (digits-length 128 8 v)) ∙ digits_value 256 (digits 128 8 v) (λ k. omega (arith, h k))
