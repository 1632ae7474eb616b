-- Septets behind h others are the base's packing of h zero septets and the septets, so that each law of it is the base's, shifted by 7h bits.
-- Assumes nothing.
--   packed-behind, packed-behind-0          packing behind h septets by the base's packing, which is the case at 0
--   packed-behind-length, packed-behind-below   how many octets there are, and that they are octets
--   unpacked-behind, unpacked-behind-0      unpacking behind h septets by the base's unpacking, which is the case at 0
--   unpacked-behind-length                  as many septets as are asked for
--   behind-laid      octets laid over the front that end before septet h do not touch the septets from h on
--   behind-back      septets that were packed behind h others are read back
--   shifted-bit      bit 7h + m of the octets' stream is bit m of the base's
--   bit-before       and bits before 7h are 0
use mathlib.Core.Path.{◌≡◌, refl, sym, ap, ap₂, ◌∙◌, fun_ext}
use mathlib.Core.List.{List, ◌∷◌, ◌++◌}
use Prim.Native.Nat.{ℕ, zero, suc, ◌+◌, ◌-◌, ◌*◌, ◌/◌, ◌%◌, ◌^◌, ◌≤◌, ◌<◌}
use native.Mathlib.Nat.{zero-div, add-sub_of_le, add-zero, zero-add, suc-add, add-suc, add_assoc, mul-suc}
use native.Mathlib.Decide.{dec_le}
use native.Mathlib.Omega.{arith}
use borrow.Author.Tests.{lt-ltb, le-ltb}
use lib.Dec.{lit<}
use lib.ListN.{length, get_or, drop, replicate, length-append, length-drop, length-replicate, get_or-replicate, get_or-append}
use lib.Seq.{drop_at, get_or-append-add, get_or-drop}
use Rattle.lists.specs.Bits.{bit_of, gather}
use Rattle.lists.specs.Lists.{laid}
use Rattle.lists.proofs.Below.{Below, below-append, below-replicate}
use Rattle.stream.specs.Stream.{stream_bit, cut, octets_for, packed, unpacked}
use Rattle.stream.proofs.Stream.{packed-length, packed-below, unpacked-length, unpacked-packed}
use Rattle.stream.proofs.Bits.{cut-bit, stream_end}
use Rattle.parted.specs.Behind.{shifted_bit, packed_behind, unpacked_behind}

-- ---- packing

abbrev zeros : ℕ → List ℕ
zeros h = replicate h 0

module _ (h : ℕ) (s : List ℕ) where
  zeros-length : length (zeros h) ≡ h
  zeros-length = length-replicate h 0

  behind-length : length (zeros h ++ s) ≡ h + length s
  behind-length = length-append (zeros h) s ∙ ap (λ (n : ℕ). n + length s) zeros-length

  behind-below : Below 128 s → Below 128 (zeros h ++ s)
  behind-below b = below-append 128 (zeros h) s (below-replicate 128 h 0 (lit< tt)) b

  bits-before : (m : ℕ) → m < 7 * h → stream_bit 7 (zeros h ++ s) m ≡ 0
  unfolding stream_bit bit_of
  bits-before m l =
      let within : m / 7 < h = omega arith in
      let none : get_or (zeros h ++ s) (m / 7) 0 ≡ 0 =
      get_or-append (zeros h) s 0 (m / 7) (omega (arith, zeros-length)) ∙ get_or-replicate h (m / 7) 0 0 within in
      ap (λ (x : ℕ). bit_of x (m % 7)) none ∙ ap (λ (x : ℕ). x % 2) (zero-div (2 ^ (m % 7)))

  bits-behind : (m : ℕ) → stream_bit 7 (zeros h ++ s) (7 * h + m) ≡ stream_bit 7 s m
  unfolding stream_bit
  bits-behind m =
      let piece : (7 * h + m) / 7 ≡ length (zeros h) + m / 7 = omega (arith, zeros-length) in
      let place : (7 * h + m) % 7 ≡ m % 7 = omega arith in
      ap₂ (λ (q r : ℕ). bit_of (get_or (zeros h ++ s) q 0) r) piece place ∙ ap (λ (x : ℕ). bit_of x (m % 7)) (get_or-append-add (zeros h) s (m / 7) 0)

  shifted-zeros : (m : ℕ) → shifted_bit h s m ≡ stream_bit 7 (zeros h ++ s) m
  unfolding shifted_bit
  shifted-zeros m =
      elim (dec_le (7 * h) m) [
        | yes l ↦ rw (le-ltb m (7 * h) l) (sym (bits-behind (m - 7 * h)) ∙ ap (stream_bit 7 (zeros h ++ s)) (add-sub_of_le l))
        | no l ↦ rw (lt-ltb m (7 * h) (omega arith)) (sym (bits-before m (omega arith)))
      ]

  pub packed-behind : packed_behind h s ≡ packed (replicate h 0 ++ s)
  unfolding packed_behind packed
  packed-behind = ap₂ (λ (b : ℕ → ℕ) (n : ℕ). cut b 8 0 (octets_for n)) (fun_ext shifted-zeros) (sym behind-length)

  pub packed-behind-length : length (packed_behind h s) ≡ octets_for (h + length s)
  packed-behind-length = ap length packed-behind ∙ packed-length (zeros h ++ s) ∙ ap octets_for behind-length

  pub packed-behind-below : Below 128 s → Below 256 (packed_behind h s)
  packed-behind-below b = rw packed-behind (packed-below (zeros h ++ s) (behind-below b))

pub packed-behind-0 : (s : List ℕ) → packed_behind 0 s ≡ packed s
packed-behind-0 s = packed-behind 0 s

-- ---- the stream of the octets

-- the octets of a packing have its septets' stream
packed-stream : (s : List ℕ) (m : ℕ) → stream_bit 8 (packed s) m ≡ stream_bit 7 s m
unfolding stream_bit packed octets_for
packed-stream s m =
    elim (dec_le (8 * octets_for (length s)) m) [
      | yes past ↦ stream_end 8 (lit< tt) (packed s) m (omega (arith, packed-length s)) ∙ sym (stream_end 7 (lit< tt) s m (omega arith))
      | no here ↦
          let at : 8 * (m / 8) + m % 8 ≡ m = omega arith in
          cut-bit 7 8 s (octets_for (length s)) (m / 8) (m % 8) (omega arith) (omega arith) ∙ ap (stream_bit 7 s) at
    ]

module _ (h : ℕ) (s : List ℕ) (m : ℕ) where
  pub shifted-bit : stream_bit 8 (packed_behind h s) (7 * h + m) ≡ stream_bit 7 s m
  shifted-bit = rw packed-behind (packed-stream (zeros h ++ s) (7 * h + m) ∙ bits-behind h s m)

  pub bit-before : m < 7 * h → stream_bit 8 (packed_behind h s) m ≡ 0
  bit-before l = rw packed-behind (packed-stream (zeros h ++ s) m ∙ bits-before h s m l)

-- ---- unpacking

-- the pieces from piece h on
cut-drop : (b : ℕ → ℕ) (w m h n : ℕ) → drop h (cut b w m (h + n)) ≡ cut b w (m + w * h) n
unfolding cut
cut-drop b w m zero n = ap₂ (cut b w) (omega arith) (zero-add n)
cut-drop b w m (suc h) n =
    let next : m + w + w * h ≡ m + w * suc h = omega (arith, mul-suc w h) in
    ap (λ (k : ℕ). drop (suc h) (cut b w m k)) (suc-add h n) ∙ cut-drop b w (m + w) h n ∙ ap (λ (k : ℕ). cut b w k n) next

-- pieces from bit m on are those of the stream that begins there
cut-shifted : (b : ℕ → ℕ) (w m j n : ℕ) → cut b w (m + j) n ≡ cut (λ k. b (m + k)) w j n
unfolding cut gather
cut-shifted b w m j zero = refl
cut-shifted b w m j (suc n) =
    ap₂ (λ (x : ℕ) (xs : List ℕ). x ∷ xs) (gathered w j) (ap (λ (k : ℕ). cut b w k n) (add_assoc m j w) ∙ cut-shifted b w m (j + w) n)
  where
    gathered : (w j : ℕ) → gather b (m + j) w ≡ gather (λ k. b (m + k)) j w
    gathered zero j = refl
    gathered (suc w) j = ap (λ (x : ℕ). b (m + j) + 2 * x) (ap (λ (k : ℕ). gather b k w) (sym (add-suc m j)) ∙ gathered w (suc j))

module _ (h n : ℕ) (o : List ℕ) where
  pub unpacked-behind : unpacked_behind h n o ≡ drop h (unpacked (h + n) o)
  unfolding unpacked_behind unpacked
  unpacked-behind = ap (λ (k : ℕ). cut (stream_bit 8 o) 7 k n) (sym (zero-add (7 * h))) ∙ sym (cut-drop (stream_bit 8 o) 7 0 h n)

  pub unpacked-behind-length : length (unpacked_behind h n o) ≡ n
  unpacked-behind-length = omega (arith, ap length unpacked-behind ∙ length-drop h (unpacked (h + n) o), unpacked-length (h + n) o)

  -- the stream from bit 7h on decides
  behind-stream : unpacked_behind h n o ≡ cut (λ k. stream_bit 8 o (7 * h + k)) 7 0 n
  unfolding unpacked_behind
  behind-stream = ap (λ (k : ℕ). cut (stream_bit 8 o) 7 k n) (sym (add-zero (7 * h))) ∙ cut-shifted (stream_bit 8 o) 7 (7 * h) 0 n

-- from the end of what was laid on, a buffer has what it had
laid-past : (f o : List ℕ) (i : ℕ) → length f ≤ i → get_or (laid f o) i 0 ≡ get_or o i 0
unfolding laid
laid-past f o i l =
    let far : i ≡ length f + (i - length f) = omega arith in
    ap (λ (k : ℕ). get_or (laid f o) k 0) far
    ∙ get_or-append-add f (drop (length f) o) (i - length f) 0
    ∙ get_or-drop (length f) o (i - length f) 0
    ∙ ap (λ (k : ℕ). get_or o k 0) (sym far)

pub behind-laid : (h n : ℕ) (f o : List ℕ) → 8 * length f ≤ 7 * h → unpacked_behind h n (laid f o) ≡ unpacked_behind h n o
unfolding stream_bit
behind-laid h n f o l =
    behind-stream h n (laid f o) ∙ ap (λ (b : ℕ → ℕ). cut b 7 0 n) (fun_ext same) ∙ sym (behind-stream h n o)
  where
    same : (k : ℕ) → stream_bit 8 (laid f o) (7 * h + k) ≡ stream_bit 8 o (7 * h + k)
    same k = ap (λ (x : ℕ). bit_of x ((7 * h + k) % 8)) (laid-past f o ((7 * h + k) / 8) (omega arith))

pub unpacked-behind-0 : (n : ℕ) (o : List ℕ) → unpacked_behind 0 n o ≡ unpacked n o
unfolding unpacked_behind unpacked
unpacked-behind-0 n o = refl

pub behind-back : (h : ℕ) (s : List ℕ) → Below 128 s → unpacked_behind h (length s) (packed_behind h s) ≡ s
behind-back h s b =
    unpacked-behind h (length s) (packed_behind h s)
    ∙ ap₂ (λ (k : ℕ) (o : List ℕ). drop h (unpacked k o)) (sym (behind-length h s)) (packed-behind h s)
    ∙ ap (drop h) (unpacked-packed (zeros h ++ s) (behind-below h s b))
    ∙ drop_at (zeros h) s h (zeros-length h s)
