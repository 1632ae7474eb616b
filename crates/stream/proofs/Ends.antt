-- The end after whole groups, fewer than eight octets of a number: stored from the lowest on, or joined from the highest on, in runs.
-- Assumes nothing.
use mathlib.Core.Path.{◌≡◌, refl, sym, ap, ap₂, ◌∙◌}
use mathlib.Core.List.{List, ◌++◌, append_assoc, append-nil}
use Prim.Native.Nat.{ℕ, suc, ◌+◌, ◌*◌, ◌/◌, ◌%◌, ◌^◌, ◌≤◌, ◌<◌}
use native.Mathlib.Nat.{div-one, div-div-eq-div-mul}
use native.Mathlib.Omega.{arith}
use lib.Bits.{bit_or, or_shifted}
use lib.Pow.{pow-add, shl_exact}
use lib.ListN.{length, get_or, take, drop, length-append, length-drop, take-append-drop}
use lib.Dec.{lit≤}
use lib.Seq.{length-take-le, take-add, drop-drop, drop-cons, get_or-drop}
use Rattle.lists.specs.Lists.{laid}
use Rattle.lists.proofs.Laid.{laid_then, laid-length}
use Rattle.lists.proofs.Below.{Below, below-drop}
use Rattle.stream.specs.Digits.{value, digits}
use Rattle.stream.proofs.Numbers.{pow-mul, digits-length, digits-split, value-one, value-append, join_more}
use Rattle.stream.proofs.Folds.{octets-fit}

-- ---- storing

-- the first i octets of v are stored in d from at on: w is what is left of v, and k the place of the next
pub record Put (d : List ℕ) (at v i : ℕ) (out : List ℕ) (w k : ℕ) : Type 0 where
  pub stored : out ≡ laid (take at d ++ digits 256 i v) d
  pub left : w ≡ v / 256 ^ i
  pub next : k ≡ at + i

module _ (d : List ℕ) (at v : ℕ) (within : at ≤ length d) where
  front_length : (i : ℕ) → length (take at d ++ digits 256 i v) ≡ at + i
  front_length i = length-append (take at d) (digits 256 i v) ∙ ap₂ (λ (a b : ℕ). a + b) (length-take-le at d within) (digits-length 256 i v)

  pub put-none : Put d at v 0 d v at
  unfolding laid digits
  put-none =
      record {
        stored =
            sym (take-append-drop at d)
            ∙ ap₂ (λ (l : List ℕ) (n : ℕ). l ++ drop n d) (sym (append-nil (take at d))) (sym (ap length (append-nil (take at d)) ∙ length-take-le at d within));
        left = sym (div-one v);
        next = omega arith;
      }

  -- the next m octets
  pub put-run : {i j : ℕ} (m : ℕ) {out out' : List ℕ} {w w' k k' : ℕ} → Put d at v i out w k → j ≡ i + m
      → out' ≡ take k out ++ digits 256 m w ++ drop (k + m) out → w' ≡ w / 256 ^ m → k' ≡ k + m → Put d at v j out' w' k'
  put-run {i} {j} m {out} {out'} {w} {w'} {k} {k'} p e o x y =
      let done : List ℕ = take at d ++ digits 256 i v in
      record {
        stored =
            o
            ∙ ap₂ (λ (a : ℕ) (l : List ℕ). take a l ++ digits 256 m w ++ drop (a + m) l) p.next p.stored
            ∙ laid_then done (digits 256 m w) d (at + i) m (front_length i) (digits-length 256 m w)
            ∙ ap (λ (l : List ℕ). laid l d)
            (append_assoc (take at d) (digits 256 i v) (digits 256 m w)
            ∙ ap (λ (l : List ℕ). take at d ++ l) (ap (λ (a : ℕ). digits 256 i v ++ digits 256 m a) p.left ∙ sym (digits-split 256 i m v) ∙ ap (λ (n : ℕ). digits 256 n v) (sym e)));
        left =
            x
            ∙ ap (λ (a : ℕ). a / 256 ^ m) p.left
            ∙ div-div-eq-div-mul v (256 ^ i) (256 ^ m)
            ∙ ap (λ (a : ℕ). v / a) (sym (pow-add 256 i m) ∙ ap (λ (n : ℕ). 256 ^ n) (sym e));
        next = omega (arith, p.next);
      }

  pub put-long : {i : ℕ} {out : List ℕ} {w k : ℕ} → Put d at v i out w k → at + i ≤ length d → length out ≡ length d
  put-long {i} p h = ap length p.stored ∙ laid-length (take at d ++ digits 256 i v) d (omega (arith, front_length i))

  pub put_same : {i j : ℕ} {out out' : List ℕ} {w w' k k' : ℕ} → Put d at v i out w k → j ≡ i → out' ≡ out → w' ≡ w → k' ≡ k → Put d at v j out' w' k'
  put_same {i} p e o x y =
      record {
        stored = o ∙ p.stored ∙ ap (λ (n : ℕ). laid (take at d ++ digits 256 n v) d) (sym e);
        left = x ∙ p.left ∙ ap (λ (n : ℕ). v / 256 ^ n) (sym e);
        next = omega (arith, p.next);
      }

  pub put-end : {n : ℕ} {out : List ℕ} {w k : ℕ} → Put d at v n out w k → out ≡ take at d ++ digits 256 n v ++ drop (at + n) d
  unfolding laid
  put-end {n} p = p.stored ∙ ap (λ (i : ℕ). take at d ++ digits 256 n v ++ drop i d) (front_length n)

  -- the first i octets by themselves, and the m octets after them
  pub put_both : (i m : ℕ) {j : ℕ} {first second : List ℕ} → first ≡ take at d ++ digits 256 i v ++ drop (at + i) d
      → second ≡ take (at + i) first ++ digits 256 m (v / 256 ^ i) ++ drop (at + i + m) first → j ≡ i + m
      → second ≡ take at d ++ digits 256 j v ++ drop (at + j) d
  put_both i m e f s =
      put-end (put-run m (put-run i put-none (omega arith) e refl refl) s f refl refl)

-- ---- joining

-- the octets from k on up to end, i of them, are joined to the number v
pub record Taken (o : List ℕ) (end i v k : ℕ) : Type 0 where
  pub joined : v ≡ value 256 (take i (drop k o))
  pub next : k + i ≡ end

module _ (o : List ℕ) (end : ℕ) (h : Below 256 o) (within : end ≤ length o) where
  pub taken_none : Taken o end 0 0 end
  unfolding value
  taken_none = record { joined = refl; next = omega arith }

  -- the last octet by itself
  pub taken-one : {v k : ℕ} → v ≡ get_or o k 0 → k + 1 ≡ end → Taken o end 1 v k
  taken-one {v} {k} e n = record { joined = e ∙ sym (ap (λ (l : List ℕ). value 256 (take 1 l)) (drop-cons o k 0 (omega arith)) ∙ value-one 256 (get_or o k 0)); next = n }

  -- the m octets before
  pub taken-run : {i j v v' k k' : ℕ} (m x : ℕ) → Taken o end i v k → j ≡ m + i → j ≤ 8 → k ≡ k' + m → x ≡ value 256 (take m (drop k' o)) → v' ≡ bit_or (v * 2 ^ (8 * m) % 2 ^ 64) x
      → Taken o end j v' k'
  taken-run {i} {j} {v} {v'} {k} {k'} m x p e few place ex ev =
      let t : List ℕ = take m (drop k' o) in
      let rest : List ℕ = take i (drop m (drop k' o)) in
      let size : length t ≡ m = length-take-le m (drop k' o) (omega (arith, length-drop k' o, p.next)) in
      let high : v < 2 ^ (8 * i) = rw (p.joined, pow-mul 2 8 i) (octets-fit o k i h (omega (arith, p.next))) in
      let low : x < 2 ^ (8 * m) = rw (ex, pow-mul 2 8 m) (octets-fit o k' m h (omega (arith, p.next))) in
      record {
        joined =
            ev
            ∙ ap (λ (a : ℕ). bit_or a x) (shl_exact (8 * i) (8 * m) 64 high (omega arith))
            ∙ or_shifted v (8 * m) x low
            ∙ ap₂ (λ (a b : ℕ). a * b + x) (p.joined ∙ ap (λ (l : List ℕ). value 256 (take i l)) (ap (λ (n : ℕ). drop n o) place ∙ sym (drop-drop m k' o))) (pow-mul 2 8 m ∙ ap (λ (n : ℕ). 256 ^ n) (sym size))
            ∙ ap (λ (a : ℕ). value 256 rest * 256 ^ length t + a) ex
            ∙ sym (value-append 256 t rest)
            ∙ ap (value 256) (sym (take-add m i (drop k' o)) ∙ ap (λ (n : ℕ). take n (drop k' o)) (sym e));
        next = omega (arith, p.next);
      }

  pub taken-same : {i j v v' k k' : ℕ} → Taken o end i v k → j ≡ i → v' ≡ v → k' ≡ k → Taken o end j v' k'
  taken-same {i} {j} {v} {v'} {k} {k'} p e x y = record { joined = x ∙ p.joined ∙ ap₂ (λ (n a : ℕ). value 256 (take n (drop a o))) (sym e) (sym y); next = omega (arith, p.next) }

  -- all n octets from at on
  pub taken-end : (at : ℕ) {n v k : ℕ} → Taken o end n v k → at + n ≡ end → v ≡ value 256 (take n (drop at o))
  taken-end at {n} {v} {k} p e =
      let place : k ≡ at = omega (arith, p.next) in
      p.joined ∙ ap (λ (a : ℕ). value 256 (take n (drop a o))) place

  -- k octets joined, and the m octets before them
  pub joined-both : (at m k : ℕ) {high low : ℕ} → high ≡ value 256 (take k (drop (at + m) o)) → low ≡ value 256 (take m (drop at o)) → at + m + k ≡ end → m + k ≤ 8
      → bit_or (high * 2 ^ (8 * m) % 2 ^ 64) low ≡ value 256 (take (m + k) (drop at o))
  joined-both at m k {high} {low} eh el n few =
      let last : Taken o end k high (at + m) = record { joined = eh; next = n } in
      taken-end at (taken-run m low last refl few refl el refl) (omega arith)

-- an octet by itself
pub octet-one : (o : List ℕ) (k : ℕ) {v : ℕ} → k < length o → v ≡ get_or o k 0 → v ≡ value 256 (take 1 (drop k o))
octet-one o k h e = e ∙ sym (ap (λ (l : List ℕ). value 256 (take 1 l)) (drop-cons o k 0 h) ∙ value-one 256 (get_or o k 0))

-- one octet more above those that are joined
octet-more : (o : List ℕ) (at i : ℕ) {v x : ℕ} → Below 256 o → 8 + 8 * i ≤ 64 → v ≡ value 256 (take i (drop at o)) → x ≡ get_or o (at + i) 0
    → bit_or v (x * 2 ^ (8 * i) % 2 ^ 64) ≡ value 256 (take (suc i) (drop at o))
octet-more o at i h few ev ex =
    ap₂ (λ (a b : ℕ). bit_or a (b * 2 ^ (8 * i) % 2 ^ 64)) ev (ex ∙ sym (get_or-drop at o i 0)) ∙ join_more 8 (drop at o) (below-drop 256 o h at) i few

-- eight octets joined one after the other
pub eight-joined : (o : List ℕ) (at : ℕ) (x0 x1 x2 x3 x4 x5 x6 x7 : ℕ) → Below 256 o → at + 8 ≤ length o
    → x0 ≡ get_or o at 0 → x1 ≡ get_or o (at + 1) 0 → x2 ≡ get_or o (at + 2) 0 → x3 ≡ get_or o (at + 3) 0
    → x4 ≡ get_or o (at + 4) 0 → x5 ≡ get_or o (at + 5) 0 → x6 ≡ get_or o (at + 6) 0 → x7 ≡ get_or o (at + 7) 0
    → bit_or (bit_or (bit_or (bit_or (bit_or (bit_or (bit_or x0 (x1 * 2 ^ 8 % 2 ^ 64)) (x2 * 2 ^ 16 % 2 ^ 64)) (x3 * 2 ^ 24 % 2 ^ 64)) (x4 * 2 ^ 32 % 2 ^ 64)) (x5 * 2 ^ 40 % 2 ^ 64)) (x6 * 2 ^ 48 % 2 ^ 64)) (x7 * 2 ^ 56 % 2 ^ 64)
    ≡ value 256 (take 8 (drop at o))
eight-joined o at x0 x1 x2 x3 x4 x5 x6 x7 h fits e0 e1 e2 e3 e4 e5 e6 e7 =
    octet-more o at 7 h (lit≤ tt) (octet-more o at 6 h (lit≤ tt) (octet-more o at 5 h (lit≤ tt) (octet-more o at 4 h (lit≤ tt) (octet-more o at 3 h (lit≤ tt) (octet-more o at 2 h (lit≤ tt) (octet-more o at 1 h (lit≤ tt) (octet-one o at (omega arith) e0) e1) e2) e3) e4) e5) e6) e7
