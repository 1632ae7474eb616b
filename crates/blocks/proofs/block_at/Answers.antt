-- The octets as blocks of 88: the one at a place, or zeros past the last. Assumes nothing.
use Rattle.std.proofs.Common.{◌≡◌, ◌+◌, ◌*◌, ◌/◌, ℕ, length, Bool, List, take, drop, drop-drop, replicate, cond, refl, ◌∙◌, ap, get_or, arith}
use Prim.Native.Nat.{zero, suc}
use lib.Dec.{ltb}
use borrow.Author.Tests.{lt-ltb, le-ltb}
use native.Mathlib.Nat.{mul-zero}
use Rattle.std.specs.Simd.{first_chunks}
use Rattle.std.specs.Option.{unwrap_or}
use Rattle.pages.specs.Ordered.{block_or_zeros}
use Rattle.pages.specs.Joined.{block_at}
use Rattle.blocks.proofs.block_at.Goals as goal

ltb-more : (i k : ℕ) → ltb i k ≡ ltb (suc i) (suc k)
ltb-more i k = grind arith

-- the piece at a place, of k pieces of n
piece : (n k : ℕ) (xs : List ℕ) (i : ℕ) (d : List ℕ) → get_or (first_chunks n k xs) i d ≡ cond (ltb i k) (take n (drop (n * i) xs)) d
piece n zero xs i d = rw (le-ltb i 0 (omega arith)) refl
piece n (suc k) xs zero d = let z : n * 0 ≡ 0 = mul-zero n in simp (z, lt-ltb 0 (suc k) (omega arith))
piece n (suc k) xs (suc i) d =
    let e : n + n * i ≡ n * suc i = omega arith in
    piece n k (drop n xs) i d ∙ ap (λ (b : Bool). cond b (take n (drop (n * i) (drop n xs))) d) (ltb-more i k) ∙ ap (λ (l : List ℕ). cond (ltb (suc i) (suc k)) (take n l) d) (drop-drop (n * i) n xs ∙ ap (λ (m : ℕ). drop m xs) e)

pub returns : goal.returns
unfolding block_or_zeros block_at
returns c = record {
  answer = c.unwrap_or.ensures ∙ ap (λ (o : _). unwrap_or o (replicate 88 0)) c.copied.ensures ∙ c.get.ensures.lookup.4 (omega arith) (replicate 88 0)
      ∙ ap (λ (l : _). get_or l c.args.i (replicate 88 0)) c.as_chunks.ensures.front ∙ piece 88 (length c.args.blocks.now / 88) c.args.blocks.now c.args.i (replicate 88 0);
}
