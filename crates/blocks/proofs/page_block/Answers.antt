-- The front of the block and the text behind it are all of it. Assumes nothing.
use Rattle.std.proofs.Common.{rules, ◌≡◌, ◌+◌, ◌*◌, ℕ, ◌<◌, ◌≤◌, length, ◌/◌, ◌%◌, ◌++◌, List, [], ◌∷◌, drop, replicate, arith, ◌∙◌, ap, ap₂, get_or, length-append, length-drop}
use mathlib.Core.List.{append-nil}
use borrow.Rule.Slice.PartMut.{put_mid}
use Rattle.std.specs.Int.{w16, to_be_bytes}
use Rattle.std.proofs.lemmas.List.{take_at, drop_all}
use Rattle.pages.specs.Blocks.{block_of}
use Rattle.blocks.proofs.page_block.Goals as goal

-- n elements and m behind them, copied one after the other over n + m
whole : (n m : ℕ) (xs ys start : List ℕ) → length xs ≡ n → length start ≤ n + m → put_mid n m (xs ++ drop n start) ys ≡ xs ++ ys
whole n m xs ys start e h =
    ap₂ (λ (a b : List ℕ). a ++ (ys ++ b)) (take_at xs (drop n start) n e)
    (drop_all m (drop n (xs ++ drop n start)) (simp (length-append, length-drop) (omega arith)))
    ∙ ap (λ (l : List ℕ). xs ++ l) (append-nil ys)

-- a number of 16 bits as its octets
octets : (n : ℕ) → n < 65536 → to_be_bytes w16 n ≡ n / 256 ∷ n % 256 ∷ []
octets n h = let e : n / 256 % 256 ≡ n / 256 = omega arith in simp e

pub returns : goal.returns
unfolding block_of
returns c = record {
  answer = let s : c.args.head.sequence < 65536 = search rules in
      let i : c.args.head.identifier < 65536 = search rules in
      let a = c.to_be_bytes.ensures ∙ octets c.args.head.sequence s in
      let b = c.to_be_bytes-2.ensures ∙ octets c.args.head.identifier i in
      whole 6 82 c.copy_from_slice.new.self c.copy_from_slice-2.new.self (replicate 88 0) c.copy_from_slice.ensures.len (omega arith)
      ∙ ap₂ (λ (a b : List ℕ). a ++ b) (c.copy_from_slice.ensures.after ∙ ap₂ (λ (x y : List ℕ). get_or x 0 0 ∷ get_or x 1 0 ∷ get_or y 0 0 ∷ get_or y 1 0 ∷ c.args.head.coding ∷ (c.args.head.total % 16 + 16 * (c.args.head.number % 16)) ∷ []) a b)
      c.copy_from_slice-2.ensures.after;
}
