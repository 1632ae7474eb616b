-- The pages are right exactly where the blocks and the numbers from 1 to the total stand one to one, since blocks of one message have one total.
-- Assumes nothing.
--   right-read-once, read-once-right   the pages are right exactly where each block is read once and none is left out
--   total-0-wrong, over-15-wrong       a first block with the total 0, or more than 15 blocks, are never right
--   number_small, total-small          the number and the total of a block have four bits
use mathlib.Core.Path.{◌≡◌}
use mathlib.Core.Bool.{true, false}
use mathlib.Core.List.{List}
use Prim.Native.Nat.{ℕ, ◌<◌}
use native.Mathlib.Omega.{arith}
use lib.ListN.{get_or}
use borrow.Author.Tests.{eqb-true}
use Rattle.lists.proofs.Bits.{bits-number}
use Rattle.lists.proofs.Tests.{and_right}
use Rattle.filling.proofs.Placing.{right-one-to-one, one-to-one-right, more-wrong}
use Rattle.pages.specs.Blocks.{header_of}
use Rattle.pages.specs.Joined.{block_count, block_at, header_at, number_at, total_at, same_octets, of_one_message, alike_at, wrong_pages}
use Rattle.pages.specs.Messages.{ReadOnce}

pub number_small : (b : List ℕ) → (header_of b).number < 16
unfolding header_of
number_small b = omega (arith, bits-number (get_or b 5 0) 7 4)

pub total-small : (b : List ℕ) → (header_of b).total < 16
unfolding header_of
total-small b = omega (arith, bits-number (get_or b 5 0) 3 0)

module _ (o : List ℕ) where
  one-total : (i : ℕ) → alike_at o i ≡ true → total_at o 0 ≡ total_at o i
  unfolding header_at of_one_message
  one-total i e = eqb-true _ _ (and_right (same_octets 5 (block_at o 0) (block_at o i)) _ e)

  pub right-read-once : wrong_pages o ≡ false → ReadOnce o
  unfolding wrong_pages
  right-read-once e = right-one-to-one (number_at o) (total_at o) (alike_at o) (block_count o) one-total e

  pub read-once-right : ReadOnce o → wrong_pages o ≡ false
  unfolding wrong_pages
  read-once-right w = one-to-one-right (number_at o) (total_at o) (alike_at o) (block_count o) one-total w

  more-blocks-wrong : total_at o 0 < block_count o → wrong_pages o ≡ true
  unfolding wrong_pages
  more-blocks-wrong many = more-wrong (number_at o) (total_at o) (alike_at o) (block_count o) one-total many

  pub total-0-wrong : 0 < block_count o → total_at o 0 ≡ 0 → wrong_pages o ≡ true
  total-0-wrong some none = more-blocks-wrong (omega arith)

  pub over-15-wrong : 15 < block_count o → wrong_pages o ≡ true
  unfolding header_at
  over-15-wrong many = more-blocks-wrong (omega (arith, total-small (block_at o 0)))
