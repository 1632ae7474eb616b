-- Document 02, W1: which of the blocks holds which page, where they are the pages of one message.
-- Own rule: what is wrong has no places. Cited by block_at and page_order. Assumes nothing.
--   block_or_zeros o i == block i of the octets o, from 0, and zeros where there is none
--   table_of o         == for each number from 0 to 15 one more than the place of the first block with it, and 0 where none has it
--   order_of o         == the table of their places, where the blocks are the pages of one message
use Rattle.std.specs.Prelude.{ℕ, Bool, cond, ◌||◌, List, ltb, eqb, replicate, Option, Some, None}
use Rattle.filling.specs.Numbered.{table_among}
use Rattle.pages.specs.Blocks.{block_size}
use Rattle.pages.specs.Joined.{block_count, block_at, number_at, wrong_pages}

unfoldable pub block_or_zeros : List ℕ → ℕ → List ℕ
block_or_zeros o i = cond (ltb i (block_count o)) (block_at o i) (replicate block_size 0)

abbrev pub table_of : List ℕ → List ℕ
table_of o = table_among (number_at o) (block_count o) 16

-- "no block counts as a page missing"
unfoldable pub no_order : List ℕ → Bool
no_order o = eqb (block_count o) 0 || wrong_pages o

unfoldable pub order_of : List ℕ → Option (List ℕ)
order_of o = cond (no_order o) None (Some (table_of o))
