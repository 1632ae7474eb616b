-- The masks take the bits that the definition gathers. Assumes nothing.
use Rattle.std.proofs.Common.{◌≡◌, ℕ, ◌+◌, ◌*◌, ◌/◌, ◌%◌, List, arith, ◌∙◌, sym, ap, get_or, bit_and}
use lib.Bits.{and_mask}
use Rattle.lists.specs.Bits.{bits_of}
use Rattle.lists.proofs.Bits.{bits-number}
use Rattle.pages.specs.Blocks.{header_of}
use Rattle.blocks.proofs.read_header.Goals as goal

-- bits 3 to 0 and bits 7 to 4 by a mask
low : (x : ℕ) → bit_and x 15 ≡ bits_of x 3 0
low x = let whole : x ≡ x / 1 = omega arith in and_mask x 4 ∙ ap (λ (y : ℕ). y % 16) whole ∙ sym (bits-number x 3 0)

high : (x : ℕ) → bit_and (x / 16) 15 ≡ bits_of x 7 4
high x = and_mask (x / 16) 4 ∙ sym (bits-number x 7 4)

pub returns : goal.returns
unfolding header_of
returns c = record {
  answer = let b : List ℕ = c.args.block in
      let s : c.from_be_bytes.result ≡ 256 * get_or b 0 0 + get_or b 1 0 = omega (arith, c.from_be_bytes.ensures) in
      let i : c.from_be_bytes-2.result ≡ 256 * get_or b 2 0 + get_or b 3 0 = omega (arith, c.from_be_bytes-2.ensures) in
      simp (s, i, low (get_or b 5 0), high (get_or b 5 0));
}
