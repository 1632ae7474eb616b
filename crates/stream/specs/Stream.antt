-- Document 01, "Packing" (TS 23.038 Release 9, 6.1.2.1): septets and octets as one stream of bits.
-- Bit i of septet k is bit 7k + i of the stream; octet j takes bits 8j to 8j + 7, lowest first; spare bits are 0.
-- Own rule: none. Cited by the definitions of the three packings and of the old page. Assumes nothing.
--   stream_bit w s m == bit m of the stream whose pieces of w bits are s, and 0 past the last piece
--   cut b w m n      == n pieces of w bits each, from bit m of the stream b on
--   octets_for n     == how many octets n septets take
--   packed s         == the octets of the septets s
--   unpacked n o     == the first n septets of the stream that the octets o hold
use Rattle.std.specs.Prelude.{ℕ, zero, suc, ◌+◌, ◌*◌, ◌/◌, ◌%◌, List, [], ◌∷◌, length, get_or}
use Rattle.lists.specs.Bits.{bit_of, gather}

-- bit m is bit m % w of piece m / w
unfoldable pub stream_bit : ℕ → List ℕ → ℕ → ℕ
unfolding bit_of
stream_bit w s m = bit_of (get_or s (m / w) 0) (m % w)

unfoldable pub cut : (ℕ → ℕ) → ℕ → ℕ → ℕ → List ℕ
unfolding gather
cut b w m zero = []
cut b w m (suc n) = gather b m w ∷ cut b w (m + w) n

-- 7n/8, rounded up
unfoldable pub octets_for : ℕ → ℕ
octets_for n = (7 * n + 7) / 8

unfoldable pub packed : List ℕ → List ℕ
unfolding stream_bit cut octets_for
packed s = cut (stream_bit 7 s) 8 0 (octets_for (length s))

unfoldable pub unpacked : ℕ → List ℕ → List ℕ
unfolding stream_bit cut
unpacked n o = cut (stream_bit 8 o) 7 0 n
