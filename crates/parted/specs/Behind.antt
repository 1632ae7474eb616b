-- Document 02, W5: "After its 6 octets, 7-bit text starts at the next septet boundary": septets that begin h septets on in the stream of bits, which is
-- the stream of document 01, "Packing", shifted by 7h bits. The base's packing is the case at 0.
-- Own rule: what stands in front of the text is 0, until a header is laid over it. Cited by the definitions of parts. Assumes nothing.
--   shifted_bit h s m     == bit m of the stream whose septets s begin behind h others, and 0 before them
--   packed_behind h s     == the octets of that stream
--   unpacked_behind h n o == n septets of the stream that the octets o hold, from septet h on
use Rattle.std.specs.Prelude.{ℕ, ◌+◌, ◌-◌, ◌*◌, cond, List, ltb, length}
use Rattle.stream.specs.Stream.{stream_bit, cut, octets_for}

unfoldable pub shifted_bit : ℕ → List ℕ → ℕ → ℕ
shifted_bit h s m = cond (ltb m (7 * h)) 0 (stream_bit 7 s (m - 7 * h))

unfoldable pub packed_behind : ℕ → List ℕ → List ℕ
packed_behind h s = cut (shifted_bit h s) 8 0 (octets_for (h + length s))

unfoldable pub unpacked_behind : ℕ → ℕ → List ℕ → List ℕ
unpacked_behind h n o = cut (stream_bit 8 o) 7 (7 * h) n
