-- `to_septets::writing::encode_from` meets its contract. The invariant: the units passed are listed, and their septets are in the buffer as far as they fit.
-- Assumes nothing.
use Rattle.letters.proofs.Encodings.{Encoding}
use Rattle.to_septets.proofs.writing.encode_from.Given as goal

abbrev pub invariant-loop-i : goal.invariant-loop-i
invariant-loop-i l = Encoding l.text l.initial.out l.out l.n l.i
