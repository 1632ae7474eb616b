-- The elements are laid over the front of out, one after the other, once the text is known to be digits, as many as they take, and to have room.
use Prim.Native.Nat.{◌*◌, ◌≤◌}
use mathlib.Core.Path.{◌≡◌}
use lib.ListN.{drop}
use Rattle.typed.specs.Spelling.{numbers_in}
use Rattle.typed.proofs.Spelling.{Filling}
use Rattle.typed.proofs.read_elements.Given as goal

abbrev pub invariant-loop-i : goal.invariant-loop-i
invariant-loop-i g l = record {
  size : l.i-iterator.iter.size ≡ g.T.Element.DIGITS;
  rest : l.i-iterator.iter.rest.now ≡ drop (g.T.Element.DIGITS * l.i-iterator.count) l.text;
  few : l.i-iterator.count ≤ l.n;
  filled : Filling g.T.Element.spelled (numbers_in g.T.Element.DIGITS l.n l.text) l.initial.out l.i-iterator.count l.out;
}
