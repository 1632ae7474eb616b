-- What is passed are digits, the number is theirs, and each turn puts one more below them.
use Rattle.typed.proofs.Spelling.{Reading}
use Rattle.typed.proofs.number_of.Given as goal

abbrev pub invariant-loop-c : goal.invariant-loop-c
invariant-loop-c l = Reading l.base l.digits l.c-index l.v
