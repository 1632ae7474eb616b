-- Each turn passes the end of a word, so what is left of the request falls.
use Rattle.std.proofs.Common.{length}
use Rattle.desk.proofs.asked.read.Given as goal

abbrev pub decreases-words : goal.decreases-words
decreases-words l = length l.rest
