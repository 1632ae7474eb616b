-- `general_try` meets its contract: the sum is the definition's, of a bit, an alphabet and an octet. Assumes nothing.
use Rattle.octets.specs.Inner.{general_try}
use borrow.Author.Rules.{rules}
use Rattle.octets.proofs.general_try.Goals as goal

pub returns : goal.returns
unfolding general_try
returns c = (simp c.class_bits.ensures, search rules)
