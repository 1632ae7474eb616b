-- `Reading::key` meets its contract: the sum is the definition's, and fits whatever the fields' numbers are. Assumes nothing.
use Rattle.coding.specs.Inner.{key_of}
use Rattle.coding.proofs.Reading.key.Goals as goal

pub returns : goal.returns
unfolding key_of
returns c = simp (c.number.ensures.answer, c.number-2.ensures.answer, c.number-3.ensures.answer, c.number-4.ensures.answer, c.flag.ensures.answer, c.flag-2.ensures.answer, c.flag-3.ensures.answer, c.flag-4.ensures.answer, c.flag-5.ensures.answer)
