-- `to_text::own::is_own` meets its contract: its tests are those of the ranges.
-- Assumes nothing.
use Rattle.letters.proofs.OwnCodes.{own-by-ranges}
use Rattle.to_text.proofs.own.is_own.Goals as goal

pub returns : goal.returns
returns c = own-by-ranges c.args.septet
