-- `put_one` meets its contract: where the part begins is found, and it is put. Assumes nothing.
use Rattle.parted.proofs.WriteSteps.{blank_none}
use Rattle.parts.proofs.Message.put_one.Goals as goal

pub place_of-from-requires : goal.place_of-from-requires
place_of-from-requires c = (c.requires.0, blank_none c.args.self.now.plan)
