-- `codes::find` meets its contract: each way out is what an entry in its range says of the unit.
-- Assumes nothing.
use Rattle.letters.proofs.Entries.{entry-main, entry-extension, entry-none}
use Rattle.codes.proofs.find.Goals as goal

pub returns-then-entry-lt128 : goal.returns-then-entry-lt128
returns-then-entry-lt128 c = record { answer = entry-main _ _ c.entry_of-entry.ensures.answer c.if-entry-lt128.true }

pub returns-then-entry-lt255 : goal.returns-then-entry-lt255
returns-then-entry-lt255 c = record { answer = entry-extension _ _ c.entry_of-entry.ensures.answer c.if-entry-lt128.false c.if-entry-lt255.true }

pub returns : goal.returns
returns c = record { answer = entry-none _ _ c.entry_of-entry.ensures.answer c.if-entry-lt255.false }
