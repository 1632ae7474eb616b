-- The content is no shorter than the text, so that it decides where it has room, and of UCS2 it is the text. Assumes nothing.
use mathlib.Core.Path.{sym}
use native.Mathlib.Omega.{arith}
use borrow.Author.Tests.{le-leb}
use lib.ListN.{length}
use Rattle.parted.specs.Joined.{joined_text}
use Rattle.parted.proofs.JoinSteps.{text-most}
use Rattle.part_joining.proofs.Ordered.has_room.Goals as goal

pub returns-then-content_length-room : goal.returns-then-content_length-room
returns-then-content_length-room c = let p = c.args.self.now.parts in
    sym (le-leb (length (joined_text p.ucs2 p.counts.now p.octets.now)) c.args.room (omega (arith, c.content_length.ensures, c.if-content_length-room.true, text-most p.ucs2 p.counts.now p.octets.now)))
