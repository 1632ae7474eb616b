-- `to_text::reading::is_short` meets its contract: a buffer as long as the septets has room for their units.
-- Assumes nothing.
use mathlib.Core.Path.{◌∙◌, sym}
use native.Mathlib.Omega.{arith}
use borrow.Author.Tests.{le-ltb}
use Rattle.letters.proofs.Septets.{read-most}
use Rattle.to_text.proofs.reading.is_short.Goals as goal

pub returns-else-room-septets : goal.returns-else-room-septets
returns-else-room-septets c =
    le-ltb _ _ c.if-room-septets.false ∙ sym (le-ltb _ _ (omega (arith, read-most c.args.old c.args.septets.now, c.if-room-septets.false)))
