-- `is_old` meets its contract: what an old page reads as is plain 7-bit text. Assumes nothing.
use Rattle.std.proofs.Common.{◌∙◌, sym, ap}
use Rattle.std.specs.Result.{is_ok}
use Rattle.names.proofs.Settled.{old-read}
use Rattle.names.proofs.said.is_old.Goals as goal

pub returns-then-not-ucs2 : goal.returns-then-not-ucs2
returns-then-not-ucs2 c = λ e. old-read c.args.coding c.args.ucs2 c.if-not-ucs2.true (ap is_ok (sym c.read_octet.ensures.answer) ∙ sym c.is_ok.ensures.value ∙ e)
