-- `Reading::text_octet` meets its contract: a letter without the prefix mark adds 8 to what data coding alone refuses. Assumes nothing.
use Rattle.coding.proofs.TextOctet.{coding-bare, coding-stray}
use mathlib.Core.Path.{sym, ◌∙◌}
use Rattle.coding.proofs.Reading.text_octet.Goals as goal

pub returns-then-stray : goal.returns-then-stray
returns-then-stray c = record { answer = let a = c.args in sym (coding-stray a.service a.self (sym c.stray.ensures ∙ c.if-stray.true)) }

pub returns : goal.returns
returns c = record {
  answer = let a = c.args in
      c.write.ensures.answer ∙ sym (coding-bare a.service a.self (sym c.stray.ensures ∙ c.if-stray.false));
}
