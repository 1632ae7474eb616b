-- `settle_plain` meets its contract: plain text is held. Assumes nothing.
use Rattle.std.specs.Prelude.{ℕ, Result}
use mathlib.Core.Path.{refl, ap, sym, ◌∙◌}
use borrow.Author.Rules.{rules}
use Rattle.words.specs.declared.Refusal.{Refusal}
use Rattle.coding.specs.Holding.{holds_text}
use Rattle.coding.specs.Readings.{plain_in}
use Rattle.coding.proofs.TextOctet.{letterless-coding}
use Rattle.writer.specs.Settled.{settled_by, settled_as}
use Rattle.writer.proofs.Settling.{plain-settled}
use Rattle.writer.proofs.settle_plain.Goals as goal

pub returns-in_err-octet : goal.returns-in_err-octet
unfolding settled_as
returns-in_err-octet c = let a = c.args in
    record { answer = search rules ∙ ap (λ (w : Result ℕ Refusal). settled_by a.service w (holds_text a.service (plain_in a.ucs2))) (c.in_err-octet.ensures.answer ∙ sym (letterless-coding a.service (plain_in a.ucs2) refl)) }

pub returns : goal.returns
unfolding settled_as
returns c = let a = c.args in
    record { answer = plain-settled a.service a.ucs2 _ ∙ ap (λ (w : Result ℕ Refusal). settled_by a.service w (holds_text a.service (plain_in a.ucs2))) (c.in_ok-octet.ensures.answer ∙ sym (letterless-coding a.service (plain_in a.ucs2) refl)) }
