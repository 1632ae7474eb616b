-- `settle` meets its contract: the octet first, then what the reading holds. Assumes nothing.
use Rattle.std.specs.Prelude.{ℕ, Bool, Result, Ok}
use mathlib.Core.Path.{ap, ap₂, ◌∙◌}
use borrow.Author.Rules.{rules}
use Rattle.words.specs.declared.Refusal.{Refusal}
use Rattle.words.specs.declared.Service.{Service}
use Rattle.coding.specs.declared.Held.{Held}
use Rattle.coding.specs.Holding.{holds_text}
use Rattle.coding.specs.LanguageLetters.{coding_writes}
use Rattle.writer.specs.declared.TextCoding.{TextCoding}
use Rattle.writer.specs.Settled.{settled_by, settled_as}
use Rattle.writer.proofs.settle.Goals as goal

abbrev coded : Service → ℕ → Bool → Result TextCoding Refusal
coded service octet ucs2 = Ok (record { service = service; octet = octet; ucs2 = ucs2 })

pub returns-in_err-octet : goal.returns-in_err-octet
unfolding settled_as
returns-in_err-octet c = let a = c.args in
    record { answer = search rules ∙ ap (λ (w : Result ℕ Refusal). settled_by a.service w (holds_text a.service a.reading)) c.in_err-octet.ensures.answer }

pub returns-in_err-text : goal.returns-in_err-text
unfolding settled_as
returns-in_err-text c = let a = c.args in
    record { answer = search rules ∙ ap₂ (settled_by a.service) c.in_ok-octet.ensures.answer c.in_err-text.ensures.answer }

pub returns : goal.returns
unfolding settled_as
returns c = let a = c.args in
    record {
      answer =
          ap (λ (u : Bool). coded a.service c.in_ok-octet.octet u) c.is_ucs2.ensures.answer
          ∙ ap₂ (settled_by a.service) c.in_ok-octet.ensures.answer c.in_ok-text.ensures.answer;
    }
