-- `code_message` meets its contract: a page behind letters goes by its coding octet, every other reading is settled. Assumes nothing.
use Rattle.std.specs.Prelude.{ℕ, Bool, Result, Ok}
use Rattle.words.specs.declared.Refusal.{Refusal}
use Rattle.fields.specs.declared.Letters.{Letters}
use Rattle.writer.specs.declared.MessageCoding.{MessageCoding}
use Rattle.writer.specs.declared.MessageCoding.TheVariants as coding
use Rattle.writer.specs.Coded.{lettered_by, text_by, coded_as}
use Rattle.writer.proofs.Settling.{coded-lettered, coded-text}
use mathlib.Core.Path.{◌≡◌, ap, sym, ◌∙◌}
use mathlib.Core.Bool.{true, false}
use borrow.Author.Rules.{rules}
use Rattle.writer.proofs.code_message.Goals as goal

abbrev lettered : ℕ → Bool → Letters → Result MessageCoding Refusal
lettered octet ucs2 letters = Ok (coding.Lettered (record { octet = octet; ucs2 = ucs2; letters = letters }))

pub returns-in_err-octet : goal.returns-in_err-octet
returns-in_err-octet c = let r = c.args.reading in
    record { answer = search rules ∙ ap (lettered_by r) c.in_err-octet.ensures.answer ∙ coded-lettered c.args.service r (sym c.if-lettered.ensures.answer) }

pub returns-then-lettered : goal.returns-then-lettered
returns-then-lettered c = let r = c.args.reading in
    record {
      answer =
          ap (λ (u : Bool). lettered c.in_ok-octet.octet u r.letters) c.is_ucs2.ensures.answer
          ∙ ap (lettered_by r) c.in_ok-octet.ensures.answer ∙ coded-lettered c.args.service r (sym c.if-lettered.ensures.answer);
    }

pub returns-in_err-coding : goal.returns-in_err-coding
returns-in_err-coding c = let r = c.args.reading in
    record { answer = search rules ∙ ap text_by c.in_err-coding.ensures.answer ∙ coded-text c.args.service r (sym c.lettered.ensures.answer ∙ c.if-lettered.false) }

pub returns : goal.returns
returns c = let r = c.args.reading in
    record { answer = ap text_by c.in_ok-coding.ensures.answer ∙ coded-text c.args.service r (sym c.lettered.ensures.answer ∙ c.if-lettered.false) }
