-- `coded` meets its contract: plain text by its octet, the rest by its reading. Assumes nothing.
use Rattle.names.proofs.Settled.{named-coded, unnamed-coded, plain-coded}
use Rattle.writer.specs.Coded.{text_by}
use mathlib.Core.Bool.{true, false}
use mathlib.Core.Path.{ap, sym, ◌∙◌}
use borrow.Author.Rules.{rules}
use Rattle.names.proofs.said.coded.Goals as goal

pub returns-in_err-coding : goal.returns-in_err-coding
returns-in_err-coding c = record {
  answer = let s = c.args.service in
      search rules ∙ ap text_by c.in_err-coding.ensures.answer ∙ sym (named-coded s _ (c.plain.ensures c.if-plain.true) ∙ plain-coded s false);
}

pub returns-then-plain : goal.returns-then-plain
returns-then-plain c = record {
  answer = let s = c.args.service in
      ap text_by c.in_ok-coding.ensures.answer ∙ sym (named-coded s _ (c.plain.ensures c.if-plain.true) ∙ plain-coded s false);
}

pub returns-in_err-coding-2 : goal.returns-in_err-coding-2
returns-in_err-coding-2 c = record {
  answer = let s = c.args.service in
      search rules ∙ ap text_by c.in_err-coding-2.ensures.answer ∙ sym (named-coded s _ (c.plain-2.ensures c.if-plain-2.true) ∙ plain-coded s true);
}

pub returns-then-plain-2 : goal.returns-then-plain-2
returns-then-plain-2 c = record {
  answer = let s = c.args.service in
      ap text_by c.in_ok-coding-2.ensures.answer ∙ sym (named-coded s _ (c.plain-2.ensures c.if-plain-2.true) ∙ plain-coded s true);
}

pub returns : goal.returns
returns c = record { answer = c.code_message.ensures.answer ∙ sym (named-coded c.args.service _ (sym c.in-Some.ensures)) }

pub returns-in_default : goal.returns-in_default
returns-in_default c = record { answer = sym (unnamed-coded c.args.service _ (sym c.in_default.ensures)) }
