-- `hears` meets its contract: plain text and a page behind letters by their octets, the rest by its reading. Assumes nothing.
use Rattle.std.proofs.Common.{rules, ◌∙◌, sym, ap, ◌<◌, true, false, Result, Ok}
use Rattle.words.specs.declared.Refusal.{Refusal}
use Rattle.names.specs.declared.said.Heard.{Heard}
use Rattle.names.specs.Said.{heard_by}
use Rattle.names.proofs.Settled.{plain-heard, plain-reading-heard, lettered-heard, clear-heard}
use Rattle.names.proofs.said.hears.Goals as goal

pub returns-then-is_plain : goal.returns-then-is_plain
returns-then-is_plain c = record {
  answer = let s = c.args.service in
      ap {B = Result Heard Refusal} Ok c.plain_heard.ensures ∙ plain-heard s false ∙ plain-reading-heard s false ∙ ap (heard_by s) (sym (c.is_plain.ensures c.if-is_plain.true));
}

pub returns-then-is_plain-2 : goal.returns-then-is_plain-2
returns-then-is_plain-2 c = record {
  answer = let s = c.args.service in
      ap {B = Result Heard Refusal} Ok c.plain_heard-then-is_plain-2.ensures ∙ plain-heard s true ∙ plain-reading-heard s true ∙ ap (heard_by s) (sym (c.is_plain-2.ensures c.if-is_plain-2.true));
}

pub returns-then-lettered_octet : goal.returns-then-lettered_octet
returns-then-lettered_octet c = record {
  answer = let a = c.args in
      let within : a.coding < 256 = search rules in
      lettered-heard a.service a.coding within (sym c.lettered_octet.ensures.answer ∙ c.if-lettered_octet.true);
}

pub returns : goal.returns
returns c = record { answer = c.reading_heard.ensures ∙ clear-heard _ _ _ (sym c.lettered_octet.ensures.answer ∙ c.if-lettered_octet.false) (sym c.in_ok-reading.ensures.answer) }
