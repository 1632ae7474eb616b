-- `Reading::holds` meets its contract: it tests what the rules test, in their order. Assumes nothing.
use Rattle.coding.proofs.Unmarked.{held-unmarked}
use Rattle.coding.specs.Holding.{text_rules, holds_text}
use Rattle.words.specs.Judging.{verdict}
use mathlib.Core.Path.{sym, ◌∙◌}
use Rattle.coding.proofs.Reading.holds.Goals as goal

pub returns-then-self : goal.returns-then-self
unfolding holds_text text_rules verdict
returns-then-self c = record { answer = simp c.if-self.true }

pub returns-in-SevenBit : goal.returns-in-SevenBit
returns-in-SevenBit c = record {
  answer = let told = c.in-SevenBit.is in
      let a = c.args in
      c.unmarked.ensures ∙ sym (held-unmarked a.service a.self c.if-self.false (simp told) ∙ simp told);
}

pub returns-in-EightBit : goal.returns-in-EightBit
unfolding holds_text text_rules verdict
returns-in-EightBit c = record { answer = simp (c.if-self.false, c.in-EightBit.is) }

pub returns-in-Ucs2 : goal.returns-in-Ucs2
returns-in-Ucs2 c = record {
  answer = let told = c.in-Ucs2.is in
      let a = c.args in
      c.unmarked-in-Ucs2.ensures ∙ sym (held-unmarked a.service a.self c.if-self.false (simp told) ∙ simp told);
}

pub returns-in-Wap : goal.returns-in-Wap
unfolding holds_text text_rules verdict
returns-in-Wap c = record { answer = simp (c.if-self.false, c.in-Wap.is) }

pub returns-in-I1 : goal.returns-in-I1
unfolding holds_text text_rules verdict
returns-in-I1 c = record { answer = simp (c.if-self.false, c.in-I1.is) }
