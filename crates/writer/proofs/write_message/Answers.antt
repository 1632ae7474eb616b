-- `write_message` meets its contract: what the reading settles is written. Assumes nothing.
use Rattle.writer.proofs.Settling.{coded-writes}
use Rattle.writer.specs.declared.MessageCoding.{MessageCoding}
use Rattle.writer.specs.Coded.{coded_writes, coded_leaves}
use lib.ListN.{length}
use Rattle.std.specs.Prelude.{Result}
use Rattle.words.specs.declared.Refusal.{Refusal}
use mathlib.Core.Path.{ap, ◌∙◌}
use Rattle.words.proofs.Clauses.{answered}
use Rattle.writer.proofs.write_message.Goals as goal

pub returns : goal.returns
returns c = let a = c.args in
    let s = coded-writes a.service a.reading a.units.now a.out.now in
    answered
    ((
      c.write_coded.ensures.answer ∙ ap (λ (x : Result MessageCoding Refusal). coded_writes x a.units.now (length a.out.now)) c.code_message.ensures.answer ∙ s.0,
      c.write_coded.ensures.buffer ∙ ap (λ (x : Result MessageCoding Refusal). coded_leaves x a.units.now a.out.now) c.code_message.ensures.answer ∙ s.1,
    ))
