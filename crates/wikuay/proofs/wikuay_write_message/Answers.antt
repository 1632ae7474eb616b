-- `wikuay_write_message` meets its contract: what the numbers settle of the message is written. Assumes nothing.
use Rattle.wikuay.proofs.Settled.{gives-coded}
use Rattle.wikuay.proofs.Counts.{gives-count}
use Rattle.wikuay.specs.Calls.{write_message_gives, write_message_keeps}
use Rattle.answers.specs.declared.Answer.{Answer}
use Rattle.answers.specs.Answers.{message_written_answer}
use Rattle.writer.specs.declared.MessageCoding.{MessageCoding}
use Rattle.writer.specs.Coded.{coded_writes, coded_leaves}
use Rattle.demands.specs.declared.MessageWritten.{MessageWritten}
use Rattle.demands.specs.Reports.{write_count}
use Prim.Native.Nat.{ℕ, ◌≤◌}
use lib.ListN.{length}
use mathlib.Core.Path.{ap, sym, subst, ◌∙◌}
use Rattle.words.proofs.Clauses.{answered}
use Rattle.wikuay.proofs.wikuay_write_message.Goals as goal
use Rattle.std.specs.Prelude.{Result}
use Rattle.words.specs.declared.Refusal.{Refusal}

pub message_written-requires : goal.message_written-requires
message_written-requires c = let a = c.args in
    let n = sym c.in-Some.ensures.answer in
    let g = gives-coded a.service a.reading _ n a.text.now a.out.now in
    let w = c.write_coded.ensures.answer ∙ ap (λ (x : Result MessageCoding Refusal). coded_writes x a.text.now (length a.out.now)) c.coded-coding.ensures.answer in
    subst (λ (w : Result MessageWritten Refusal). write_count w ≤ 160) (sym w) (subst (λ (k : ℕ). k ≤ 160) (sym (ap (λ (b : Answer). b.count) g.0)) (gives-count a.service a.reading a.text.now (length a.out.now)))

pub returns : goal.returns
returns c = let a = c.args in
    let n = sym c.in-Some.ensures.answer in
    let g = gives-coded a.service a.reading _ n a.text.now a.out.now in
    answered
    ((
      c.message_written.ensures ∙ ap message_written_answer (c.write_coded.ensures.answer ∙ ap (λ (x : Result MessageCoding Refusal). coded_writes x a.text.now (length a.out.now)) c.coded-coding.ensures.answer) ∙ g.0,
      c.write_coded.ensures.buffer ∙ ap (λ (x : Result MessageCoding Refusal). coded_leaves x a.text.now a.out.now) c.coded-coding.ensures.answer ∙ g.1,
    ))

pub returns-in_default : goal.returns-in_default
unfolding write_message_gives write_message_keeps
returns-in_default c = let n = sym c.in_default.ensures.answer in
    record { answer = simp (c.refused.ensures.answer, n); buffer = simp n }
