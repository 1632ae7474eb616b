-- `read-told` meets its contract: what is heard of the message settles it. Assumes nothing.
use Rattle.wikuay.proofs.Settled.{gives-heard, gives-unnamed}
use Rattle.answers.specs.Answers.{shown_told, lettered_told, told_answer}
use mathlib.Core.Path.{◌≡◌, ap, sym, ◌∙◌}
use Rattle.std.specs.Prelude.{Result, Ok}
use Rattle.words.specs.declared.Refusal.{Refusal}
use Rattle.names.specs.declared.said.Heard.{Heard}
use Rattle.names.specs.declared.said.Heard.TheVariants as heard
use borrow.Author.Rules.{rules}
use Rattle.wikuay.proofs.read_told.Goals as goal

pub returns-in-Ok-Text : goal.returns-in-Ok-Text
returns-in-Ok-Text c = let a = c.args in
    let n = sym c.in-Some.ensures.answer in
    let known : c.in-Ok-Text.field-0 ≡ heard.Text c.in-Ok-Text.ucs2 c.in-Ok-Text.reading = search rules in
    let g = gives-heard a.service _ n a.coding a.count a.octets.now a.out.now (search rules) _ (sym (ap {B = Result Heard Refusal} Ok known) ∙ c.in-Ok-Text.ensures.answer) in
    record { result_value = ap told_answer (c.shown.ensures.answer ∙ ap (shown_told _) c.read_text.ensures.answer) ∙ g.0; out_after = c.read_text.ensures.buffer ∙ g.1 }

pub returns-in-Ok-Lettered : goal.returns-in-Ok-Lettered
returns-in-Ok-Lettered c = let a = c.args in
    let n = sym c.in-Some.ensures.answer in
    let known : c.in-Ok-Lettered.field-0 ≡ heard.Lettered c.in-Ok-Lettered.ucs2 = search rules in
    let g = gives-heard a.service _ n a.coding a.count a.octets.now a.out.now (search rules) _ (sym (ap {B = Result Heard Refusal} Ok known) ∙ c.in-Ok-Lettered.ensures.answer) in
    record { result_value = ap told_answer (c.lettered_shown.ensures.answer ∙ ap (lettered_told _) c.read_lettered.ensures.answer) ∙ g.0; out_after = c.read_lettered.ensures.buffer ∙ g.1 }

pub returns-in-Err : goal.returns-in-Err
returns-in-Err c = let a = c.args in
    let n = sym c.in-Some.ensures.answer in
    let g = gives-heard a.service _ n a.coding a.count a.octets.now a.out.now (search rules) _ c.in-Err.ensures.answer in
    record { result_value = ap told_answer c.message_refused-in-Err.ensures.answer ∙ g.0; out_after = g.1 }

pub returns-in_default : goal.returns-in_default
returns-in_default c = let a = c.args in
    let g = gives-unnamed a.service a.coding a.count a.octets.now a.out.now (sym c.in_default.ensures.answer) in
    record { result_value = ap told_answer c.message_refused.ensures.answer ∙ g.0; out_after = g.1 }
