-- `octet_key` meets its contract: the key of an octet is that of its reading, and an old page's is that of plain text. Assumes nothing.
use Rattle.coding.proofs.Octets.{short-key-is, page-key-is}
use Rattle.coding.specs.Inner.{key_of}
use Rattle.coding.specs.OctetRead.{read_under}
use Rattle.words.specs.declared.Service.{Service}
use Prim.Native.Nat.{◌<◌}
use mathlib.Core.Path.{ap, sym, ◌∙◌}
use borrow.Author.Rules.{rules}
use Rattle.coding.proofs.octet_key.Goals as goal

pub returns-in-ShortMessage : goal.returns-in-ShortMessage
returns-in-ShortMessage c = let o = c.args.octet in
    let within : o < 256 = search rules in
    c.short_key.ensures.answer ∙ short-key-is o within ∙ ap (λ (s : Service). key_of (read_under s o)) (sym c.in-ShortMessage.is)

pub returns-in-Broadcast : goal.returns-in-Broadcast
returns-in-Broadcast c = let o = c.args.octet in
    let within : o < 256 = search rules in
    c.page_key.ensures.answer ∙ page-key-is o within ∙ ap (λ (s : Service). key_of (read_under s o)) (sym c.in-Broadcast.is)

pub returns-in-Ussd : goal.returns-in-Ussd
returns-in-Ussd c = let o = c.args.octet in
    let within : o < 256 = search rules in
    c.page_key-in-Ussd.ensures.answer ∙ page-key-is o within ∙ ap (λ (s : Service). key_of (read_under s o)) (sym c.in-Ussd.is)

pub returns-in-OldPage : goal.returns-in-OldPage
unfolding key_of
returns-in-OldPage c = let o = c.args.octet in ap (λ (s : Service). key_of (read_under s o)) (sym c.in-OldPage.is)
