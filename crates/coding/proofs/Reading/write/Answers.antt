-- `Reading::write` meets its contract: the smallest octet of a reading is that of its key. Assumes nothing.
use Rattle.std.specs.Option.{ok_or}
use Rattle.words.specs.declared.Service.{Service}
use Rattle.words.specs.declared.Refusal.TheVariants.{Unwritable}
use Rattle.octets.specs.Smallest.{short_octet, page_octet, octet_or_none}
use Rattle.coding.specs.Inner.{key_of}
use Rattle.coding.specs.OctetWritten.{octet_writes}
use Rattle.coding.proofs.Smallest.{write-old, write-short, write-broadcast, write-ussd, written-option}
use Prim.Native.Nat.{ℕ}
use mathlib.Core.Path.{◌≡◌, ap, sym, ◌∙◌}
use Rattle.coding.proofs.Reading.write.Goals as goal

-- an octet of the key, written
said : (f : ℕ → ℕ) (key k : ℕ) → key ≡ k → ok_or (octet_or_none (f key)) Unwritable ≡ ok_or (octet_or_none (f k)) Unwritable
said f key k e = ap (λ (n : ℕ). ok_or (octet_or_none (f n)) Unwritable) e

pub returns-in-ShortMessage : goal.returns-in-ShortMessage
returns-in-ShortMessage c = record {
  answer = let r = c.args.self in
      c.ok_or.ensures.value
      ∙ ap (λ o. ok_or o Unwritable) c.short_octet.ensures.answer ∙ said short_octet _ _ c.key-key.ensures ∙ written-option _
      ∙ sym (ap (λ (s : Service). octet_writes s r) c.in-ShortMessage.is ∙ write-short r);
}

pub returns-in-Broadcast : goal.returns-in-Broadcast
returns-in-Broadcast c = record {
  answer = let r = c.args.self in
      c.ok_or-in-Broadcast.ensures.value
      ∙ ap (λ o. ok_or o Unwritable) c.page_octet.ensures.answer ∙ said page_octet _ _ c.key-key.ensures ∙ written-option _
      ∙ sym (ap (λ (s : Service). octet_writes s r) c.in-Broadcast.is ∙ write-broadcast r);
}

pub returns-in-Ussd : goal.returns-in-Ussd
returns-in-Ussd c = record {
  answer = let r = c.args.self in
      c.ok_or-in-Ussd.ensures.value
      ∙ ap (λ o. ok_or o Unwritable) c.page_octet-in-Ussd.ensures.answer ∙ said page_octet _ _ c.key-key.ensures ∙ written-option _
      ∙ sym (ap (λ (s : Service). octet_writes s r) c.in-Ussd.is ∙ write-ussd r);
}

pub returns-in-OldPage : goal.returns-in-OldPage
returns-in-OldPage c = record { answer = let r = c.args.self in sym (ap (λ (s : Service). octet_writes s r) c.in-OldPage.is ∙ write-old r) }
