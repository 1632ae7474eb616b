-- `lettered_octet` meets its contract: on a broadcast page two octets have the prefix mark, and no other service asks for it. Assumes nothing.
use Rattle.coding.proofs.Prefixed.{page-prefix}
use Rattle.coding.specs.LanguageLetters.{is_lettered}
use Rattle.coding.specs.OctetRead.{read_under}
use Rattle.words.specs.declared.Service.{Service}
use Prim.Native.Nat.{◌<◌}
use mathlib.Core.Path.{ap, sym, ◌∙◌}
use borrow.Author.Rules.{rules}
use Rattle.coding.proofs.lettered_octet.Goals as goal

pub returns-in-Broadcast : goal.returns-in-Broadcast
returns-in-Broadcast c = record {
  answer = let a = c.args in
      let within : a.octet < 256 = search rules in
      sym (page-prefix a.octet within) ∙ ap (λ (s : Service). is_lettered s (read_under s a.octet)) (sym c.in-Broadcast.is);
}
