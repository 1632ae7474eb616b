-- `page_octet` meets its contract: what is tried is the smallest octet of the key, wherever there is one; for the known keys it is computed.
-- Assumes nothing.
use Rattle.std.specs.Prelude.{Some, None}
use Rattle.keys.specs.Keys.{general_key, language_key, page_key}
use Rattle.octets.specs.Smallest.{page_octet, octet_or_none}
use Rattle.octets.specs.Inner.{general_try, headed_try, page_try}
use Rattle.octets.proofs.Tried.{page-said}
use mathlib.Core.Path.{◌≡◌, ap, ap₂, sym, ◌∙◌}
use mathlib.Core.Bool.{cond}
use Prim.Native.Nat.{ℕ}
use lib.Dec.{eqb}
use Rattle.octets.proofs.page_octet.Goals as goal

pub returns-then-key-eq-PLAIN : goal.returns-then-key-eq-PLAIN
unfolding page_try headed_try general_try page_key language_key general_key
returns-then-key-eq-PLAIN c = record { answer = sym (ap (λ (k : ℕ). octet_or_none (page_octet k)) c.if-key-eq-PLAIN.true ∙ page-said 960) }

pub returns-then-key : goal.returns-then-key
unfolding page_try headed_try general_try page_key language_key general_key
returns-then-key c = record { answer = sym (ap (λ (k : ℕ). octet_or_none (page_octet k)) c.if-key.true ∙ page-said 962) }

pub returns : goal.returns
returns c = record {
  answer =
      c.checked.ensures
      ∙ ap₂ (λ (o said : ℕ). cond (eqb said c.args.key) (Some o) None) c.page_try-octet.ensures (c.page_key.ensures.answer ∙ ap page_key c.page_try-octet.ensures)
      ∙ sym (page-said c.args.key);
}
