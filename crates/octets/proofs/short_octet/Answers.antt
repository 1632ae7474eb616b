-- `short_octet` meets its contract: what is tried is the smallest octet of the key, wherever there is one; for the known keys it is computed.
-- Assumes nothing.
use Rattle.std.specs.Prelude.{Some, None}
use Rattle.keys.specs.Keys.{general_key, short_key}
use Rattle.octets.specs.Smallest.{short_octet, octet_or_none}
use Rattle.octets.specs.Inner.{general_try, short_try}
use Rattle.octets.proofs.Tried.{short-said}
use mathlib.Core.Path.{◌≡◌, ap, ap₂, sym, ◌∙◌}
use mathlib.Core.Bool.{cond}
use Prim.Native.Nat.{ℕ}
use lib.Dec.{eqb}
use Rattle.octets.proofs.short_octet.Goals as goal

pub returns-then-key-eq-PLAIN : goal.returns-then-key-eq-PLAIN
unfolding short_try general_try short_key general_key
returns-then-key-eq-PLAIN c = record { answer = sym (ap (λ (k : ℕ). octet_or_none (short_octet k)) c.if-key-eq-PLAIN.true ∙ short-said 960) }

pub returns-then-key : goal.returns-then-key
unfolding short_try general_try short_key general_key
returns-then-key c = record { answer = sym (ap (λ (k : ℕ). octet_or_none (short_octet k)) c.if-key.true ∙ short-said 962) }

pub returns : goal.returns
returns c = record {
  answer =
      c.checked.ensures
      ∙ ap₂ (λ (o said : ℕ). cond (eqb said c.args.key) (Some o) None) c.short_try-octet.ensures (c.short_key.ensures.answer ∙ ap short_key c.short_try-octet.ensures)
      ∙ sym (short-said c.args.key);
}
