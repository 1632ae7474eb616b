-- `header_key` meets its contract: its test is the definition's, and the sum fits. Assumes nothing.
use Rattle.keys.specs.Keys.{reserved_key, header_key}
use Rattle.page_keys.proofs.Below.{general-below}
use Prim.Native.Nat.{ℕ, ◌+◌, ◌<◌}
use mathlib.Core.Bool.{cond}
use mathlib.Core.Path.{ap, sym, subst, ◌∙◌}
use lib.Dec.{eqb}
use native.Mathlib.Omega.{arith}
use borrow.Author.Tests.{ne_eqb}
use Rattle.page_keys.proofs.header_key.Goals as goal

-- a key of group 01xx with the header mark, where it is not reserved
abbrev marked : ℕ → ℕ
marked k = cond (eqb k reserved_key) reserved_key (k + 2097152)

pub returns-then-key-eq-UNKNOWN : goal.returns-then-key-eq-UNKNOWN
unfolding header_key
returns-then-key-eq-UNKNOWN c = sym (ap marked (sym c.general_key-key.ensures.answer ∙ c.if-key-eq-UNKNOWN.true))

pub overflow_add-result : goal.overflow_add-result
overflow_add-result c = let free = subst (λ (n : ℕ). n < 2097152) (sym c.general_key-key.ensures.answer) (general-below _) in
    omega (arith, free)

pub returns : goal.returns
unfolding header_key
returns c = sym (ap marked (sym c.general_key-key.ensures.answer) ∙ simp (ne_eqb _ _ c.if-key-eq-UNKNOWN.false))
