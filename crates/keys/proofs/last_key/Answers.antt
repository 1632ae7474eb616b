-- `last_key` meets its contract: its test is the definition's, and the sum is the same. Assumes nothing.
use Rattle.keys.specs.Keys.{last_key}
use native.Mathlib.Omega.{arith}
use borrow.Author.Tests.{eq-eqb, ne_eqb}
use Rattle.keys.proofs.last_key.Goals as goal

pub returns-then-octet-eq1 : goal.returns-then-octet-eq1
unfolding last_key
returns-then-octet-eq1 c = record { answer = simp (eq-eqb _ _ c.if-octet-eq1.true) }

pub returns : goal.returns
unfolding last_key
returns c = record { answer = simp (ne_eqb _ _ c.if-octet-eq1.false) (omega arith) }
