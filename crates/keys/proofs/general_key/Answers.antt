-- `general_key` meets its contract: its tests are the definition's, and the sum is the same. Assumes nothing.
use Rattle.keys.specs.Keys.{general_key}
use native.Mathlib.Omega.{arith}
use borrow.Author.Tests.{eq-eqb, ne_eqb}
use Rattle.keys.proofs.general_key.Goals as goal

pub returns-then-alphabet-eq3 : goal.returns-then-alphabet-eq3
unfolding general_key
returns-then-alphabet-eq3 c = record { answer = simp (eq-eqb _ _ c.if-alphabet-eq3.true) }

pub returns-then-octet-eq1 : goal.returns-then-octet-eq1
unfolding general_key
returns-then-octet-eq1 c = record { answer = simp (ne_eqb _ _ c.if-alphabet-eq3.false, eq-eqb _ _ c.if-octet-eq1.true) (omega arith) }

pub returns-else-octet-eq1 : goal.returns-else-octet-eq1
unfolding general_key
returns-else-octet-eq1 c = record { answer = simp (ne_eqb _ _ c.if-alphabet-eq3.false, ne_eqb _ _ c.if-octet-eq1.false) (omega arith) }
