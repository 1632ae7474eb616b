-- `notice_key` meets its contract: its test is the definition's, and the sum is the same. Assumes nothing.
use Rattle.keys.specs.Keys.{notice_key}
use native.Mathlib.Omega.{arith}
use borrow.Author.Tests.{eq-eqb, ne_eqb}
use Rattle.short_keys.proofs.notice_key.Goals as goal

pub returns-then-octet-eq1 : goal.returns-then-octet-eq1
unfolding notice_key
returns-then-octet-eq1 c = simp (eq-eqb _ _ c.if-octet-eq1.true)

pub returns : goal.returns
unfolding notice_key
returns c = simp (ne_eqb _ _ c.if-octet-eq1.false) (omega arith)
