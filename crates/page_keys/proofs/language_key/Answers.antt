-- `language_key` meets its contract: the bounds of each branch decide the definition's line. Assumes nothing.
use Rattle.keys.specs.Keys.{language_key}
use native.Mathlib.Omega.{arith}
use borrow.Author.Tests.{eq-eqb, ne_eqb, lt-ltb, le-ltb}
use Rattle.page_keys.proofs.language_key.Goals as goal

pub returns-then-octet-lt16 : goal.returns-then-octet-lt16
unfolding language_key
returns-then-octet-lt16 c = let o = c.args.octet in simp (lt-ltb o 0x10 (omega arith)) (omega arith)

pub returns-then-octet-eq16 : goal.returns-then-octet-eq16
unfolding language_key
returns-then-octet-eq16 c = let o = c.args.octet in simp (le-ltb o 0x10 (omega arith), eq-eqb o 0x10 (omega arith))

pub returns-then-octet-eq17 : goal.returns-then-octet-eq17
unfolding language_key
returns-then-octet-eq17 c = let o = c.args.octet in simp (le-ltb o 0x10 (omega arith), ne_eqb o 0x10 (omega arith), eq-eqb o 0x11 (omega arith))

pub returns-then-octet-lt32 : goal.returns-then-octet-lt32
unfolding language_key
returns-then-octet-lt32 c = let o = c.args.octet in simp (le-ltb o 0x10 (omega arith), ne_eqb o 0x10 (omega arith), ne_eqb o 0x11 (omega arith), lt-ltb o 0x20 (omega arith))

pub returns-then-octet-lt37 : goal.returns-then-octet-lt37
unfolding language_key
returns-then-octet-lt37 c = let o = c.args.octet in simp (le-ltb o 0x10 (omega arith), ne_eqb o 0x10 (omega arith), ne_eqb o 0x11 (omega arith), le-ltb o 0x20 (omega arith), lt-ltb o 0x25 (omega arith)) (omega arith)

pub returns : goal.returns
unfolding language_key
returns c = let o = c.args.octet in simp (le-ltb o 0x10 (omega arith), ne_eqb o 0x10 (omega arith), ne_eqb o 0x11 (omega arith), le-ltb o 0x20 (omega arith), le-ltb o 0x25 (omega arith))
