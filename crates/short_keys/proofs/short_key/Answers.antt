-- `short_key` meets its contract: the bounds of each branch decide the definition's line. Assumes nothing.
use Rattle.keys.specs.Keys.{short_key}
use native.Mathlib.Omega.{arith}
use borrow.Author.Tests.{lt-ltb, le-ltb}
use Rattle.short_keys.proofs.short_key.Goals as goal

pub returns-then-octet-lt64 : goal.returns-then-octet-lt64
unfolding short_key
returns-then-octet-lt64 c = record { answer = let o = c.args.octet in simp (lt-ltb o 0x40 (omega arith), c.general_key.ensures.answer) }

pub returns-then-octet-lt128 : goal.returns-then-octet-lt128
unfolding short_key
returns-then-octet-lt128 c = record { answer = let o = c.args.octet in simp (le-ltb o 0x40 (omega arith), lt-ltb o 0x80 (omega arith), c.general_key-then-octet-lt128.ensures.answer) }

pub returns-then-octet-lt192 : goal.returns-then-octet-lt192
unfolding short_key
returns-then-octet-lt192 c = record { answer = let o = c.args.octet in simp (le-ltb o 0x40 (omega arith), le-ltb o 0x80 (omega arith), lt-ltb o 0xc0 (omega arith)) }

pub returns-then-octet-lt208 : goal.returns-then-octet-lt208
unfolding short_key
returns-then-octet-lt208 c = record { answer = let o = c.args.octet in simp (le-ltb o 0x40 (omega arith), le-ltb o 0x80 (omega arith), le-ltb o 0xc0 (omega arith), lt-ltb o 0xd0 (omega arith), c.notice_key.ensures) }

pub returns-then-octet-lt224 : goal.returns-then-octet-lt224
unfolding short_key
returns-then-octet-lt224 c = record { answer = let o = c.args.octet in simp (le-ltb o 0x40 (omega arith), le-ltb o 0x80 (omega arith), le-ltb o 0xc0 (omega arith), le-ltb o 0xd0 (omega arith), lt-ltb o 0xe0 (omega arith), c.notice_key-then-octet-lt224.ensures) }

pub returns-then-octet-lt240 : goal.returns-then-octet-lt240
unfolding short_key
returns-then-octet-lt240 c = record { answer = let o = c.args.octet in simp (le-ltb o 0x40 (omega arith), le-ltb o 0x80 (omega arith), le-ltb o 0xc0 (omega arith), le-ltb o 0xd0 (omega arith), le-ltb o 0xe0 (omega arith), lt-ltb o 0xf0 (omega arith), c.notice_key-then-octet-lt240.ensures) }

pub returns : goal.returns
unfolding short_key
returns c = record { answer = let o = c.args.octet in simp (le-ltb o 0x40 (omega arith), le-ltb o 0x80 (omega arith), le-ltb o 0xc0 (omega arith), le-ltb o 0xd0 (omega arith), le-ltb o 0xe0 (omega arith), le-ltb o 0xf0 (omega arith), c.last_key.ensures.answer) }
