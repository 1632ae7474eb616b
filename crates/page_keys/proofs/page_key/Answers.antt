-- `page_key` meets its contract: the bounds of each branch decide the definition's line. Assumes nothing.
use Rattle.keys.specs.Keys.{page_key}
use native.Mathlib.Omega.{arith}
use borrow.Author.Tests.{lt-ltb, le-ltb}
use Rattle.page_keys.proofs.page_key.Goals as goal

pub returns-then-octet-lt64 : goal.returns-then-octet-lt64
unfolding page_key
returns-then-octet-lt64 c = record { answer = let o = c.args.octet in simp (lt-ltb o 0x40 (omega arith), c.language_key.ensures) }

pub returns-then-octet-lt128 : goal.returns-then-octet-lt128
unfolding page_key
returns-then-octet-lt128 c = record { answer = let o = c.args.octet in simp (le-ltb o 0x40 (omega arith), lt-ltb o 0x80 (omega arith), c.general_key.ensures.answer) }

pub returns-then-octet-lt144 : goal.returns-then-octet-lt144
unfolding page_key
returns-then-octet-lt144 c = record { answer = let o = c.args.octet in simp (le-ltb o 0x40 (omega arith), le-ltb o 0x80 (omega arith), lt-ltb o 0x90 (omega arith)) }

pub returns-then-octet-lt160 : goal.returns-then-octet-lt160
unfolding page_key
returns-then-octet-lt160 c = record { answer = let o = c.args.octet in simp (le-ltb o 0x40 (omega arith), le-ltb o 0x80 (omega arith), le-ltb o 0x90 (omega arith), lt-ltb o 0xa0 (omega arith), c.header_key.ensures) }

pub returns-then-octet-lt208 : goal.returns-then-octet-lt208
unfolding page_key
returns-then-octet-lt208 c = record { answer = let o = c.args.octet in simp (le-ltb o 0x40 (omega arith), le-ltb o 0x80 (omega arith), le-ltb o 0x90 (omega arith), le-ltb o 0xa0 (omega arith), lt-ltb o 0xd0 (omega arith)) }

pub returns-then-octet-lt224 : goal.returns-then-octet-lt224
unfolding page_key
returns-then-octet-lt224 c = record { answer = let o = c.args.octet in simp (le-ltb o 0x40 (omega arith), le-ltb o 0x80 (omega arith), le-ltb o 0x90 (omega arith), le-ltb o 0xa0 (omega arith), le-ltb o 0xd0 (omega arith), lt-ltb o 0xe0 (omega arith)) }

pub returns-then-octet-lt240 : goal.returns-then-octet-lt240
unfolding page_key
returns-then-octet-lt240 c = record { answer = let o = c.args.octet in simp (le-ltb o 0x40 (omega arith), le-ltb o 0x80 (omega arith), le-ltb o 0x90 (omega arith), le-ltb o 0xa0 (omega arith), le-ltb o 0xd0 (omega arith), le-ltb o 0xe0 (omega arith), lt-ltb o 0xf0 (omega arith)) }

pub returns : goal.returns
unfolding page_key
returns c = record { answer = let o = c.args.octet in simp (le-ltb o 0x40 (omega arith), le-ltb o 0x80 (omega arith), le-ltb o 0x90 (omega arith), le-ltb o 0xa0 (omega arith), le-ltb o 0xd0 (omega arith), le-ltb o 0xe0 (omega arith), le-ltb o 0xf0 (omega arith), c.last_key.ensures.answer) }
