-- What is passed are digits, the number is theirs, and each turn puts one more below them.
use Prim.Native.Nat.{ℕ}
use mathlib.Core.Path.{◌≡◌}
use mathlib.Core.List.{List}
use native.Mathlib.Omega.{arith}
use lib.ListN.{get_or}
use Rattle.typed.specs.Spelling.{digit_of}
use Rattle.typed.proofs.Spelling.{digit-is, reading-none, reading-more}
use borrow.Author.Rules.{rules}
use Rattle.typed.proofs.number_of.Goals as goal

pub loop-c-init : goal.loop-c-init
loop-c-init c = reading-none c.args.base c.args.digits.now

pub loop-c-preserved : goal.loop-c-preserved
loop-c-preserved c =
    let s : List ℕ = c.args.digits.now in
    let i : ℕ = c.loop-c.c-index in
    let base : c.from.result ≡ c.args.base = search rules in
    let digit : c.from-in-loop-c.result ≡ c.in_ok-d.d = search rules in
    let value : digit_of (get_or s i 0) ≡ c.in_ok-d.d = digit-is _ _ (search rules) in
    rw (base, digit) (reading-more c.args.base s i c.loop-c.v c.in_ok-d.d c.loop-c.invariant (omega arith) (omega arith) value (omega arith))
