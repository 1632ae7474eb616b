-- `encode_part` meets its contract: the septets of the first units fill the run, or those of the other units behind them do. Assumes nothing.
use mathlib.Core.Path.{ap, ◌∙◌}
use mathlib.Core.List.{List}
use Prim.Native.Nat.{ℕ, ◌+◌, ◌-◌, ◌≤◌}
use native.Mathlib.Omega.{arith}
use lib.ListN.{length, take, drop}
use Rattle.letters.specs.Writing.{septets_of}
use Rattle.parted.proofs.WriteSteps.{laid_at}
use Rattle.parted.proofs.Halves.{first-told, first-laid, first-length, first-whole, rest-there, rest-laid}
use Rattle.parts.proofs.encode_part.Goals as goal

pub encode_run-requires : goal.encode_run-requires
encode_run-requires c = let a = c.args in
    let within : c.min-some.result ≤ length a.units.now - a.unit = omega (arith, c.min-some.ensures) in
    let told = first-told a.units.now a.unit c.min-some.result c.requires.0 c.encode-told.ensures.answer in
    let left = first-laid a.units.now a.septets.now a.unit a.at a.n c.min-some.result c.requires.2 c.requires.0 _ c.encode-told.ensures.buffer in
    let long = ap length left ∙ first-length a.units.now a.septets.now a.unit a.at a.n c.min-some.result c.requires.2 in
    let there = rest-there a.units.now a.unit c.min-some.result a.n c.requires.4 in
    (c.requires.0, omega (arith, within, c.requires.1), omega (arith, long, c.requires.2, c.if-done-n.true), omega (arith, long, c.requires.3), omega (arith, told, there))

pub returns-then-done-n : goal.returns-then-done-n
returns-then-done-n c = let a = c.args in
    let t : List ℕ = a.units.now in
    let done : ℕ = c.encode-told.result.septets in
    let told = first-told t a.unit c.min-some.result c.requires.0 c.encode-told.ensures.answer in
    let left = first-laid t a.septets.now a.unit a.at a.n c.min-some.result c.requires.2 c.requires.0 _ c.encode-told.ensures.buffer in
    c.encode_run.ensures
    ∙ ap (laid_at (a.at + done) (take (a.n - done) (septets_of (drop (a.unit + c.min-some.result) t)))) left
    ∙ rest-laid t a.septets.now a.unit a.at a.n c.min-some.result c.requires.2 done told c.if-done-n.true

pub returns-else-done-n : goal.returns-else-done-n
returns-else-done-n c = let a = c.args in
    let told = first-told a.units.now a.unit c.min-some.result c.requires.0 c.encode-told.ensures.answer in
    first-laid a.units.now a.septets.now a.unit a.at a.n c.min-some.result c.requires.2 c.requires.0 _ c.encode-told.ensures.buffer
    ∙ first-whole a.units.now a.septets.now a.unit a.at a.n c.min-some.result c.requires.2 (omega (arith, told, c.if-done-n.false))
