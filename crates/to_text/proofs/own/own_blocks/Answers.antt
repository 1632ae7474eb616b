-- `to_text::own::own_blocks` meets its contract: the blocks before the first that is not of its own units, or all of them.
-- Assumes nothing.
use mathlib.Core.Path.{◌≡◌, ap, sym, ◌∙◌}
use mathlib.Core.Bool.{true}
use mathlib.Core.List.{List, []}
use Prim.Native.Nat.{ℕ, ◌*◌, ◌/◌, ◌<◌, ◌≤◌}
use native.Mathlib.Omega.{arith}
use lib.ListN.{length, get_or}
use borrow.Author.Rules.{rules}
use Rattle.std.specs.Simd.{first_chunks}
use Rattle.letters.specs.OwnCodes.{own_text}
use Rattle.letters.specs.Inner.{OwnFrom}
use Rattle.letters.proofs.OwnCodes.{own-chunks}
use Rattle.to_text.proofs.own.own_blocks.Goals as goal

-- the first m blocks of 32
front : (s : List ℕ) (blocks : List (List ℕ)) (m : ℕ) → blocks ≡ first_chunks 32 (length s / 32) s → m ≤ length s / 32 → ((j : ℕ) → j < m → own_text (get_or blocks j []) ≡ true)
    → (32 * m ≤ length s) × OwnFrom s 0 (32 * m)
front s blocks m e few all =
    (omega arith, own-chunks 32 (length s / 32) m s (omega arith) few (λ j h. ap (λ (l : List (List ℕ)). own_text (get_or l j [])) (sym e) ∙ all j h))

pub returns-in-Some : goal.returns-in-Some
returns-in-Some c =
    let blocks : List (List ℕ) = c.as_chunks.result.0.now in
    let within : c.in-Some.k < length blocks = search rules in
    front c.args.septets.now blocks c.in-Some.k c.as_chunks.ensures.front (omega (arith, within, c.as_chunks.ensures.front_len)) (search rules)

pub returns-in-None : goal.returns-in-None
returns-in-None c =
    let blocks : List (List ℕ) = c.as_chunks.result.0.now in
    front c.args.septets.now blocks (length blocks) c.as_chunks.ensures.front (omega (arith, c.as_chunks.ensures.front_len)) (search rules)
