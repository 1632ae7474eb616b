-- `wide::first_wide` meets its contract: where no bit above the seventh is set every septet is below 128; else the library finds the first that is not.
-- Assumes nothing.
use Prim.Native.Nat.{ℕ}
use mathlib.Core.Path.{◌≡◌, sym, ap, ◌∙◌}
use mathlib.Core.List.{List}
use native.Mathlib.Omega.{arith}
use borrow.Author.Rules.{rules}
use borrow.Author.Tests.{lt-leb, tests}
use lib.Dec.{leb}
use lib.ListN.{length, get_or}
use Rattle.std.specs.List.{position}
use Rattle.std.specs.Option.{unwrap_or}
use Rattle.std.proofs.lemmas.Iterator.{YieldsList-from_slice}
use Rattle.std.proofs.lemmas.Iterator.Search.{position_from_yields_List}
use Rattle.lists.proofs.Places.{place_none, place-position}
use Rattle.wide.proofs.Gathered.{bits-most}
use Rattle.wide.proofs.first_wide.Goals as goal

pub returns-then-all_bits-lt128 : goal.returns-then-all_bits-lt128
returns-then-all_bits-lt128 c =
    let s : List ℕ = c.args.septets.now in
    record { answer = sym (place_none (leb 128) s (λ k l. lt-leb 128 (get_or s k 0) (omega (arith, bits-most 0 s k l, c.all_bits.ensures.answer)))) }

pub returns : goal.returns
returns c =
    let s : List ℕ = c.args.septets.now in
    let found : c.position.result ≡ position (leb 128) s =
    position_from_yields_List (leb 128) _ _ c.position.result c.position.ensures.ran (YieldsList-from_slice s cc) (λ x b q k. search (rules, tests)) in
    record { answer = c.unwrap_or.ensures ∙ ap (λ (r : _). unwrap_or r (length s)) found ∙ place-position (leb 128) s }
