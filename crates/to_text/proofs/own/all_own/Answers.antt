-- `to_text::own::all_own` meets its contract: the fold is the test of them all.
-- Assumes nothing.
use mathlib.Core.Path.{◌∙◌}
use mathlib.Core.Bool.{Bool, true, ◌&&◌}
use Prim.Native.Nat.{ℕ}
use borrow.Author.Rules.{rules}
use Rattle.std.proofs.lemmas.Iterator.{YieldsList-from_slice}
use Rattle.std.proofs.lemmas.Iterator.Consumers.{fold_from_yields_List}
use Rattle.letters.specs.OwnCodes.{is_own_code}
use Rattle.letters.proofs.OwnCodes.{own-fold}
use Rattle.to_text.proofs.own.all_own.Goals as goal

pub returns : goal.returns
returns c =
    fold_from_yields_List _ (λ (own : Bool) (u : ℕ). own && is_own_code u) true c.fold.result c.fold.ensures.ran (YieldsList-from_slice c.args.septets.now cc) (λ a x b q k. search rules)
    ∙ own-fold c.args.septets.now true
