-- `to_septets::own_text` meets its contract: the blocks of 64 are judged one by one, and then what is left.
-- Assumes nothing.
use mathlib.Core.Path.{◌≡◌, ap, ap₂, sym, ◌∙◌}
use mathlib.Core.Bool.{Bool, ◌&&◌}
use mathlib.Core.List.{List}
use Prim.Native.Nat.{ℕ, ◌*◌, ◌/◌}
use native.Mathlib.Omega.{arith}
use lib.ListN.{length, drop}
use borrow.Author.Rules.{rules}
use Rattle.std.proofs.lemmas.Iterator.{YieldsList-from_slice}
use Rattle.std.proofs.lemmas.Iterator.Search.{all_from_yields_List}
use Rattle.std.specs.List.{list_all}
use Rattle.std.specs.Simd.{first_chunks}
use Rattle.letters.specs.OwnCodes.{own_text}
use Rattle.letters.proofs.OwnTexts.{own-blocks}
use Rattle.to_septets.proofs.own_text.Goals as goal

-- what the blocks and the rest tell
both : (t : List ℕ) (blocks : List (List ℕ)) (rest : List ℕ) → blocks ≡ first_chunks 64 (length t / 64) t → rest ≡ drop (length t / 64 * 64) t → own_text t ≡ (list_all own_text blocks && own_text rest)
both t blocks rest e f =
    own-blocks 64 (length t / 64) t (omega arith)
    ∙ ap₂ (λ (a : List (List ℕ)) (b : List ℕ). list_all own_text a && own_text b) (sym e) (ap (λ (i : ℕ). drop i t) (omega arith) ∙ sym f)

pub returns-then-all : goal.returns-then-all
returns-then-all c =
    let blocks = c.as_chunks.result.0.now in
    let rest = c.as_chunks.result.1.now in
    let judged : c.all.result ≡ list_all own_text blocks = all_from_yields_List own_text _ _ c.all.result c.all.ensures.ran (YieldsList-from_slice blocks cc) (λ x b q k. search rules) in
    c.all_own.ensures
    ∙ ap (λ (b : Bool). b && own_text rest) (sym c.if-all.true ∙ judged)
    ∙ sym (both c.args.text.now blocks rest c.as_chunks.ensures.front c.as_chunks.ensures.back)

pub returns-else-all : goal.returns-else-all
returns-else-all c =
    let blocks = c.as_chunks.result.0.now in
    let rest = c.as_chunks.result.1.now in
    let judged : c.all.result ≡ list_all own_text blocks = all_from_yields_List own_text _ _ c.all.result c.all.ensures.ran (YieldsList-from_slice blocks cc) (λ x b q k. search rules) in
    c.if-all.false
    ∙ ap (λ (b : Bool). b && own_text rest) (sym c.if-all.false ∙ judged)
    ∙ sym (both c.args.text.now blocks rest c.as_chunks.ensures.front c.as_chunks.ensures.back)
