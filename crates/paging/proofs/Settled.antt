-- What a reading settles decides the calls with pages: behind 8, 1, 2, 3 there is a text by itself, under a coding octet. Assumes nothing.
--   counts-text, counts-refused   counting pages, where a text is settled and where none is
--   builds-text, builds-refused   building a page
--   writes-text, writes-refused   writing all pages
use mathlib.Core.Path.{◌≡◌, ap, ap₂, ◌∙◌, sym}
use mathlib.Core.Bool.{Bool}
use mathlib.Core.List.{List, [], ◌∷◌, ◌++◌}
use Prim.Native.Nat.{ℕ}
use lib.Dec.{ltb}
use lib.ListN.{length}
use Rattle.words.specs.declared.Service.TheVariants.{Broadcast}
use Rattle.words.specs.declared.Refusal.{Refusal}
use Rattle.words.specs.declared.Refusal.TheVariants.{NoRoom, WrongPages}
use Rattle.words.specs.Judging.{Rule, when, Verdict, refused, verdict, settle}
use Rattle.lists.specs.Lists.{laid}
use Rattle.filling.specs.Numbered.{lacks}
use Rattle.coding.specs.declared.Reading.{Reading}
use Rattle.coding.specs.Holding.{is_ucs2}
use Rattle.pages.specs.Written.{block_as, blocks_as, reading_pages, size_rules, count_rules, count_answers, build_rules, build_answers, pages_rules, pages_answers, pages_leaves}
use Rattle.pages.specs.Inner.{sized_as, text_builds, text_pages, text_pages_leaves}
use Rattle.writer.specs.declared.TextCoding.{TextCoding}
use Rattle.writer.specs.Settled.{settled_as}
use Rattle.writer.proofs.Chosen.{front, front-behind, chosen}
use Rattle.std.specs.Prelude.{Ok, Err}
use Rattle.pages.specs.Successes.{ok_page, ok_pages_written}

-- rules behind the count's
behind : (r : Reading) (units : List ℕ) (x : List Rule) → verdict (count_rules r units ++ x) ≡ front Broadcast r (size_rules (is_ucs2 r.alphabet) units ++ x)
unfolding count_rules
behind r units x = front-behind Broadcast r (size_rules (is_ucs2 r.alphabet) units) x

module _ (r : Reading) (units : List ℕ) where
  module _ (c : TextCoding) (e : Ok c ≡ settled_as Broadcast r) where
    pub counts-text : sized_as c.ucs2 units ≡ count_answers r units
    unfolding count_answers count_rules sized_as
    counts-text =
        let ch = chosen Broadcast r (Ok c) e in
        sym (ap (λ (v : Verdict). settle v Err (Ok (reading_pages r units))) (ch.0 (size_rules (is_ucs2 r.alphabet) units))
        ∙ ap (λ (b : Bool). sized_as b units) ch.2)

    pub builds-text : (sequence identifier k : ℕ) → text_builds sequence identifier c.octet c.ucs2 units k ≡ build_answers sequence identifier r units k
    unfolding build_answers build_rules block_as text_builds
    builds-text sequence identifier k =
        let ch = chosen Broadcast r (Ok c) e in
        let x : List Rule = when (lacks (reading_pages r units) k) WrongPages ∷ [] in
        let v : verdict (count_rules r units ++ x) ≡ verdict (size_rules (is_ucs2 r.alphabet) units ++ x) = behind r units x ∙ ch.0 (size_rules (is_ucs2 r.alphabet) units ++ x) in
        sym (ap (λ (v : Verdict). settle v Err (ok_page (block_as sequence identifier r units k) (reading_pages r units))) v ∙ ap₂ (λ (o : ℕ) (b : Bool). text_builds sequence identifier o b units k) ch.1 ch.2)

    pub writes-text : (sequence identifier : ℕ) (out : List ℕ)
        → (text_pages sequence identifier c.octet c.ucs2 units (length out) ≡ pages_answers sequence identifier r units (length out))
        × (text_pages_leaves sequence identifier c.octet c.ucs2 units out ≡ pages_leaves sequence identifier r units out)
    unfolding pages_answers pages_leaves pages_rules blocks_as text_pages text_pages_leaves
    writes-text sequence identifier out =
        let ch = chosen Broadcast r (Ok c) e in
        let b : List ℕ = blocks_as sequence identifier r units in
        let x : List Rule = when (ltb (length out) (length b)) NoRoom ∷ [] in
        let v : verdict (count_rules r units ++ x) ≡ verdict (size_rules (is_ucs2 r.alphabet) units ++ x) = behind r units x ∙ ch.0 (size_rules (is_ucs2 r.alphabet) units ++ x) in (
          sym (ap (λ (v : Verdict). settle v Err (ok_pages_written (length b) (reading_pages r units))) v ∙ ap₂ (λ (o : ℕ) (u : Bool). text_pages sequence identifier o u units (length out)) ch.1 ch.2),
          sym (ap (λ (v : Verdict). settle v (λ q. out) (laid b out)) v ∙ ap₂ (λ (o : ℕ) (u : Bool). text_pages_leaves sequence identifier o u units out) ch.1 ch.2),
        )

  module _ (q : Refusal) (e : Err q ≡ settled_as Broadcast r) where
    pub counts-refused : Err q ≡ count_answers r units
    unfolding count_answers count_rules
    counts-refused = sym (ap (λ (v : Verdict). settle v Err (Ok (reading_pages r units))) (chosen Broadcast r (Err q) e (size_rules (is_ucs2 r.alphabet) units)))

    pub builds-refused : (sequence identifier k : ℕ) → Err q ≡ build_answers sequence identifier r units k
    unfolding build_answers build_rules
    builds-refused sequence identifier k =
        let x : List Rule = when (lacks (reading_pages r units) k) WrongPages ∷ [] in
        let v : verdict (count_rules r units ++ x) ≡ refused q = behind r units x ∙ chosen Broadcast r (Err q) e (size_rules (is_ucs2 r.alphabet) units ++ x) in
        sym (simp v)

    pub writes-refused : (sequence identifier : ℕ) (out : List ℕ)
        → (Err q ≡ pages_answers sequence identifier r units (length out)) × (out ≡ pages_leaves sequence identifier r units out)
    unfolding pages_answers pages_leaves pages_rules
    writes-refused sequence identifier out =
        let x : List Rule = when (ltb (length out) (length (blocks_as sequence identifier r units))) NoRoom ∷ [] in
        let v : verdict (count_rules r units ++ x) ≡ refused q = behind r units x ∙ chosen Broadcast r (Err q) e (size_rules (is_ucs2 r.alphabet) units ++ x) in
        (sym (simp v), sym (simp v))
