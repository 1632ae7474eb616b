-- What a reading settles decides the calls with parts: behind 8, 1, 2 there is a text by itself, under a coding octet. Assumes nothing.
--   counts-text, counts-refused   counting parts, where a text is settled and where none is
--   part-text, part-refused       writing one part
--   parts-text, parts-refused     writing all parts
use mathlib.Core.Path.{◌≡◌, refl, ap, ap₂, ◌∙◌, sym}
use mathlib.Core.Bool.{Bool, ◌||◌}
use mathlib.Core.List.{List, [], ◌∷◌, ◌++◌}
use Prim.Native.Nat.{ℕ}
use lib.Dec.{ltb}
use lib.ListN.{length}
use Rattle.words.specs.declared.Service.TheVariants.{ShortMessage}
use Rattle.words.specs.declared.Refusal.{Refusal}
use Rattle.words.specs.declared.Refusal.TheVariants.{NoRoom, WrongPages}
use Rattle.words.specs.Judging.{Rule, when, Verdict, refused, accepted, verdict, settle}
use Rattle.lists.specs.Lists.{laid}
use Rattle.filling.specs.Numbered.{lacks}
use Rattle.coding.specs.declared.Reading.{Reading}
use Rattle.coding.specs.OctetWritten.{smallest}
use Rattle.coding.specs.Holding.{is_ucs2}
use Rattle.parted.specs.declared.PartWritten.{PartWritten}
use Rattle.parted.specs.declared.PartsWritten.{PartsWritten}
use Rattle.parted.specs.Parts.{is_marked, parts_of}
use Rattle.parted.specs.Cutting.{plan_of, planned_as}
use Rattle.parted.specs.Written.{reading_parts, octets_as, count_as, octets_of_all, sizes_of_all, size_rules, count_rules, count_answers, part_rules, part_answers, part_leaves, all_rules, all_answers, all_leaves, sizes_leaves}
use Rattle.parted.specs.Inner.{counted_as, text_part, text_part_leaves, text_parts, text_parts_leaves, text_sizes_leaves}
use Rattle.writer.specs.declared.TextCoding.{TextCoding}
use Rattle.writer.specs.Settled.{settled_as}
use Rattle.writer.proofs.Chosen.{front-behind, chosen}
use Rattle.std.specs.Prelude.{Result, Ok, Err}
use Rattle.parted.specs.Successes.{ok_parts_written}
use Rattle.parted.specs.Successes.{ok_part_written}

module _ (r : Reading) (units : List ℕ) where
  -- the count of a plan is that of the parts
  counted-plan : (ucs2 : Bool) (v : Verdict) → counted_as (settle v Err (Ok (plan_of ucs2 units))) ≡ settle v Err (Ok (parts_of ucs2 units))
  counted-plan ucs2 accepted = refl
  counted-plan ucs2 (refused q) = refl

  abbrev sizes : List Rule
  sizes = size_rules (is_ucs2 r.alphabet) units

  -- the answers, at a verdict
  abbrev count_at : Verdict → Result ℕ Refusal
  count_at v = settle v Err (Ok (reading_parts r units))

  abbrev part_at : ℕ → ℕ → Verdict → Result PartWritten Refusal
  part_at reference k v =
      settle v Err (ok_part_written (length (octets_as r reference units k)) (count_as r reference units k) (is_marked (reading_parts r units)) (smallest ShortMessage r) (reading_parts r units))

  abbrev parts_at : ℕ → Verdict → Result PartsWritten Refusal
  parts_at reference v = settle v Err (ok_parts_written (length (octets_of_all r reference units)) (is_marked (reading_parts r units)) (smallest ShortMessage r) (reading_parts r units))

  -- what stands behind the count's rules
  abbrev part_behind : ℕ → ℕ → ℕ → List Rule
  part_behind reference k room = when (lacks (reading_parts r units) k) WrongPages ∷ when (ltb room (length (octets_as r reference units k))) NoRoom ∷ []

  abbrev all_behind : ℕ → ℕ → ℕ → List Rule
  all_behind reference room list = when (ltb room (length (octets_of_all r reference units)) || ltb list (length (sizes_of_all r reference units))) NoRoom ∷ []

  module _ (c : TextCoding) (e : Ok c ≡ settled_as ShortMessage r) where
    behind : (x : List Rule) → verdict (count_rules r units ++ x) ≡ verdict (sizes ++ x)
    unfolding count_rules
    behind x = front-behind ShortMessage r sizes x ∙ (chosen ShortMessage r (Ok c) e).0 (sizes ++ x)

    pub counts-text : counted_as (planned_as c.ucs2 units) ≡ count_answers r units
    unfolding count_answers count_rules planned_as
    counts-text =
        let ch = chosen ShortMessage r (Ok c) e in
        sym (ap count_at (ch.0 sizes) ∙ sym (counted-plan (is_ucs2 r.alphabet) (verdict sizes)) ∙ ap (λ (b : Bool). counted_as (planned_as b units)) ch.2)

    pub part-text : (reference k : ℕ) (out : List ℕ)
        → (text_part c.ucs2 c.octet reference units k (length out) ≡ part_answers r reference units k (length out)) × (text_part_leaves c.ucs2 reference units k out ≡ part_leaves r reference units k out)
    unfolding part_answers part_leaves part_rules text_part text_part_leaves
    part-text reference k out =
        let ch = chosen ShortMessage r (Ok c) e in
        let v = behind (part_behind reference k (length out)) in (
          sym (ap (part_at reference k) v ∙ ap₂ (λ (b : Bool) (o : ℕ). text_part b o reference units k (length out)) ch.2 ch.1),
          sym (ap (λ (v : Verdict). settle v (λ q. out) (laid (octets_as r reference units k) out)) v ∙ ap (λ (b : Bool). text_part_leaves b reference units k out) ch.2),
        )

    pub parts-text : (reference : ℕ) (out list : List ℕ)
        → (text_parts c.ucs2 c.octet reference units (length out) (length list) ≡ all_answers r reference units (length out) (length list))
        × ((text_parts_leaves c.ucs2 reference units (length list) out ≡ all_leaves r reference units (length list) out)
        × (text_sizes_leaves c.ucs2 reference units (length out) list ≡ sizes_leaves r reference units (length out) list))
    unfolding all_answers all_leaves sizes_leaves all_rules text_parts text_parts_leaves text_sizes_leaves
    parts-text reference out list =
        let ch = chosen ShortMessage r (Ok c) e in
        let v = behind (all_behind reference (length out) (length list)) in (
          sym (ap (parts_at reference) v ∙ ap₂ (λ (b : Bool) (o : ℕ). text_parts b o reference units (length out) (length list)) ch.2 ch.1),
          (
            sym (ap (λ (v : Verdict). settle v (λ q. out) (laid (octets_of_all r reference units) out)) v ∙ ap (λ (b : Bool). text_parts_leaves b reference units (length list) out) ch.2),
            sym (ap (λ (v : Verdict). settle v (λ q. list) (laid (sizes_of_all r reference units) list)) v ∙ ap (λ (b : Bool). text_sizes_leaves b reference units (length out) list) ch.2),
          ),
        )

  module _ (q : Refusal) (e : Err q ≡ settled_as ShortMessage r) where
    stopped : (x : List Rule) → verdict (count_rules r units ++ x) ≡ refused q
    unfolding count_rules
    stopped x = front-behind ShortMessage r sizes x ∙ chosen ShortMessage r (Err q) e (sizes ++ x)

    pub counts-refused : Err q ≡ count_answers r units
    unfolding count_answers count_rules
    counts-refused = sym (ap count_at (chosen ShortMessage r (Err q) e sizes))

    pub part-refused : (reference k : ℕ) (out : List ℕ) → (Err q ≡ part_answers r reference units k (length out)) × (out ≡ part_leaves r reference units k out)
    unfolding part_answers part_leaves part_rules
    part-refused reference k out =
        let v = stopped (part_behind reference k (length out)) in
        (sym (ap (part_at reference k) v), sym (ap (λ (v : Verdict). settle v (λ q. out) (laid (octets_as r reference units k) out)) v))

    pub parts-refused : (reference : ℕ) (out list : List ℕ)
        → (Err q ≡ all_answers r reference units (length out) (length list)) × ((out ≡ all_leaves r reference units (length list) out) × (list ≡ sizes_leaves r reference units (length out) list))
    unfolding all_answers all_leaves sizes_leaves all_rules
    parts-refused reference out list =
        let v = stopped (all_behind reference (length out) (length list)) in (
          sym (ap (parts_at reference) v),
          (
            sym (ap (λ (v : Verdict). settle v (λ q. out) (laid (octets_of_all r reference units) out)) v),
            sym (ap (λ (v : Verdict). settle v (λ q. list) (laid (sizes_of_all r reference units) list)) v),
          ),
        )
