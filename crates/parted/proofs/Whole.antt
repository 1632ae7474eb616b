-- The regulator's third question of whole messages, of the calls themselves: what several parts join into tells reference and text, and a lone part has no
-- header and is the text, so that octets, sizes and mark together tell all that a message was written from.
-- Assumes nothing.
--   parts-same-iff       two messages under one reading: equal octets, sizes and marks exactly when the texts are the same, and the references too unless
--                        the message is a lone one, which has none
--   mark-iff             the mark says whether there are several parts
--   lone-octets-same, lone-sizes-same   no reference stands in a lone message
use mathlib.Core.Path.{◌≡◌, refl, ap, ap₂, ◌∙◌, sym, subst}
use mathlib.Core.Bool.{Bool, true, false}
use mathlib.Core.List.{List, ◌∷◌, ◌++◌}
use mathlib.Core.Logic.{◌↔◌, ◌⊎◌, inl, inr}
use Prim.Native.Nat.{ℕ, zero, suc, ◌<◌}
use native.Mathlib.Omega.{arith}
use lib.ListN.{length, replicate, length-replicate}
use borrow.Author.Tests.{ne_eqb, eqb-false, not-true}
use Rattle.coding.specs.declared.Reading.{Reading}
use Rattle.coding.specs.Holding.{is_ucs2}
use Rattle.parted.specs.Parts.{is_marked, part_content, headed_octets, headed_count, part_octets, part_count}
use Rattle.parted.specs.Written.{reading_parts, reading_content, all_octets, all_sizes, octets_of_all, sizes_of_all}
use Rattle.parted.specs.Reports.{part_number}
use Rattle.parted.specs.Messages.{SendsPart, sent_part, sent_count, sent_mark, SendsParts, sent_all, sent_sizes, sent_all_mark, sent_all_coding, sent_total, count_in, piece_in, counts_of, JoinsParts}
use Rattle.parted.proofs.Rooms.{parts-some}
use Rattle.parted.proofs.Parts.{header-none}
use Rattle.parted.proofs.Accepting.{write-accepts}
use Rattle.parted.proofs.Demands.{sent-octets, sent-count, sent-mark, lone-one-to-one}
use Rattle.parted.proofs.All.{all-writable, all-octets, all-sizes, all-mark, all-coding, all-total, all-at, part-most}
use Rattle.parted.proofs.Joining.{join-in-order, join-unique}

-- ---- a lone message has no reference

module _ (ucs2 : Bool) (i j total : ℕ) (s : List ℕ) (alone : is_marked total ≡ false) where
  same-header : (k : ℕ) → (part_octets ucs2 i total s k ≡ part_octets ucs2 j total s k) × (part_count ucs2 i total s k ≡ part_count ucs2 j total s k)
  unfolding part_octets part_count
  same-header k =
      let none = header-none i total k alone ∙ sym (header-none j total k alone) in
      (ap (λ (h : List ℕ). headed_octets ucs2 h (part_content ucs2 total s k)) none, ap (λ (h : List ℕ). headed_count ucs2 h (part_content ucs2 total s k)) none)

  pub lone-octets-same : (k n : ℕ) → all_octets ucs2 i total s k n ≡ all_octets ucs2 j total s k n
  unfolding all_octets
  lone-octets-same k zero = refl
  lone-octets-same k (suc n) = ap₂ (λ (a b : List ℕ). a ++ b) (same-header k).0 (lone-octets-same (suc k) n)

  pub lone-sizes-same : (k n : ℕ) → all_sizes ucs2 i total s k n ≡ all_sizes ucs2 j total s k n
  unfolding all_sizes
  lone-sizes-same k zero = refl
  lone-sizes-same k (suc n) =
      ap₂ (λ (c : ℕ) (o : List ℕ). c ∷ length o ∷ all_sizes ucs2 i total s (suc k) n) (same-header k).1 (same-header k).0
      ∙ ap (λ (l : List ℕ). part_count ucs2 j total s k ∷ length (part_octets ucs2 j total s k) ∷ l) (lone-sizes-same (suc k) n)

-- ---- the mark

module _ (r : Reading) (reference : ℕ) (t out list : List ℕ) (a : SendsParts r reference t out list) where
  pub mark-iff : (sent_all_mark r reference t out list ≡ true) ↔ (1 < sent_total r reference t out list)
  mark-iff = (
    λ m.
        let several : reading_parts r t ≡ 1 → ⊥ = eqb-false (reading_parts r t) 1 (not-true _ (sym (all-mark r reference t out list a) ∙ m)) in
        omega (arith, all-total r reference t out list a, parts-some (is_ucs2 r.alphabet) (length (reading_content r t))),
    λ h. all-mark r reference t out list a ∙ simp (ne_eqb (reading_parts r t) 1 (omega (arith, all-total r reference t out list a))),
  )

  -- part 1 as write_part sends it
  abbrev lent : List ℕ
  lent = replicate 140 0

  first-sent : SendsPart r reference t 1 (replicate 140 0)
  first-sent =
      ap part_number
      (write-accepts r reference t 1 lent
      record {
        writable = all-writable r reference t out list a;
        some = omega arith;
        most = parts-some (is_ucs2 r.alphabet) (length (reading_content r t));
        fits = omega (arith, part-most r t reference 1, length-replicate {A = ℕ} 140 0);
      }).0

  first-octets : sent_part r reference t 1 (replicate 140 0) ≡ piece_in (sent_sizes r reference t out list) (sent_all r reference t out list) 0
  first-octets =
      sent-octets r reference t 1 lent first-sent ∙ sym (all-at r reference t out list a 0 (parts-some (is_ucs2 r.alphabet) (length (reading_content r t)))).2

  first_count : sent_count r reference t 1 (replicate 140 0) ≡ count_in (sent_sizes r reference t out list) 0
  first_count =
      sent-count r reference t 1 lent first-sent ∙ sym (all-at r reference t out list a 0 (parts-some (is_ucs2 r.alphabet) (length (reading_content r t)))).0

  first-mark : sent_mark r reference t 1 (replicate 140 0) ≡ sent_all_mark r reference t out list
  first-mark = sent-mark r reference t 1 lent first-sent ∙ sym (all-mark r reference t out list a)

-- ---- demand 3

module _ (r : Reading) (i : ℕ) (t out list : List ℕ) (j : ℕ) (u lent beside : List ℕ) (a : SendsParts r i t out list) (b : SendsParts r j u lent beside) where
  abbrev Same : Type 0
  Same = (sent_all r i t out list ≡ sent_all r j u lent beside) × (sent_sizes r i t out list ≡ sent_sizes r j u lent beside) × (sent_all_mark r i t out list ≡ sent_all_mark r j u lent beside)

  -- several parts join into both
  several-told : sent_all_mark r i t out list ≡ true → Same → (t ≡ u) × (i ≡ j)
  several-told m (e, z, k) =
      let x = join-in-order r i t out list a ((mark-iff r i t out list a).0 m) in
      let y = join-in-order r j u lent beside b ((mark-iff r j u lent beside b).0 (sym k ∙ m)) in
      let coding : sent_all_coding r j u lent beside ≡ sent_all_coding r i t out list = all-coding r j u lent beside b ∙ sym (all-coding r i t out list a) in
      let v = join-unique (sent_all_coding r i t out list) (counts_of (sent_sizes r i t out list)) (sent_all r i t out list) r r i j (sent_total r i t out list) (sent_total r j u lent beside) t u x
      (subst (λ (d : ℕ). JoinsParts d (counts_of (sent_sizes r i t out list)) (sent_all r i t out list) r j (sent_total r j u lent beside) u) coding
      (subst (λ (s : List ℕ). JoinsParts (sent_all_coding r j u lent beside) (counts_of s) (sent_all r i t out list) r j (sent_total r j u lent beside) u) (sym z)
      (subst (λ (o : List ℕ). JoinsParts (sent_all_coding r j u lent beside) (counts_of (sent_sizes r j u lent beside)) o r j (sent_total r j u lent beside) u) (sym e) y))) in
      (v.3, v.1)

  -- a lone part is the message
  lone-told : sent_all_mark r i t out list ≡ false → Same → t ≡ u
  lone-told m (e, z, k) =
      lone-one-to-one r i t 1 (replicate 140 0) j u 1 (replicate 140 0) (first-sent r i t out list a) (first-sent r j u lent beside b)
      (first-mark r i t out list a ∙ m)
      (first-mark r j u lent beside b ∙ sym k ∙ m)
      (first-octets r i t out list a ∙ ap₂ (λ (s o : List ℕ). piece_in s o 0) z e ∙ sym (first-octets r j u lent beside b))
      (first_count r i t out list a ∙ ap (λ (s : List ℕ). count_in s 0) z ∙ sym (first_count r j u lent beside b))

  -- the same text under another reference
  same-octets : (sent_all_mark r i t out list ≡ false) ⊎ (i ≡ j) → (octets_of_all r i t ≡ octets_of_all r j t) × (sizes_of_all r i t ≡ sizes_of_all r j t)
  same-octets (inl m) =
      let n : ℕ = reading_parts r t in
      let alone : is_marked (reading_parts r t) ≡ false = sym (all-mark r i t out list a) ∙ m in
      (lone-octets-same (is_ucs2 r.alphabet) i j n (reading_content r t) alone 1 n, lone-sizes-same (is_ucs2 r.alphabet) i j n (reading_content r t) alone 1 n)
  same-octets (inr e) = (ap (λ (k : ℕ). octets_of_all r k t) e, ap (λ (k : ℕ). sizes_of_all r k t) e)

  -- "Demand 3 takes the mark in beside octets and count, and reads on header (or none) and text together"
  pub parts-same-iff : ((sent_all r i t out list ≡ sent_all r j u lent beside) × (sent_sizes r i t out list ≡ sent_sizes r j u lent beside) × (sent_all_mark r i t out list ≡ sent_all_mark r j u lent beside))
      ↔ ((t ≡ u) × ((sent_all_mark r i t out list ≡ false) ⊎ (i ≡ j)))
  parts-same-iff = (λ s. to (sent_all_mark r i t out list) refl s, from)
    where
      to : (m : Bool) → sent_all_mark r i t out list ≡ m → Same → (t ≡ u) × ((sent_all_mark r i t out list ≡ false) ⊎ (i ≡ j))
      to true m s = let v = several-told m s in (v.0, inr v.1)
      to false m s = (lone-told m s, inl m)

      from : (t ≡ u) × ((sent_all_mark r i t out list ≡ false) ⊎ (i ≡ j)) → Same
      from (e, k) =
          let w = same-octets k in (
            all-octets r i t out list a ∙ w.0 ∙ ap (octets_of_all r j) e ∙ sym (all-octets r j u lent beside b),
            all-sizes r i t out list a ∙ w.1 ∙ ap (sizes_of_all r j) e ∙ sym (all-sizes r j u lent beside b),
            all-mark r i t out list a ∙ ap (λ (l : List ℕ). is_marked (reading_parts r l)) e ∙ sym (all-mark r j u lent beside b),
          )
