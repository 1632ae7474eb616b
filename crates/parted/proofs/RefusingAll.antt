-- A refused call with all parts gives the first of its rules that applies, reports the number and position of that refusal and nothing else, and leaves the
-- lent buffers as they came: each follows from the verdict that its answer tells.
-- Assumes nothing.
--   all-refuses-iff, join-refuses-iff   which refusal write_parts and join_parts give, exactly when
--   join-refuses-4-iff, join-refuses-12-iff, join-refuses-10-iff   what is new of them, in plain words
--   join-empty           no counts beside no octets are 10, and beside octets 4
--   all-never-3, join-never-3   no coding octet of a short message has a mark that gives 3
--   all-refuses, join-refuses   what a refused call reports, and leaves
use mathlib.Core.Path.{◌≡◌, refl, ap, sym}
use mathlib.Core.Bool.{Bool, true, false, ◌||◌}
use mathlib.Core.List.{List, [], ◌∷◌, ◌++◌}
use mathlib.Core.Logic.{◌↔◌, ◌⊎◌, inl}
use Prim.Native.Nat.{ℕ, suc, ◌<◌}
use native.Mathlib.Omega.{arith}
use lib.Dec.{ltb}
use lib.ListN.{length}
use borrow.Author.Tests.{ne_eqb}
use Rattle.lists.specs.Lists.{first_place, numbers_from}
use Rattle.words.specs.declared.Service.TheVariants.{ShortMessage}
use Rattle.words.specs.declared.Refusal.{Refusal}
use Rattle.words.specs.declared.Refusal.TheVariants.{Prefixed, WrongLength, NoRoom, WrongPages, WrongHeader}
use Rattle.words.specs.Refusals.{number_of, position_of}
use Rattle.words.specs.Judging.{Rule, when, refused, accepted, verdict}
use Rattle.words.proofs.Judging.{accepted-parts, accepted-both, accepted-rule, verdict-refused-first}
use Rattle.words.proofs.Rules.{gives, given-iff, settle-refused-iff, verdict_of}
use Rattle.coding.specs.declared.Reading.{Reading}
use Rattle.coding.specs.Readings.{unmentioned}
use Rattle.coding.specs.OctetRead.{read_under}
use Rattle.coding.specs.Holding.{is_ucs2, text_rules}
use Rattle.coding.specs.Refusing.{GivenBy}
use Rattle.coding.proofs.Refuses.{exactly}
use Rattle.demands.specs.Demands.{HoldsText}
use Rattle.demands.proofs.Accepting.{text-accepts}
use Rattle.demands.proofs.Steps.{text-accepted}
use Rattle.parted.specs.Written.{octets_of_all, sizes_of_all, count_rules, count_answers, all_rules, all_answers, all_leaves, sizes_leaves}
use Rattle.parted.specs.Read.{behind_rules, part_read_rules, part_reads}
use Rattle.parted.specs.Joined.{all_asked, wrong_counts, wrong_heads, odd_parts, wrong_parts, joined_text, parts_rules, join_rules, join_answers, join_leaves}
use Rattle.parted.specs.Reports.{parts_number, parts_position, parts_written, parts_marked, parts_coding, parts_parts, join_number, join_position, join_written, join_reading, join_reference, join_parts}
use Rattle.parted.proofs.Refusing.{both_ways, length-iff, in-front, refused-settles, count-never-3, read-never-3}
use Rattle.parted.proofs.All.{given_all, all-verdict}
use Rattle.parted.proofs.Joining.{given_join, join-verdict}
use Rattle.std.specs.Prelude.{Err}

-- ---- writing all parts

module _ (r : Reading) (reference : ℕ) (t : List ℕ) where
  pub all-refuses-iff : (room list : ℕ) (q : Refusal) → (all_answers r reference t room list ≡ Err q) ↔ GivenBy (all_rules r reference t room list) q
  unfolding all_answers
  all-refuses-iff room list q = exactly verdict_of Err (given_all r reference t) (λ p. refl) refl (all_rules r reference t room list) q

  pub all-never-3 : (room list : ℕ) → all_answers r reference t room list ≡ Err Prefixed → ⊥
  unfolding all_rules count_answers gives
  all-never-3 room list e =
      let rest : List Rule = when (ltb room (length (octets_of_all r reference t)) || ltb list (length (sizes_of_all r reference t))) NoRoom ∷ [] in
      let v = in-front (count_rules r t) rest Prefixed refl (all-verdict r reference t room list (Err Prefixed) (sym e)) in
      count-never-3 r t (refused-settles (verdict (count_rules r t)) Err _ Prefixed v)

  pub all-refuses : (out list : List ℕ) (q : Refusal) → all_answers r reference t (length out) (length list) ≡ Err q
      → (parts_number (all_answers r reference t (length out) (length list)) ≡ number_of q)
      × (parts_position (all_answers r reference t (length out) (length list)) ≡ position_of q)
      × (parts_written (all_answers r reference t (length out) (length list)) ≡ 0)
      × (parts_marked (all_answers r reference t (length out) (length list)) ≡ false)
      × (parts_coding (all_answers r reference t (length out) (length list)) ≡ 0)
      × (parts_parts (all_answers r reference t (length out) (length list)) ≡ 0)
      × (all_leaves r reference t (length list) out ≡ out)
      × (sizes_leaves r reference t (length out) list ≡ list)
  unfolding all_leaves sizes_leaves
  all-refuses out list q e =
      let v = all-verdict r reference t (length out) (length list) (Err q) (sym e) in (
        ap parts_number e,
        ap parts_position e,
        ap parts_written e,
        ap parts_marked e,
        ap parts_coding e,
        ap parts_parts e,
        refused-settles (verdict (all_rules r reference t (length out) (length list))) (λ p. out) _ q v,
        refused-settles (verdict (all_rules r reference t (length out) (length list))) (λ p. list) _ q v,
      )

-- ---- joining

pub join-refuses-iff : (coding : ℕ) (cs o : List ℕ) (room : ℕ) (q : Refusal)
    → (join_answers coding cs o room ≡ Err q) ↔ GivenBy (join_rules (read_under ShortMessage coding) cs o room) q
unfolding join_answers
join-refuses-iff coding cs o room q = exactly verdict_of Err (given_join coding cs o) (λ p. refl) refl (join_rules (read_under ShortMessage coding) cs o room) q

module _ (coding : ℕ) (cs o : List ℕ) (room : ℕ) where
  abbrev heard : Reading
  heard = read_under ShortMessage coding

  abbrev ucs2 : Bool
  ucs2 = is_ucs2 (read_under ShortMessage coding).alphabet

  abbrev over : Bool
  over = ltb room (length (joined_text (is_ucs2 (read_under ShortMessage coding).alphabet) cs o))

  told : (q : Refusal) → (join_answers coding cs o room ≡ Err q) ↔ (verdict (join_rules heard cs o room) ≡ refused q)
  unfolding join_answers
  told q = settle-refused-iff verdict_of Err (given_join coding cs o) (λ p. refl) refl (verdict (join_rules heard cs o room)) q

  abbrev four : List Rule
  four = when (wrong_counts ucs2 cs o) WrongLength ∷ []

  abbrev three : List Rule
  three = when (wrong_counts ucs2 cs o) WrongLength ∷ when (wrong_heads ucs2 cs o) WrongHeader ∷ when (odd_parts ucs2 cs o) WrongLength ∷ []

  before-twelve : (verdict (text_rules ShortMessage heard ++ four) ≡ accepted) ↔ (HoldsText heard × (wrong_counts ucs2 cs o ≡ false))
  unfolding verdict
  before-twelve = (
    λ e.
        let v = accepted-parts (text_rules ShortMessage heard) four e in
        (text-accepted ShortMessage heard v.0, (accepted-rule (wrong_counts ucs2 cs o) WrongLength [] v.1).0),
    λ (h, c). accepted-both (text_rules ShortMessage heard) four (text-accepts ShortMessage heard h) (simp c),
  )

  before-ten : (verdict (text_rules ShortMessage heard ++ three) ≡ accepted)
      ↔ (HoldsText heard × (wrong_counts ucs2 cs o ≡ false) × (wrong_heads ucs2 cs o ≡ false) × (odd_parts ucs2 cs o ≡ false))
  unfolding verdict
  before-ten = (
    λ e.
        let v = accepted-parts (text_rules ShortMessage heard) three e in
        let one = accepted-rule (wrong_counts ucs2 cs o) WrongLength (when (wrong_heads ucs2 cs o) WrongHeader ∷ when (odd_parts ucs2 cs o) WrongLength ∷ []) v.1 in
        let two = accepted-rule (wrong_heads ucs2 cs o) WrongHeader (when (odd_parts ucs2 cs o) WrongLength ∷ []) one.1 in
        (text-accepted ShortMessage heard v.0, one.0, two.0, (accepted-rule (odd_parts ucs2 cs o) WrongLength [] two.1).0),
    λ (h, c, d, e). accepted-both (text_rules ShortMessage heard) three (text-accepts ShortMessage heard h) (simp (c, d, e)),
  )

  -- "12, after 4"
  pub join-refuses-12-iff : (join_answers coding cs o room ≡ Err WrongHeader)
      ↔ (HoldsText (read_under ShortMessage coding)
      × (wrong_counts (is_ucs2 (read_under ShortMessage coding).alphabet) cs o ≡ false)
      × (wrong_heads (is_ucs2 (read_under ShortMessage coding).alphabet) cs o ≡ true))
  unfolding join_rules parts_rules text_rules gives
  join-refuses-12-iff =
      let iff = both_ways (told WrongHeader)
      (given-iff (text_rules ShortMessage heard ++ four) (wrong_heads ucs2 cs o) WrongHeader (when (odd_parts ucs2 cs o) WrongLength ∷ when (wrong_parts ucs2 cs o) WrongPages ∷ when over NoRoom ∷ []) refl refl) in
      (λ e. let v = iff.0 e in let w = before-twelve.0 v.0 in (w.0, w.1, v.1), λ (h, c, w). iff.1 (before-twelve.1 (h, c), w))

  -- "then, on joining only, 10"
  pub join-refuses-10-iff : (join_answers coding cs o room ≡ Err WrongPages)
      ↔ (HoldsText (read_under ShortMessage coding)
      × (wrong_counts (is_ucs2 (read_under ShortMessage coding).alphabet) cs o ≡ false)
      × (wrong_heads (is_ucs2 (read_under ShortMessage coding).alphabet) cs o ≡ false)
      × (odd_parts (is_ucs2 (read_under ShortMessage coding).alphabet) cs o ≡ false)
      × (wrong_parts (is_ucs2 (read_under ShortMessage coding).alphabet) cs o ≡ true))
  unfolding join_rules parts_rules text_rules gives
  join-refuses-10-iff =
      let iff = both_ways (told WrongPages) (given-iff (text_rules ShortMessage heard ++ three) (wrong_parts ucs2 cs o) WrongPages (when over NoRoom ∷ []) refl refl) in
      (λ e. let v = iff.0 e in let w = before-ten.0 v.0 in (w.0, w.1, w.2, w.3, v.1), λ (h, c, d, f, w). iff.1 (before-ten.1 (h, c, d, f), w))

  -- "octets not of the length that the counts ask are 4"; "UCS2 evenness is judged behind the header, after 12"
  pub join-refuses-4-iff : (join_answers coding cs o room ≡ Err WrongLength)
      ↔ (HoldsText (read_under ShortMessage coding)
      × ((wrong_counts (is_ucs2 (read_under ShortMessage coding).alphabet) cs o ≡ true)
      ⊎ ((wrong_counts (is_ucs2 (read_under ShortMessage coding).alphabet) cs o ≡ false)
      × (wrong_heads (is_ucs2 (read_under ShortMessage coding).alphabet) cs o ≡ false)
      × (odd_parts (is_ucs2 (read_under ShortMessage coding).alphabet) cs o ≡ true))))
  unfolding join_rules parts_rules text_rules gives
  join-refuses-4-iff =
      let iff = both_ways (told WrongLength)
      (length-iff (text_rules ShortMessage heard) (wrong_counts ucs2 cs o) (wrong_heads ucs2 cs o) (odd_parts ucs2 cs o) (when (wrong_parts ucs2 cs o) WrongPages ∷ when over NoRoom ∷ []) refl refl) in
      (λ e. let v = iff.0 e in (text-accepted ShortMessage heard v.0, v.1), λ (h, w). iff.1 (text-accepts ShortMessage heard h, w))

  pub join-never-3 : coding < 256 → join_answers coding cs o room ≡ Err Prefixed → ⊥
  unfolding join_rules parts_rules gives part_reads part_read_rules
  join-never-3 small e =
      let v = in-front (text_rules ShortMessage heard) (parts_rules ucs2 cs o room) Prefixed refl (join-verdict coding cs o room (Err Prefixed) (sym e)) in
      read-never-3 coding false 0 [] 0 small
      (refused-settles (verdict (part_read_rules heard false 0 [] 0)) Err _ Prefixed (verdict-refused-first (text_rules ShortMessage heard) (behind_rules ucs2 false 0 [] 0) Prefixed v))

-- "no parts are 10, and octets beside no counts 4"
module _ (coding room : ℕ) (holds : HoldsText (read_under ShortMessage coding)) where
  none-wrong : (ucs2 : Bool) → (wrong_counts ucs2 [] [] ≡ false) × (wrong_heads ucs2 [] [] ≡ false) × (odd_parts ucs2 [] [] ≡ false) × (wrong_parts ucs2 [] [] ≡ true)
  unfolding wrong_counts wrong_heads odd_parts wrong_parts first_place numbers_from all_asked
  none-wrong ucs2 = (refl, refl, refl, refl)

  octets-wrong : (ucs2 : Bool) (x : ℕ) (o : List ℕ) → wrong_counts ucs2 [] (x ∷ o) ≡ true
  unfolding wrong_counts first_place all_asked
  octets-wrong ucs2 x o = simp (ne_eqb (suc (length o)) 0 (omega arith))

  pub join-empty : (join_answers coding [] [] room ≡ Err WrongPages) × ((x : ℕ) (o : List ℕ) → join_answers coding [] (x ∷ o) room ≡ Err WrongLength)
  join-empty =
      let n = none-wrong (is_ucs2 (read_under ShortMessage coding).alphabet) in (
        (join-refuses-10-iff coding [] [] room).1 (holds, n.0, n.1, n.2, n.3),
        λ x o. (join-refuses-4-iff coding [] (x ∷ o) room).1 (holds, inl (octets-wrong (is_ucs2 (read_under ShortMessage coding).alphabet) x o)),
      )

pub join-refuses : (coding : ℕ) (cs o out : List ℕ) (q : Refusal) → join_answers coding cs o (length out) ≡ Err q
    → (join_number (join_answers coding cs o (length out)) ≡ number_of q)
    × (join_position (join_answers coding cs o (length out)) ≡ position_of q)
    × (join_written (join_answers coding cs o (length out)) ≡ 0)
    × (join_reading (join_answers coding cs o (length out)) ≡ unmentioned)
    × (join_reference (join_answers coding cs o (length out)) ≡ 0)
    × (join_parts (join_answers coding cs o (length out)) ≡ 0)
    × (join_leaves coding cs o out ≡ out)
unfolding join_leaves
join-refuses coding cs o out q e = (
  ap join_number e,
  ap join_position e,
  ap join_written e,
  ap join_reading e,
  ap join_reference e,
  ap join_parts e,
  refused-settles (verdict (join_rules (read_under ShortMessage coding) cs o (length out))) (λ p. out) _ q (join-verdict coding cs o (length out) (Err q) (sym e)),
)
