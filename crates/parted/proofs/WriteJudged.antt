-- What decides the calls that write parts of a text by itself: its plan, then 10 and 7.
-- Assumes nothing.
--   one-refused, one-lacks, one-short, one-done   writing one part, where the plan is refused, the part lacks, the buffer is short, and else
--   all-refused, all_short, sizes-short, all_done   the same of all parts
use mathlib.Core.Path.{◌≡◌, sym, ap, ap₂, ◌∙◌}
use mathlib.Core.Bool.{Bool, true, false, ◌||◌, not}
use mathlib.Core.List.{List, [], ◌∷◌, ◌++◌}
use Prim.Native.Nat.{ℕ, ◌+◌, ◌-◌, ◌*◌, ◌≤◌, ◌<◌}
use native.Mathlib.Omega.{arith}
use borrow.Author.Tests.{lt-ltb, le-ltb}
use lib.Dec.{ltb, eqb}
use lib.ListN.{length}
use Rattle.words.specs.declared.Refusal.{Refusal}
use Rattle.words.specs.declared.Refusal.TheVariants.{NoRoom, WrongPages}
use Rattle.words.specs.Judging.{Rule, when, Verdict, refused, accepted, verdict, settle}
use Rattle.words.proofs.Judging.{verdict-refused-first, verdict-accepted-first}
use Rattle.lists.specs.Lists.{laid}
use Rattle.letters.specs.Sized.{content_of}
use Rattle.filling.specs.Numbered.{lacks}
use Rattle.filling.proofs.Placing.{none-lacks}
use Rattle.parted.specs.declared.Plan.{Plan}
use Rattle.parted.specs.declared.PartWritten.{PartWritten}
use Rattle.parted.specs.declared.PartsWritten.{PartsWritten}
use Rattle.parted.specs.Parts.{parts_of, is_marked, part_octets, part_count}
use Rattle.parted.specs.Written.{all_octets, all_sizes, size_rules}
use Rattle.parted.specs.Cutting.{plan_of, planned_as}
use Rattle.parted.specs.Inner.{plan_count, plan_octets, octets_in, part_rules_in, text_part, text_part_leaves, all_in, sizes_in, all_rules_in, text_parts, text_parts_leaves, text_sizes_leaves}
use Rattle.parted.proofs.Plans.{Cut, cut-told, cut-refused, count-is, octets-is}
use Rattle.parted.proofs.Ends.{sizes-length}
use Rattle.parted.proofs.WriteSteps.{all-length}
use Rattle.std.specs.Prelude.{Result, Ok, Err}
use Rattle.parted.specs.Successes.{ok_parts_written}
use Rattle.parted.specs.Successes.{ok_part_written}

module _ (ucs2 : Bool) (coding reference : ℕ) (t : List ℕ) where
  -- the answer and the buffer, at a verdict
  abbrev count_in : ℕ → ℕ
  count_in k = part_count ucs2 reference (parts_of ucs2 t) (content_of ucs2 t) k

  abbrev one_at : Verdict → ℕ → Result PartWritten Refusal
  one_at v k = settle v Err (ok_part_written (length (octets_in ucs2 reference t k)) (count_in k) (is_marked (parts_of ucs2 t)) coding (parts_of ucs2 t))

  one-at : (k : ℕ) (out : List ℕ) (v : Verdict) → verdict (part_rules_in ucs2 reference t k (length out)) ≡ v
      → (one_at v k ≡ text_part ucs2 coding reference t k (length out)) × (settle v (λ q. out) (laid (octets_in ucs2 reference t k) out) ≡ text_part_leaves ucs2 reference t k out)
  unfolding text_part text_part_leaves
  one-at k out v e = (sym (ap (λ (w : Verdict). one_at w k) e), sym (ap (λ (w : Verdict). settle w (λ q. out) (laid (octets_in ucs2 reference t k) out)) e))

  abbrev all_at : Verdict → Result PartsWritten Refusal
  all_at v = settle v Err (ok_parts_written (length (all_in ucs2 reference t)) (is_marked (parts_of ucs2 t)) coding (parts_of ucs2 t))

  all-at : (out list : List ℕ) (v : Verdict) → verdict (all_rules_in ucs2 reference t (length out) (length list)) ≡ v
      → (all_at v ≡ text_parts ucs2 coding reference t (length out) (length list))
      × ((settle v (λ q. out) (laid (all_in ucs2 reference t) out) ≡ text_parts_leaves ucs2 reference t (length list) out)
      × (settle v (λ q. list) (laid (sizes_in ucs2 reference t) list) ≡ text_sizes_leaves ucs2 reference t (length out) list))
  unfolding text_parts text_parts_leaves text_sizes_leaves
  all-at out list v e = (
    sym (ap all_at e),
    (
      sym (ap (λ (w : Verdict). settle w (λ q. out) (laid (all_in ucs2 reference t) out)) e),
      sym (ap (λ (w : Verdict). settle w (λ q. list) (laid (sizes_in ucs2 reference t) list)) e),
    ),
  )

  module _ (q : Refusal) (e : Err q ≡ planned_as ucs2 t) where
    pub one-refused : (k : ℕ) (out : List ℕ) → (Err q ≡ text_part ucs2 coding reference t k (length out)) × (out ≡ text_part_leaves ucs2 reference t k out)
    one-refused k out =
        one-at k out (refused q)
        (verdict-refused-first (size_rules ucs2 t) (when (lacks (parts_of ucs2 t) k) WrongPages ∷ when (ltb (length out) (length (octets_in ucs2 reference t k))) NoRoom ∷ []) q (cut-refused ucs2 t q e))

    pub all-refused : (out list : List ℕ)
        → (Err q ≡ text_parts ucs2 coding reference t (length out) (length list)) × ((out ≡ text_parts_leaves ucs2 reference t (length list) out) × (list ≡ text_sizes_leaves ucs2 reference t (length out) list))
    all-refused out list =
        all-at out list (refused q)
        (verdict-refused-first (size_rules ucs2 t) (when (ltb (length out) (length (all_in ucs2 reference t)) || ltb (length list) (length (sizes_in ucs2 reference t))) NoRoom ∷ []) q (cut-refused ucs2 t q e))

  module _ (p : Plan) (e : Ok p ≡ planned_as ucs2 t) where
    cut : Cut p t
    cut = (cut-told ucs2 t p e).2

    same : p ≡ plan_of ucs2 t
    same = (cut-told ucs2 t p e).1

    behind : (x : List Rule) → verdict (size_rules ucs2 t ++ x) ≡ verdict x
    behind x = verdict-accepted-first (size_rules ucs2 t) x (cut-told ucs2 t p e).0

    -- part k by the plan
    by-plan : (k : ℕ) → part_octets p.ucs2 reference p.total (content_of p.ucs2 t) k ≡ octets_in ucs2 reference t k
    by-plan k = ap (λ (x : Plan). part_octets x.ucs2 reference x.total (content_of x.ucs2 t) k) same

    lacks-same : (k : ℕ) → lacks p.total k ≡ lacks (parts_of ucs2 t) k
    lacks-same k = ap (λ (x : Plan). lacks x.total k) same

    module _ (k : ℕ) (out : List ℕ) where
      pub one-lacks : lacks p.total k ≡ true → (Err WrongPages ≡ text_part ucs2 coding reference t k (length out)) × (out ≡ text_part_leaves ucs2 reference t k out)
      unfolding verdict
      one-lacks l =
          let there : lacks (parts_of ucs2 t) k ≡ true = sym (lacks-same k) ∙ l in
          let x : List Rule = when (lacks (parts_of ucs2 t) k) WrongPages ∷ when (ltb (length out) (length (octets_in ucs2 reference t k))) NoRoom ∷ [] in
          one-at k out (refused WrongPages) (behind x ∙ simp there)

      module _ (l : lacks p.total k ≡ false) where
        there-is : lacks (parts_of ucs2 t) k ≡ false
        there-is = sym (lacks-same k) ∙ l

        which : k - 1 + 1 ≡ k
        which = omega (arith, (none-lacks p.total k l).0)

        within : k - 1 < p.total
        within = omega (arith, (none-lacks p.total k l).0, (none-lacks p.total k l).1)

        octets : plan_octets p (k - 1) ≡ length (octets_in ucs2 reference t k)
        octets = octets-is p t cut reference (k - 1) within ∙ ap (λ (j : ℕ). length (part_octets p.ucs2 reference p.total (content_of p.ucs2 t) j)) which ∙ ap length (by-plan k)

        count : plan_count p (k - 1) ≡ count_in k
        count =
            count-is p t cut reference (k - 1) within
            ∙ ap (λ (j : ℕ). part_count p.ucs2 reference p.total (content_of p.ucs2 t) j) which
            ∙ ap (λ (x : Plan). part_count x.ucs2 reference x.total (content_of x.ucs2 t) k) same

        pub one-short : length out < plan_octets p (k - 1) → (Err NoRoom ≡ text_part ucs2 coding reference t k (length out)) × (out ≡ text_part_leaves ucs2 reference t k out)
        unfolding verdict
        one-short h =
            let x : List Rule = when (lacks (parts_of ucs2 t) k) WrongPages ∷ when (ltb (length out) (length (octets_in ucs2 reference t k))) NoRoom ∷ [] in
            one-at k out (refused NoRoom) (behind x ∙ simp (there-is, lt-ltb (length out) (length (octets_in ucs2 reference t k)) (omega (arith, octets))))

        pub one-done : plan_octets p (k - 1) ≤ length out → (n m : ℕ) → n ≡ plan_octets p (k - 1) → m ≡ plan_count p (k - 1) → (left : List ℕ)
            → left ≡ laid (part_octets p.ucs2 reference p.total (content_of p.ucs2 t) (k - 1 + 1)) out
            → (ok_part_written n m (not (eqb p.total 1)) coding p.total ≡ text_part ucs2 coding reference t k (length out)) × (left ≡ text_part_leaves ucs2 reference t k out)
        unfolding verdict
        one-done h n m en em left is =
            let x : List Rule = when (lacks (parts_of ucs2 t) k) WrongPages ∷ when (ltb (length out) (length (octets_in ucs2 reference t k))) NoRoom ∷ [] in
            let at = one-at k out accepted (behind x ∙ simp (there-is, le-ltb (length out) (length (octets_in ucs2 reference t k)) (omega (arith, octets)))) in (
              ap₂ (λ (i j : ℕ). ok_part_written i j (not (eqb p.total 1)) coding p.total) (en ∙ octets) (em ∙ count)
                  ∙ ap (λ (y : Plan). ok_part_written (length (octets_in ucs2 reference t k)) (count_in k) (not (eqb y.total 1)) coding y.total) same
                  ∙ at.0,
              is ∙ ap (λ (l : List ℕ). laid l out) (ap (part_octets p.ucs2 reference p.total (content_of p.ucs2 t)) which ∙ by-plan k) ∙ at.1,
            )

    module _ (out list : List ℕ) where
      octets-all : 140 * (p.total - 1) + plan_octets p (p.total - 1) ≡ length (all_in ucs2 reference t)
      octets-all = sym (all-length p t cut reference) ∙ ap (λ (x : Plan). length (all_octets x.ucs2 reference x.total (content_of x.ucs2 t) 1 x.total)) same

      sizes-all : 2 * p.total ≡ length (sizes_in ucs2 reference t)
      sizes-all = ap (λ (x : Plan). 2 * x.total) same ∙ sym (sizes-length ucs2 reference (parts_of ucs2 t) (content_of ucs2 t) 1 (parts_of ucs2 t))

      abbrev no_room : List Rule
      no_room = when (ltb (length out) (length (all_in ucs2 reference t)) || ltb (length list) (length (sizes_in ucs2 reference t))) NoRoom ∷ []

      pub all_short : length out < 140 * (p.total - 1) + plan_octets p (p.total - 1)
          → (Err NoRoom ≡ text_parts ucs2 coding reference t (length out) (length list)) × ((out ≡ text_parts_leaves ucs2 reference t (length list) out) × (list ≡ text_sizes_leaves ucs2 reference t (length out) list))
      unfolding verdict
      all_short h = all-at out list (refused NoRoom) (behind no_room ∙ simp (lt-ltb (length out) (length (all_in ucs2 reference t)) (omega (arith, octets-all))))

      module _ (h : 140 * (p.total - 1) + plan_octets p (p.total - 1) ≤ length out) where
        enough : ltb (length out) (length (all_in ucs2 reference t)) ≡ false
        enough = le-ltb (length out) (length (all_in ucs2 reference t)) (omega (arith, octets-all))

        pub sizes-short : length list < 2 * p.total
            → (Err NoRoom ≡ text_parts ucs2 coding reference t (length out) (length list)) × ((out ≡ text_parts_leaves ucs2 reference t (length list) out) × (list ≡ text_sizes_leaves ucs2 reference t (length out) list))
        unfolding verdict
        sizes-short short = all-at out list (refused NoRoom) (behind no_room ∙ simp (enough, lt-ltb (length list) (length (sizes_in ucs2 reference t)) (omega (arith, sizes-all))))

        pub all_done : 2 * p.total ≤ length list → (n : ℕ) → n ≡ 140 * (p.total - 1) + plan_octets p (p.total - 1) → (left sizes : List ℕ)
            → left ≡ laid (all_octets p.ucs2 reference p.total (content_of p.ucs2 t) 1 p.total) out
            → sizes ≡ laid (all_sizes p.ucs2 reference p.total (content_of p.ucs2 t) 1 p.total) list
            → (ok_parts_written n (not (eqb p.total 1)) coding p.total ≡ text_parts ucs2 coding reference t (length out) (length list))
            × ((left ≡ text_parts_leaves ucs2 reference t (length list) out)
            × (sizes ≡ text_sizes_leaves ucs2 reference t (length out) list))
        unfolding verdict
        all_done long n en left sizes el es =
            let at = all-at out list accepted (behind no_room ∙ simp (enough, le-ltb (length list) (length (sizes_in ucs2 reference t)) (omega (arith, sizes-all)))) in (
              ap (λ (i : ℕ). ok_parts_written i (not (eqb p.total 1)) coding p.total) (en ∙ octets-all)
                  ∙ ap (λ (y : Plan). ok_parts_written (length (all_in ucs2 reference t)) (not (eqb y.total 1)) coding y.total) same
                  ∙ at.0,
              (
                el ∙ ap (λ (x : Plan). laid (all_octets x.ucs2 reference x.total (content_of x.ucs2 t) 1 x.total) out) same ∙ at.1.0,
                es ∙ ap (λ (x : Plan). laid (all_sizes x.ucs2 reference x.total (content_of x.ucs2 t) 1 x.total) list) same ∙ at.1.1,
              ),
            )
