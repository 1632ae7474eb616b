-- A refused call with pages reports the number and position of its refusal, one of the numbers that its rules give, and nothing else; it leaves the
-- lent buffer as it came, and an array all zero: each follows from the verdict that its answer tells.
-- Assumes nothing.
--   count-refuses, build-refuses, write-refuses, join-refuses
--   join-total-0, join-over-15   blocks whose first has the total 0, and more than 15 blocks, are never joined
use mathlib.Core.Path.{◌≡◌, ap, sym}
use mathlib.Core.Bool.{Bool, true, false}
use mathlib.Core.List.{List, [], ◌∷◌}
use Prim.Native.Nat.{ℕ, ◌<◌}
use native.Mathlib.Omega.{arith}
use lib.Dec.{T}
use lib.ListN.{length, replicate}
use Rattle.lists.proofs.Tests.{both, both_left, both_right}
use Rattle.words.specs.declared.Refusal.{Refusal}
use Rattle.words.specs.Refusals.{number_of, position_of}
use Rattle.words.specs.Judging.{Rule, when, Verdict, refused, verdict, settle}
use Rattle.coding.specs.declared.Reading.{Reading}
use Rattle.coding.specs.Readings.{unmentioned}
use Rattle.coding.specs.OctetWritten.{write_rules as alone_rules}
use Rattle.coding.specs.LanguageLetters.{coding_rules}
use Rattle.coding.specs.Holding.{text_rules}
use Rattle.pages.specs.Written.{size_rules, count_rules, count_answers, build_rules, built_as, pages_rules, pages_answers, pages_leaves}
use Rattle.pages.specs.Joined.{block_count, total_at, wrong_pages, page_rules, join_rules, join_answers, join_leaves}
use Rattle.pages.specs.Reports.{counted_number, counted_position, counted_pages, pages_number, pages_position, pages_written, pages_pages, join_number, join_position, join_written, join_reading, join_sequence, join_identifier, join_pages}
use Rattle.pages.specs.Messages.{count_numbers, build_numbers, write_numbers, join_numbers, one_of}
use Rattle.pages.proofs.Accepting.{count-verdict, build-verdict, write-verdict, join-verdict, join-accepted}
use Rattle.pages.proofs.Placing.{total-0-wrong, over-15-wrong}
use Rattle.std.specs.Prelude.{Err}
use Rattle.pages.specs.Successes.{ok_joined}

-- a refused call leaves what it came with
kept : {A : Type 0} (v : Verdict) (q : Refusal) (out x : A) → v ≡ refused q → settle v (λ r. out) x ≡ out
kept v q out x e = ap (λ (w : Verdict). settle w (λ r. out) x) e

-- each rule gives one of these numbers
each_of : List Rule → List ℕ → Bool
each_of [] ns = true
each_of (when t q ∷ rules) ns = both (one_of (number_of q) ns) (each_of rules ns)

-- and so does the verdict
given : (rules : List Rule) (ns : List ℕ) (q : Refusal) → T (each_of rules ns) → verdict rules ≡ refused q → T (one_of (number_of q) ns)
unfolding each_of verdict
given [] ns q t e = let z : ◌≡◌ {A = ℕ} 0 1 = cc in absurd (omega arith)
given (when true p ∷ rules) ns q t e = rw (same p q e) at (both_left (one_of (number_of p) ns) (each_of rules ns) t)
  where
    same : (p q : Refusal) → refused p ≡ refused q → p ≡ q
    same p q e = cc
given (when false p ∷ rules) ns q t e = given rules ns q (both_right (one_of (number_of p) ns) (each_of rules ns) t) e

pub count-refuses : (r : Reading) (t : List ℕ) (q : Refusal) → count_answers r t ≡ Err q
    → (counted_number (count_answers r t) ≡ number_of q)
    × (counted_position (count_answers r t) ≡ position_of q)
    × (counted_pages (count_answers r t) ≡ 0)
    × T (one_of (number_of q) count_numbers)
unfolding each_of count_rules coding_rules alone_rules text_rules size_rules
count-refuses r t q e = (
  ap counted_number e,
  ap counted_position e,
  ap counted_pages e,
  given (count_rules r t) count_numbers q tt (count-verdict r t (Err q) (sym e)),
)

pub build-refuses : (sequence identifier : ℕ) (r : Reading) (t : List ℕ) (k : ℕ) (q : Refusal) → (built_as sequence identifier r t k).answer ≡ Err q
    → (counted_number (built_as sequence identifier r t k).answer ≡ number_of q)
    × (counted_position (built_as sequence identifier r t k).answer ≡ position_of q)
    × (counted_pages (built_as sequence identifier r t k).answer ≡ 0)
    × ((built_as sequence identifier r t k).block ≡ replicate 88 0)
    × T (one_of (number_of q) build_numbers)
unfolding built_as each_of build_rules count_rules coding_rules alone_rules text_rules size_rules
build-refuses sequence identifier r t k q e =
    let v = build-verdict sequence identifier r t k (Err q) (sym e) in
    (ap counted_number e, ap counted_position e, ap counted_pages e, kept (verdict (build_rules r t k)) q (replicate 88 0) _ v, given (build_rules r t k) build_numbers q tt v)

pub write-refuses : (sequence identifier : ℕ) (r : Reading) (t out : List ℕ) (q : Refusal) → pages_answers sequence identifier r t (length out) ≡ Err q
    → (pages_number (pages_answers sequence identifier r t (length out)) ≡ number_of q)
    × (pages_position (pages_answers sequence identifier r t (length out)) ≡ position_of q)
    × (pages_written (pages_answers sequence identifier r t (length out)) ≡ 0)
    × (pages_pages (pages_answers sequence identifier r t (length out)) ≡ 0)
    × (pages_leaves sequence identifier r t out ≡ out)
    × T (one_of (number_of q) write_numbers)
unfolding pages_leaves each_of pages_rules count_rules coding_rules alone_rules text_rules size_rules
write-refuses sequence identifier r t out q e =
    let v = write-verdict sequence identifier r t (length out) (Err q) (sym e) in (
      ap pages_number e,
      ap pages_position e,
      ap pages_written e,
      ap pages_pages e,
      kept (verdict (pages_rules sequence identifier r t (length out))) q out _ v,
      given (pages_rules sequence identifier r t (length out)) write_numbers q tt v,
    )

pub join-refuses : (o out : List ℕ) (q : Refusal) → join_answers o (length out) ≡ Err q
    → (join_number (join_answers o (length out)) ≡ number_of q)
    × (join_position (join_answers o (length out)) ≡ position_of q)
    × (join_written (join_answers o (length out)) ≡ 0)
    × (join_reading (join_answers o (length out)) ≡ unmentioned)
    × (join_sequence (join_answers o (length out)) ≡ 0)
    × (join_identifier (join_answers o (length out)) ≡ 0)
    × (join_pages (join_answers o (length out)) ≡ 0)
    × (join_leaves o out ≡ out)
    × T (one_of (number_of q) join_numbers)
unfolding join_leaves each_of join_rules text_rules page_rules
join-refuses o out q e =
    let v = join-verdict o (length out) (Err q) (sym e) in (
      ap join_number e,
      ap join_position e,
      ap join_written e,
      ap join_reading e,
      ap join_sequence e,
      ap join_identifier e,
      ap join_pages e,
      kept (verdict (join_rules o (length out))) q out _ v,
      given (join_rules o (length out)) join_numbers q tt v,
    )

module _ (o : List ℕ) (room units : ℕ) (r : Reading) (sequence identifier pages : ℕ) (e : join_answers o room ≡ ok_joined units r sequence identifier pages) where
  not-wrong : wrong_pages o ≡ true → ⊥
  not-wrong w = let right : wrong_pages o ≡ false = (join-accepted o room units r sequence identifier pages e).right in let z : ◌≡◌ {A = ℕ} 0 1 = cc in omega arith

  pub join-total-0 : total_at o 0 ≡ 0 → ⊥
  join-total-0 none =
      let a = join-accepted o room units r sequence identifier pages e in
      not-wrong (total-0-wrong o (omega (arith, a.whole, a.some)) none)

  pub join-over-15 : 15 < block_count o → ⊥
  join-over-15 many = not-wrong (over-15-wrong o many)
