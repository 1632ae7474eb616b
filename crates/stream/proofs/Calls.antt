-- A call that has passed its own rules answers and leaves what storing its result does, where only 7 can refuse.
-- Assumes nothing.
use mathlib.Core.Path.{◌≡◌, refl, sym, ap, ◌∙◌}
use mathlib.Core.Bool.{Bool, true, false, ◌&&◌, and-false}
use mathlib.Core.List.{List, [], ◌∷◌}
use Prim.Native.Nat.{ℕ, ◌+◌, ◌*◌, ◌/◌, ◌%◌, ◌≤◌, ◌<◌}
use native.Mathlib.Omega.{arith}
use native.Mathlib.Decide.{dec_le}
use borrow.Author.Tests.{le-ltb, le-leb, lt-leb, eq-eqb, ne_eqb, eqb-true, leb-true, leb-false}
use lib.Dec.{ltb, leb, eqb}
use lib.ListN.{length, get_or, take, drop, get_or-eq_default}
use lib.Seq.{take_all, take_at, take-append-le}
use Rattle.words.specs.declared.Service.{Service}
use Rattle.words.specs.declared.Service.TheVariants.{ShortMessage, Broadcast, Ussd, OldPage}
use Rattle.words.specs.declared.Refusal.{Refusal}
use Rattle.words.specs.declared.Refusal.TheVariants.{NoRoom, WrongLength}
use Rattle.words.specs.Sizes.{most_septets, most_units, is_old_page}
use Rattle.lists.specs.Lists.{first_place, laid}
use Rattle.words.specs.Judging.{when, verdict, settle}
use Rattle.lists.proofs.Below.{Below}
use Rattle.lists.proofs.Places.{place-before}
use Rattle.lists.proofs.Laid.{laid-length}
use Rattle.lists.proofs.Tests.{and_left, and_right}
use Rattle.stream.specs.Stream.{octets_for, packed}
use Rattle.stream.specs.SeptetCalls.{octets_of, travels, count_of, pack_rules, pack_answers, pack_leaves, septets_fit, septets_of, unpack_rules, unpack_answers, unpack_leaves}
use Rattle.stream.specs.UnitCalls.{ucs2_octets_of, to_octets_rules, to_octets_answers, to_octets_leaves, units_fit, units_of, to_units_rules, to_units_answers, to_units_leaves}
use Rattle.stream.specs.Inner.{counted_as}
use Rattle.stream.specs.Storing.{given_answers, given_leaves}
use Rattle.stream.proofs.Stream.{unpacked-length}
use Rattle.stream.specs.ArrayCalls.{low_bits, array_rules, array_answers, array_leaves, page_rules, page_answers, page_leaves, all_septets, all_rules, all_answers, all_leaves, held_count}
use Rattle.stream.proofs.Given.{Gives}
use Rattle.stream.proofs.Arrays.{kept-front, held-septets}
use Rattle.std.specs.Prelude.{Result, Ok, Err}
use Rattle.stream.specs.Successes.{ok_packed}

counted-settled : (b : Bool) (k n : ℕ) → counted_as (settle (verdict (when b NoRoom ∷ [])) Err (Ok k)) n ≡ settle (verdict (when b NoRoom ∷ [])) Err (ok_packed k n)
unfolding verdict
counted-settled true k n = refl
counted-settled false k n = refl

pub pack-passed : (service : Service) (s out : List ℕ) {answer : Result ℕ Refusal} {left : List ℕ} → is_old_page service ≡ false → length s ≤ first_place (leb 128) s → length s ≤ most_septets service
    → Gives (octets_of service s) out answer left
    → (counted_as answer (count_of service s) ≡ pack_answers service s (length out)) × (left ≡ pack_leaves service s out)
unfolding pack_rules pack_answers pack_leaves given_answers given_leaves verdict
pack-passed service s out old high most gives =
    simp (old, le-ltb _ _ high, le-ltb _ _ most)
    (ap (λ (a : Result ℕ Refusal). counted_as a (count_of service s)) gives.0 ∙ counted-settled (ltb (length out) (length (octets_of service s))) (length (octets_of service s)) (count_of service s), gives.1)

pub array-passed : (service : Service) (s : List ℕ) (n : ℕ) (out : List ℕ) {answer : Result ℕ Refusal} {left : List ℕ} → is_old_page service ≡ false → n ≤ most_septets service
    → Gives (octets_of service (take n (low_bits s))) out answer left
    → (counted_as answer (travels service n) ≡ array_answers service s n (length out)) × (left ≡ array_leaves service s n out)
unfolding array_rules array_answers array_leaves given_answers given_leaves verdict
array-passed service s n out old most gives =
    let t : List ℕ = take n (low_bits s) in
    simp (old, le-ltb _ _ most)
    (ap (λ (a : Result ℕ Refusal). counted_as a (travels service n)) gives.0 ∙ counted-settled (ltb (length out) (length (octets_of service t))) (length (octets_of service t)) (travels service n), gives.1)

pub page-passed : (p out : List ℕ) {answer : Result ℕ Refusal} {left : List ℕ} → length p ≤ first_place (leb 128) p → Gives (packed p) out answer left
    → (answer ≡ page_answers p (length out)) × (left ≡ page_leaves p out)
unfolding page_rules page_answers page_leaves given_answers given_leaves verdict
page-passed p out high gives = simp (le-ltb _ _ high) gives

pub unpack-passed : (service : Service) (o out : List ℕ) (count : ℕ) {answer : Result ℕ Refusal} {left : List ℕ} → septets_fit service (length o) count ≡ true
    → Gives (septets_of service count o) out answer left
    → (answer ≡ unpack_answers service o count (length out)) × (left ≡ unpack_leaves service o count out)
unfolding unpack_rules unpack_answers unpack_leaves given_answers given_leaves verdict
unpack-passed service o out count fits gives = simp fits gives

pub to-octets-passed : (service : Service) (us out : List ℕ) {answer : Result ℕ Refusal} {left : List ℕ} → is_old_page service ≡ false → length us ≤ most_units service
    → Gives (ucs2_octets_of service us) out answer left
    → (answer ≡ to_octets_answers service us (length out)) × (left ≡ to_octets_leaves service us out)
unfolding to_octets_rules to_octets_answers to_octets_leaves given_answers given_leaves verdict
to-octets-passed service us out old most gives = simp (old, le-ltb _ _ most) gives

pub to-units-passed : (service : Service) (o out : List ℕ) (count : ℕ) {answer : Result ℕ Refusal} {left : List ℕ} → units_fit service (length o) count ≡ true
    → Gives (units_of service o) out answer left
    → (answer ≡ to_units_answers service o count (length out)) × (left ≡ to_units_leaves service o count out)
unfolding to_units_rules to_units_answers to_units_leaves given_answers given_leaves verdict
to-units-passed service o out count fits gives = simp fits gives

-- ---- what octets that fit tell, service by service

pub fit-short : (m n : ℕ) → septets_fit ShortMessage m n ≡ true → m ≡ octets_for n
fit-short m n e = eqb-true m (octets_for n) (and_right (leb n 160) (eqb m (octets_for n)) e)

pub fit-page : (m n : ℕ) → septets_fit Broadcast m n ≡ true → m ≡ 82
fit-page m n e = eqb-true m 82 (and_left (eqb m 82) (eqb n 0) e)

pub fit-ussd : (m n : ℕ) → septets_fit Ussd m n ≡ true → m ≤ 160
fit-ussd m n e = leb-true m 160 (and_left (leb m 160) (eqb n 0) e)

-- as many octets as the septets that they hold take, and no more septets than an array has
pub fit-held : (service : Service) (m n : ℕ) → septets_fit service m n ≡ true → m ≡ octets_for (held_count service m n)
unfolding octets_for
fit-held ShortMessage m n e = fit-short m n e
fit-held Broadcast m n e = fit-page m n e
fit-held Ussd m n e =
    let parts : 8 * m / 7 ≡ 8 * (m / 7) + m % 7 = omega arith in
    omega (arith, parts)
fit-held OldPage m n e = fit-page m n e

pub held-most : (service : Service) (m n : ℕ) → septets_fit service m n ≡ true → held_count service m n ≤ 184
held-most ShortMessage m n e = omega (arith, leb-true n 160 (and_left (leb n 160) (eqb m (octets_for n)) e))
held-most Broadcast m n e = omega arith
held-most Ussd m n e = omega (arith, fit-ussd m n e)
held-most OldPage m n e = omega arith

pub fit-units : (m n : ℕ) → units_fit Broadcast m n ≡ true → m ≡ 82
fit-units m n e = eqb-true m 82 (and_left (eqb m 82) (eqb n 0) e)

-- an odd number of octets fits no service
pub odd-unfit : (service : Service) (m n : ℕ) → m % 2 ≡ 1 → false ≡ units_fit service m n
odd-unfit ShortMessage m n e = simp (ne_eqb (m % 2) 0 (omega arith), and-false)
odd-unfit Broadcast m n e = simp (ne_eqb m 82 (omega arith))
odd-unfit Ussd m n e = simp (ne_eqb (m % 2) 0 (omega arith), and-false)
odd-unfit OldPage m n e = refl

-- where no septet is 128 or more, all are below
pub none-high : (s : List ℕ) → length s ≤ first_place (leb 128) s → Below 128 s
none-high s h k =
    elim (dec_le (length s) k) [ yes l ↦ omega (arith, get_or-eq_default s 0 l) | no l ↦ leb-false 128 (get_or s k 0) (place-before (leb 128) s k (omega arith)) ]

-- ---- a test of two parts, the first against a size that is looked up

pub exact-holds : (m k c : ℕ) (b : Bool) → k ≡ c → m ≡ k → b ≡ (eqb m c && b)
exact-holds m k c b size e = simp (eq-eqb m c (e ∙ size))

pub exact-fails : (m k c : ℕ) (b : Bool) → k ≡ c → (m ≡ k → ⊥) → eqb m k ≡ (eqb m c && b)
exact-fails m k c b size other = simp (ne_eqb m k other, ne_eqb m c (λ e. other (e ∙ sym size)))

pub most-holds : (m k c : ℕ) (b : Bool) → k ≡ c → m ≤ k → b ≡ (leb m c && b)
most-holds m k c b size h = simp (le-leb m c (omega arith))

pub most-fails : (m k c : ℕ) (b : Bool) → k ≡ c → k < m → leb m k ≡ (leb m c && b)
most-fails m k c b size h = simp (lt-leb m k h, lt-leb m c (omega arith))

-- ---- all septets unpacked into an array, which has room for them

module _ (service : Service) (o : List ℕ) (count : ℕ) where
  pub all_most : septets_fit service (length o) count ≡ true → length (all_septets service count o) ≤ 184
  all_most fit =
      omega (arith, sym (ap length (held-septets service count o)) ∙ unpacked-length (held_count service (length o) count) o, held-most service (length o) count fit)

  -- what is kept is no more than all of them
  pub kept-most : length (septets_of service count o) ≤ length (all_septets service count o)
  kept-most =
      let n : ℕ = length (septets_of service count o) in
      let all : List ℕ = all_septets service count o in
      elim (dec_le n (length all)) [
        | yes h ↦ h
        | no h ↦ omega (arith, sym (ap length (kept-front service count o)) ∙ ap length (take_all n all (omega arith)))
      ]

-- what unpacking into an array tells: the octets do not fit, or the septets that are kept stand at its front
module _ (service : Service) (o : List ℕ) (count : ℕ) (array : List ℕ) (size : length array ≡ 184) where
  fitted : septets_fit service (length o) count ≡ true
      → (all_answers service o count (length array) ≡ Ok (length (all_septets service count o))) × (all_leaves service o count array ≡ laid (all_septets service count o) array)
  unfolding all_rules all_answers all_leaves verdict
  fitted fit =
      let room : length (all_septets service count o) ≤ length array = omega (arith, all_most service o count fit) in
      simp (fit, le-ltb _ _ room) (refl, refl)

  unfitted : septets_fit service (length o) count ≡ false → all_answers service o count (length array) ≡ Err WrongLength
  unfolding all_rules all_answers verdict
  unfitted wrong = simp wrong

  pub array-done : (n : ℕ) → Ok n ≡ all_answers service o count (length array) → (septets_fit service (length o) count ≡ true) × (n ≡ length (all_septets service count o))
  array-done n e = go (septets_fit service (length o) count) refl
    where
      go : (b : Bool) → septets_fit service (length o) count ≡ b → (septets_fit service (length o) count ≡ true) × (n ≡ length (all_septets service count o))
      go true fit = let same : Ok n ≡ Ok (length (all_septets service count o)) = e ∙ (fitted fit).0 in (fit, cc)
      go false wrong =
          let other : Ok n ≡ Err WrongLength = e ∙ unfitted wrong in
          let z : ◌≡◌ {A = ℕ} 0 1 = cc in
          absurd (omega arith)

  pub array-refused : (r : Refusal) → Err r ≡ all_answers service o count (length array) → (septets_fit service (length o) count ≡ false) × (r ≡ WrongLength)
  array-refused r e = go (septets_fit service (length o) count) refl
    where
      go : (b : Bool) → septets_fit service (length o) count ≡ b → (septets_fit service (length o) count ≡ false) × (r ≡ WrongLength)
      go true fit =
          let other : Err r ≡ Ok (length (all_septets service count o)) = e ∙ (fitted fit).0 in
          let z : ◌≡◌ {A = ℕ} 0 1 = cc in
          absurd (omega arith)
      go false wrong = let same : Err r ≡ Err WrongLength = e ∙ unfitted wrong in (wrong, cc)

  pub array-length : (left : List ℕ) → septets_fit service (length o) count ≡ true → left ≡ all_leaves service o count array → length left ≡ 184
  array-length left fit e =
      ap length (e ∙ (fitted fit).1) ∙ laid-length (all_septets service count o) array (omega (arith, all_most service o count fit)) ∙ size

  -- all of them stand at the front of the array
  pub array-all : (left : List ℕ) → septets_fit service (length o) count ≡ true → left ≡ all_leaves service o count array → take (length (all_septets service count o)) left ≡ all_septets service count o
  unfolding laid
  array-all left fit e =
      ap (take (length (all_septets service count o))) (e ∙ (fitted fit).1) ∙ take_at (all_septets service count o) (drop (length (all_septets service count o)) array) (length (all_septets service count o)) refl

  -- and those that are kept of them
  pub array-front : (left : List ℕ) → septets_fit service (length o) count ≡ true → left ≡ all_leaves service o count array → take (length (septets_of service count o)) left ≡ septets_of service count o
  unfolding laid
  array-front left fit e =
      let n : ℕ = length (septets_of service count o) in
      ap (take n) (e ∙ (fitted fit).1)
      ∙ take-append-le n (all_septets service count o) (drop (length (all_septets service count o)) array) (kept-most service o count)
      ∙ kept-front service count o
