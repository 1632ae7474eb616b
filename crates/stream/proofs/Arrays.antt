-- All septets that octets hold: what unpack keeps is their front, and how many of them are left is how many unpack gives.
-- Assumes nothing.
use mathlib.Core.Path.{◌≡◌, refl, sym, ap, ap₂, ◌∙◌}
use mathlib.Core.Bool.{Bool, true, false, ◌&&◌}
use mathlib.Core.List.{List}
use Prim.Native.Nat.{ℕ, ◌+◌, ◌-◌, ◌*◌, ◌/◌, ◌%◌, ◌≤◌, ◌<◌}
use native.Mathlib.Omega.{arith}
use native.Mathlib.Decide.{dec_le}
use borrow.Author.Tests.{eq-eqb, ne_eqb, lt-ltb, le-ltb}
use lib.Dec.{eqb, ltb}
use lib.ListN.{length, take}
use lib.Seq.{length-take-le, take-length}
use Rattle.words.specs.declared.Service.{Service}
use Rattle.words.specs.declared.Service.TheVariants.{ShortMessage, Broadcast, Ussd, OldPage}
use Rattle.lists.proofs.Closing.{closing-front}
use Rattle.stream.specs.Stream.{unpacked}
use Rattle.stream.specs.UssdPacking.{last, drops_cr, opened, ussd_septets}
use Rattle.stream.specs.Pages.{page_septets}
use Rattle.stream.specs.OldPage.{old_page_septets}
use Rattle.stream.proofs.Stream.{unpacked-length}
use Rattle.stream.proofs.Ussd.{opened-dropped, opened-kept}
use Rattle.stream.specs.SeptetCalls.{septets_of}
use Rattle.stream.specs.ArrayCalls.{all_septets, closes_groups, less_one, kept_count, held_count}

-- ---- reading

opened-front : (m : ℕ) (s : List ℕ) → take (length (opened m s)) s ≡ opened m s
opened-front m s = go (drops_cr m s) refl
  where
    go : (b : Bool) → drops_cr m s ≡ b → take (length (opened m s)) s ≡ opened m s
    go true e = rw (opened-dropped m s e) (ap (λ (n : ℕ). take n s) (length-take-le (length s - 1) s (omega arith)))
    go false e = rw (opened-kept m s e) (take-length s)

pub kept-front : (service : Service) (count : ℕ) (o : List ℕ) → take (length (septets_of service count o)) (all_septets service count o) ≡ septets_of service count o
unfolding page_septets ussd_septets old_page_septets
kept-front ShortMessage count o = take-length (unpacked count o)
kept-front Broadcast count o = closing-front 13 (unpacked 93 o)
kept-front Ussd count o = opened-front (length o) (unpacked (8 * length o / 7) o)
kept-front OldPage count o = closing-front 0 (unpacked 93 o)

-- the CR that closes whole groups, by length and last septet, as the code tests them
module _ (s : List ℕ) where
  pub closes-eight : 0 < length s → length s % 8 ≡ 0 → closes_groups s ≡ eqb (last s) 13
  unfolding closes_groups
  closes-eight p e = simp (lt-ltb _ _ p, eq-eqb (length s % 8) 0 e)

  pub closes-broken : (length s % 8 ≡ 0 → ⊥) → closes_groups s ≡ false
  unfolding closes_groups
  closes-broken b = simp (lt-ltb 0 (length s) (omega arith), ne_eqb (length s % 8) 0 b)

  pub closes-none : length s ≤ 0 → closes_groups s ≡ false
  unfolding closes_groups
  closes-none z = simp (le-ltb 0 (length s) z)

  pub kept-closed : closes_groups s ≡ true → kept_count Ussd s ≡ length s - 1
  kept-closed e = ap (λ (b : Bool). less_one b (length s)) e

  pub kept-open : closes_groups s ≡ false → kept_count Ussd s ≡ length s
  kept-open e = ap (λ (b : Bool). less_one b (length s)) e

-- m octets are whole groups of seven exactly where their septets are whole groups of eight
closes-drops : (m : ℕ) (s : List ℕ) → length s ≡ 8 * m / 7 → closes_groups s ≡ drops_cr m s
unfolding closes_groups drops_cr
closes-drops m s e =
    let parts : 8 * m / 7 ≡ 8 * (m / 7) + m % 7 = omega arith in
    let over : length s % 8 ≡ m % 7 = omega (arith, parts) in
    let some : ltb 0 (length s) ≡ ltb 0 m =
    elim (dec_le m 0) [ yes z ↦ le-ltb 0 (length s) (omega arith) ∙ sym (le-ltb 0 m z) | no p ↦ lt-ltb 0 (length s) (omega arith) ∙ sym (lt-ltb 0 m (omega arith)) ] in
    ap₂ (λ (a : Bool) (r : ℕ). a && eqb r 0 && eqb (last s) 13) some over

-- how many of all septets are left is how many unpack gives
pub kept-count : (service : Service) (count : ℕ) (o : List ℕ) → kept_count service (all_septets service count o) ≡ length (septets_of service count o)
unfolding page_septets ussd_septets old_page_septets
kept-count ShortMessage count o = refl
kept-count Broadcast count o = refl
kept-count Ussd count o = go (drops_cr (length o) all) refl
  where
    all : List ℕ
    all = unpacked (8 * length o / 7) o

    closes : closes_groups all ≡ drops_cr (length o) all
    closes = closes-drops (length o) all (unpacked-length (8 * length o / 7) o)

    go : (b : Bool) → drops_cr (length o) all ≡ b → kept_count Ussd all ≡ length (opened (length o) all)
    go true e = kept-closed all (closes ∙ e) ∙ sym (ap length (opened-dropped (length o) all e) ∙ length-take-le (length all - 1) all (omega arith))
    go false e = kept-open all (closes ∙ e) ∙ sym (ap length (opened-kept (length o) all e))
kept-count OldPage count o = refl

-- all septets are the first of the stream
pub held-septets : (service : Service) (count : ℕ) (o : List ℕ) → unpacked (held_count service (length o) count) o ≡ all_septets service count o
held-septets ShortMessage count o = refl
held-septets Broadcast count o = refl
held-septets Ussd count o = refl
held-septets OldPage count o = refl
