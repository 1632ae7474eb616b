-- What a meter promises: what each key does to every record, and what the number says after any keys.
-- Assumes nothing.
--   refuses-6-iff, refuses-5-iff, goes-iff  == which key is refused, and with which number, of every record
--   refused-kept                            == a refused key leaves the record as it was
--   clears                                  == clear always goes, and gives a new meter's record
--   any-keys                                == after any keys, the number is the service's size less the septets of their text, counted afresh
--   text-codable, sum-most                  == that text has no unlisted unit, and takes 65,535 septets at most
--   shown-fits-iff, shown-over-iff          == the number is not negative exactly when that text fits the service: when the writer's 5 does not meet it
use mathlib.Core.Path.{◌≡◌, refl, sym, ap, ◌∙◌, subst}
use mathlib.Core.Bool.{true, false}
use mathlib.Core.List.{List, [], ◌∷◌, ◌++◌}
use mathlib.Core.Logic.{◌↔◌}
use Prim.Native.Nat.{ℕ, ◌+◌, ◌-◌, ◌<◌, ◌≤◌, zero-le}
use native.Mathlib.Decide.{dec_le}
use native.Mathlib.Omega.{arith}
use lib.Dec.{T, ltb, ltb→lt, le→leb}
use lib.IntN.{ℤ, pos, ◌-ℤ◌, nat_abs}
use lib.ListN.{length, length-append}
use lib.Signed.{lt_z, le_z, ◌≤ℤ◌, ◌<ℤ◌}
use borrow.Author.Tests.{lt-ltb, ltb-true, ltb-false}
use Rattle.lists.specs.Lists.{first_place}
use Rattle.words.specs.declared.Service.{Service}
use Rattle.words.specs.declared.Refusal.{Refusal}
use Rattle.words.specs.declared.Refusal.TheVariants.{Unlisted, TooLong}
use Rattle.words.specs.Judging.{when, Verdict, refused, accepted, verdict, settle}
use Rattle.words.specs.Sizes.{most_septets, most_units}
use Rattle.words.proofs.Judging.{settle-told, settle-given}
use Rattle.words.proofs.Rules.{gives, given-iff, accepted-iff, settle-refused-iff}
use Rattle.letters.specs.Sized.{over_room}
use Rattle.letters.specs.Writing.{listed_as, septets_for, septets_in, septets_of}
use Rattle.letters.proofs.Texts.{codable-snoc, codable-front}
use Rattle.letters.proofs.Theorems.{Codable, septets-last}
use Rattle.metered.specs.declared.Meter.{Meter}
use Rattle.metered.specs.declared.Keyed.{Keyed}
use Rattle.metered.specs.Metered.{Key, add, back, clear, new_meter, remains, unit_septets, of_unlisted, sum_after, no_sum, key_rules, refused_key, keyed}
use Rattle.metered.specs.Typed.{Called, Follows, Step, Types, last_meter, last_text}
use Rattle.metered.proofs.Keys.{back_sum, back_below, sum-none, clear-keyed}
use Rattle.std.specs.Prelude.{Result, Ok, Err}

-- ---- one key

-- the verdict that a key's answer tells
abbrev told : Result (Unit {0}) Refusal → Verdict
told (Ok tt) = accepted
told (Err r) = refused r

abbrev gone_to : Meter → Key → Keyed
gone_to m k = record { meter = record { service = m.service; used = nat_abs (sum_after m k) }; answer = (Ok tt) }

by-verdict : (m : Meter) (k : Key) → verdict (key_rules m k) ≡ told (keyed m k).answer
unfolding keyed
by-verdict m k = settle-told (λ (x : Keyed). told x.answer) (refused_key m) (gone_to m k) (λ r. refl) refl (verdict (key_rules m k)) (keyed m k) refl

refused-by : (m : Meter) (k : Key) (r : Refusal) → (keyed m k ≡ refused_key m r) ↔ (verdict (key_rules m k) ≡ refused r)
unfolding keyed
refused-by m k r = settle-refused-iff (λ (x : Keyed). told x.answer) (refused_key m) (gone_to m k) (λ q. refl) refl (verdict (key_rules m k)) r

pub refuses-6-iff : (m : Meter) (k : Key) → (keyed m k ≡ refused_key m (Unlisted 0)) ↔ (of_unlisted k ≡ true)
unfolding gives verdict
refuses-6-iff m k =
    let rule = given-iff [] (of_unlisted k) (Unlisted 0) (when (no_sum (sum_after m k)) TooLong ∷ []) refl refl in
    let six = refused-by m k (Unlisted 0) in
    (λ e. (rule.0 (six.0 e)).1, λ e. six.1 (rule.1 (refl, e)))

pub refuses-5-iff : (m : Meter) (k : Key) → (keyed m k ≡ refused_key m TooLong) ↔ ((of_unlisted k ≡ false) × (no_sum (sum_after m k) ≡ true))
unfolding gives verdict
refuses-5-iff m k =
    let rule = given-iff (when (of_unlisted k) (Unlisted 0) ∷ []) (no_sum (sum_after m k)) TooLong [] refl refl in
    let listed = accepted-iff (of_unlisted k) (Unlisted 0) [] in
    let five = refused-by m k TooLong in
    (λ e. let g = rule.0 (five.0 e) in ((listed.0 g.0).0, g.1), λ e. five.1 (rule.1 (listed.1 (e.0, refl), e.1)))

pub goes-iff : (m : Meter) (k : Key) → ((keyed m k).answer ≡ (Ok tt)) ↔ ((of_unlisted k ≡ false) × (no_sum (sum_after m k) ≡ false))
unfolding keyed verdict
goes-iff m k =
    let six = accepted-iff (of_unlisted k) (Unlisted 0) (when (no_sum (sum_after m k)) TooLong ∷ []) in
    let five = accepted-iff (no_sum (sum_after m k)) TooLong [] in
    (λ e. let g = six.0 (by-verdict m k ∙ ap told e) in (g.0, (five.0 g.1).0), λ e. ap (λ (v : Verdict). (settle v (refused_key m) (gone_to m k)).answer) (six.1 (e.0, five.1 (e.1, refl))))

pub refused-kept : (m : Meter) (k : Key) (r : Refusal) → (keyed m k).answer ≡ Err r → (keyed m k).meter ≡ m
refused-kept m k r e = ap (λ (x : Keyed). x.meter) ((refused-by m k r).1 (by-verdict m k ∙ ap told e))

pub clears : (m : Meter) → keyed m clear ≡ record { meter = new_meter m.service; answer = (Ok tt) }
clears m = clear-keyed m

went_to : (m : Meter) (k : Key) → (keyed m k).answer ≡ (Ok tt) → (keyed m k).meter ≡ record { service = m.service; used = nat_abs (sum_after m k) }
unfolding keyed
went_to m k e = ap (λ (x : Keyed). x.meter) (settle-given (verdict (key_rules m k)) (refused_key m) (gone_to m k) (by-verdict m k ∙ ap told e))

-- ---- any keys

-- what the record says of the text, after each key
record Counts (s : Service) (m : Meter) (t : List ℕ) : Type 0 where
  service : m.service ≡ s
  counted : m.used ≡ length (septets_of t)
  codable : Codable t
  most : m.used ≤ 65535

septets-more : (t : List ℕ) (u : ℕ) → length (septets_of (t ++ (u ∷ []))) ≡ length (septets_of t) + unit_septets u
unfolding unit_septets
septets-more t u = ap length (septets-last t u) ∙ length-append (septets_of t) (septets_for (listed_as u))

sum-bounded : (n : ℕ) → no_sum (pos n) ≡ false → n ≤ 65535
sum-bounded n e = ltb-false 65535 n (sym (sum-none n) ∙ e)

empty-counts : (s q : Service) → q ≡ s → Counts s (new_meter q) []
unfolding septets_in first_place
empty-counts s q e = record { service = e; counted = refl; codable = refl; most = omega arith }

-- a key that goes
went-counts : (s : Service) (m : Meter) (t u : List ℕ) (k : Key) → Counts s m t → of_unlisted k ≡ false → no_sum (sum_after m k) ≡ false → Follows t k (Ok tt) u
    → Counts s (record { service = m.service; used = nat_abs (sum_after m k) }) u
went-counts s m t u (add unit) c l z e =
    record {
      service = c.service;
      counted = ap (λ (n : ℕ). n + unit_septets unit) c.counted ∙ sym (septets-more t unit) ∙ ap (λ (v : List ℕ). length (septets_of v)) (sym e);
      codable = subst Codable (sym e) (codable-snoc t unit c.codable l);
      most = sum-bounded (m.used + unit_septets unit) z;
    }
went-counts s m t u (back unit) c l z e =
    let before : m.used ≡ length (septets_of u) + unit_septets unit = c.counted ∙ ap (λ (v : List ℕ). length (septets_of v)) e ∙ septets-more u unit in
    let sum : pos m.used -ℤ pos (unit_septets unit) ≡ pos (m.used - unit_septets unit) = back_sum m.used (unit_septets unit) (omega (arith, before)) in
    let after : nat_abs (pos m.used -ℤ pos (unit_septets unit)) ≡ m.used - unit_septets unit = ap nat_abs sum in
    record {
      service = c.service;
      counted = after ∙ omega (arith, before);
      codable = codable-front u (unit ∷ []) (subst Codable e c.codable);
      most = subst (λ (n : ℕ). n ≤ 65535) (sym after) (omega (arith, c.most));
    }
went-counts s m t u clear c l z e = subst (λ (v : List ℕ). Counts s (new_meter m.service) v) (sym e) (empty-counts s m.service c.service)

-- one call
step_counts : (s : Service) (m n : Meter) (t u : List ℕ) (k : Key) (a : Result (Unit {0}) Refusal) → Counts s m t → Called m k a n → Follows t k a u → Counts s n u
step_counts s m n t u k (Err r) c e f =
    subst (λ (v : List ℕ). Counts s n v) (sym f) (subst (λ (x : Meter). Counts s x t) (sym (e.1 ∙ refused-kept m k r (sym e.0))) c)
step_counts s m n t u k (Ok tt) c e f =
    let goes = (goes-iff m k).0 (sym e.0) in
    subst (λ (x : Meter). Counts s x u) (sym (e.1 ∙ went_to m k (sym e.0))) (went-counts s m t u k c goes.0 goes.1 f)

typed-counts : (s : Service) (m : Meter) (t : List ℕ) (steps : List Step) → Counts s m t → Types m t steps → Counts s (last_meter m steps) (last_text t steps)
unfolding Types last_meter last_text
typed-counts s m t [] c types = c
typed-counts s m t (x ∷ steps) c types =
    typed-counts s x.meter x.text steps (step_counts s m x.meter t x.text x.key x.answer c types.0 types.1.0) types.1.1

-- ---- the sign of a difference

not_negative : (a n : ℕ) → (pos 0 ≤ℤ (pos a -ℤ pos n)) ↔ (n ≤ a)
not_negative a n =
    elim (dec_le n a) [
      | yes h ↦ (λ l. h, λ l. record { le = subst (λ (z : ℤ). T (le_z (pos 0) z)) (sym (back_sum a n h)) (le→leb 0 (a - n) zero-le) })
      | no p ↦ (λ l. absurd {0} (subst (λ (z : ℤ). T (le_z (pos 0) z)) (back_below a n (omega (arith, p))) l.le), λ l. absurd {0} (p l))
    ]

negative : (a n : ℕ) → ((pos a -ℤ pos n) <ℤ pos 0) ↔ (a < n)
negative a n =
    elim (dec_le n a) [
      | yes h ↦ (λ l. absurd {0} (below_none (a - n) (subst (λ (z : ℤ). T (lt_z z (pos 0))) (back_sum a n h) l.lt)), λ l. absurd {0} (omega (arith, h, l)))
      | no p ↦ let h : a < n = omega (arith, p) in (λ l. h, λ l. record { lt = subst (λ (z : ℤ). T (lt_z z (pos 0))) (sym (back_below a n h)) tt })
    ]
  where
    below_none : (x : ℕ) → T (ltb x 0) → ⊥
    below_none x t = let l : x < 0 = ltb→lt x 0 t in omega (arith, l)

-- ---- after any keys

module _ (s : Service) (steps : List Step) (types : Types (new_meter s) [] steps) where
  counts : Counts s (last_meter (new_meter s) steps) (last_text [] steps)
  counts = typed-counts s (new_meter s) [] steps (empty-counts s s refl) types

  pub any-keys : remains (last_meter (new_meter s) steps) ≡ pos (most_septets s) -ℤ pos (length (septets_of (last_text [] steps)))
  unfolding remains
  any-keys = rw (counts.service, counts.counted) refl

  pub text-codable : Codable (last_text [] steps)
  text-codable = counts.codable

  pub sum-most : length (septets_of (last_text [] steps)) ≤ 65535
  sum-most = subst (λ (n : ℕ). n ≤ 65535) counts.counted counts.most

  pub shown-fits-iff : (pos 0 ≤ℤ remains (last_meter (new_meter s) steps)) ↔ (length (septets_of (last_text [] steps)) ≤ most_septets s)
  shown-fits-iff = rw any-keys (not_negative (most_septets s) (length (septets_of (last_text [] steps))))

  pub shown-over-iff : (remains (last_meter (new_meter s) steps) <ℤ pos 0) ↔ (over_room (most_septets s) (most_units s) false (last_text [] steps) ≡ true)
  shown-over-iff =
      let below = negative (most_septets s) (length (septets_of (last_text [] steps))) in
      rw any-keys (λ h. lt-ltb _ _ (below.0 h), λ e. below.1 (ltb-true _ _ e))
