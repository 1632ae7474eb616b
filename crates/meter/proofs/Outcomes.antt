-- Any two outcomes that the contract of a public call of this crate allows coincide: each contract is an equation.
-- Assumes nothing.
use mathlib.Core.Path.{◌≡◌, ◌∙◌, sym}
use seplogic.Ra.Ura.{Ura}
use base.Logic.{SProp, ent, sep, via, fst∗, snd∗}
use prog.Memory.{Memory}
use prog.Routine.{Routine}
use types.Logic.{Logic}
use contract.Monad.{Fun, fact, fact_i, fact_use}
use Rattle.metered.specs.declared.Meter.{Meter}
use Rattle.metered.specs.Metered.{Key, keyed, back, add as adds, clear as clears}
use Rattle.metered.specs.Typed.{Called}
use Rattle.words.proofs.Unique.{OneAnswer, OneResult, OneRecord}
use Rattle.meter.proofs.new_meter.Kinds as new-meter-kinds
use Rattle.meter.proofs.new_meter.Reads as new-meter
use Rattle.meter.proofs.left.Kinds as left-kinds
use Rattle.meter.proofs.left.Reads as left
use Rattle.meter.proofs.added.Kinds as added-kinds
use Rattle.meter.proofs.added.Reads as added
use Rattle.meter.proofs.taken_back.Kinds as taken-back-kinds
use Rattle.meter.proofs.taken_back.Reads as taken_back
use Rattle.meter.proofs.cleared.Kinds as cleared-kinds
use Rattle.meter.proofs.cleared.Reads as cleared
use Rattle.meter.specs.contracts.add as add
use Rattle.meter.specs.contracts.take_back as take_back
use Rattle.meter.specs.contracts.clear as clear
use Rattle.std.specs.Prelude.{Result}
use Rattle.words.specs.declared.Refusal.{Refusal}

pub new-meter-unique : OneAnswer new-meter-kinds.ps new-meter-kinds.r new-meter.Post
new-meter-unique κs a x y u v p q = p ∙ sym q

pub left_unique : OneAnswer left-kinds.ps left-kinds.r left.Post
left_unique κs a x y u v p q = p ∙ sym q

pub added-unique : OneAnswer added-kinds.ps added-kinds.r added.Post
added-unique κs a x y u v p q = p ∙ sym q

pub taken-back-unique : OneAnswer taken-back-kinds.ps taken-back-kinds.r taken_back.Post
taken-back-unique κs a x y u v p q = p ∙ sym q

pub cleared-unique : OneAnswer cleared-kinds.ps cleared-kinds.r cleared.Post
cleared-unique κs a x y u v p q = p ∙ sym q

-- ---- the keys in place

module _ {M : Type 1} (𝓤 : Ura M) where
  -- what a key in place ensures of its answer and of the record at exit, as one fact
  pub key-called : (m : Meter) (k : Key) (a : Result (Unit {0}) Refusal) (n : Meter) → ent 𝓤 (sep 𝓤 (fact 𝓤 (a ≡ (keyed m k).answer)) (fact 𝓤 (n ≡ (keyed m k).meter))) (fact 𝓤 (Called m k a n))
  key-called m k a n =
      let answer = a ≡ (keyed m k).answer in
      let after = n ≡ (keyed m k).meter in
      fact_use 𝓤 answer (fst∗ 𝓤 (fact 𝓤 answer) (fact 𝓤 after)) (λ p. fact_use 𝓤 after (snd∗ 𝓤 (fact 𝓤 answer) (fact 𝓤 after)) (λ q. fact_i 𝓤 (Called m k a n) (sep 𝓤 (fact 𝓤 answer) (fact 𝓤 after)) (p, q)))

  -- of two outcomes of one key on one record
  keys-same : (m : Meter) (k : Key) (a b : Result (Unit {0}) Refusal) (n o : Meter) (same : Type 0) → (Called m k a n → Called m k b o → same)
      → ent 𝓤 (sep 𝓤 (sep 𝓤 (fact 𝓤 (a ≡ (keyed m k).answer)) (fact 𝓤 (n ≡ (keyed m k).meter))) (sep 𝓤 (fact 𝓤 (b ≡ (keyed m k).answer)) (fact 𝓤 (o ≡ (keyed m k).meter)))) (fact 𝓤 same)
  keys-same m k a b n o same f =
      let one = sep 𝓤 (fact 𝓤 (a ≡ (keyed m k).answer)) (fact 𝓤 (n ≡ (keyed m k).meter)) in
      let other = sep 𝓤 (fact 𝓤 (b ≡ (keyed m k).answer)) (fact 𝓤 (o ≡ (keyed m k).meter)) in
      fact_use 𝓤 (Called m k a n) (via 𝓤 one (fst∗ 𝓤 one other) (key-called m k a n))
      (λ p. fact_use 𝓤 (Called m k b o) (via 𝓤 other (snd∗ 𝓤 one other) (key-called m k b o)) (λ q. fact_i 𝓤 same (sep 𝓤 one other) (f p q)))

module _ {M : Type 1} {𝓤 : Ura M} (𝓛 : Logic 𝓤) (mem : Memory → SProp 𝓤) (run : Routine → Fun 𝓤) where
  pub add-unique : OneResult 𝓤 add.ended (add.clauses 𝓛 mem run)
  add-unique κs a g x y u v = keys-same 𝓤 a.0.now (adds a.1.0) x y u.0.now v.0.now (x ≡ y) (λ p q. p.0 ∙ sym q.0)

  pub add-record-unique : OneRecord 𝓤 add.ended (λ κs u. u.0.now) (add.clauses 𝓛 mem run)
  add-record-unique κs a g x y u v = keys-same 𝓤 a.0.now (adds a.1.0) x y u.0.now v.0.now (u.0.now ≡ v.0.now) (λ p q. p.1 ∙ sym q.1)

  pub take-back-unique : OneResult 𝓤 take_back.ended (take_back.clauses 𝓛 mem run)
  take-back-unique κs a g x y u v = keys-same 𝓤 a.0.now (back a.1.0) x y u.0.now v.0.now (x ≡ y) (λ p q. p.0 ∙ sym q.0)

  pub take-back-record-unique : OneRecord 𝓤 take_back.ended (λ κs u. u.0.now) (take_back.clauses 𝓛 mem run)
  take-back-record-unique κs a g x y u v = keys-same 𝓤 a.0.now (back a.1.0) x y u.0.now v.0.now (u.0.now ≡ v.0.now) (λ p q. p.1 ∙ sym q.1)

  pub clear-unique : OneResult 𝓤 clear.ended (clear.clauses 𝓛 mem run)
  clear-unique κs a g x y u v = keys-same 𝓤 a.0.now clears x y u.0.now v.0.now (x ≡ y) (λ p q. p.0 ∙ sym q.0)

  pub clear-record-unique : OneRecord 𝓤 clear.ended (λ κs u. u.0.now) (clear.clauses 𝓛 mem run)
  clear-record-unique κs a g x y u v = keys-same 𝓤 a.0.now clears x y u.0.now v.0.now (u.0.now ≡ v.0.now) (λ p q. p.1 ∙ sym q.1)
