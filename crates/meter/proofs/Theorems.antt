-- Of the calls themselves: what the contract of a key says is Called, of which the promises of a meter speak (metered/proofs/Theorems.antt).
-- Assumes nothing.
--   add-called, take-back-called, clear-called      == the keys in place
--   added-called, taken-back-called, cleared-called == the keys by value
use mathlib.Core.Path.{◌≡◌, ap}
use Prim.Native.Nat.{ℕ}
use seplogic.Ra.Ura.{Ura}
use base.Logic.{SProp, ent}
use prog.Memory.{Memory}
use prog.Routine.{Routine}
use types.Logic.{Logic}
use contract.Lifetimes.{Lfts}
use contract.Monad.{Fun, fact}
use denote.MutBor.{MutBor}
use denote.Triple.Clauses.{AtExit}
use Rattle.metered.specs.declared.Meter.{Meter}
use Rattle.metered.specs.declared.Keyed.{Keyed}
use Rattle.metered.specs.Metered.{Key, keyed, back, add as adds, clear as clears}
use Rattle.metered.specs.Typed.{Called}
use Rattle.meter.proofs.Outcomes.{key-called}
use Rattle.meter.proofs.added.Reads as added
use Rattle.meter.proofs.taken_back.Reads as taken_back
use Rattle.meter.proofs.cleared.Reads as cleared
use Rattle.meter.specs.contracts.add as add
use Rattle.meter.specs.contracts.take_back as take_back
use Rattle.meter.specs.contracts.clear as clear
use Rattle.std.specs.Prelude.{Result}
use Rattle.words.specs.declared.Refusal.{Refusal}

module _ {M : Type 1} {𝓤 : Ura M} (𝓛 : Logic 𝓤) (mem : Memory → SProp 𝓤) (run : Routine → Fun 𝓤) (κs : Lfts 1) (meter : MutBor Meter) (answer : Result (Unit {0}) Refusal) where
  pub add-called : (unit : ℕ) (u : AtExit add.ended κs) → ent 𝓤 ((add.clauses 𝓛 mem run κs (meter, (unit, tt))).ensures tt answer u) (fact 𝓤 (Called meter.now (adds unit) answer u.0.now))
  add-called unit u = key-called 𝓤 meter.now (adds unit) answer u.0.now

  pub take-back-called : (unit : ℕ) (u : AtExit take_back.ended κs) → ent 𝓤 ((take_back.clauses 𝓛 mem run κs (meter, (unit, tt))).ensures tt answer u) (fact 𝓤 (Called meter.now (back unit) answer u.0.now))
  take-back-called unit u = key-called 𝓤 meter.now (back unit) answer u.0.now

  pub clear-called : (u : AtExit clear.ended κs) → ent 𝓤 ((clear.clauses 𝓛 mem run κs (meter, tt)).ensures tt answer u) (fact 𝓤 (Called meter.now clears answer u.0.now))
  clear-called u = key-called 𝓤 meter.now clears answer u.0.now

by_value : (m : Meter) (k : Key) (r : Keyed) → r ≡ keyed m k → Called m k r.answer r.meter
by_value m k r e = (ap (λ (x : Keyed). x.answer) e, ap (λ (x : Keyed). x.meter) e)

pub added-called : (κs : Lfts 0) (m : Meter) (unit : ℕ) (r : Keyed) (u : _) → added.Post κs (m, (unit, tt)) r u → Called m (adds unit) r.answer r.meter
added-called κs m unit r u e = by_value m (adds unit) r e

pub taken-back-called : (κs : Lfts 0) (m : Meter) (unit : ℕ) (r : Keyed) (u : _) → taken_back.Post κs (m, (unit, tt)) r u → Called m (back unit) r.answer r.meter
taken-back-called κs m unit r u e = by_value m (back unit) r e

pub cleared-called : (κs : Lfts 0) (m : Meter) (r : Keyed) (u : _) → cleared.Post κs (m, tt) r u → Called m clears r.answer r.meter
cleared-called κs m r u e = by_value m clears r e
