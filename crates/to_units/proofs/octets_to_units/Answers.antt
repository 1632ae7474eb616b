-- Rule 4 is judged whole; past it each service stores its units, and the room is judged there.
use Prim.Native.Nat.{ℕ, ◌/◌}
use mathlib.Core.Path.{◌≡◌, refl, sym, ap, ◌∙◌, subst}
use mathlib.Core.Bool.{Bool, true, false}
use mathlib.Core.List.{List}
use native.Mathlib.Omega.{arith}
use lib.ListN.{length, take}
use lib.Seq.{take_all}
use Rattle.words.specs.declared.Service.{Service}
use Rattle.words.specs.declared.Service.TheVariants.{ShortMessage, Broadcast, Ussd}
use Rattle.words.specs.Judging.{verdict}
use Rattle.lists.proofs.Closing.{closing-front, closing-length}
use Rattle.stream.specs.Ucs2.{octet_units}
use Rattle.stream.specs.UnitCalls.{units_fit, to_units_rules, to_units_answers, to_units_leaves}
use Rattle.stream.proofs.Given.{Gives}
use Rattle.stream.proofs.UnitOctets.{octet-units-length}
use Rattle.stream.proofs.Calls.{to-units-passed}
use Rattle.words.proofs.Clauses.{answered}
use Rattle.to_units.proofs.octets_to_units.Goals as goal

pub returns-then-not-fits : goal.returns-then-not-fits
unfolding to_units_rules to_units_answers to_units_leaves verdict
returns-then-not-fits c = let a = c.args in
    let wrong : units_fit a.service (length a.octets.now) a.count ≡ false = sym c.fits.ensures ∙ c.if-not-fits.true in
    answered
    (simp wrong (refl, refl))

-- past rule 4, at the service that is told
fit : (service told : Service) (octets count : ℕ) {fits : Bool} → fits ≡ units_fit told octets count → fits ≡ true → told ≡ service → units_fit service octets count ≡ true
fit service told octets count e passed is = ap (λ (x : Service). units_fit x octets count) (sym is) ∙ sym e ∙ passed

-- all units that the octets hold
all : (o : List ℕ) → take (length o / 2) (octet_units o) ≡ octet_units o
all o = take_all (length o / 2) (octet_units o) (omega (arith, octet-units-length o))

pub get_units-requires-in-Broadcast : goal.get_units-requires-in-Broadcast
get_units-requires-in-Broadcast c = let o : List ℕ = c.args.octets.now in
    omega (arith, c.page_kept.ensures, closing-length 13 (octet_units o), octet-units-length o)

pub returns-in-ShortMessage : goal.returns-in-ShortMessage
returns-in-ShortMessage c = let a = c.args in
    let e = c.in-ShortMessage.is in
    answered
    (rw e
    (to-units-passed ShortMessage a.octets.now a.out.now a.count (fit ShortMessage a.service (length a.octets.now) a.count c.fits.ensures c.if-not-fits.false e)
    (subst (λ (us : List ℕ). Gives us a.out.now c.get_units.result c.get_units.new.out) (all a.octets.now) (c.get_units.ensures.answer, c.get_units.ensures.buffer))))

pub returns-in-Broadcast : goal.returns-in-Broadcast
returns-in-Broadcast c = let a = c.args in
    let e = c.in-Broadcast.is in
    let us : List ℕ = octet_units a.octets.now in
    answered
    (rw e
    (to-units-passed Broadcast a.octets.now a.out.now a.count (fit Broadcast a.service (length a.octets.now) a.count c.fits.ensures c.if-not-fits.false e)
    (subst (λ (x : List ℕ). Gives x a.out.now c.get_units-in-Broadcast.result c.get_units-in-Broadcast.new.out) (ap (λ (n : ℕ). take n us) c.page_kept.ensures ∙ closing-front 13 us) (c.get_units-in-Broadcast.ensures.answer, c.get_units-in-Broadcast.ensures.buffer))))

pub returns-in-Ussd : goal.returns-in-Ussd
returns-in-Ussd c = let a = c.args in
    let e = c.in-Ussd.is in
    answered
    (rw e
    (to-units-passed Ussd a.octets.now a.out.now a.count (fit Ussd a.service (length a.octets.now) a.count c.fits.ensures c.if-not-fits.false e)
    (subst (λ (us : List ℕ). Gives us a.out.now c.get_units-in-Ussd.result c.get_units-in-Ussd.new.out) (all a.octets.now) (c.get_units-in-Ussd.ensures.answer, c.get_units-in-Ussd.ensures.buffer))))
