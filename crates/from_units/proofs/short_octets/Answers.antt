-- The size is judged, and past it the octets are stored or the room refuses. Assumes nothing.
use mathlib.Core.Path.{refl}
use borrow.Author.Tests.{lt-ltb}
use Rattle.words.specs.declared.Service.TheVariants.{ShortMessage}
use Rattle.words.specs.Judging.{verdict}
use Rattle.stream.specs.UnitCalls.{to_octets_rules, to_octets_answers, to_octets_leaves}
use Rattle.stream.proofs.Calls.{to-octets-passed}
use Rattle.words.proofs.Clauses.{answered}
use Rattle.from_units.proofs.short_octets.Goals as goal

pub returns-then-units-gt70 : goal.returns-then-units-gt70
unfolding to_octets_rules to_octets_answers to_octets_leaves verdict
returns-then-units-gt70 c = answered (simp (lt-ltb _ _ c.if-units-gt70.true) (refl, refl))

pub returns : goal.returns
returns c = let a = c.args in
    answered
    (to-octets-passed ShortMessage a.units.now a.out.now refl c.if-units-gt70.false (c.put_units.ensures.answer, c.put_units.ensures.buffer))
