-- `put_all` meets its contract: part by part, each behind those before it. Assumes nothing.
use mathlib.Core.Path.{◌≡◌}
use Rattle.lists.specs.Lists.{laid}
use Rattle.letters.specs.Sized.{content_of}
use Rattle.parted.specs.Written.{all_octets, all_sizes}
use Rattle.parted.proofs.WriteSteps.{Placed, Blank}
use Rattle.parts.proofs.Message.put_all.Given as goal

abbrev pub invariant-loop-k : goal.invariant-loop-k
invariant-loop-k l = (l.out ≡ laid (all_octets l.self.plan.ucs2 l.self.reference l.self.plan.total (content_of l.self.plan.ucs2 l.self.units.now) 1 l.k) l.initial.out)
    × (l.sizes ≡ laid (all_sizes l.self.plan.ucs2 l.self.reference l.self.plan.total (content_of l.self.plan.ucs2 l.self.units.now) 1 l.k) l.initial.sizes)
    × Placed l.self.plan l.self.units.now l.k l.place.unit l.place.half
    × Blank l.self.plan l.septets
