-- `put_units` meets its contract: the octets of the units go behind the header. Assumes nothing.
use mathlib.Core.Path.{ap, ap₂, ◌∙◌}
use mathlib.Core.List.{List, ◌++◌}
use Prim.Native.Nat.{ℕ}
use lib.ListN.{take, drop}
use Rattle.lists.specs.Lists.{laid}
use Rattle.parted.proofs.Lent.{tail-lent, tail-put}
use Rattle.parted.proofs.WriteSteps.{mark_header, units-headed}
use Rattle.parts.proofs.put_units.Goals as goal

pub returns : goal.returns
returns c = let a = c.args in
    c.put_header.ensures
    ∙ ap (laid (mark_header a.total a.numbers))
    (tail-put c.mark_size-size.result a.out.now _
    ∙ ap₂ (λ (k : ℕ) (l : List ℕ). take k a.out.now ++ l) c.mark_size-size.ensures c.short_octets.ensures.buffer)
    ∙ units-headed a.total a.numbers a.units.now a.out.now c.requires.0 c.requires.1 _
    (tail-lent c.mark_size-size.result a.out.now ∙ ap (λ (k : ℕ). drop k a.out.now) c.mark_size-size.ensures)
