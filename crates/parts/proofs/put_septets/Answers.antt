-- `put_septets` meets its contract: the septets are packed, and the header goes over those that are 0. Assumes nothing.
use mathlib.Core.Path.{ap, ◌∙◌}
use Rattle.lists.specs.Lists.{laid}
use Rattle.parted.proofs.WriteSteps.{mark_header, septets-room, septets-headed}
use Rattle.parts.proofs.put_septets.Goals as goal

pub put_header-requires : goal.put_header-requires
put_header-requires c = let a = c.args in
    septets-room a.total a.septets.now a.out.now c.requires.septets_len_bound.0 c.requires.septets_len_bound.3 c.requires.septets_len_bound.2 c.requires.septets_len_bound.1 _ c.pack_short.ensures.buffer

pub returns : goal.returns
returns c = let a = c.args in
    c.put_header.ensures
    ∙ ap (laid (mark_header a.total a.numbers)) c.pack_short.ensures.buffer
    ∙ septets-headed a.total a.numbers a.septets.now a.out.now c.requires.septets_len_bound.0 c.requires.septets_len_bound.3 c.requires.septets_len_bound.2 c.requires.septets_len_bound.1 c.requires.septets_value
