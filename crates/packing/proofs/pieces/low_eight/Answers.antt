-- The eight octets that are joined and moved together are the number of the septets' low bits.
use mathlib.Core.Path.{ap, ◌∙◌}
use Rattle.stream.specs.Groups.{together}
use Rattle.stream.proofs.LowBits.{together-part}
use Rattle.packing.proofs.pieces.low_eight.Goals as goal

pub returns : goal.returns
returns c = c.squeeze.ensures.answer
    ∙ ap together c.join_eight.ensures
    ∙ together-part c.args.septets.now c.args.at (λ k. (c.type_inv.septets k).fits) c.requires
