-- A short message's coding octet is never refused by itself, and its reading decides the rules that are left. Assumes nothing.
use mathlib.Core.Path.{◌∙◌}
use Rattle.parted.proofs.ReadSteps.{octet-reads}
use Rattle.parted.proofs.JoinSteps.{join-octet}
use Rattle.words.proofs.Clauses.{answered}
use Rattle.part_joining.proofs.join_parts.Goals as goal

pub returns-in_err-reading : goal.returns-in_err-reading
returns-in_err-reading c = answered (absurd (octet-reads c.args.coding _ c.in_err-reading.ensures.answer))

pub returns : goal.returns
returns c = let a = c.args in
    let s = join-octet a.counts.now a.octets.now a.out.now a.coding _ c.in_ok-reading.ensures.answer in
    answered (c.join_held.ensures.answer ∙ s.0, c.join_held.ensures.buffer ∙ s.1)
