-- Where the text has room all of it is stored, by its alphabet. Assumes nothing.
use mathlib.Core.Bool.{Bool}
use Prim.Native.Nat.{ℕ}
use mathlib.Core.List.{List}
use mathlib.Core.Path.{sym, ap, ◌∙◌}
use lib.ListN.{length}
use Rattle.lists.specs.Lists.{laid}
use Rattle.parted.specs.Joined.{joined_text}
use Rattle.parted.proofs.JoinSteps.{given-short, given-fits}
use Rattle.words.proofs.Clauses.{answered}
use Rattle.part_joining.proofs.Ordered.store_text.Goals as goal

pub returns-then-not-has_room : goal.returns-then-not-has_room
returns-then-not-has_room c = let p = c.args.self.now in
    answered (given-short (joined_text p.parts.ucs2 p.parts.counts.now p.parts.octets.now) c.args.out.now (sym c.has_room.ensures ∙ c.if-not-has_room.true))

pub returns-then-self : goal.returns-then-self
returns-then-self c = let p = c.args.self.now in
    let same = ap (λ (u : Bool). joined_text u p.parts.counts.now p.parts.octets.now) (sym c.if-self.true) in
    answered
    (given-fits (joined_text p.parts.ucs2 p.parts.counts.now p.parts.octets.now) c.args.out.now (sym c.has_room.ensures ∙ c.if-not-has_room.false) _ _ (c.join_units.ensures.answer ∙ ap length same)
    (c.join_units.ensures.buffer ∙ ap (λ (l : List ℕ). laid l c.args.out.now) same))

pub returns : goal.returns
returns c = let p = c.args.self.now in
    let same = ap (λ (u : Bool). joined_text u p.parts.counts.now p.parts.octets.now) (sym c.if-self.false) in
    answered
    (given-fits (joined_text p.parts.ucs2 p.parts.counts.now p.parts.octets.now) c.args.out.now (sym c.has_room.ensures ∙ c.if-not-has_room.false) _ _ (c.join_septets.ensures.answer ∙ ap length same)
    (c.join_septets.ensures.buffer ∙ ap (λ (l : List ℕ). laid l c.args.out.now) same))
