-- The mask leaves the septets that are left over, and the CR stands above them.
use Rattle.std.proofs.Common.{ℕ, ◌*◌, ◌%◌, ◌^◌, sym, ap, ◌∙◌, bit_or}
use Rattle.stream.specs.Groups.{left_over}
use Rattle.stream.proofs.Sent.{over-masked, over_closed}
use Rattle.groups.proofs.left_over.Goals as goal

pub returns-then-cr : goal.returns-then-cr
returns-then-cr c = record {
  answer = ap (λ (x : ℕ). bit_or x (13 * 2 ^ (7 * (c.args.n % 8)) % 2 ^ 64)) (over-masked c.args.v c.args.n) ∙ over_closed c.args.v c.args.n ∙ ap (left_over c.args.v c.args.n) (sym c.if-cr.true);
}

pub returns-else-cr : goal.returns-else-cr
returns-else-cr c = record {
  answer = over-masked c.args.v c.args.n ∙ ap (left_over c.args.v c.args.n) (sym c.if-cr.false);
}
