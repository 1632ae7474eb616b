-- What is put stands between what stands in front of its place and what stands behind its end.
use Rattle.std.proofs.Common.{rules, arith, ◌≡◌, sym, length, ℕ, ◌+◌, ◌-◌}
use Rattle.printed.specs.Printing.{end_of}
use Rattle.printed.proofs.Printing.{end-past, placed_past, placed-parts}
use Rattle.printed.proofs.Sheet.put.Goals as goal

pub returns-then-self-clause-end : goal.returns-then-self-clause-end
unfolding end_of
returns-then-self-clause-end c = search rules

pub returns-then-self-clause-buffer : goal.returns-then-self-clause-buffer
returns-then-self-clause-buffer c =
    let n : ℕ = c.min-n.result in
    let k : c.args.self.now.end + n - c.args.self.now.end ≡ n = omega arith in
    rw (k, c.copy_from_slice.ensures.after) (placed-parts c.args.self.now.buffer.now c.args.word.now c.args.self.now.end n c.if-self.true c.min-n.ensures)

pub returns-else-self-clause-end : goal.returns-else-self-clause-end
unfolding end_of
returns-else-self-clause-end c = sym (end-past (length c.args.self.now.buffer.now) c.args.self.now.end (length c.args.word.now) (omega arith))

pub returns-else-self-clause-buffer : goal.returns-else-self-clause-buffer
returns-else-self-clause-buffer c = sym (placed_past c.args.self.now.buffer.now c.args.self.now.end c.args.word.now (omega arith))
