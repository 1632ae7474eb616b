-- `join` meets its contract: both numbers are parts of those that `joined` and `rest` give. Assumes nothing.
use Rattle.std.proofs.Common.{rules, ◌≡◌, ◌∙◌, ap₂, ℕ, ◌+◌, ◌*◌, ◌/◌, ◌%◌}
use Rattle.names.specs.declared.JoinedNumbers.{JoinedNumbers}
use Rattle.names.specs.Joined.{joined_numbers}
use Rattle.names.proofs.join.Goals as goal

halves : ℕ → ℕ → JoinedNumbers
halves n m = record { front = n % 0x100000000; back = n / 0x100000000 + 0x100000000 * m }

pub returns : goal.returns
unfolding joined_numbers halves
returns c =
    let same : c.from.result ≡ c.rest-others.result = search rules in
    record { answer = ap₂ halves c.joined-fields.ensures.0 (same ∙ c.rest-others.ensures) }
