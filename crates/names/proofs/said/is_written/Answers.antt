-- `is_written` meets its contract: an octet that a reading is written with reads as that. Assumes nothing.
use Rattle.std.proofs.Common.{rules, ◌≡◌, sym, subst, ℕ, Ok}
use Rattle.coding.proofs.Theorems.{write_read}
use Rattle.coding.specs.OctetRead.{octet_reads}
use Rattle.coding.specs.Readings.{plain_in}
use Rattle.names.proofs.said.is_written.Goals as goal

pub returns-in-Ok : goal.returns-in-Ok
returns-in-Ok c =
    let a = c.args in
    let same : c.in-Ok.octet ≡ a.coding = search rules in
    λ e. subst (λ (o : ℕ). octet_reads a.service o ≡ Ok (plain_in a.ucs2)) same (write_read a.service (plain_in a.ucs2) _ (sym c.in-Ok.ensures.answer))
