-- `ends_half` meets its contract: the last septet tells, and where there is none what stands before. Assumes nothing.
use mathlib.Core.Path.{◌≡◌, sym, ap, ◌∙◌}
use Prim.Native.Nat.{ℕ, ◌-◌, ◌<◌}
use borrow.Author.Rules.{rules}
use lib.Dec.{eqb}
use lib.ListN.{length, get_or}
use Rattle.parted.proofs.Windows.{open_none, open-last}
use Rattle.parts.proofs.ends_half.Goals as goal

pub returns-in-Some : goal.returns-in-Some
returns-in-Some c = let a = c.args in
    let some : 0 < length a.septets.now = search rules in
    let last : c.in-Some.last.now ≡ get_or a.septets.now (length a.septets.now - 1) 0 = search rules in
    ap (λ (x : ℕ). eqb x 27) last ∙ sym (open-last a.half a.septets.now some)

pub returns-in-None : goal.returns-in-None
returns-in-None c = let a = c.args in sym (open_none a.half a.septets.now (search rules))
