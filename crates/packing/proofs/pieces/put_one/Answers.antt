-- The lowest octet is the number by its mask.
use Prim.Native.Nat.{ℕ, ◌+◌, ◌%◌}
use mathlib.Core.Path.{sym, ap, ◌∙◌}
use mathlib.Core.List.{List, ◌∷◌, ◌++◌}
use native.Mathlib.Omega.{arith}
use native.Mathlib.Numerals.{add-one}
use lib.Bits.{and_mask, mask_lt}
use lib.ListN.{take, drop, set}
use lib.Seq.{set_split, append_snoc}
use Rattle.stream.specs.Digits.{digits}
use Rattle.packing.proofs.pieces.put_one.Goals as goal

pub overflow_cast-out : goal.overflow_cast-out
overflow_cast-out c = record { fits = mask_lt c.args.v 8 }

pub returns : goal.returns
unfolding digits
returns c = let d : List ℕ = c.args.out.now in
    let at : ℕ = c.args.at in
    let x : ℕ = c.args.v % 256 in
    ap (set d at) (and_mask c.args.v 8) ∙ set_split d at x (omega arith) ∙ ap (λ (k : ℕ). take at d ++ x ∷ drop k d) (sym (add-one at)) ∙ sym (append_snoc (take at d) x (drop (at + 1) d))
