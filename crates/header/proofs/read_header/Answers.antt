-- The length octet says which octets are the elements.
-- Assumes nothing.
use mathlib.Core.Path.{◌≡◌, sym, ap, ◌∙◌}
use mathlib.Core.List.{List}
use Prim.Native.Nat.{ℕ, ◌+◌, ◌-◌}
use native.Mathlib.Omega.{arith}
use lib.ListN.{length, get_or, take, drop}
use Rattle.headed.specs.Header.{elements_of, header_body}
use Rattle.headed.specs.Inner.{body_reads}
use Rattle.headed.proofs.Steps.{header-short, header-body}
use Rattle.header.proofs.read_header.Goals as goal
use Rattle.std.specs.Prelude.{None}

pub returns-then-octets-eq0 : goal.returns-then-octets-eq0
returns-then-octets-eq0 c = record { answer = let o : List ℕ = c.args.octets.now in sym (header-short o (omega (arith, c.if-octets-eq0.true))) }

pub returns-then-octets-end : goal.returns-then-octets-end
returns-then-octets-end c = record { answer = let o : List ℕ = c.args.octets.now in sym (header-short o (omega (arith, c.if-octets-end.true))) }

pub returns : goal.returns
unfolding header_body
returns c = record {
  answer = let o : List ℕ = c.args.octets.now in
      let size : get_or o 0 0 + 1 - 1 ≡ get_or o 0 0 = omega arith in
      let body : take (get_or o 0 0 + 1 - 1) (drop 1 o) ≡ header_body o = ap (λ (n : ℕ). take n (drop 1 o)) size in
      c.read_elements.ensures
      ∙ ap (λ (l : List ℕ). body_reads (length l + 1) None (elements_of l)) body
      ∙ sym (header-body o (omega (arith, c.if-octets-end.false)));
}
