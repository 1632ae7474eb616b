-- The number is read with the header, and has four bits. Assumes nothing.
use mathlib.Core.Path.{◌≡◌, ap}
use native.Mathlib.Omega.{arith}
use Rattle.pages.specs.declared.Header.{Header}
use Rattle.pages.specs.Blocks.{header_of}
use Rattle.pages.proofs.Placing.{number_small}
use Rattle.ordering.proofs.number_in.Goals as goal

pub returns : goal.returns
returns c = let same : c.read_header.result.number ≡ (header_of c.args.block).number = ap (λ (h : Header). h.number) c.read_header.ensures.answer in
    (same, omega (arith, number_small c.args.block))
