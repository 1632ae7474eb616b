-- `to_septets::encode` meets its contract: the units that are their own codes are laid by themselves, and the loop goes on after them.
-- Assumes nothing.
use mathlib.Core.Path.{◌≡◌, sym, subst}
use native.Mathlib.Omega.{arith}
use lib.ListN.{length, take}
use lib.Seq.{get_or-take, length-take-le}
use Rattle.letters.specs.Inner.{Own}
use Rattle.letters.proofs.Encodings.{own-encodes, own-begun, encodes-over}
use Rattle.letters.proofs.OwnCodes.{begun-takes}
use Rattle.words.proofs.Clauses.{answered}
use Rattle.to_septets.proofs.encode.Goals as goal

pub copy_units-requires : goal.copy_units-requires
copy_units-requires c =
    let own = c.own_front-own.ensures in
    let n = c.min-front.result in
    let t = c.args.text.now in
    let size : length (take n t) ≡ n = length-take-le n t (omega (arith, own.0, c.min-front.ensures)) in
    record {
      own_from = λ k l m. subst Own (sym (get_or-take n t k 0 (omega (arith, size, l)))) (own.1 k (omega (arith, l, size, c.min-front.ensures)) m);
      in_bounds = omega (arith, size, c.min-front.ensures);
    }

pub returns-then-own-text : goal.returns-then-own-text
returns-then-own-text c = answered (own-encodes _ _ _ c.own_front-own.ensures c.if-own-text.true (omega (arith, c.min-front.ensures)) c.copy_units.ensures)

pub encode_from-requires : goal.encode_from-requires
encode_from-requires c =
    let taken = begun-takes (own-begun c.own_front-own.ensures (omega (arith, c.min-front.ensures)) c.copy_units.ensures) in
    record { front_in_bounds = taken.0; out_value = taken.1 }

pub returns : goal.returns
returns c = answered (encodes-over (own-begun c.own_front-own.ensures (omega (arith, c.min-front.ensures)) c.copy_units.ensures) (c.encode_from.ensures.answer, c.encode_from.ensures.buffer))
