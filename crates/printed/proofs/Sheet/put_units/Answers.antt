-- The digits of what is left, put behind those that are done, leave what the digits of all would have left.
use Prim.Native.Nat.{ℕ, ◌+◌, ◌<◌}
use mathlib.Core.Path.{◌≡◌, sym, ap, ◌∙◌}
use mathlib.Core.List.{List, [], ◌∷◌}
use lib.ListN.{length, get_or, drop, drop_of_length-le}
use Rattle.printed.specs.Printing.{placed, end_of, octet_digits, unit_octets, unit_digits}
use Rattle.printed.proofs.Printing.{end_none, placed-none, placed-length, units-one, digits-turn}
use Rattle.printed.proofs.Sheet.put_units.Goals as goal

pub loop-v-preserved : goal.loop-v-preserved
unfolding octet_digits unit_octets unit_digits
loop-v-preserved c = let l = c.loop-v in
    let here : l.v-index < length c.args.units.now = c.loop-v-test.true in
    let x : ℕ = get_or c.args.units.now l.v-index 0 in
    let out : List ℕ = l.self.buffer.now in
    let told : c.put_octets.new.self.buffer.now ≡ placed out l.self.end (unit_digits (x ∷ [])) = c.put_octets.ensures.buffer ∙ ap (λ (s : List ℕ). placed out l.self.end (octet_digits s)) c.to_be_bytes.ensures in
    let turn = digits-turn unit_digits units-one out c.args.units.now l.self.end l.v-index here c.put_octets.new.self.buffer.now c.put_octets.new.self.end told (c.put_octets.ensures.end ∙ ap (λ (s : List ℕ). end_of (length out) l.self.end (length (octet_digits s))) c.to_be_bytes.ensures) in
    let long : length c.put_octets.new.self.buffer.now ≡ length out = ap length told ∙ placed-length out l.self.end (unit_digits (x ∷ [])) in record {
      room = long ∙ l.invariant.room;
      end = ap (λ (k : ℕ). end_of k c.put_octets.new.self.end (length (unit_digits (drop (l.v-index + 1) c.args.units.now)))) long ∙ turn.1 ∙ l.invariant.end;
      buffer = turn.0 ∙ l.invariant.buffer;
      same_reference = c.put_octets.ensures.same_reference ∙ l.invariant.same_reference;
    }

pub returns-clause-end : goal.returns-clause-end
unfolding octet_digits unit_octets unit_digits
returns-clause-end c = let l = c.loop-v in
    let none : drop l.v-index c.args.units.now ≡ [] = drop_of_length-le c.args.units.now c.loop-v-test.false in
    sym (end_none (length l.self.buffer.now) l.self.end) ∙ ap (λ (s : List ℕ). end_of (length l.self.buffer.now) l.self.end (length (unit_digits s))) (sym none) ∙ l.invariant.end

pub returns-clause-buffer : goal.returns-clause-buffer
unfolding octet_digits unit_octets unit_digits
returns-clause-buffer c = let l = c.loop-v in
    let none : drop l.v-index c.args.units.now ≡ [] = drop_of_length-le c.args.units.now c.loop-v-test.false in
    sym (placed-none l.self.buffer.now l.self.end) ∙ ap (λ (s : List ℕ). placed l.self.buffer.now l.self.end (unit_digits s)) (sym none) ∙ l.invariant.buffer
