-- The digits of what is left, put behind those that are done, leave what the digits of all would have left.
use Prim.Native.Nat.{ℕ, ◌+◌, ◌<◌}
use mathlib.Core.Path.{◌≡◌, sym, ap, ap₂, ◌∙◌}
use mathlib.Core.List.{List, [], ◌∷◌}
use lib.ListN.{length, get_or, drop, drop_of_length-le}
use Rattle.printed.specs.Printing.{placed, end_of, octet_digits}
use Rattle.printed.proofs.Printing.{end_none, placed-none, placed-length, octets-one, digits-turn}
use Rattle.printed.proofs.Sheet.put_octets.Goals as goal

pub loop-v-preserved : goal.loop-v-preserved
unfolding octet_digits
loop-v-preserved c = let l = c.loop-v in
    let here : l.v-index < length c.args.octets.now = c.loop-v-test.true in
    let x : ℕ = get_or c.args.octets.now l.v-index 0 in
    let out : List ℕ = l.self.buffer.now in
    let told : c.put.new.self.buffer.now ≡ placed out l.self.end (octet_digits (x ∷ [])) = c.put.ensures.buffer ∙ ap₂ (λ (p q : ℕ). placed out l.self.end (p ∷ q ∷ [])) c.digit_for.ensures.answer c.digit_for-in-loop-v.ensures.answer in
    let turn = digits-turn octet_digits octets-one out c.args.octets.now l.self.end l.v-index here c.put.new.self.buffer.now c.put.new.self.end told c.put.ensures.end in
    let long : length c.put.new.self.buffer.now ≡ length out = ap length told ∙ placed-length out l.self.end (octet_digits (x ∷ [])) in record {
      room = long ∙ l.invariant.room;
      end = ap (λ (k : ℕ). end_of k c.put.new.self.end (length (octet_digits (drop (l.v-index + 1) c.args.octets.now)))) long ∙ turn.1 ∙ l.invariant.end;
      buffer = turn.0 ∙ l.invariant.buffer;
      same_reference = c.put.ensures.same_reference ∙ l.invariant.same_reference;
    }

pub returns-clause-end : goal.returns-clause-end
unfolding octet_digits
returns-clause-end c = let l = c.loop-v in
    let none : drop l.v-index c.args.octets.now ≡ [] = drop_of_length-le c.args.octets.now c.loop-v-test.false in
    sym (end_none (length l.self.buffer.now) l.self.end) ∙ ap (λ (s : List ℕ). end_of (length l.self.buffer.now) l.self.end (length (octet_digits s))) (sym none) ∙ l.invariant.end

pub returns-clause-buffer : goal.returns-clause-buffer
unfolding octet_digits
returns-clause-buffer c = let l = c.loop-v in
    let none : drop l.v-index c.args.octets.now ≡ [] = drop_of_length-le c.args.octets.now c.loop-v-test.false in
    sym (placed-none l.self.buffer.now l.self.end) ∙ ap (λ (s : List ℕ). placed l.self.buffer.now l.self.end (octet_digits s)) (sym none) ∙ l.invariant.buffer
