-- `read_septets` meets its contract: all septets stand in the array, and those behind the header are the text. Assumes nothing.
use mathlib.Core.Path.{refl, ◌∙◌}
use lib.ListN.{length}
use Prim.Native.Nat.{◌≤◌}
use Rattle.parted.proofs.ReadSteps.{septets-room, septets-given}
use borrow.Author.Rules.{rules}
use Rattle.part_reading.proofs.read_septets.Goals as goal

pub slice_bounds-septets_to_text-end : goal.slice_bounds-septets_to_text-end
slice_bounds-septets_to_text-end c =
    let a = c.args in
    let room : a.count ≤ length c.unpack_all.new.out = septets-room a.count a.octets.now c.requires.0 c.unpack_all.new.out c.unpack_all.ensures.buffer in
    search rules

pub returns : goal.returns
returns c =
    let a = c.args in
    let t = septets-given a.count a.octets.now c.requires.0 a.over c.requires.1 c.unpack_all.new.out c.unpack_all.ensures.buffer a.out.now _ refl in
    record { answer = c.septets_to_text.ensures.answer ∙ t.0; buffer = c.septets_to_text.ensures.buffer ∙ t.1 }
