-- `to_septets::writing::encode_from` meets its contract. The invariant: the units passed are listed, and their septets are in the buffer as far as they fit.
-- Assumes nothing.
use mathlib.Core.Path.{◌≡◌, refl, ap, ◌∙◌, sym}
use Prim.Native.Nat.{ℕ, ◌-◌}
use native.Mathlib.Omega.{arith}
use lib.ListN.{length, get_or}
use Rattle.lists.proofs.Places.{passed_here, passed_over}
use Rattle.letters.specs.Tables.{escape}
use Rattle.letters.specs.Writing.{listed_as, is_unlisted}
use Rattle.letters.proofs.Entries.{entry-main, entry-extension, entry-none}
use Rattle.letters.proofs.Encodings.{fits-stored, fits-dropped, turn-main, turn-extension, encoding-front, encoded}
use Rattle.words.proofs.Clauses.{answered}
use Rattle.to_septets.proofs.writing.encode_from.Goals.{then-entry-lt128, else-entry-lt128+else-entry, then-n-room, else-n-room, then-after-room, else-after-room+then-n-room-2, else-after-room+else-n-room-2}
use Rattle.to_septets.proofs.writing.encode_from.Goals as goal

pub loop-i-init : goal.loop-i-init
loop-i-init c = let a = c.args in
    encoding-front a.text.now a.out.now a.front c.requires.front_in_bounds.0 c.requires.front_in_bounds.1 c.requires.front_in_bounds.2 c.requires.out_value

pub returns-then-entry : goal.returns-then-entry
returns-then-entry c = let t = c.args.text.now in
    let bad = entry-none (get_or t c.loop-i.i 0) c.entry_of-entry.result c.entry_of-entry.ensures.answer (omega (arith, c.if-entry.true)) in
    answered
    (encoded c.loop-i.invariant (passed_here (λ unit. is_unlisted (listed_as unit)) t c.loop-i.i c.loop-i.invariant.listed c.loop-i-test.true (ap is_unlisted (sym bad))))

pub loop-i-preserved : goal.loop-i-preserved
loop-i-preserved c = let e = c.loop-i.invariant in
    let h = c.loop-i-test.true in
    let k = c.entry_of-entry.result in
    let f = e.fits in
    elim c.if-entry-lt128.branch [
      | then-entry-lt128 w ↦ turn-main e h k (entry-main _ k c.entry_of-entry.ensures.answer w.if-entry-lt128.true) w.n-is
          (elim w.if-n-room.branch [
            | then-n-room v ↦ fits-stored k f v.if-n-room.true (w.out-is ∙ v.out-is)
            | else-n-room v ↦ fits-dropped k f v.if-n-room.false (w.out-is ∙ v.out-is)
          ])
      | else-entry-lt128+else-entry w ↦ turn-extension e h (k - 0x80) (entry-extension _ k c.entry_of-entry.ensures.answer w.if-entry-lt128.false (omega (arith, w.if-entry-lt128.false, c.entry_of-entry.type_inv))) (w.n-is ∙ omega arith)
          (elim w.if-after-room.branch [
            | then-after-room v ↦ fits-stored (k - 0x80) (fits-stored escape f (omega (arith, v.if-after-room.true)) refl) v.if-after-room.true (w.out-is ∙ v.out-is)
            | else-after-room+then-n-room-2 v ↦ fits-dropped (k - 0x80) (fits-stored escape f v.if-n-room-2.true refl) v.if-after-room.false (w.out-is ∙ v.out-is)
            | else-after-room+else-n-room-2 v ↦ fits-dropped (k - 0x80) (fits-dropped escape f v.if-n-room-2.false refl) v.if-after-room.false (w.out-is ∙ v.out-is)
          ])
    ]

pub returns : goal.returns
returns c =
    let end : c.loop-i.i ≡ length c.args.text.now = omega (arith, c.loop-i.invariant.within, c.loop-i-test.false) in
    let e = encoded c.loop-i.invariant (passed_over (λ unit. is_unlisted (listed_as unit)) c.args.text.now c.loop-i.i c.loop-i.invariant.listed c.loop-i-test.false) in
    record { answer = ap (λ (k : ℕ). record { units = k; septets = c.loop-i.n }) (sym end) ∙ e.0; buffer = e.1 }
