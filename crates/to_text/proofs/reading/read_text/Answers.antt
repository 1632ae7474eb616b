-- `to_text::reading::read_text` meets its contract: 9 is settled behind the septets that are their own units, 7 by a count where the buffer is shorter
-- than the septets, and only then is anything written: the septets that are their own units, and the text over and after them.
-- Assumes nothing.
use mathlib.Core.Path.{◌≡◌, refl, sym, ◌∙◌}
use mathlib.Core.Bool.{Bool, false}
use mathlib.Core.List.{List}
use Prim.Native.Nat.{ℕ, ◌≤◌}
use native.Mathlib.Omega.{arith}
use lib.Dec.{ltb}
use lib.ListN.{length, take}
use lib.Seq.{length-take-le}
use borrow.Author.Tests.{le-ltb, ltb-true, ltb-false}
use Rattle.lists.specs.Lists.{first_wide, laid}
use Rattle.words.proofs.Filling.{fills-short, fills-done}
use Rattle.words.proofs.Clauses.{answered}
use Rattle.letters.specs.Inner.{OwnFrom}
use Rattle.letters.specs.Reading.{read_as, text_rules, text_answers, text_leaves}
use Rattle.letters.proofs.Septets.{refused-wide}
use Rattle.letters.proofs.OwnCodes.{own-fewer, Begun, begun-long, begun-takes, text-over, text-whole}
use Rattle.to_text.proofs.reading.read_text.Goals as goal

pub returns-then-wide-septets : goal.returns-then-wide-septets
unfolding text_rules text_answers text_leaves
returns-then-wide-septets c =
    let a = c.args in
    answered (refused-wide a.septets.now (read_as a.old a.septets.now) a.out.now c.wide_behind-wide.result c.wide_behind-wide.ensures.answer c.if-wide-septets.true)

-- no septet is 128 or more
narrow : (s : List ℕ) {wide : ℕ} → wide ≡ first_wide s → length s ≤ wide → ltb (first_wide s) (length s) ≡ false
narrow s e h = le-ltb (first_wide s) (length s) (omega (arith, e, h))

pub returns-then-is_short : goal.returns-then-is_short
unfolding text_rules text_answers text_leaves
returns-then-is_short c =
    let a = c.args in
    answered (fills-short _ _ (read_as a.old a.septets.now) a.out.now (narrow a.septets.now c.wide_behind-wide.ensures.answer c.if-wide-septets.false) (ltb-true _ _ (sym c.is_short.ensures ∙ c.if-is_short.true)))

-- what stands past both refusals: the buffer has room, and the septets that are their own units are at its front
record Told (old : Bool) (s start out : List ℕ) (n : ℕ) : Type 0 where
  pub room : length (read_as old s) ≤ length start
  pub front : Begun s start out n

told : (old : Bool) (s start out : List ℕ) (n : ℕ) {short : Bool} → (n ≤ length s) × OwnFrom s 0 n → short ≡ ltb (length start) (length (read_as old s)) → short ≡ false → out ≡ laid (take n s) start
    → Told old s start out n
told old s start out n own test fits e =
    let room : length (read_as old s) ≤ length start = ltb-false _ _ (sym test ∙ fits) in
    record { room = room; front = record { within = own.0; room = omega (arith, room, own-fewer old s n own.0 own.1); own = own.1; held = e } }

pub copy_septets-requires : goal.copy_septets-requires
copy_septets-requires c =
    let a = c.args in
    let n : ℕ = c.own_septets-front.result in
    let t = told a.old a.septets.now a.out.now _ n c.own_septets-front.ensures c.is_short.ensures c.if-is_short.false refl in
    omega (arith, t.front.room, length-take-le n a.septets.now t.front.within)

pub returns-then-septets-front : goal.returns-then-septets-front
unfolding text_rules text_answers text_leaves
returns-then-septets-front c =
    let a = c.args in
    let n : ℕ = c.own_septets-front.result in
    let t = told a.old a.septets.now a.out.now c.copy_septets.new.out n c.own_septets-front.ensures c.is_short.ensures c.if-is_short.false c.copy_septets.ensures in
    let whole = text-whole t.front a.old (omega (arith, c.if-septets-front.true)) in
    answered (fills-done _ _ (read_as a.old a.septets.now) a.out.now (narrow a.septets.now c.wide_behind-wide.ensures.answer c.if-wide-septets.false) t.room n _ whole.0 whole.1)

pub lay_text-n-requires : goal.lay_text-n-requires
lay_text-n-requires c =
    let a = c.args in
    let t = told a.old a.septets.now a.out.now c.copy_septets.new.out c.own_septets-front.result c.own_septets-front.ensures c.is_short.ensures c.if-is_short.false c.copy_septets.ensures in
    record {
      front_in_bounds = (begun-takes t.front).0;
      out_value = (begun-takes t.front).1;
      septets_in_bounds = (omega (arith, begun-long t.front, t.room), omega (arith, c.wide_behind-wide.ensures.answer, c.if-wide-septets.false));
    }

pub returns : goal.returns
unfolding text_rules text_answers text_leaves
returns c =
    let a = c.args in
    let t = told a.old a.septets.now a.out.now c.copy_septets.new.out c.own_septets-front.result c.own_septets-front.ensures c.is_short.ensures c.if-is_short.false c.copy_septets.ensures in
    answered
    (fills-done _ _ (read_as a.old a.septets.now) a.out.now (narrow a.septets.now c.wide_behind-wide.ensures.answer c.if-wide-septets.false) t.room c.lay_text-n.result _ c.lay_text-n.ensures.answer
    (c.lay_text-n.ensures.buffer ∙ text-over t.front a.old))
