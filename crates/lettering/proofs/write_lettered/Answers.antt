-- The letters are judged first, and the text is written by its coding. Assumes nothing.
use mathlib.Core.Path.{◌≡◌}
use mathlib.Core.Bool.{false}
use Rattle.fields.specs.Letters.{are_letters}
use Rattle.lettering.proofs.Steps.{write-unnamed}
use Rattle.words.proofs.Clauses.{answered}
use Rattle.lettering.proofs.write_lettered.Goals as goal

pub write_units-requires : goal.write_units-requires
write_units-requires c = cc

pub returns-then-not-named : goal.returns-then-not-named
returns-then-not-named c =
    let a = c.args in
    let wrong : are_letters a.letters ≡ false = cc in
    answered (write-unnamed a.ucs2 a.letters a.units.now a.out.now wrong)

pub returns-then-ucs2 : goal.returns-then-ucs2
returns-then-ucs2 c = answered (simp c.if-ucs2.true (c.write_units.ensures.answer, c.write_units.ensures.buffer))

pub write_septets-requires : goal.write_septets-requires
write_septets-requires c = cc

pub returns : goal.returns
returns c = answered (simp c.if-ucs2.false (c.write_septets.ensures.answer, c.write_septets.ensures.buffer))
