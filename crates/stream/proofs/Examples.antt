-- Worked refusals of packing and unpacking, where an input deserves several: the first of the order is given.
-- Assumes nothing.
--   old-page-first, wide-first, size-first   packing: 8 before 9, 9 before 5, 5 before 7
--   length-first                             unpacking: 4 before 7
use mathlib.Core.Path.{◌≡◌, refl}
use mathlib.Core.List.{[], ◌∷◌}
use lib.ListN.{replicate}
use Rattle.words.specs.declared.Service.TheVariants.{ShortMessage, OldPage}
use Rattle.words.specs.declared.Refusal.TheVariants.{Unwritable, NoSeptet, TooLong, WrongLength}
use Rattle.words.specs.Judging.{verdict}
use Rattle.lists.specs.Lists.{first_place}
use Rattle.stream.specs.Stream.{octets_for}
use Rattle.stream.specs.SeptetCalls.{pack_rules, pack_answers, unpack_rules, unpack_answers}
use Rattle.std.specs.Prelude.{Err}

pub old-page-first : pack_answers OldPage (0x80 ∷ []) 0 ≡ Err Unwritable
unfolding pack_answers pack_rules verdict
old-page-first = refl

pub wide-first : pack_answers ShortMessage (replicate 161 0x80) 0 ≡ Err (NoSeptet 0)
unfolding pack_answers pack_rules verdict first_place
wide-first = refl

pub size-first : pack_answers ShortMessage (replicate 161 0x41) 0 ≡ Err TooLong
unfolding pack_answers pack_rules verdict first_place
size-first = refl

pub length-first : unpack_answers ShortMessage (0x41 ∷ []) 2 0 ≡ Err WrongLength
unfolding unpack_answers unpack_rules verdict octets_for
length-first = refl
