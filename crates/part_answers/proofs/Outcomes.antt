-- Any two outcomes that the contract of a public call of this crate allows coincide: each contract is an equation.
-- Assumes nothing.
use mathlib.Core.Path.{◌∙◌, sym}
use Rattle.words.proofs.Unique.{OneAnswer}
use Rattle.part_answers.proofs.parts_done.Kinds as parts-done-kinds
use Rattle.part_answers.proofs.parts_done.Reads as parts-done
use Rattle.part_answers.proofs.parts_refused.Kinds as parts-refused-kinds
use Rattle.part_answers.proofs.parts_refused.Reads as parts-refused
use Rattle.part_answers.proofs.part_read.Kinds as part-read-kinds
use Rattle.part_answers.proofs.part_read.Reads as part-read
use Rattle.part_answers.proofs.part_refused.Kinds as part-refused-kinds
use Rattle.part_answers.proofs.part_refused.Reads as part-refused
use Rattle.part_answers.proofs.join_done.Kinds as join-done-kinds
use Rattle.part_answers.proofs.join_done.Reads as join-done
use Rattle.part_answers.proofs.join_refused.Kinds as join-refused-kinds
use Rattle.part_answers.proofs.join_refused.Reads as join-refused

pub parts-done-unique : OneAnswer parts-done-kinds.ps parts-done-kinds.r parts-done.Post
parts-done-unique κs a x y u v p q = p ∙ sym q

pub parts-refused-unique : OneAnswer parts-refused-kinds.ps parts-refused-kinds.r parts-refused.Post
parts-refused-unique κs a x y u v p q = p ∙ sym q

pub part-read-unique : OneAnswer part-read-kinds.ps part-read-kinds.r part-read.Post
part-read-unique κs a x y u v p q = p ∙ sym q

pub part-refused-unique : OneAnswer part-refused-kinds.ps part-refused-kinds.r part-refused.Post
part-refused-unique κs a x y u v p q = p ∙ sym q

pub join-done-unique : OneAnswer join-done-kinds.ps join-done-kinds.r join-done.Post
join-done-unique κs a x y u v p q = p ∙ sym q

pub join-refused-unique : OneAnswer join-refused-kinds.ps join-refused-kinds.r join-refused.Post
join-refused-unique κs a x y u v p q = p ∙ sym q
