-- Any two outcomes that the contract of a public call of this crate allows coincide: each contract is an equation.
-- Assumes nothing.
use mathlib.Core.Path.{◌∙◌, sym}
use Rattle.words.proofs.Unique.{OneAnswer}
use Rattle.cutting.proofs.plan.Kinds as plan-kinds
use Rattle.cutting.proofs.plan.Reads as plan
use Rattle.cutting.proofs.part_room.Kinds as part-room-kinds
use Rattle.cutting.proofs.part_room.Reads as part_room
use Rattle.cutting.proofs.part_length.Kinds as part-length-kinds
use Rattle.cutting.proofs.part_length.Reads as part-length

pub plan-unique : OneAnswer plan-kinds.ps plan-kinds.r plan.Post
plan-unique κs a x y u v p q = p ∙ sym q

pub part-room-unique : OneAnswer part-room-kinds.ps part-room-kinds.r part_room.Post
part-room-unique κs a x y u v p q = p ∙ sym q

pub part-length-unique : OneAnswer part-length-kinds.ps part-length-kinds.r part-length.Post
part-length-unique κs a x y u v p q = p ∙ sym q
