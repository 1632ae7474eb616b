-- Any two outcomes that the contract of the public call of this crate allows coincide: the contract is an equation.
-- Assumes nothing.
use mathlib.Core.Path.{◌∙◌, sym}
use Rattle.words.proofs.Unique.{OneAnswer, OneBuffer}
use Rattle.part_joining.proofs.join_parts.Kinds as join-parts-kinds
use Rattle.part_joining.proofs.join_parts.Reads as join-parts

pub join-parts-unique : OneAnswer join-parts-kinds.ps join-parts-kinds.r join-parts.Post
join-parts-unique κs a x y u v p q = p.0 ∙ sym q.0

pub join-parts-buffer-unique : OneBuffer join-parts-kinds.ps join-parts-kinds.r (λ κs u. u.1.1.1.0.now) join-parts.Post
join-parts-buffer-unique κs a x y u v p q = p.1 ∙ sym q.1
