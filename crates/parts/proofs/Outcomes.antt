-- Any two outcomes that the contract of a public call of this crate allows coincide: each contract is an equation.
-- Assumes nothing.
use mathlib.Core.Path.{◌∙◌, sym}
use Rattle.words.proofs.Unique.{OneAnswer, OneBuffer}
use Rattle.parts.proofs.count_parts.Kinds as count-parts-kinds
use Rattle.parts.proofs.count_parts.Reads as count-parts
use Rattle.parts.proofs.write_part.Kinds as write-part-kinds
use Rattle.parts.proofs.write_part.Reads as write-part
use Rattle.parts.proofs.write_parts.Kinds as write-parts-kinds
use Rattle.parts.proofs.write_parts.Reads as write-parts

pub count-parts-unique : OneAnswer count-parts-kinds.ps count-parts-kinds.r count-parts.Post
count-parts-unique κs a x y u v p q = p ∙ sym q

pub write-part-unique : OneAnswer write-part-kinds.ps write-part-kinds.r write-part.Post
write-part-unique κs a x y u v p q = p.0 ∙ sym q.0

pub write-part-buffer-unique : OneBuffer write-part-kinds.ps write-part-kinds.r (λ κs u. u.1.1.1.1.0.now) write-part.Post
write-part-buffer-unique κs a x y u v p q = p.1 ∙ sym q.1

pub write-parts-unique : OneAnswer write-parts-kinds.ps write-parts-kinds.r write-parts.Post
write-parts-unique κs a x y u v p q = p.0 ∙ sym q.0

pub write-parts-buffer-unique : OneBuffer write-parts-kinds.ps write-parts-kinds.r (λ κs u. u.1.1.1.0.now) write-parts.Post
write-parts-buffer-unique κs a x y u v p q = p.1.0 ∙ sym q.1.0

pub write-parts-sizes-unique : OneBuffer write-parts-kinds.ps write-parts-kinds.r (λ κs u. u.1.1.1.1.0.now) write-parts.Post
write-parts-sizes-unique κs a x y u v p q = p.1.1 ∙ sym q.1.1
