-- Any two outcomes that the contract of a public call of this crate allows coincide: each contract is an equation.
-- Assumes nothing.
use mathlib.Core.Path.{◌∙◌, sym}
use Rattle.words.proofs.Unique.{OneAnswer, OneBuffer}
use Rattle.part_reading.proofs.read_part.Kinds as read-part-kinds
use Rattle.part_reading.proofs.read_part.Reads as read-part

pub read-part-unique : OneAnswer read-part-kinds.ps read-part-kinds.r read-part.Post
read-part-unique κs a x y u v p q = p.0 ∙ sym q.0

pub read-part-buffer-unique : OneBuffer read-part-kinds.ps read-part-kinds.r (λ κs u. u.1.1.1.1.0.now) read-part.Post
read-part-buffer-unique κs a x y u v p q = p.1 ∙ sym q.1
