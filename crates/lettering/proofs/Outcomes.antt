-- Any two outcomes that the contract of a public call of this crate allows coincide: each contract is an equation for the answer and one for the buffer.
-- Assumes nothing.
use mathlib.Core.Path.{◌∙◌, sym}
use Rattle.words.proofs.Unique.{OneAnswer, OneBuffer}
use Rattle.lettering.proofs.write_lettered.Kinds as write-kinds
use Rattle.lettering.proofs.write_lettered.Reads as write
use Rattle.lettering.proofs.read_lettered.Kinds as read-kinds
use Rattle.lettering.proofs.read_lettered.Reads as read

pub write-lettered-unique : OneAnswer write-kinds.ps write-kinds.r write.Post
write-lettered-unique κs a x y u v p q = p.0 ∙ sym q.0

pub write-lettered-buffer-unique : OneBuffer write-kinds.ps write-kinds.r (λ κs u. u.1.1.1.0.now) write.Post
write-lettered-buffer-unique κs a x y u v p q = p.1 ∙ sym q.1

pub read-lettered-unique : OneAnswer read-kinds.ps read-kinds.r read.Post
read-lettered-unique κs a x y u v p q = p.0 ∙ sym q.0

pub read-lettered-buffer-unique : OneBuffer read-kinds.ps read-kinds.r (λ κs u. u.1.1.1.0.now) read.Post
read-lettered-buffer-unique κs a x y u v p q = p.1 ∙ sym q.1
