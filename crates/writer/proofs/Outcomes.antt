-- Any two outcomes that the contract of a public call of this crate allows coincide: each contract is an equation.
-- Assumes nothing.
use mathlib.Core.Path.{◌∙◌, sym}
use Rattle.words.proofs.Unique.{OneAnswer, OneBuffer}
use Rattle.writer.proofs.TextCoding.octet.Kinds as octet-kinds
use Rattle.writer.proofs.TextCoding.octet.Reads as octet
use Rattle.writer.proofs.TextCoding.ucs2.Kinds as ucs2-kinds
use Rattle.writer.proofs.TextCoding.ucs2.Reads as ucs2
use Rattle.writer.proofs.write_message.Kinds as write-kinds
use Rattle.writer.proofs.write_message.Reads as write
use Rattle.writer.proofs.settle.Kinds as settle-kinds
use Rattle.writer.proofs.settle.Reads as settle
use Rattle.writer.proofs.settle_plain.Kinds as settle-plain-kinds
use Rattle.writer.proofs.settle_plain.Reads as settle-plain
use Rattle.writer.proofs.write_settled.Kinds as write-settled-kinds
use Rattle.writer.proofs.write_settled.Reads as write-settled
use Rattle.writer.proofs.code_message.Kinds as code-message-kinds
use Rattle.writer.proofs.code_message.Reads as code-message
use Rattle.writer.proofs.write_coded.Kinds as write-coded-kinds
use Rattle.writer.proofs.write_coded.Reads as write-coded

pub octet-unique : OneAnswer octet-kinds.ps octet-kinds.r octet.Post
octet-unique κs a x y u v p q = p ∙ sym q

pub ucs2-unique : OneAnswer ucs2-kinds.ps ucs2-kinds.r ucs2.Post
ucs2-unique κs a x y u v p q = p ∙ sym q

pub write-message-unique : OneAnswer write-kinds.ps write-kinds.r write.Post
write-message-unique κs a x y u v p q = p.0 ∙ sym q.0

pub write-message-buffer-unique : OneBuffer write-kinds.ps write-kinds.r (λ κs u. u.1.1.1.0.now) write.Post
write-message-buffer-unique κs a x y u v p q = p.1 ∙ sym q.1

pub settle-unique : OneAnswer settle-kinds.ps settle-kinds.r settle.Post
settle-unique κs a x y u v p q = p ∙ sym q

pub settle-plain-unique : OneAnswer settle-plain-kinds.ps settle-plain-kinds.r settle-plain.Post
settle-plain-unique κs a x y u v p q = p ∙ sym q

pub write-settled-unique : OneAnswer write-settled-kinds.ps write-settled-kinds.r write-settled.Post
write-settled-unique κs a x y u v p q = p.0 ∙ sym q.0

pub write-settled-buffer-unique : OneBuffer write-settled-kinds.ps write-settled-kinds.r (λ κs u. u.1.1.0.now) write-settled.Post
write-settled-buffer-unique κs a x y u v p q = p.1 ∙ sym q.1

pub code-message-unique : OneAnswer code-message-kinds.ps code-message-kinds.r code-message.Post
code-message-unique κs a x y u v p q = p ∙ sym q

pub write-coded-unique : OneAnswer write-coded-kinds.ps write-coded-kinds.r write-coded.Post
write-coded-unique κs a x y u v p q = p.0 ∙ sym q.0

pub write-coded-buffer-unique : OneBuffer write-coded-kinds.ps write-coded-kinds.r (λ κs u. u.1.1.0.now) write-coded.Post
write-coded-buffer-unique κs a x y u v p q = p.1 ∙ sym q.1
