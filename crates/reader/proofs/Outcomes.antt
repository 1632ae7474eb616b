-- Any two outcomes that the contract of a public call of this crate allows coincide: each contract is an equation.
-- Assumes nothing.
use mathlib.Core.Path.{◌∙◌, sym}
use Rattle.words.proofs.Unique.{OneAnswer, OneBuffer}
use Rattle.reader.proofs.read_message.Kinds as read-kinds
use Rattle.reader.proofs.read_message.Reads as read
use Rattle.reader.proofs.read_text.Kinds as read-text-kinds
use Rattle.reader.proofs.read_text.Reads as read-text

pub read-message-unique : OneAnswer read-kinds.ps read-kinds.r read.Post
read-message-unique κs a x y u v p q = p.0 ∙ sym q.0

pub read-message-buffer-unique : OneBuffer read-kinds.ps read-kinds.r (λ κs u. u.1.1.1.1.0.now) read.Post
read-message-buffer-unique κs a x y u v p q = p.1 ∙ sym q.1

pub read-text-unique : OneAnswer read-text-kinds.ps read-text-kinds.r read-text.Post
read-text-unique κs a x y u v p q = p.0 ∙ sym q.0

pub read-text-buffer-unique : OneBuffer read-text-kinds.ps read-text-kinds.r (λ κs u. u.1.1.1.1.0.now) read-text.Post
read-text-buffer-unique κs a x y u v p q = p.1 ∙ sym q.1
