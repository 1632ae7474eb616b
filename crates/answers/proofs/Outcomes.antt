-- Any two outcomes that the contract of a public call of this crate allows coincide: each contract is an equation.
-- Assumes nothing.
use mathlib.Core.Path.{◌∙◌, sym}
use Rattle.words.proofs.Unique.{OneAnswer}
use Rattle.answers.proofs.done.Kinds as done-kinds
use Rattle.answers.proofs.done.Reads as done
use Rattle.answers.proofs.refused.Kinds as refused-kinds
use Rattle.answers.proofs.refused.Reads as refused
use Rattle.answers.proofs.read_refused.Kinds as read-refused-kinds
use Rattle.answers.proofs.read_refused.Reads as read-refused
use Rattle.answers.proofs.filled.Kinds as filled-kinds
use Rattle.answers.proofs.filled.Reads as filled
use Rattle.answers.proofs.octet_written.Kinds as octet-written-kinds
use Rattle.answers.proofs.octet_written.Reads as octet-written
use Rattle.answers.proofs.octet_read.Kinds as octet-read-kinds
use Rattle.answers.proofs.octet_read.Reads as octet-read
use Rattle.answers.proofs.held.Kinds as held-kinds
use Rattle.answers.proofs.held.Reads as held
use Rattle.answers.proofs.shown.Kinds as shown-kinds
use Rattle.answers.proofs.shown.Reads as shown
use Rattle.answers.proofs.lettered_shown.Kinds as lettered-shown-kinds
use Rattle.answers.proofs.lettered_shown.Reads as lettered-shown
use Rattle.answers.proofs.message_refused.Kinds as message-refused-kinds
use Rattle.answers.proofs.message_refused.Reads as message-refused
use Rattle.answers.proofs.message_told.Kinds as message-told-kinds
use Rattle.answers.proofs.message_told.Reads as message-told

pub done-unique : OneAnswer done-kinds.ps done-kinds.r done.Post
done-unique κs a x y u v p q = p ∙ sym q

pub refused-unique : OneAnswer refused-kinds.ps refused-kinds.r refused.Post
refused-unique κs a x y u v p q = p ∙ sym q

pub read-refused-unique : OneAnswer read-refused-kinds.ps read-refused-kinds.r read-refused.Post
read-refused-unique κs a x y u v p q = p ∙ sym q

pub filled-unique : OneAnswer filled-kinds.ps filled-kinds.r filled.Post
filled-unique κs a x y u v p q = p ∙ sym q

pub octet-written-unique : OneAnswer octet-written-kinds.ps octet-written-kinds.r octet-written.Post
octet-written-unique κs a x y u v p q = p ∙ sym q

pub octet-read-unique : OneAnswer octet-read-kinds.ps octet-read-kinds.r octet-read.Post
octet-read-unique κs a x y u v p q = p ∙ sym q

pub held-unique : OneAnswer held-kinds.ps held-kinds.r held.Post
held-unique κs a x y u v p q = p ∙ sym q

pub shown-unique : OneAnswer shown-kinds.ps shown-kinds.r shown.Post
shown-unique κs a x y u v p q = p ∙ sym q

pub lettered-shown-unique : OneAnswer lettered-shown-kinds.ps lettered-shown-kinds.r lettered-shown.Post
lettered-shown-unique κs a x y u v p q = p ∙ sym q

pub message-refused-unique : OneAnswer message-refused-kinds.ps message-refused-kinds.r message-refused.Post
message-refused-unique κs a x y u v p q = p ∙ sym q

pub message-told-unique : OneAnswer message-told-kinds.ps message-told-kinds.r message-told.Post
message-told-unique κs a x y u v p q = p ∙ sym q
