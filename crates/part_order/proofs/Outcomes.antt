-- Any two outcomes that the contract of a public call of this crate allows coincide: each contract is an equation.
-- Assumes nothing.
use mathlib.Core.Path.{◌∙◌, sym}
use Rattle.words.proofs.Unique.{OneAnswer, OneBuffer, OneShown}
use Rattle.part_order.proofs.Tables.new.Kinds as tables-new-kinds
use Rattle.part_order.proofs.Tables.new.Reads as tables-new
use Rattle.part_order.proofs.Tables.order.Kinds as tables-order-kinds
use Rattle.part_order.proofs.Tables.order.Reads as tables-order

pub tables-order-unique : OneAnswer tables-order-kinds.ps tables-order-kinds.r tables-order.Post
tables-order-unique κs a x y u v p q = p.0 ∙ sym q.0

pub tables-order-places-unique : OneBuffer tables-order-kinds.ps tables-order-kinds.r (λ κs u. u.0.now.places) tables-order.Post
tables-order-places-unique κs a x y u v p q = p.1.0 ∙ sym q.1.0

pub tables-order-starts-unique : OneBuffer tables-order-kinds.ps tables-order-kinds.r (λ κs u. u.0.now.starts) tables-order.Post
tables-order-starts-unique κs a x y u v p q = p.1.1.0 ∙ sym q.1.1.0

pub tables-new-unique : OneShown tables-new-kinds.ps tables-new-kinds.r (λ κs x. x.places) tables-new.Post
tables-new-unique κs a x y u v p q = p.0 ∙ sym q.0

pub tables-new-starts-unique : OneShown tables-new-kinds.ps tables-new-kinds.r (λ κs x. x.starts) tables-new.Post
tables-new-starts-unique κs a x y u v p q = p.1 ∙ sym q.1
