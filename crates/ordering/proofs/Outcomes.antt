-- Any two outcomes that the contract of the public call of this crate allows coincide: the contract is an equation.
-- Assumes nothing.
use mathlib.Core.Path.{◌∙◌, sym}
use Rattle.words.proofs.Unique.{OneAnswer}
use Rattle.ordering.proofs.page_order.Kinds as page-order-kinds
use Rattle.ordering.proofs.page_order.Reads as page-order

pub page-order-unique : OneAnswer page-order-kinds.ps page-order-kinds.r page-order.Post
page-order-unique κs a x y u v p q = p ∙ sym q
