-- Any two outcomes that the contract of a public call of this crate allows coincide: each contract is an equation.
-- Assumes nothing.
use mathlib.Core.Path.{◌∙◌, sym}
use Rattle.words.proofs.Unique.{OneAnswer, OneBuffer}
use Rattle.joining.proofs.join_pages.Kinds as join-kinds
use Rattle.joining.proofs.join_pages.Reads as join

pub join-pages-unique : OneAnswer join-kinds.ps join-kinds.r join.Post
join-pages-unique κs a x y u v p q = p.0 ∙ sym q.0

pub join-pages-buffer-unique : OneBuffer join-kinds.ps join-kinds.r (λ κs u. u.1.0.now) join.Post
join-pages-buffer-unique κs a x y u v p q = p.1 ∙ sym q.1
