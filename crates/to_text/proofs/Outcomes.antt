-- Any two outcomes that the contract of a public call of this crate allows coincide: each contract is an equation.
-- Assumes nothing.
use mathlib.Core.Path.{◌∙◌, sym}
use Rattle.words.proofs.Unique.{OneAnswer, OneBuffer}
use Rattle.to_text.proofs.septets_to_text.Kinds as septets-to-text-kinds
use Rattle.to_text.proofs.septets_to_text.Reads as septets-to-text
use Rattle.to_text.proofs.old_page_to_text.Kinds as old-page-to-text-kinds
use Rattle.to_text.proofs.old_page_to_text.Reads as old-page-to-text

pub septets-to-text-unique : OneAnswer septets-to-text-kinds.ps septets-to-text-kinds.r septets-to-text.Post
septets-to-text-unique κs a x y u v p q = p.0 ∙ sym q.0

pub septets-to-text-buffer-unique : OneBuffer septets-to-text-kinds.ps septets-to-text-kinds.r (λ κs u. u.1.0.now) septets-to-text.Post
septets-to-text-buffer-unique κs a x y u v p q = p.1 ∙ sym q.1

pub old-page-to-text-unique : OneAnswer old-page-to-text-kinds.ps old-page-to-text-kinds.r old-page-to-text.Post
old-page-to-text-unique κs a x y u v p q = p.0 ∙ sym q.0

pub old-page-to-text-buffer-unique : OneBuffer old-page-to-text-kinds.ps old-page-to-text-kinds.r (λ κs u. u.1.0.now) old-page-to-text.Post
old-page-to-text-buffer-unique κs a x y u v p q = p.1 ∙ sym q.1
