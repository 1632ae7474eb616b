-- Any two outcomes that the contract of a public call of this crate allows coincide: each contract is an equation.
-- Assumes nothing.
use mathlib.Core.Path.{◌∙◌, sym}
use Rattle.words.proofs.Unique.{OneAnswer}
use Rattle.page_answers.proofs.header.Kinds as header-kinds
use Rattle.page_answers.proofs.header.Reads as header
use Rattle.page_answers.proofs.pages_done.Kinds as pages-done-kinds
use Rattle.page_answers.proofs.pages_done.Reads as pages-done
use Rattle.page_answers.proofs.pages_refused.Kinds as pages-refused-kinds
use Rattle.page_answers.proofs.pages_refused.Reads as pages-refused
use Rattle.page_answers.proofs.page.Kinds as page-kinds
use Rattle.page_answers.proofs.page.Reads as page
use Rattle.page_answers.proofs.join_done.Kinds as join-done-kinds
use Rattle.page_answers.proofs.join_done.Reads as join-done
use Rattle.page_answers.proofs.join_refused.Kinds as join-refused-kinds
use Rattle.page_answers.proofs.join_refused.Reads as join-refused

pub header-unique : OneAnswer header-kinds.ps header-kinds.r header.Post
header-unique κs a x y u v p q = p ∙ sym q

pub pages-done-unique : OneAnswer pages-done-kinds.ps pages-done-kinds.r pages-done.Post
pages-done-unique κs a x y u v p q = p ∙ sym q

pub pages-refused-unique : OneAnswer pages-refused-kinds.ps pages-refused-kinds.r pages-refused.Post
pages-refused-unique κs a x y u v p q = p ∙ sym q

pub page-unique : OneAnswer page-kinds.ps page-kinds.r page.Post
page-unique κs a x y u v p q = p ∙ sym q

pub join-done-unique : OneAnswer join-done-kinds.ps join-done-kinds.r join-done.Post
join-done-unique κs a x y u v p q = p ∙ sym q

pub join-refused-unique : OneAnswer join-refused-kinds.ps join-refused-kinds.r join-refused.Post
join-refused-unique κs a x y u v p q = p ∙ sym q
