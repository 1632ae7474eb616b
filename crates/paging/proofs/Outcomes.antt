-- Any two outcomes that the contract of a public call of this crate allows coincide: each contract is an equation.
-- Assumes nothing.
use mathlib.Core.Path.{◌∙◌, sym}
use Rattle.words.proofs.Unique.{OneAnswer, OneBuffer}
use Rattle.paging.proofs.count_pages.Kinds as count-pages-kinds
use Rattle.paging.proofs.count_pages.Reads as count-pages
use Rattle.paging.proofs.build_page.Kinds as build-page-kinds
use Rattle.paging.proofs.build_page.Reads as build-page
use Rattle.paging.proofs.write_pages.Kinds as write-pages-kinds
use Rattle.paging.proofs.write_pages.Reads as write-pages

pub count-pages-unique : OneAnswer count-pages-kinds.ps count-pages-kinds.r count-pages.Post
count-pages-unique κs a x y u v p q = p ∙ sym q

pub build-page-unique : OneAnswer build-page-kinds.ps build-page-kinds.r build-page.Post
build-page-unique κs a x y u v p q = p ∙ sym q

pub write-pages-unique : OneAnswer write-pages-kinds.ps write-pages-kinds.r write-pages.Post
write-pages-unique κs a x y u v p q = p.0 ∙ sym q.0

pub write-pages-buffer-unique : OneBuffer write-pages-kinds.ps write-pages-kinds.r (λ κs u. u.1.1.1.1.0.now) write-pages.Post
write-pages-buffer-unique κs a x y u v p q = p.1 ∙ sym q.1
