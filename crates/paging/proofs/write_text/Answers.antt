-- A text that fits is written block by block where the buffer has the room. Assumes nothing.
use Prim.Native.Nat.{ℕ}
use mathlib.Core.Path.{sym, ap, ap₂, ◌∙◌}
use mathlib.Core.Bool.{Bool}
use mathlib.Core.List.{List}
use borrow.Author.Rules.{rules}
use lib.ListN.{length}
use Rattle.lists.specs.Lists.{laid}
use Rattle.pages.specs.Parts.{content_of}
use Rattle.pages.specs.Written.{blocks_from}
use Rattle.pages.specs.Inner.{text_pages, text_pages_leaves}
use Rattle.pages.proofs.Steps.{pages-short, pages-stored, pages-refused}
use Rattle.words.proofs.Clauses.{passed, answered}
use Rattle.paging.proofs.write_text.Goals as goal

pub returns-in_err-sized : goal.returns-in_err-sized
returns-in_err-sized c = let a = c.args in
    let w = pages-refused a.sequence a.identifier a.coding.octet c.ucs2-ucs2.result a.units.now a.out.now _ (sym c.in_err-sized.ensures) in
    let u = c.ucs2-ucs2.ensures.answer in
    passed (search rules)
    ((
      w.0 ∙ ap (λ (b : Bool). text_pages a.sequence a.identifier a.coding.octet b a.units.now (length a.out.now)) u,
      w.1 ∙ ap (λ (b : Bool). text_pages_leaves a.sequence a.identifier a.coding.octet b a.units.now a.out.now) u,
    ))

pub returns-then-out-octets : goal.returns-then-out-octets
returns-then-out-octets c = let a = c.args in
    let w = pages-short a.sequence a.identifier a.coding.octet c.ucs2-ucs2.result a.units.now c.in_ok-sized.sized.pages c.in_ok-sized.ensures.1.fits a.out.now c.if-out-octets.true in
    let u = c.ucs2-ucs2.ensures.answer in
    answered
    ((
      w.0 ∙ ap (λ (b : Bool). text_pages a.sequence a.identifier a.coding.octet b a.units.now (length a.out.now)) u,
      w.1 ∙ ap (λ (b : Bool). text_pages_leaves a.sequence a.identifier a.coding.octet b a.units.now a.out.now) u,
    ))

pub returns : goal.returns
returns c = let a = c.args in
    let total : ℕ = c.in_ok-sized.sized.pages in
    let g = c.in_ok-sized.ensures.1 in
    let w = pages-stored a.sequence a.identifier a.coding.octet c.ucs2-ucs2.result a.units.now total g.fits a.out.now c.if-out-octets.false in
    let u = c.ucs2-ucs2.ensures.answer in
    let blocks =
    ap₂ (λ (b : Bool) (l : List ℕ). laid (blocks_from a.sequence a.identifier c.octet.result total b l 1 total) a.out.now) c.of-content.ensures.ucs2 (c.of-content.ensures.held ∙ g.content)
    ∙ ap (λ (o : ℕ). laid (blocks_from a.sequence a.identifier o total c.ucs2-ucs2.result (content_of c.ucs2-ucs2.result a.units.now) 1 total) a.out.now) c.octet.ensures.answer in
    answered
    ((
      w.0 ∙ ap (λ (b : Bool). text_pages a.sequence a.identifier a.coding.octet b a.units.now (length a.out.now)) u,
      c.put_pages.ensures ∙ blocks ∙ w.1 ∙ ap (λ (b : Bool). text_pages_leaves a.sequence a.identifier a.coding.octet b a.units.now a.out.now) u,
    ))
