-- A text that fits has the page whose number is from 1 to its total, and no other. Assumes nothing.
use Prim.Native.Nat.{ℕ, ◌+◌, ◌-◌, ◌≤◌}
use mathlib.Core.Path.{◌≡◌, sym, ap, ap₂, ◌∙◌}
use mathlib.Core.Logic.{⊎_elim}
use mathlib.Core.Bool.{Bool, true}
use mathlib.Core.List.{List}
use native.Mathlib.Omega.{arith}
use borrow.Author.Tests.{lt-ltb}
use borrow.Author.Rules.{rules}
use Rattle.filling.specs.Filling.{part_at}
use Rattle.filling.specs.Numbered.{lacks}
use Rattle.filling.proofs.Placing.{lacks-none, lacks-0, lacks-above}
use Rattle.pages.specs.Blocks.{block_of}
use Rattle.pages.specs.Parts.{page_room, content_of, page_text}
use Rattle.pages.specs.Written.{page_block}
use Rattle.pages.specs.Inner.{text_builds}
use Rattle.pages.specs.Successes.{ok_page}
use Rattle.pages.proofs.Steps.{built-lacks, built-page, built-refused}
use Rattle.paging.proofs.build_text.Goals as goal

pub returns-in_err-sized : goal.returns-in_err-sized
returns-in_err-sized c = let a = c.args in
    search rules
    ∙ built-refused a.sequence a.identifier a.coding.octet c.ucs2-ucs2.result a.units.now a.number _ (sym c.in_err-sized.ensures)
    ∙ ap (λ (b : Bool). text_builds a.sequence a.identifier a.coding.octet b a.units.now a.number) c.ucs2-ucs2.ensures.answer

pub returns-then-number-eq0 : goal.returns-then-number-eq0
returns-then-number-eq0 c = let a = c.args in
    let total : ℕ = c.in_ok-sized.sized.pages in
    let absent : lacks total a.number ≡ true = ⊎_elim (lacks-0 total a.number) (λ w. lacks-above total a.number (lt-ltb _ _ w.1)) c.then-number-eq0.either in
    built-lacks a.sequence a.identifier a.coding.octet c.ucs2-ucs2.result a.units.now total c.in_ok-sized.ensures.1.fits a.number absent
    ∙ ap (λ (b : Bool). text_builds a.sequence a.identifier a.coding.octet b a.units.now a.number) c.ucs2-ucs2.ensures.answer

pub returns : goal.returns
returns c = let a = c.args in
    let total : ℕ = c.in_ok-sized.sized.pages in
    let g = c.in_ok-sized.ensures.1 in
    let u : Bool = c.ucs2-ucs2.result in
    let k : (1 ≤ a.number) × (a.number ≤ total) = (omega (arith, c.if-number-eq0.false), c.if-sized-number.false) in
    let text : c.put_page.new.text ≡ page_text u (part_at (page_room u) (content_of u a.units.now) a.number) =
    c.put_page.ensures
    ∙ ap₂ (λ (b : Bool) (l : List ℕ). page_text b (part_at (page_room b) l (a.number - 1 + 1))) c.of-content.ensures.ucs2 (c.of-content.ensures.held ∙ g.content)
    ∙ ap (λ (n : ℕ). page_text u (part_at (page_room u) (content_of u a.units.now) n)) (omega (arith, k)) in
    let block =
    c.page_block.ensures.answer
    ∙ ap (block_of (record { sequence = a.sequence; identifier = a.identifier; coding = c.octet.result; total = total; number = a.number })) text
    ∙ ap (λ (o : ℕ). page_block a.sequence a.identifier o total u (content_of u a.units.now) a.number) c.octet.ensures.answer in
    ap (λ (b : List ℕ). ok_page b total) block
    ∙ built-page a.sequence a.identifier a.coding.octet u a.units.now total g.fits a.number (lacks-none total a.number k.0 k.1)
    ∙ ap (λ (b : Bool). text_builds a.sequence a.identifier a.coding.octet b a.units.now a.number) c.ucs2-ucs2.ensures.answer
