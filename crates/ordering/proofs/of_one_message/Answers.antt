-- Octets 1 to 5 are tested first, then the totals. Assumes nothing.
use Rattle.std.proofs.Common.{◌≡◌, ◌∙◌, sym, ap, ap₂, Bool, ◌&&◌, eqb, List, ℕ}
use Rattle.pages.specs.declared.Header.{Header}
use Rattle.pages.specs.Blocks.{header_of}
use Rattle.pages.specs.Joined.{same_octets, of_one_message}
use Rattle.ordering.proofs.of_one_message.Goals as goal

same-totals : (a b : List ℕ) (f g : Header) → f ≡ header_of a → g ≡ header_of b → eqb f.total g.total ≡ eqb (header_of a).total (header_of b).total
same-totals a b f g e d = ap₂ (λ (x y : Header). eqb x.total y.total) e d

judged : (a b : List ℕ) (s : Bool) → s ≡ same_octets 5 a b → (s && eqb (header_of a).total (header_of b).total) ≡ of_one_message a b
unfolding of_one_message
judged a b s e = ap (λ (x : Bool). x && eqb (header_of a).total (header_of b).total) e

pub returns-then-same_head : goal.returns-then-same_head
returns-then-same_head c =
    let a : List ℕ = c.args.a in
    let b : List ℕ = c.args.b in
    same-totals a b _ _ c.read_header.ensures.answer c.read_header-then-same_head.ensures.answer
    ∙ sym (ap (λ (x : Bool). x && eqb (header_of a).total (header_of b).total) c.if-same_head.true)
    ∙ judged a b _ c.same_head.ensures

pub returns-else-same_head : goal.returns-else-same_head
returns-else-same_head c =
    let a : List ℕ = c.args.a in
    let b : List ℕ = c.args.b in
    c.if-same_head.false ∙ sym (ap (λ (x : Bool). x && eqb (header_of a).total (header_of b).total) c.if-same_head.false) ∙ judged a b _ c.same_head.ensures
