-- `plain` meets its contract: it answers true only where both tests do. Assumes nothing.
use Rattle.std.proofs.Common.{rules, ◌≡◌, ◌∙◌, sym, ap, subst, ℕ, ◌+◌, ◌*◌}
use lib.Dec.{T, eqb→eq}
use Rattle.names.proofs.Named.{plain-named}
use Rattle.names.proofs.plain.Goals as goal

pub returns-then-rest-eq0 : goal.returns-then-rest-eq0
returns-then-rest-eq0 c =
    let a = c.args in
    let same : c.from.result ≡ c.plain_alphabet.result = search rules in
    λ e.
    plain-named a.numbers a.ucs2 c.joined.ensures.1 (sym c.rest.ensures ∙ c.if-rest-eq0.true)
    (sym c.joined.ensures.0 ∙ eqb→eq _ _ (subst T (sym e) tt) ∙ ap (λ (n : ℕ). 0x1000000 * 15 + n) (same ∙ c.plain_alphabet.ensures))
