-- The size is judged first, then the letters, and the text is read by its coding. Assumes nothing.
use mathlib.Core.Path.{◌≡◌}
use mathlib.Core.Bool.{true, false}
use mathlib.Core.List.{List}
use Prim.Native.Nat.{ℕ}
use native.Mathlib.Omega.{arith}
use borrow.Author.Rules.{rules}
use lib.ListN.{length}
use Rattle.words.specs.declared.Service.TheVariants.{Broadcast}
use Rattle.fields.specs.Letters.{are_letters}
use Rattle.stream.specs.SeptetCalls.{septets_fit}
use Rattle.stream.proofs.Calls.{fit-page}
use Rattle.lettered.specs.LetteredPage.{letters_in}
use Rattle.lettering.proofs.Steps.{read-misfit, read-unnamed, read-counted}
use Rattle.words.proofs.Clauses.{answered}
use Rattle.lettering.proofs.read_lettered.Goals as goal

pub returns-then-not-fit : goal.returns-then-not-fit
returns-then-not-fit c =
    let a = c.args in
    let wrong : septets_fit Broadcast (length a.octets.now) a.count ≡ false = cc in
    answered (read-misfit a.ucs2 a.count a.octets.now a.out.now wrong)

-- octets that fit are 82
size : (o : List ℕ) (count : ℕ) → septets_fit Broadcast (length o) count ≡ true → length o ≡ 82
size o count = fit-page (length o) count

pub returns-then-not-spelt : goal.returns-then-not-spelt
returns-then-not-spelt c =
    let a = c.args in
    let fit : septets_fit Broadcast (length a.octets.now) a.count ≡ true = cc in
    let begins : c.letters_in-letters.result ≡ letters_in a.octets.now = c.letters_in-letters.ensures (omega (arith, size a.octets.now a.count fit)) in
    let wrong : are_letters (letters_in a.octets.now) ≡ false = cc in
    answered (read-unnamed a.ucs2 a.count a.octets.now a.out.now fit wrong)

pub invariant_of-page : goal.invariant_of-page
invariant_of-page c =
    let fit : septets_fit Broadcast (length c.args.octets.now) c.args.count ≡ true = cc in
    let whole : length c.args.octets.now ≡ 82 = size c.args.octets.now c.args.count fit in
    record { octet = λ k. search rules; whole = whole; read = c.letters_in-letters.ensures (omega (arith, whole)); named = cc }

pub returns-then-ucs2 : goal.returns-then-ucs2
returns-then-ucs2 c =
    let a = c.args in
    let fit : septets_fit Broadcast (length a.octets.now) a.count ≡ true = cc in
    answered (simp c.if-ucs2.true (read-counted true a.count a.octets.now a.out.now _ _ fit (c.read_units.ensures.answer, c.read_units.ensures.buffer)))

pub invariant_of-page-else-ucs2 : goal.invariant_of-page-else-ucs2
invariant_of-page-else-ucs2 c =
    let fit : septets_fit Broadcast (length c.args.octets.now) c.args.count ≡ true = cc in
    let whole : length c.args.octets.now ≡ 82 = size c.args.octets.now c.args.count fit in
    record { octet = λ k. search rules; whole = whole; read = c.letters_in-letters.ensures (omega (arith, whole)); named = cc }

pub returns-else-ucs2 : goal.returns-else-ucs2
returns-else-ucs2 c =
    let a = c.args in
    let fit : septets_fit Broadcast (length a.octets.now) a.count ≡ true = cc in
    answered (simp c.if-ucs2.false (read-counted false a.count a.octets.now a.out.now _ _ fit (c.read_septets.ensures.answer, c.read_septets.ensures.buffer)))
