-- The coding octet of a text is that of data coding alone, but where a letter stands without the prefix mark: 8 then, and only then, more.
-- Assumes nothing.
--   coding-bare     without such a letter it is what data coding alone writes
--   coding-stray    with one it is refused 8
--   coding-written  where it is written there is no such letter, and data coding alone writes it so
--   bare-letterless, letterless-coding
--                   without the prefix mark there is then no letter at all; without a letter it is what data coding alone writes
--   coding-read     without the prefix mark, reading what was written gives the reading back
--   coding-complete a reading that is not reserved and that an octet has is written
use Rattle.words.proofs.Rules.{ok-or-err}
use mathlib.Core.Path.{◌≡◌, refl, ap, sym, ◌∙◌}
use mathlib.Core.Bool.{Bool, true, false, not, ◌&&◌, ◌||◌}
use mathlib.Core.List.{List, [], ◌∷◌, ◌++◌}
use Prim.Native.Nat.{ℕ, ◌<◌}
use native.Mathlib.Omega.{arith}
use lib.Dec.{eqb}
use borrow.Author.Tests.{eqb-true}
use Rattle.words.specs.declared.Service.{Service}
use Rattle.words.specs.Sizes.{is_old_page}
use Rattle.words.specs.declared.Refusal.{Refusal}
use Rattle.words.specs.declared.Refusal.TheVariants.{Unwritable}
use Rattle.words.specs.Judging.{Rule, when, Verdict, refused, accepted, verdict, settle}
use Rattle.fields.specs.declared.Letters.{Letters}
use Rattle.fields.specs.Letters.{no_letters, any_letter}
use Rattle.coding.specs.declared.Reading.{Reading}
use Rattle.coding.specs.OctetRead.{octet_reads}
use Rattle.coding.specs.OctetWritten.{smallest, write_rules, octet_writes}
use Rattle.coding.specs.LanguageLetters.{stray_letters, coding_rules, coding_writes}
use Rattle.coding.proofs.Letterless.{letterless, octet-letterless}
use Rattle.coding.proofs.Refuses.{write-refuses-8}
use Rattle.coding.proofs.Theorems.{write_read, write-complete}
use Rattle.std.specs.Prelude.{Result, Ok, Err}

-- a rule behind all others: where it holds it gives its refusal to what they accept, and where not it changes nothing
behind : (rules : List Rule) (t : Bool) (q : Refusal) → verdict (rules ++ (when t q ∷ [])) ≡ settle (verdict rules) refused (verdict (when t q ∷ []))
unfolding verdict
behind [] t q = refl
behind (when true r ∷ rules) t q = refl
behind (when false r ∷ rules) t q = behind rules t q

module _ (s : Service) (r : Reading) where
  unfoldable judged : Bool → Verdict → Result ℕ Refusal
  judged t v = settle (settle v refused (verdict (when t Unwritable ∷ []))) Err (Ok (smallest s r))

  by-stray : coding_writes s r ≡ judged (stray_letters r) (verdict (write_rules s r))
  unfolding coding_writes coding_rules judged
  by-stray = ap (λ (v : Verdict). settle v Err (Ok (smallest s r))) (behind (write_rules s r) (stray_letters r) Unwritable)

  bare : (v : Verdict) → judged false v ≡ settle v Err (Ok (smallest s r))
  unfolding judged verdict
  bare (refused q) = refl
  bare accepted = refl

  pub coding-bare : stray_letters r ≡ false → coding_writes s r ≡ octet_writes s r
  unfolding octet_writes
  coding-bare e = by-stray ∙ ap (λ (t : Bool). judged t (verdict (write_rules s r))) e ∙ bare (verdict (write_rules s r))

  pub coding-stray : stray_letters r ≡ true → coding_writes s r ≡ Err Unwritable
  unfolding octet_writes judged verdict
  coding-stray e = by-stray ∙ ap (λ (t : Bool). judged t (verdict (write_rules s r))) e ∙ go (verdict (write_rules s r)) refl
    where
      go : (v : Verdict) → verdict (write_rules s r) ≡ v → judged true v ≡ Err Unwritable
      go (refused q) f = ap Err (write-refuses-8 s r q (ap (λ (v : Verdict). settle v Err (Ok (smallest s r))) f))
      go accepted f = refl

  pub coding-written : (o : ℕ) → coding_writes s r ≡ Ok o → (stray_letters r ≡ false) × (octet_writes s r ≡ Ok o)
  coding-written o e = go (stray_letters r) refl
    where
      go : (t : Bool) → stray_letters r ≡ t → (stray_letters r ≡ false) × (octet_writes s r ≡ Ok o)
      go true f = absurd (ok-or-err (sym e ∙ coding-stray f))
      go false f = (f, sym (coding-bare f) ∙ e)

-- letters of which none is there are both absent
none-absent : (t : Letters) → any_letter t ≡ false → t ≡ no_letters
unfolding any_letter
none-absent t e = go (eqb t.first 0) refl (eqb t.second 0) refl e
  where
    go : (a : Bool) → eqb t.first 0 ≡ a → (b : Bool) → eqb t.second 0 ≡ b → not a || not b ≡ false → t ≡ no_letters
    go true p true q f = λ i. record { first = eqb-true t.first 0 p i; second = eqb-true t.second 0 q i }
    go true p false q f = let z : ◌≡◌ {A = ℕ} 0 1 = cc in absurd (omega arith)
    go false p b q f = let z : ◌≡◌ {A = ℕ} 0 1 = cc in absurd (omega arith)

pub bare-letterless : (r : Reading) → r.prefix ≡ false → stray_letters r ≡ false → r.letters ≡ no_letters
bare-letterless r p e = none-absent r.letters (ap (λ (b : Bool). not b && any_letter r.letters) (sym p) ∙ e)

pub letterless-coding : (s : Service) (r : Reading) → r.letters ≡ no_letters → coding_writes s r ≡ octet_writes s r
unfolding any_letter
letterless-coding s r e = coding-bare s r (ap (λ (t : Letters). not r.prefix && any_letter t) e ∙ never (not r.prefix))
  where
    never : (b : Bool) → b && false ≡ false
    never true = refl
    never false = refl

pub coding-read : (s : Service) (r : Reading) (o : ℕ) → r.prefix ≡ false → coding_writes s r ≡ Ok o → octet_reads s o ≡ Ok r
coding-read s r o p e = let w = coding-written s r o e in write_read s r o w.1 ∙ ap Ok (letterless r (bare-letterless r p w.0))

pub coding-complete : (s : Service) (r : Reading) (o : ℕ) → is_old_page s ≡ false → r.reserved ≡ false → o < 256 → octet_reads s o ≡ Ok r → (k : ℕ) × (coding_writes s r ≡ Ok k)
coding-complete s r o new plain l h =
    let bare = octet-letterless s o r h in
    let k = write-complete s r o new plain l (h ∙ ap Ok (sym (letterless r bare))) in
    (k.0, letterless-coding s r bare ∙ k.1)
