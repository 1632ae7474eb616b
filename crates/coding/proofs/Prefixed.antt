-- The octets of the codings that carry the letters of a language: 0001 0000 and 0001 0001 on a broadcast page, and no others.
-- Assumes nothing.
--   page-prefix      an octet has the prefix mark on a page exactly where half of it is 8: one computed test over the 256 octets
--   lettered-octets  those are 10 and 11 (hexadecimal)
--   lettered-read    an octet under which a message begins with letters reads as one of the two codings
--   read-given       what an octet reads as is its line in the table
--   read-clear       under every other octet a message begins with none
--   lettered-reading what it then reads as is told by its alphabet
use Rattle.words.proofs.Rules.{ok-or-err}
use mathlib.Core.Path.{◌≡◌, refl, ap, ◌∙◌, sym, subst}
use mathlib.Core.Bool.{Bool, true, false}
use mathlib.Core.Logic.{◌↔◌, ◌⊎◌, inl, inr, ⊎_elim}
use Prim.Native.Nat.{ℕ, ◌<◌, ◌/◌}
use native.Mathlib.Omega.{arith}
use borrow.Author.Tests.{eq-eqb}
use lib.Dec.{T, eqb, eqb→eq}
use Rattle.lists.specs.Bits.{bit_of, gather, bits_of}
use Rattle.lists.proofs.Tests.{every_below, every-below}
use Rattle.words.specs.Judging.{Verdict, refused, accepted, verdict, settle}
use Rattle.words.specs.declared.Service.{Service}
use Rattle.words.specs.declared.Service.TheVariants.{ShortMessage, Broadcast, Ussd, OldPage}
use Rattle.words.specs.declared.Refusal.{Refusal}
use Rattle.fields.specs.Numbers.{flag_no}
use Rattle.fields.proofs.Numbered.{flag-injective}
use Rattle.coding.specs.declared.Reading.{Reading}
use Rattle.coding.specs.OctetRead.{class_in, general_reading, last_reading, header_reading, read_page, read_under, octet_rules, octet_reads}
use Rattle.coding.specs.Holding.{is_ucs2}
use Rattle.coding.specs.LanguageLetters.{is_lettered, lettered_in}
use Rattle.std.specs.Prelude.{Ok, Err}

abbrev prefix_test : ℕ → Bool
prefix_test o = eqb (flag_no (read_page o).prefix) (flag_no (eqb (o / 2) 8))

prefix-tests : T (every_below prefix_test 256)
unfolding read_page general_reading last_reading header_reading class_in bits_of gather bit_of
prefix-tests = tt

pub page-prefix : (o : ℕ) → o < 256 → (read_page o).prefix ≡ eqb (o / 2) 8
page-prefix o h = flag-injective _ _ (eqb→eq _ _ (every-below prefix_test 256 prefix-tests o h))

-- which of the two it is
either : (o : ℕ) → o / 2 ≡ 8 → (o ≡ 0x10) ⊎ (o ≡ 0x11)
either o e = go (eqb o 0x11) refl
  where
    go : (b : Bool) → eqb o 0x11 ≡ b → (o ≡ 0x10) ⊎ (o ≡ 0x11)
    go true f = inr (eqb→eq _ _ (subst T (sym f) tt))
    go false f =
        let apart : o ≡ 0x11 → ⊥ = λ (q : o ≡ 0x11). subst T (sym (eq-eqb _ _ q) ∙ f) tt in
        inl (omega arith)

pub lettered-octets : (o : ℕ) → o < 256 → (is_lettered Broadcast (read_under Broadcast o) ≡ true) ↔ ((o ≡ 0x10) ⊎ (o ≡ 0x11))
lettered-octets o h = (
  λ e. either o (eqb→eq _ _ (subst T (sym (sym (page-prefix o h) ∙ e)) tt)),
  λ x. page-prefix o h ∙ ⊎_elim (λ (e : o ≡ 0x10). simp e) (λ (e : o ≡ 0x11). simp e) x,
)

page-lettered : (o : ℕ) → (o ≡ 0x10) ⊎ (o ≡ 0x11) → read_page o ≡ lettered_in (eqb o 0x11)
unfolding read_page bits_of gather bit_of
page-lettered o (inl e) = subst (λ (k : ℕ). read_page k ≡ lettered_in (eqb k 0x11)) (sym e) refl
page-lettered o (inr e) = subst (λ (k : ℕ). read_page k ≡ lettered_in (eqb k 0x11)) (sym e) refl

pub lettered-read : (s : Service) (o : ℕ) → o < 256 → is_lettered s (read_under s o) ≡ true → octet_reads s o ≡ Ok (lettered_in (eqb o 0x11))
unfolding octet_reads octet_rules verdict
lettered-read ShortMessage o h e = absurd (subst T (sym e) tt)
lettered-read Broadcast o h e = ap Ok (page-lettered o ((lettered-octets o h).0 e))
lettered-read Ussd o h e = absurd (subst T (sym e) tt)
lettered-read OldPage o h e = absurd (subst T (sym e) tt)

pub read-given : (s : Service) (o : ℕ) (r : Reading) → Ok r ≡ octet_reads s o → read_under s o ≡ r
unfolding octet_reads
read-given s o r e = go (verdict (octet_rules s o)) e
  where
    go : (v : Verdict) → Ok r ≡ settle v Err (Ok (read_under s o)) → read_under s o ≡ r
    go (refused q) f = absurd (ok-or-err f)
    go accepted f = cc

pub read-clear : (s : Service) (o : ℕ) (r : Reading) → is_lettered s (read_under s o) ≡ false → Ok r ≡ octet_reads s o → is_lettered s r ≡ false
read-clear s o r l e = subst (λ (x : Reading). is_lettered s x ≡ false) (read-given s o r e) l

-- a reading under which a message begins with letters is that of its alphabet
pub lettered-reading : (s : Service) (o : ℕ) (r : Reading) → o < 256 → Ok r ≡ octet_reads s o → is_lettered s r ≡ true → r ≡ lettered_in (is_ucs2 r.alphabet)
lettered-reading s o r h e l =
    let d : Ok r ≡ Ok (lettered_in (eqb o 0x11)) = e ∙ lettered-read s o h (ap (is_lettered s) (read-given s o r e) ∙ l) in
    let same : r ≡ lettered_in (eqb o 0x11) = cc in
    subst (λ (x : Reading). x ≡ lettered_in (is_ucs2 x.alphabet)) (sym same) (own (eqb o 0x11))
  where
    own : (ucs2 : Bool) → lettered_in ucs2 ≡ lettered_in (is_ucs2 (lettered_in ucs2).alphabet)
    own true = refl
    own false = refl
