-- Document 02, W3: what the table of Release 9 changes of document 01's. The former table is kept here as the yardstick, and no contract cites it.
-- Assumes nothing.
--   former_page o       how octet o read on a broadcast page and in USSD by document 01's own table
--   listed o           the octets that W3 names: 21 to 24, 90 to 9B, D0 to DF (hexadecimal)
--   changed-exactly    an octet reads otherwise than before exactly where it is listed: one computed test over the 256 octets
--   formerly-reserved  each of those was reserved
--   still-written      every reading that the former table wrote is written, as the same octet
use mathlib.Core.Path.{◌≡◌, refl, ap, ◌∙◌, sym, subst}
use mathlib.Core.Bool.{Bool, true, false, cond, not, ◌&&◌, ◌||◌}
use mathlib.Core.List.{[], ◌∷◌}
use mathlib.Core.Logic.{◌↔◌}
use Prim.Native.Nat.{ℕ, ◌≤◌, ◌<◌}
use native.Mathlib.Omega.{arith}
use borrow.Author.Tests.{eq-eqb}
use lib.Dec.{T, eqb, ltb, leb}
use Rattle.lists.specs.Bits.{bit_of, gather, bits_of}
use Rattle.lists.proofs.Tests.{both, both_left, both_right, every_below, every-below}
use Rattle.words.specs.declared.Service.{Service}
use Rattle.words.specs.declared.Service.TheVariants.{Broadcast, Ussd}
use Rattle.words.specs.declared.Refusal.TheVariants.{Unwritable}
use Rattle.words.specs.Sizes.{is_old_page}
use Rattle.words.specs.Judging.{when, verdict, settle}
use Rattle.fields.specs.declared.Alphabet.TheVariants.{Ucs2, Wap}
use Rattle.fields.specs.declared.Language.TheVariants.{Czech}
use Rattle.fields.specs.Numbers.{alphabet_no, language_no}
use Rattle.octets.specs.Smallest.{first_octet}
use Rattle.octets.proofs.First.{first-most, first_holds, first-agree}
use Rattle.coding.specs.declared.Reading.{Reading}
use Rattle.coding.specs.Readings.{unmentioned, reserved_reading, without_letters, with_alphabet, with_language, with_prefix}
use Rattle.coding.specs.OctetRead.{language_of, user_class_of, class_in, general_reading, last_reading, header_reading, read_page, read_under}
use Rattle.coding.specs.OctetWritten.{same_coding, smallest, octet_writes}
use Rattle.coding.proofs.Letterless.{letterless, Bare, either, general-bare, last-bare, read-letterless}
use Rattle.coding.proofs.Same.{same-sound}
use Rattle.coding.proofs.Theorems.{told}
use Rattle.coding.proofs.Smallest.{write-found}
use Rattle.std.specs.Prelude.{Result, Ok, Err}
use Rattle.words.specs.declared.Refusal.{Refusal}

-- document 01, broadcast and USSD
unfoldable pub former_page : ℕ → Reading
former_page o =
    cond (eqb (bits_of o 7 4) 0b0000) (with_language (language_of (bits_of o 3 0)) unmentioned)
    (cond (eqb o 0b0001_0000) (with_prefix true unmentioned)
    (cond (eqb o 0b0001_0001) (with_prefix true (with_alphabet Ucs2 unmentioned))
    (cond (eqb (bits_of o 7 4) 0b0001) reserved_reading
    (cond (eqb o 0b0010_0000) (with_language Czech unmentioned)
    (cond (eqb (bits_of o 7 5) 0b001) reserved_reading
    (cond (eqb (bits_of o 7 6) 0b01) (general_reading o unmentioned)
    (cond (ltb (bits_of o 7 4) 0b1110) reserved_reading
    (cond (eqb (bits_of o 7 4) 0b1110) (with_alphabet Wap unmentioned)
    (last_reading o (user_class_of (bits_of o 1 0)))))))))))

abbrev pub listed : ℕ → Bool
listed o = (leb 0x21 o && leb o 0x24) || ((leb 0x90 o && leb o 0x9b) || (leb 0xd0 o && leb o 0xdf))

-- readings that the former table does not have: the header mark, a language behind Czech, the alphabet I1
abbrev fresh : Reading → Bool
fresh r = r.header || (ltb 16 (language_no r.language) || eqb (alphabet_no r.alphabet) 4)

-- no reading of before is fresh; a listed octet was reserved and is fresh now, and any other reads the same
abbrev weighed : ℕ → Bool
weighed o = both (not (fresh (former_page o))) (cond (listed o) (both (former_page o).reserved (fresh (read_page o))) (same_coding (read_page o) (former_page o)))

all-weighed : T (every_below weighed 256)
unfolding former_page read_page general_reading last_reading header_reading class_in bits_of gather bit_of
all-weighed = tt

-- what the test says of one octet
record Weighed (o : ℕ) : Type 0 where
  pub before : T (not (fresh (former_page o)))
  pub now : T (cond (listed o) (both (former_page o).reserved (fresh (read_page o))) (same_coding (read_page o) (former_page o)))

weigh : (o : ℕ) → o < 256 → Weighed o
weigh o h =
    let t = every-below weighed 256 all-weighed o h in
    record { before = both_left (not (fresh (former_page o))) _ t; now = both_right (not (fresh (former_page o))) _ t }

former-bare : (o : ℕ) → Bare (former_page o)
unfolding former_page
former-bare o =
    either (eqb (bits_of o 7 4) 0b0000) _ _ refl
    (either (eqb o 0b0001_0000) _ _ refl
    (either (eqb o 0b0001_0001) _ _ refl
    (either (eqb (bits_of o 7 4) 0b0001) _ _ refl
    (either (eqb o 0b0010_0000) _ _ refl
    (either (eqb (bits_of o 7 5) 0b001) _ _ refl
    (either (eqb (bits_of o 7 6) 0b01) _ _ (general-bare o _ refl)
    (either (ltb (bits_of o 7 4) 0b1110) _ _ refl
    (either (eqb (bits_of o 7 4) 0b1110) _ _ refl
    (last-bare o _)))))))))

clash : {A : Type 0} (b : Bool) → T (not b) → T b → A
clash true t u = absurd t
clash false t u = absurd u

-- the same of an octet that is known to be listed, or not
weighed-as : (o : ℕ) → o < 256 → (b : Bool) → listed o ≡ b → T (cond b (both (former_page o).reserved (fresh (read_page o))) (same_coding (read_page o) (former_page o)))
weighed-as o h b e = subst (λ (t : Bool). T (cond t (both (former_page o).reserved (fresh (read_page o))) (same_coding (read_page o) (former_page o)))) e (weigh o h).now

kept : (o : ℕ) → o < 256 → listed o ≡ false → read_page o ≡ former_page o
kept o h e =
    sym (letterless (read_page o) (read-letterless Broadcast o))
    ∙ same-sound (read_page o) (former_page o) (weighed-as o h false e)
    ∙ letterless (former_page o) (former-bare o)

pub formerly-reserved : (o : ℕ) → o < 256 → listed o ≡ true → T (former_page o).reserved
formerly-reserved o h e = both_left (former_page o).reserved (fresh (read_page o)) (weighed-as o h true e)

now-fresh : (o : ℕ) → o < 256 → listed o ≡ true → T (fresh (read_page o))
now-fresh o h e = both_right (former_page o).reserved (fresh (read_page o)) (weighed-as o h true e)

pub changed-exactly : (o : ℕ) → o < 256 → (read_page o ≡ former_page o → ⊥) ↔ (listed o ≡ true)
changed-exactly o h = (go (listed o) refl, λ e same. clash (fresh (former_page o)) (weigh o h).before (subst (λ (r : Reading). T (fresh r)) same (now-fresh o h e)))
  where
    go : (b : Bool) → listed o ≡ b → (read_page o ≡ former_page o → ⊥) → listed o ≡ true
    go true e n = e
    go false e n = absurd (n (kept o h e))

-- ---- writing

-- "the smallest octet that reads so. It is refused when the reserved mark is set or no octet reads so"
abbrev former_smallest : Reading → ℕ
former_smallest r = first_octet (λ (o : ℕ). same_coding (former_page o) r)

pub former_writes : Reading → Result ℕ Refusal
former_writes r = settle (verdict (when r.reserved Unwritable ∷ when (eqb (former_smallest r) 256) Unwritable ∷ [])) Err (Ok (former_smallest r))

-- a reading that passes a test and one that fails it are not alike, if the test looks past letters
alike-not : (a b : Reading) (test : Reading → Bool) → ((x : Reading) → test x ≡ test (without_letters x)) → T (test a) → T (not (test b)) → same_coding a b ≡ false
alike-not a b test past ta nb = go (same_coding a b) refl
  where
    go : (t : Bool) → same_coding a b ≡ t → same_coding a b ≡ false
    go true e = clash (test b) nb (subst T (past a ∙ ap test (same-sound a b (subst T (sym e) tt)) ∙ sym (past b)) ta)
    go false e = e

module _ (r : Reading) (plain : r.reserved ≡ false) (old : T (not (fresh r))) where
  agree : (k : ℕ) → k < 256 → same_coding (former_page k) r ≡ same_coding (read_page k) r
  agree k h = go (listed k) refl
    where
      go : (b : Bool) → listed k ≡ b → same_coding (former_page k) r ≡ same_coding (read_page k) r
      go true e =
          alike-not (former_page k) r (λ x. x.reserved) (λ x. refl) (formerly-reserved k h e) (subst (λ (b : Bool). T (not b)) (sym plain) tt)
          ∙ sym (alike-not (read_page k) r fresh (λ x. refl) (now-fresh k h e) old)
      go false e = ap (λ (x : Reading). same_coding x r) (sym (kept k h e))

still-smallest : (r : Reading) → r.reserved ≡ false → former_smallest r < 256 → first_octet (λ (o : ℕ). same_coding (read_page o) r) ≡ former_smallest r
still-smallest r plain h =
    let read : T (same_coding (former_page (former_smallest r)) r) = first_holds (λ (o : ℕ). same_coding (former_page o) r) h in
    let old : T (not (fresh r)) = subst (λ (x : Reading). T (not (fresh x))) (same-sound (former_page (former_smallest r)) r read) (weigh (former_smallest r) h).before in
    sym (first-agree (λ (o : ℕ). same_coding (former_page o) r) (λ (o : ℕ). same_coding (read_page o) r) (agree r plain old))

-- a service that reads its octets by the table of pages
pub still-written : (s : Service) → is_old_page s ≡ false → ((o : ℕ) → read_under s o ≡ read_page o) → (r : Reading) (o : ℕ) → former_writes r ≡ Ok o → octet_writes s r ≡ Ok o
unfolding former_writes smallest verdict
still-written s new same r o e =
    let t = told false r.reserved (eqb (former_smallest r) 256) (former_smallest r) o e in
    let most : former_smallest r ≤ 256 = first-most (λ (k : ℕ). same_coding (former_page k) r) in
    let apart : former_smallest r ≡ 256 → ⊥ = λ (q : former_smallest r ≡ 256). subst T (sym (eq-eqb _ _ q) ∙ t.2) tt in
    let h : former_smallest r < 256 = omega arith in
    let first : smallest s r ≡ former_smallest r =
    first-agree (λ (k : ℕ). same_coding (read_under s k) r) (λ (k : ℕ). same_coding (read_page k) r) (λ k l. ap (λ (x : Reading). same_coding x r) (same k)) ∙ still-smallest r t.1 h in
    write-found s r o new t.1 (first ∙ t.3) (subst (λ (k : ℕ). k < 256) t.3 h)

pub page-still-written : (r : Reading) (o : ℕ) → former_writes r ≡ Ok o → octet_writes Broadcast r ≡ Ok o
page-still-written = still-written Broadcast refl (λ k. refl)

pub ussd-still-written : (r : Reading) (o : ℕ) → former_writes r ≡ Ok o → octet_writes Ussd r ≡ Ok o
ussd-still-written = still-written Ussd refl (λ k. refl)
