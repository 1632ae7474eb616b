-- Document 02, W3: what the whole reader and the whole writer do with the codings of clause 5 that hold no text here: "a coding with that mark
-- gives 3; a group that clause 5 gives to another protocol reads as an alphabet of its own and gives 2". On a broadcast page and in USSD alike.
-- Assumes nothing.
--   broadcast-by-pages, ussd-by-pages   the services that this is said of
--   header_read, header-write   a coding with the header mark is 2 from 94 to 97 (hexadecimal), which are 8-bit data, and else 3
--   i1-read, i1-write           one of the alphabet I1 is 2
--   header-written, i1-written  where such a reading is written, its text is judged so: for every call that takes a reading
use mathlib.Core.Path.{◌≡◌, refl, ap, ap₂, ◌∙◌, sym}
use mathlib.Core.Bool.{true, false, cond}
use mathlib.Core.List.{List, [], ◌++◌}
use Prim.Native.Nat.{ℕ, ◌<◌, ◌/◌}
use lib.Dec.{eqb}
use Rattle.words.specs.declared.Service.{Service}
use Rattle.words.specs.declared.Service.TheVariants.{Broadcast, Ussd}
use Rattle.words.specs.declared.Refusal.{Refusal}
use Rattle.words.specs.declared.Refusal.TheVariants.{NoText, Prefixed}
use Rattle.words.specs.Judging.{Rule, refused, verdict}
use Rattle.words.proofs.Judging.{verdict-refused-first}
use Rattle.fields.specs.declared.Alphabet.{Alphabet}
use Rattle.fields.specs.declared.Alphabet.TheVariants.{I1}
use Rattle.fields.specs.Numbers.{alphabet_no}
use Rattle.coding.specs.declared.Reading.{Reading}
use Rattle.coding.specs.Readings.{without_letters}
use Rattle.coding.specs.OctetRead.{octet_rules, read_page, read_under}
use Rattle.coding.specs.OctetWritten.{octet_writes}
use Rattle.coding.specs.LanguageLetters.{is_lettered, coding_rules, coding_writes}
use Rattle.coding.specs.Holding.{text_rules}
use Rattle.coding.proofs.TextOctet.{coding-written}
use Rattle.coding.proofs.Theorems.{settled, write_read}
use Rattle.coding.proofs.Prefixed.{read-given}
use Rattle.coding.proofs.Headed.{headed, is_i1, header-octets, i1-octets, header-unprefixed, i1-unprefixed, header-judged, i1-judged}
use Rattle.demands.specs.MessageRead.{length_rules, read_rules, read_answers}
use Rattle.demands.specs.MessageWritten.{size_rules, write_rules, write_answers}
use Rattle.demands.proofs.Unlettered.{unmarked, mark-rules, heard-rules}
use Rattle.demands.proofs.Prefixed.{judged-first}
use Rattle.std.specs.Prelude.{Ok, Err}

-- a service that reads every octet, by the table of pages
pub record ByPages (s : Service) : Type 0 where
  pub same : (k : ℕ) → read_under s k ≡ read_page k
  pub all : (k : ℕ) → octet_rules s k ≡ []

pub broadcast-by-pages : ByPages Broadcast
unfolding octet_rules
broadcast-by-pages = record { same = λ k. refl; all = λ k. refl }

pub ussd-by-pages : ByPages Ussd
unfolding octet_rules
ussd-by-pages = record { same = λ k. refl; all = λ k. refl }

module _ (s : Service) (b : ByPages s) where
  read-judged : (coding count : ℕ) (o : List ℕ) (room : ℕ) (q : Refusal) → (read_page coding).prefix ≡ false → verdict (text_rules s (read_page coding)) ≡ refused q
      → read_answers s coding count o room ≡ Err q
  unfolding read_answers read_rules
  read-judged coding count o room q p v =
      let r = read_under s coding in
      let clear : is_lettered s r ≡ false = unmarked s r (ap (λ (x : Reading). x.prefix) (b.same coding) ∙ p) in
      simp
      (ap₂ (λ (x y : List Rule). verdict (x ++ (y ++ length_rules s r count o room))) (b.all coding) (heard-rules s r clear)
      ∙ verdict-refused-first (text_rules s r) (length_rules s r count o room) q (ap (λ (x : Reading). verdict (text_rules s x)) (b.same coding) ∙ v))

  pub header_read : (coding count : ℕ) (o : List ℕ) (room : ℕ) → coding < 256 → headed coding ≡ true → read_answers s coding count o room ≡ Err (cond (eqb (coding / 4) 0x25) NoText Prefixed)
  header_read coding count o room h e = read-judged coding count o room _ (header-unprefixed coding h e) (header-judged coding h s e)

  pub i1-read : (coding count : ℕ) (o : List ℕ) (room : ℕ) → coding < 256 → is_i1 coding ≡ true → read_answers s coding count o room ≡ Err NoText
  i1-read coding count o room h e = read-judged coding count o room _ (i1-unprefixed coding h e) (i1-judged coding h s e)

  -- a reading that is written as the octet o, which reads as it does but for its letters
  module _ (r : Reading) (o : ℕ) (w : coding_writes s r ≡ Ok o) where
    alone : octet_writes s r ≡ Ok o
    alone = (coding-written s r o w).1

    within : o < 256
    within = (settled s r o alone).within

    shown : read_page o ≡ without_letters r
    shown = sym (b.same o) ∙ read-given s o (without_letters r) (sym (write_read s r o alone))

    as-headed : r.header ≡ true → headed o ≡ true
    as-headed e = sym (header-octets o within) ∙ ap (λ (x : Reading). x.header) shown ∙ e

    as-i1 : r.alphabet ≡ I1 → is_i1 o ≡ true
    as-i1 e = sym (i1-octets o within) ∙ ap (λ (x : Reading). eqb (alphabet_no x.alphabet) 4) shown ∙ ap (λ (a : Alphabet). eqb (alphabet_no a) 4) e

    pub header-written : r.header ≡ true → verdict (text_rules s r) ≡ refused (cond (eqb (o / 4) 0x25) NoText Prefixed)
    unfolding text_rules
    header-written e = ap (λ (x : Reading). verdict (text_rules s x)) (sym shown) ∙ header-judged o within s (as-headed e)

    pub i1-written : r.alphabet ≡ I1 → verdict (text_rules s r) ≡ refused NoText
    unfolding text_rules
    i1-written e = ap (λ (x : Reading). verdict (text_rules s x)) (sym shown) ∙ i1-judged o within s (as-i1 e)

    write-judged : (t : List ℕ) (room : ℕ) (q : Refusal) → (read_page o).prefix ≡ false → verdict (text_rules s r) ≡ refused q → write_answers s r t room ≡ Err q
    unfolding write_answers write_rules
    write-judged t room q p v =
        let clear : is_lettered s r ≡ false = unmarked s r (ap (λ (x : Reading). x.prefix) (sym shown) ∙ p) in
        simp
        (ap (λ (x : List Rule). verdict (coding_rules s r ++ (x ++ size_rules s r t room))) (mark-rules s r clear) ∙ judged-first s r o q w v (size_rules s r t room))

    pub header-write : (t : List ℕ) (room : ℕ) → r.header ≡ true → write_answers s r t room ≡ Err (cond (eqb (o / 4) 0x25) NoText Prefixed)
    header-write t room e = write-judged t room _ (header-unprefixed o within (as-headed e)) (header-written e)

    pub i1-write : (t : List ℕ) (room : ℕ) → r.alphabet ≡ I1 → write_answers s r t room ≡ Err NoText
    i1-write t room e = write-judged t room _ (i1-unprefixed o within (as-i1 e)) (i1-written e)
