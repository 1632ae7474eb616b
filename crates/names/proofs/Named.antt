-- Numbers name what has them: a service and a reading are named by their own numbers, and by no others.
-- Assumes nothing.
--   service-named, service-number: a service's number names it, and what a number names has that number
--   reading-named, reading-number: the same of a reading and the numbers of its fields
use mathlib.Core.Path.{◌≡◌, refl, ap, sym, subst, ◌∙◌}
use mathlib.Core.Bool.{Bool, true, false, cond}
use mathlib.Core.List.{List}
use Prim.Native.Nat.{ℕ, ◌+◌, ◌*◌, ◌<◌, ◌/◌, ◌%◌}
use native.Mathlib.Omega.{arith}
use lib.Dec.{T, eqb, ltb, eqb→eq, lit<}
use lib.ListN.{get_or}
use borrow.Author.Tests.{ltb-true, ltb-false, lt-ltb, eqb-true}
use Rattle.words.specs.declared.Service.{Service}
use Rattle.words.specs.declared.Service.TheVariants.{ShortMessage, Broadcast, Ussd, OldPage}
use Rattle.lists.proofs.Tests.{and_left, and_right, every_below, every-below}
use Rattle.fields.specs.declared.Alphabet.TheVariants.{SevenBit}
use Rattle.fields.specs.declared.Class.TheVariants.{Unset}
use Rattle.fields.specs.declared.Language.TheVariants.{German}
use Rattle.fields.specs.declared.Kind.TheVariants.{Voicemail, Fax, Mail, Other}
use Rattle.fields.specs.declared.Notice.{Notice}
use Rattle.fields.specs.declared.Notice.TheVariants.{Nothing, Discard, Store}
use Rattle.coding.specs.declared.Reading.{Reading}
use Rattle.coding.specs.Readings.{plain_in, with_letters}
use Rattle.coding.specs.LanguageLetters.{lettered_in}
use Rattle.fields.specs.declared.Letters.{Letters}
use Rattle.fields.specs.Numbers.{alphabet_no, class_no, language_no, kind_no, notice_no, flag_no, alphabets, classes, languages, kinds}
use Rattle.fields.proofs.Numbered.{alphabet-named, class-named, language-named, flag-named}
use Rattle.names.specs.declared.ReadingNumbers.{ReadingNumbers}
use Rattle.names.specs.Joined.{joined_fields, joined_rest}
use Rattle.names.specs.Inner.{InOctets}
use Rattle.words.specs.Services.{service_no, named_service}
use Rattle.names.specs.Names.{named_notice, numbers_of, names_flags, names_fields, reading_with, with_named, named_reading}
use Rattle.std.specs.Prelude.{Option, Some, None}

-- a choice reads as n where both of its sides do
cond-reads : {A : Type 0} (reads : A → ℕ) (n : ℕ) (b : Bool) (x y : A) → (b ≡ true → reads x ≡ n) → reads y ≡ n → reads (cond b x y) ≡ n
cond-reads reads n true x y h k = h refl
cond-reads reads n false x y h k = k

-- a test that answers false answers nothing else
pub never : {A : Type 0} → false ≡ true → A
never e = absurd (subst T (sym e) tt)

-- ---- services

pub service-named : (s : Service) → named_service (service_no s) ≡ Some s
unfolding named_service
service-named ShortMessage = refl
service-named Broadcast = refl
service-named Ussd = refl
service-named OldPage = refl

-- the number of what is named, and n where nothing is
abbrev service_reads : ℕ → Option Service → ℕ
service_reads n (Some s) = service_no s
service_reads n None = n

pub service-number : (n : ℕ) (s : Service) → named_service n ≡ Some s → service_no s ≡ n
unfolding named_service
service-number n s e =
    sym (ap (service_reads n) e)
    ∙ cond-reads (service_reads n) n (eqb n 0) _ _ (λ h. sym (eqb-true n 0 h))
    (cond-reads (service_reads n) n (eqb n 1) _ _ (λ h. sym (eqb-true n 1 h))
    (cond-reads (service_reads n) n (eqb n 2) _ _ (λ h. sym (eqb-true n 2 h))
    (cond-reads (service_reads n) n (eqb n 3) _ _ (λ h. sym (eqb-true n 3 h)) refl)))

-- ---- the fields of a reading

-- each value of a list stands at its number, by a computed test
at-number : {A : Type 0} (number : A → ℕ) (values : List A) (first : A) (n : ℕ) → T (every_below (λ k. eqb (number (get_or values k first)) k) n)
    → (k : ℕ) → k < n → number (get_or values k first) ≡ k
at-number number values first n t k h = eqb→eq _ _ (every-below (λ (j : ℕ). eqb (number (get_or values j first)) j) n t k h)

alphabet-at : (k : ℕ) → k < 5 → alphabet_no (get_or alphabets k SevenBit) ≡ k
alphabet-at = at-number alphabet_no alphabets SevenBit 5 tt

class-at : (k : ℕ) → k < 7 → class_no (get_or classes k Unset) ≡ k
class-at = at-number class_no classes Unset 7 tt

language-at : (k : ℕ) → k < 21 → language_no (get_or languages k German) ≡ k
language-at = at-number language_no languages German 21 tt

kind_at : (k : ℕ) → k < 4 → kind_no (get_or kinds k Voicemail) ≡ k
kind_at = at-number kind_no kinds Voicemail 4 tt

flag_at : (k : ℕ) → k < 2 → flag_no (eqb k 1) ≡ k
flag_at k h = eqb→eq _ _ (every-below (λ (j : ℕ). eqb (flag_no (eqb j 1)) j) 2 tt k h)

flag-back : (b : Bool) → eqb (flag_no b) 1 ≡ b
flag-back false = refl
flag-back true = refl

-- ---- notices

pub notice-named : (v : Notice) → named_notice (notice_no v) ≡ Some v
unfolding named_notice
notice-named Nothing = refl
notice-named (Discard false Voicemail) = refl
notice-named (Discard false Fax) = refl
notice-named (Discard false Mail) = refl
notice-named (Discard false Other) = refl
notice-named (Discard true Voicemail) = refl
notice-named (Discard true Fax) = refl
notice-named (Discard true Mail) = refl
notice-named (Discard true Other) = refl
notice-named (Store false Voicemail) = refl
notice-named (Store false Fax) = refl
notice-named (Store false Mail) = refl
notice-named (Store false Other) = refl
notice-named (Store true Voicemail) = refl
notice-named (Store true Fax) = refl
notice-named (Store true Mail) = refl
notice-named (Store true Other) = refl

abbrev notice_reads : ℕ → Option Notice → ℕ
notice_reads n (Some v) = notice_no v
notice_reads n None = n

notice-reads : (n : ℕ) → notice_reads n (named_notice n) ≡ n
unfolding named_notice
notice-reads n =
    let k = kind_at (n % 4) (omega arith) in
    cond-reads (notice_reads n) n (eqb n 0) _ _ (λ h. sym (eqb-true n 0 h))
    (cond-reads (notice_reads n) n (eqb (n / 4) 4) _ _ (λ h. omega (arith, k, eqb-true (n / 4) 4 h))
    (cond-reads (notice_reads n) n (eqb (n / 4) 6) _ _ (λ h. omega (arith, k, eqb-true (n / 4) 6 h))
    (cond-reads (notice_reads n) n (eqb (n / 4) 8) _ _ (λ h. omega (arith, k, eqb-true (n / 4) 8 h))
    (cond-reads (notice_reads n) n (eqb (n / 4) 10) _ _ (λ h. omega (arith, k, eqb-true (n / 4) 10 h)) refl))))

-- ---- readings

-- what the test of the fields tells
record Within (x : ReadingNumbers) : Type 0 where
  pub alphabet : x.alphabet < 5
  pub class : x.class < 7
  pub language : x.language < 21
  pub compressed : x.compressed < 2
  pub deletion : x.deletion < 2
  pub prefix : x.prefix < 2
  pub reserved : x.reserved < 2
  pub header : x.header < 2

within : (x : ReadingNumbers) → names_fields x ≡ true → Within x
unfolding names_fields names_flags
within x e =
    let two = and_right (ltb x.alphabet 5) _ e in
    let three = and_right (ltb x.class 7) _ two in
    let four = and_right (ltb x.language 21) (names_flags x) three in
    let five = and_right (ltb x.compressed 2) _ four in
    let six = and_right (ltb x.deletion 2) _ five in
    let seven = and_right (ltb x.prefix 2) _ six in
    record {
      alphabet = ltb-true _ _ (and_left (ltb x.alphabet 5) _ e);
      class = ltb-true _ _ (and_left (ltb x.class 7) _ two);
      language = ltb-true _ _ (and_left (ltb x.language 21) (names_flags x) three);
      compressed = ltb-true _ _ (and_left (ltb x.compressed 2) _ four);
      deletion = ltb-true _ _ (and_left (ltb x.deletion 2) _ five);
      prefix = ltb-true _ _ (and_left (ltb x.prefix 2) _ six);
      reserved = ltb-true _ _ (and_left (ltb x.reserved 2) (ltb x.header 2) seven);
      header = ltb-true _ _ (and_right (ltb x.reserved 2) (ltb x.header 2) seven);
    }

pub fields-named : (x : ReadingNumbers) → names_fields x ≡ true → (x.alphabet < 5) × (x.class < 7) × (x.language < 21)
fields-named x e = let w = within x e in (w.alphabet, w.class, w.language)

fields-own : (r : Reading) → names_fields (numbers_of r) ≡ true
unfolding names_fields names_flags
fields-own r =
    simp (
      lt-ltb _ _ (alphabet-named r.alphabet).below,
      lt-ltb _ _ (class-named r.class).below,
      lt-ltb _ _ (language-named r.language).below,
      lt-ltb _ _ (flag-named r.compressed).below,
      lt-ltb _ _ (flag-named r.deletion).below,
      lt-ltb _ _ (flag-named r.prefix).below,
      lt-ltb _ _ (flag-named r.reserved).below,
      lt-ltb _ _ (flag-named r.header).below,
    )

with-own : (r : Reading) → reading_with (numbers_of r) r.notice ≡ r
with-own r =
    simp (
      (alphabet-named r.alphabet).back,
      (class-named r.class).back,
      (language-named r.language).back,
      flag-back r.compressed,
      flag-back r.deletion,
      flag-back r.prefix,
      flag-back r.reserved,
      flag-back r.header,
    )

pub reading-named : (r : Reading) → named_reading (numbers_of r) ≡ Some r
unfolding named_reading
reading-named r =
    ap (λ (b : Bool). cond b (with_named (numbers_of r) (named_notice (notice_no r.notice))) None) (fields-own r)
    ∙ ap (with_named (numbers_of r)) (notice-named r.notice)
    ∙ ap Some (with-own r)

abbrev reading_reads : ReadingNumbers → Option Reading → ReadingNumbers
reading_reads x (Some r) = numbers_of r
reading_reads x None = x

with-numbers : (x : ReadingNumbers) (v : Notice) → Within x → notice_no v ≡ x.notice → numbers_of (reading_with x v) ≡ x
with-numbers x v w e =
    simp (
      alphabet-at x.alphabet w.alphabet,
      class-at x.class w.class,
      language-at x.language w.language,
      flag_at x.compressed w.compressed,
      flag_at x.deletion w.deletion,
      flag_at x.prefix w.prefix,
      flag_at x.reserved w.reserved,
      flag_at x.header w.header,
      e,
    )

named-numbers : (x : ReadingNumbers) → Within x → (v : Option Notice) → notice_reads x.notice v ≡ x.notice → reading_reads x (with_named x v) ≡ x
named-numbers x w (Some v) e = with-numbers x v w e
named-numbers x w None e = refl

chosen-numbers : (x : ReadingNumbers) (b : Bool) → (b ≡ true → Within x) → reading_reads x (cond b (with_named x (named_notice x.notice)) None) ≡ x
chosen-numbers x true h = named-numbers x (h refl) (named_notice x.notice) (notice-reads x.notice)
chosen-numbers x false h = refl

pub reading-number : (x : ReadingNumbers) (r : Reading) → named_reading x ≡ Some r → numbers_of r ≡ x
unfolding named_reading
reading-number x r e = sym (ap (reading_reads x) e) ∙ chosen-numbers x (names_fields x) (within x)

-- plain text, by its numbers: joined in one, each of them stands in eight bits of its own
low-octet : (a b c d : ℕ) → a < 256 → c < 256 → a + 256 * b ≡ c + 256 * d → (a ≡ c) × (b ≡ d)
low-octet a b c d p q e = go (ltb b d) refl (ltb d b) refl
  where
    go : (s : Bool) → ltb b d ≡ s → (t : Bool) → ltb d b ≡ t → (a ≡ c) × (b ≡ d)
    go true s t k = absurd (omega (arith, p, q, e, ltb-true b d s))
    go false s true k = absurd (omega (arith, p, q, e, ltb-true d b k))
    go false s false k = let h : b ≡ d = omega (arith, ltb-false b d s, ltb-false d b k) in (omega (arith, e, h), h)

plain-fields : (x : ReadingNumbers) (a : ℕ) → InOctets x → a < 256 → joined_fields x ≡ 0x1000000 * 15 + a
    → (x.alphabet ≡ a) × (x.compressed ≡ 0) × (x.class ≡ 0) × (x.language ≡ 15) × (x.deletion ≡ 0) × (x.prefix ≡ 0) × (x.reserved ≡ 0) × (x.header ≡ 0)
plain-fields x a w h e =
    let past-language : ℕ = x.deletion + 0x100 * x.prefix + 0x10000 * x.reserved + 0x1000000 * x.header in
    let past-class : ℕ = x.language + 0x100 * past-language in
    let past-compressed : ℕ = x.class + 0x100 * past-class in
    let one = low-octet x.alphabet (x.compressed + 0x100 * past-compressed) a (0x10000 * 15) w.alphabet h (omega (arith, e)) in
    let two = low-octet x.compressed past-compressed 0 (0x100 * 15) w.compressed (lit< tt) (omega (arith, one.1)) in
    let three = low-octet x.class past-class 0 15 w.class (lit< tt) (omega (arith, two.1)) in
    let four = low-octet x.language past-language 15 0 w.language (lit< tt) (omega (arith, three.1)) in
    (one.0, two.0, three.0, four.0, omega (arith, four.1), omega (arith, four.1), omega (arith, four.1), omega (arith, four.1))

alphabet-below : (ucs2 : Bool) → cond ucs2 2 0 < 256
alphabet-below true = omega arith
alphabet-below false = omega arith

pub plain-named : (x : ReadingNumbers) (ucs2 : Bool) → InOctets x → joined_rest x ≡ 0 → joined_fields x ≡ 0x1000000 * 15 + cond ucs2 2 0
    → named_reading x ≡ Some (plain_in ucs2)
unfolding named_reading names_fields names_flags named_notice
plain-named x ucs2 w z e = by-fields ucs2 (plain-fields x (cond ucs2 2 0) w (alphabet-below ucs2) e)
  where
    n : x.notice ≡ 0
    n = omega (arith, z)

    p : x.first ≡ 0
    p = omega (arith, z)

    q : x.second ≡ 0
    q = omega (arith, z)

    by-fields : (ucs2 : Bool) → (x.alphabet ≡ cond ucs2 2 0) × (x.compressed ≡ 0) × (x.class ≡ 0) × (x.language ≡ 15) × (x.deletion ≡ 0) × (x.prefix ≡ 0) × (x.reserved ≡ 0) × (x.header ≡ 0)
        → named_reading x ≡ Some (plain_in ucs2)
    by-fields true b = simp (b.0, b.1, b.2, b.3, b.4, b.5, b.6, b.7, n, p, q)
    by-fields false b = simp (b.0, b.1, b.2, b.3, b.4, b.5, b.6, b.7, n, p, q)

-- the numbers of a reading that is plain but for its alphabet, its prefix mark and its letters
abbrev pub row : ℕ → ℕ → ℕ → ℕ → ReadingNumbers
row alphabet prefix first second = record { alphabet = alphabet; compressed = 0; class = 0; language = 15; deletion = 0; prefix = prefix; reserved = 0; header = 0; notice = 0; first = first; second = second }

pub plain-own : (ucs2 : Bool) → row (cond ucs2 2 0) 0 0 0 ≡ numbers_of (plain_in ucs2)
plain-own true = refl
plain-own false = refl

pub lettered-own : (ucs2 : Bool) (l : Letters) → row (cond ucs2 2 0) 1 l.first l.second ≡ numbers_of (with_letters l (lettered_in ucs2))
lettered-own true l = refl
lettered-own false l = refl
