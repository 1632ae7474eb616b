-- The numbers that name a reading where they cross from C.
-- Own rule: the fields of a reading have the numbers of crate `fields`, and a letter is its own number.
-- Cited by the definitions of the exported calls. Assumes nothing.
--   named_notice n          == the notice with the number n, if there is one
--   numbers_of r            == the numbers of the fields of the reading r
--   named_reading x         == the reading whose fields have the numbers x, if there is one
--   under_reading           == what a call gives for a reading, or for none
use Rattle.std.specs.Prelude.{ℕ, ◌/◌, ◌%◌, Bool, true, false, cond, ◌&&◌, eqb, ltb, get_or, Option, Some, None}
use Rattle.fields.specs.declared.Alphabet.TheVariants.{SevenBit}
use Rattle.fields.specs.declared.Class.TheVariants.{Unset}
use Rattle.fields.specs.declared.Language.TheVariants.{German}
use Rattle.fields.specs.declared.Kind.TheVariants.{Voicemail}
use Rattle.fields.specs.declared.Notice.{Notice}
use Rattle.fields.specs.declared.Notice.TheVariants.{Nothing, Discard, Store}
use Rattle.coding.specs.declared.Reading.{Reading}
use Rattle.fields.specs.Numbers.{alphabet_no, class_no, language_no, notice_no, flag_no, alphabets, classes, languages, kinds}
use Rattle.names.specs.declared.ReadingNumbers.{ReadingNumbers}

-- a notice's number is 4 times how it is kept and whether it is active, and its kind
unfoldable pub named_notice : ℕ → Option Notice
named_notice n =
    cond (eqb n 0) (Some Nothing)
    (cond (eqb (n / 4) 4) (Some (Discard false (get_or kinds (n % 4) Voicemail)))
    (cond (eqb (n / 4) 6) (Some (Discard true (get_or kinds (n % 4) Voicemail)))
    (cond (eqb (n / 4) 8) (Some (Store false (get_or kinds (n % 4) Voicemail)))
    (cond (eqb (n / 4) 10) (Some (Store true (get_or kinds (n % 4) Voicemail)))
    None))))

abbrev pub numbers_of : Reading → ReadingNumbers
numbers_of r =
    record {
      alphabet = alphabet_no r.alphabet;
      compressed = flag_no r.compressed;
      class = class_no r.class;
      language = language_no r.language;
      deletion = flag_no r.deletion;
      prefix = flag_no r.prefix;
      reserved = flag_no r.reserved;
      header = flag_no r.header;
      notice = notice_no r.notice;
      first = r.letters.first;
      second = r.letters.second;
    }

-- each field but the notice has a number that names something
unfoldable pub names_flags : ReadingNumbers → Bool
names_flags x = ltb x.compressed 2 && (ltb x.deletion 2 && (ltb x.prefix 2 && (ltb x.reserved 2 && ltb x.header 2)))

unfoldable pub names_fields : ReadingNumbers → Bool
names_fields x = ltb x.alphabet 5 && (ltb x.class 7 && (ltb x.language 21 && names_flags x))

abbrev pub reading_with : ReadingNumbers → Notice → Reading
reading_with x v =
    record {
      alphabet = get_or alphabets x.alphabet SevenBit;
      compressed = eqb x.compressed 1;
      class = get_or classes x.class Unset;
      language = get_or languages x.language German;
      deletion = eqb x.deletion 1;
      notice = v;
      prefix = eqb x.prefix 1;
      reserved = eqb x.reserved 1;
      header = eqb x.header 1;
      letters = record { first = x.first; second = x.second };
    }

abbrev pub with_named : ReadingNumbers → Option Notice → Option Reading
with_named x (Some v) = Some (reading_with x v)
with_named x None = None

unfoldable pub named_reading : ReadingNumbers → Option Reading
named_reading x = cond (names_fields x) (with_named x (named_notice x.notice)) None

abbrev pub under_reading : {A : Type 0} → Option Reading → A → (Reading → A) → A
under_reading (Some r) none given = given r
under_reading None none given = none
