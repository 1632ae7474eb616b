-- A number for each value of a reading's fields, no two values of a field the same. They compare readings here, and name the values in C.
-- Own rule: the numbers are ours; languages 0 to 15 are those of bits 3..0 of group 0000, 16 to 20 those of group 0010. Cited by the number methods, flag and notice_at. Assumes nothing.
--   alphabet_no, class_no, language_no, kind_no, notice_no, flag_no == the number of a value
--   alphabets, classes, languages, kinds                            == the values in the order of their numbers
--   notice_at n                                                     == the notice of the number n
use Rattle.std.specs.Prelude.{ℕ, ◌+◌, ◌*◌, ◌/◌, ◌%◌, Bool, true, false, cond, List, [], ◌∷◌, eqb, ltb, get_or}
use Rattle.fields.specs.declared.Alphabet.{Alphabet}
use Rattle.fields.specs.declared.Alphabet.TheVariants.{SevenBit, EightBit, Ucs2, Wap, I1}
use Rattle.fields.specs.declared.Class.{Class}
use Rattle.fields.specs.declared.Class.TheVariants.{Unset, Class0, Class1, Class2, Class3, User1, User2}
use Rattle.fields.specs.declared.Language.{Language}
use Rattle.fields.specs.declared.Language.TheVariants.{German, English, Italian, French, Spanish, Dutch, Swedish, Danish, Portuguese, Finnish, Norwegian, Greek, Turkish, Hungarian, Polish, Unspecified, Czech, Hebrew, Arabic, Russian, Icelandic}
use Rattle.fields.specs.declared.Kind.{Kind}
use Rattle.fields.specs.declared.Kind.TheVariants.{Voicemail, Fax, Mail, Other}
use Rattle.fields.specs.declared.Notice.{Notice}
use Rattle.fields.specs.declared.Notice.TheVariants.{Nothing, Discard, Store}

abbrev pub alphabet_no : Alphabet → ℕ
alphabet_no SevenBit = 0
alphabet_no EightBit = 1
alphabet_no Ucs2 = 2
alphabet_no Wap = 3
alphabet_no I1 = 4

abbrev pub alphabets : List Alphabet
alphabets = SevenBit ∷ EightBit ∷ Ucs2 ∷ Wap ∷ I1 ∷ []

abbrev pub class_no : Class → ℕ
class_no Unset = 0
class_no Class0 = 1
class_no Class1 = 2
class_no Class2 = 3
class_no Class3 = 4
class_no User1 = 5
class_no User2 = 6

abbrev pub classes : List Class
classes = Unset ∷ Class0 ∷ Class1 ∷ Class2 ∷ Class3 ∷ User1 ∷ User2 ∷ []

abbrev pub language_no : Language → ℕ
language_no German = 0
language_no English = 1
language_no Italian = 2
language_no French = 3
language_no Spanish = 4
language_no Dutch = 5
language_no Swedish = 6
language_no Danish = 7
language_no Portuguese = 8
language_no Finnish = 9
language_no Norwegian = 10
language_no Greek = 11
language_no Turkish = 12
language_no Hungarian = 13
language_no Polish = 14
language_no Unspecified = 15
language_no Czech = 16
language_no Hebrew = 17
language_no Arabic = 18
language_no Russian = 19
language_no Icelandic = 20

abbrev pub languages : List Language
languages = German ∷ English ∷ Italian ∷ French ∷ Spanish ∷ Dutch ∷ Swedish ∷ Danish ∷ Portuguese ∷ Finnish ∷ Norwegian ∷ Greek ∷ Turkish ∷ Hungarian ∷ Polish ∷ Unspecified ∷ Czech ∷ Hebrew ∷ Arabic ∷ Russian ∷ Icelandic ∷ []

abbrev pub kind_no : Kind → ℕ
kind_no Voicemail = 0
kind_no Fax = 1
kind_no Mail = 2
kind_no Other = 3

abbrev pub kinds : List Kind
kinds = Voicemail ∷ Fax ∷ Mail ∷ Other ∷ []

abbrev pub flag_no : Bool → ℕ
flag_no false = 0
flag_no true = 1

-- nothing is 0; discard and store are the octets of groups 1100 and 1101 less B0 (hexadecimal): 16 to 27 and 32 to 43
abbrev pub notice_no : Notice → ℕ
notice_no Nothing = 0
notice_no (Discard active kind) = 16 + 8 * flag_no active + kind_no kind
notice_no (Store active kind) = 32 + 8 * flag_no active + kind_no kind

-- the notice of a number, where that has one
abbrev pub notice_at : ℕ → Notice
notice_at n =
    cond (eqb n 0) Nothing
    (cond (ltb n 32) (Discard (eqb (n / 8 % 2) 1) (get_or kinds (n % 4) Voicemail))
    (Store (eqb (n / 8 % 2) 1) (get_or kinds (n % 4) Voicemail)))
