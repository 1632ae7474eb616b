-- Document 01, "Reading the data coding octet": the tables in their order, a line for each group. Document 02, W3: broadcast and USSD by clause 5
-- of source document 003. (Short message and broadcast: TS 23.038 Release 9, clauses 4 and 5. Old page: GSM 03.41 of 1991.)
-- Own rule: none. Cited by read_octet. Assumes nothing.
--   read_short o     == how octet o reads in a short message
--   read_page o      == how it reads in a broadcast page and in USSD
--   octet_rules s o  == the refusals of reading octet o under service s, in order
--   octet_reads s o  == the reading of octet o under service s, or the refusal
use Rattle.std.specs.Prelude.{ℕ, Bool, true, cond, List, [], ◌∷◌, ◌++◌, ltb, eqb, get_or, Result, Ok, Err}
use Rattle.lists.specs.Bits.{bit_of, bits_of}
use Rattle.words.specs.Judging.{Rule, when, verdict, settle, service_rules}
use Rattle.words.specs.declared.Service.{Service}
use Rattle.words.specs.declared.Service.TheVariants.{ShortMessage, Broadcast, Ussd, OldPage}
use Rattle.words.specs.declared.Refusal.TheVariants.{NoText}
use Rattle.fields.specs.declared.Alphabet.{Alphabet}
use Rattle.fields.specs.declared.Alphabet.TheVariants.{SevenBit, EightBit, Ucs2, Wap, I1}
use Rattle.fields.specs.declared.Class.{Class}
use Rattle.fields.specs.declared.Class.TheVariants.{Unset, Class0, Class1, Class2, Class3, User1, User2}
use Rattle.fields.specs.declared.Language.{Language}
use Rattle.fields.specs.declared.Language.TheVariants.{German, English, Italian, French, Spanish, Dutch, Swedish, Danish, Portuguese, Finnish, Norwegian, Greek, Turkish, Hungarian, Polish, Unspecified, Czech, Hebrew, Arabic, Russian, Icelandic}
use Rattle.fields.specs.declared.Kind.{Kind}
use Rattle.fields.specs.declared.Kind.TheVariants.{Voicemail, Fax, Mail, Other}
use Rattle.fields.specs.declared.Notice.{Notice}
use Rattle.fields.specs.declared.Notice.TheVariants.{Discard, Store}
use Rattle.coding.specs.declared.Reading.{Reading}
use Rattle.coding.specs.Readings.{unmentioned, reserved_reading, with_alphabet, with_compressed, with_class, with_language, with_deletion, with_notice, with_prefix, with_header}
use Rattle.words.specs.declared.Refusal.{Refusal}

-- bit i is set
abbrev pub is_set : ℕ → ℕ → Bool
is_set o i = eqb (bit_of o i) 1

-- 00 7-bit, 01 8-bit, 10 UCS2 (11 is reserved)
abbrev pub alphabet_of : ℕ → Alphabet
alphabet_of k = get_or (SevenBit ∷ EightBit ∷ Ucs2 ∷ []) k SevenBit

abbrev pub class_of : ℕ → Class
class_of k = get_or (Class0 ∷ Class1 ∷ Class2 ∷ Class3 ∷ []) k Unset

-- no class, user-defined 1, user-defined 2, class 3
abbrev pub user_class_of : ℕ → Class
user_class_of k = get_or (Unset ∷ User1 ∷ User2 ∷ Class3 ∷ []) k Unset

abbrev pub kind_of : ℕ → Kind
kind_of k = get_or (Voicemail ∷ Fax ∷ Mail ∷ Other ∷ []) k Voicemail

abbrev pub language_of : ℕ → Language
language_of k = get_or (German ∷ English ∷ Italian ∷ French ∷ Spanish ∷ Dutch ∷ Swedish ∷ Danish ∷ Portuguese ∷ Finnish ∷ Norwegian ∷ Greek ∷ Turkish ∷ Hungarian ∷ Polish ∷ Unspecified ∷ []) k German

-- 0010 goes on behind the languages of 0000
abbrev pub further_language_of : ℕ → Language
further_language_of k = get_or (Czech ∷ Hebrew ∷ Arabic ∷ Russian ∷ Icelandic ∷ []) k Czech

-- where the test holds the coding is reserved
abbrev pub reserved_if : Bool → Reading → Reading
reserved_if t r = cond t reserved_reading r

-- bit 4 set makes bits 1..0 the class; with bit 4 clear they mean nothing
unfoldable pub class_in : ℕ → Class
class_in o = cond (is_set o 4) (class_of (bits_of o 1 0)) Unset

-- 00xx: bit 5 set is compressed; bits 3..2 are the alphabet, 11 reserved; the class. The rest is as in r.
unfoldable pub general_reading : ℕ → Reading → Reading
general_reading o r =
    reserved_if (eqb (bits_of o 3 2) 0b11)
    (with_compressed (is_set o 5)
    (with_alphabet (alphabet_of (bits_of o 3 2))
    (with_class (class_in o) r)))

-- bit 3 is active or not; bits 1..0 are the kind
unfoldable pub discard_in : ℕ → Notice
discard_in o = Discard (is_set o 3) (kind_of (bits_of o 1 0))

unfoldable pub store_in : ℕ → Notice
store_in o = Store (is_set o 3) (kind_of (bits_of o 1 0))

-- 1100, 1101, 1110: a waiting notice. Bit 2 set is reserved. The rest is as in r.
unfoldable pub notice_reading : ℕ → Notice → Reading → Reading
notice_reading o notice r = reserved_if (is_set o 2) (with_notice notice r)

-- 1111: bit 3 set is reserved; bit 2 set is 8-bit; bits 1..0 are the class.
unfoldable pub last_reading : ℕ → Class → Reading
last_reading o class = reserved_if (is_set o 3) (with_alphabet (cond (is_set o 2) EightBit SevenBit) (with_class class unmentioned))

-- 1001: bits 3..2 are the alphabet, 11 reserved; bits 1..0 are the class
unfoldable pub header_reading : ℕ → Reading
header_reading o =
    reserved_if (eqb (bits_of o 3 2) 0b11)
    (with_header true
    (with_alphabet (alphabet_of (bits_of o 3 2))
    (with_class (class_of (bits_of o 1 0)) unmentioned)))

unfoldable pub read_short : ℕ → Reading
read_short o =
    cond (eqb (bits_of o 7 6) 0b00) (general_reading o unmentioned)
    (cond (eqb (bits_of o 7 6) 0b01) (general_reading o (with_deletion true unmentioned))
    (cond (eqb (bits_of o 7 6) 0b10) reserved_reading
    (cond (eqb (bits_of o 7 4) 0b1100) (notice_reading o (discard_in o) unmentioned)
    (cond (eqb (bits_of o 7 4) 0b1101) (notice_reading o (store_in o) unmentioned)
    (cond (eqb (bits_of o 7 4) 0b1110) (notice_reading o (store_in o) (with_alphabet Ucs2 unmentioned))
    (last_reading o (class_of (bits_of o 1 0))))))))

unfoldable pub read_page : ℕ → Reading
read_page o =
    cond (eqb (bits_of o 7 4) 0b0000) (with_language (language_of (bits_of o 3 0)) unmentioned)
    (cond (eqb o 0b0001_0000) (with_prefix true unmentioned)
    (cond (eqb o 0b0001_0001) (with_prefix true (with_alphabet Ucs2 unmentioned))
    (cond (eqb (bits_of o 7 4) 0b0001) reserved_reading
    (cond (eqb (bits_of o 7 4) 0b0010) (reserved_if (ltb 0b0100 (bits_of o 3 0)) (with_language (further_language_of (bits_of o 3 0)) unmentioned))
    (cond (eqb (bits_of o 7 4) 0b0011) reserved_reading
    (cond (eqb (bits_of o 7 6) 0b01) (general_reading o unmentioned)
    (cond (eqb (bits_of o 7 4) 0b1000) reserved_reading
    (cond (eqb (bits_of o 7 4) 0b1001) (header_reading o)
    (cond (ltb (bits_of o 7 4) 0b1101) reserved_reading
    (cond (eqb (bits_of o 7 4) 0b1101) (with_alphabet I1 unmentioned)
    (cond (eqb (bits_of o 7 4) 0b1110) (with_alphabet Wap unmentioned)
    (last_reading o (user_class_of (bits_of o 1 0))))))))))))))

-- only an old page refuses: its bits 3..0 must be 0
abbrev pub alphabet_rules : Service → ℕ → List Rule
alphabet_rules ShortMessage o = []
alphabet_rules Broadcast o = []
alphabet_rules Ussd o = []
alphabet_rules OldPage o = when (ltb 0 (bits_of o 3 0)) NoText ∷ []

unfoldable pub octet_rules : Service → ℕ → List Rule
octet_rules s o = service_rules s ++ alphabet_rules s o

abbrev pub read_under : Service → ℕ → Reading
read_under ShortMessage o = read_short o
read_under Broadcast o = read_page o
read_under Ussd o = read_page o
read_under OldPage o = unmentioned

unfoldable pub octet_reads : Service → ℕ → Result Reading Refusal
octet_reads s o = settle (verdict (octet_rules s o)) Err (Ok (read_under s o))
