-- Document 01, "Reading the data coding octet": what a reading holds where a rule does not mention it, and a reading changed in one field.
-- Document 02, W2: "The reading that all calls share gains the two letters." W3: "The reading gains a mark for the header."
-- Own rule: none. Cited by Reading::of, Reading::plain, Reading::with_alphabet and Reading::with_letters. Assumes nothing.
--   lettered t a z c l d n p r h   == the reading of alphabet a, class c, language l, notice n and the marks compressed z, deletion d, prefix p, reserved r,
--                                     header h, with the letters t
--   reading_from a z c l d n p r h == the same with both letters absent
--   unmentioned                    == the values of what a rule does not mention
--   plain_in ucs2                  == the same, but UCS2 where ucs2 is true
--   reserved_reading               == how a reserved coding reads: the unmentioned values with the reserved mark
--   with_alphabet a r, with_compressed b r, with_class c r, with_language l r, with_deletion b r, with_notice n r, with_prefix b r, with_header b r, with_letters t r
--                     == r with that field changed
--   without_letters r  == r with both letters absent
use Rattle.std.specs.Prelude.{Bool, true, false, cond}
use Rattle.fields.specs.declared.Alphabet.{Alphabet}
use Rattle.fields.specs.declared.Alphabet.TheVariants.{SevenBit, Ucs2}
use Rattle.fields.specs.declared.Class.{Class}
use Rattle.fields.specs.declared.Class.TheVariants.{Unset}
use Rattle.fields.specs.declared.Language.{Language}
use Rattle.fields.specs.declared.Language.TheVariants.{Unspecified}
use Rattle.fields.specs.declared.Notice.{Notice}
use Rattle.fields.specs.declared.Notice.TheVariants.{Nothing}
use Rattle.fields.specs.declared.Letters.{Letters}
use Rattle.fields.specs.Letters.{no_letters}
use Rattle.coding.specs.declared.Reading.{Reading}

-- the one place that makes a reading: what it holds besides is the same in all of them
abbrev pub lettered : Letters → Alphabet → Bool → Class → Language → Bool → Notice → Bool → Bool → Bool → Reading
lettered t a z c l d n p r h = record { alphabet = a; compressed = z; class = c; language = l; deletion = d; notice = n; prefix = p; reserved = r; header = h; letters = t }

abbrev pub reading_from : Alphabet → Bool → Class → Language → Bool → Notice → Bool → Bool → Bool → Reading
reading_from a z c l d n p r h = lettered no_letters a z c l d n p r h

-- 7-bit, uncompressed, no class, language unspecified, no mark, no notice, no letters
abbrev pub unmentioned : Reading
unmentioned = reading_from SevenBit false Unset Unspecified false Nothing false false false

abbrev pub reserved_reading : Reading
reserved_reading = reading_from SevenBit false Unset Unspecified false Nothing false true false

abbrev pub with_alphabet : Alphabet → Reading → Reading
with_alphabet a r = lettered r.letters a r.compressed r.class r.language r.deletion r.notice r.prefix r.reserved r.header

abbrev pub plain_in : Bool → Reading
plain_in ucs2 = with_alphabet (cond ucs2 Ucs2 SevenBit) unmentioned

abbrev pub with_compressed : Bool → Reading → Reading
with_compressed z r = lettered r.letters r.alphabet z r.class r.language r.deletion r.notice r.prefix r.reserved r.header

abbrev pub with_class : Class → Reading → Reading
with_class c r = lettered r.letters r.alphabet r.compressed c r.language r.deletion r.notice r.prefix r.reserved r.header

abbrev pub with_language : Language → Reading → Reading
with_language l r = lettered r.letters r.alphabet r.compressed r.class l r.deletion r.notice r.prefix r.reserved r.header

abbrev pub with_deletion : Bool → Reading → Reading
with_deletion d r = lettered r.letters r.alphabet r.compressed r.class r.language d r.notice r.prefix r.reserved r.header

abbrev pub with_notice : Notice → Reading → Reading
with_notice n r = lettered r.letters r.alphabet r.compressed r.class r.language r.deletion n r.prefix r.reserved r.header

abbrev pub with_prefix : Bool → Reading → Reading
with_prefix p r = lettered r.letters r.alphabet r.compressed r.class r.language r.deletion r.notice p r.reserved r.header

abbrev pub with_header : Bool → Reading → Reading
with_header h r = lettered r.letters r.alphabet r.compressed r.class r.language r.deletion r.notice r.prefix r.reserved h

abbrev pub with_letters : Letters → Reading → Reading
with_letters t r = lettered t r.alphabet r.compressed r.class r.language r.deletion r.notice r.prefix r.reserved r.header

abbrev pub without_letters : Reading → Reading
without_letters r = with_letters no_letters r
