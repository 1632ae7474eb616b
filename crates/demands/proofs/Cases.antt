-- Document 01, "Cases": C1 to C10 of the definitions, as one computed statement over a list.
-- Assumes nothing.
use mathlib.Core.Bool.{Bool, true, false}
use mathlib.Core.List.{List, [], ◌∷◌, ◌++◌}
use Prim.Native.Nat.{ℕ}
use lib.Dec.{T, eqb}
use lib.ListN.{length, replicate}
use Rattle.lists.specs.Bits.{bit_of, gather, bits_of}
use Rattle.lists.specs.Lists.{first_place, laid, numbers_from}
use Rattle.lists.specs.Closing.{before_kept, without_closing}
use Rattle.words.specs.Judging.{verdict}
use Rattle.words.specs.declared.Service.{Service}
use Rattle.words.specs.declared.Service.TheVariants.{ShortMessage, Broadcast, Ussd}
use Rattle.lists.proofs.Tests.{both}
use Rattle.coding.specs.declared.Reading.{Reading}
use Rattle.fields.specs.declared.Alphabet.TheVariants.{EightBit}
use Rattle.fields.specs.declared.Class.TheVariants.{Class1}
use Rattle.coding.specs.Readings.{unmentioned, reserved_reading, with_alphabet, with_class}
use Rattle.coding.specs.OctetRead.{class_in, discard_in, store_in, general_reading, notice_reading, last_reading, read_short, read_page, octet_rules, octet_reads}
use Rattle.coding.specs.OctetWritten.{same_coding, smallest, octet_writes, write_rules as alone_rules}
use Rattle.coding.specs.LanguageLetters.{coding_rules}
use Rattle.fields.specs.Letters.{any_letter}
use Rattle.coding.specs.Holding.{text_rules}
use Rattle.letters.specs.Tables.{main_table, extension, among, beside}
use Rattle.letters.specs.Writing.{septets_in, listed_in}
use Rattle.letters.specs.Reading.{unit_in, text_in, after_escape_in, text_of, escaped_in}
use Rattle.stream.specs.Stream.{stream_bit, cut, octets_for, packed, unpacked}
use Rattle.stream.specs.UssdPacking.{last, adds_cr, closed, ussd_octets, drops_cr, opened, ussd_septets}
use Rattle.stream.specs.Pages.{page, page_octets}
use Rattle.lettered.proofs.Examples.{times}
pub use Rattle.lettered.proofs.Examples.{same}
use Rattle.demands.specs.declared.MessageRead.{MessageRead}
use Rattle.demands.specs.declared.MessageWritten.{MessageWritten}
use Rattle.demands.specs.MessageRead.{text_length_rules, read_rules, read_answers, read_leaves}
use Rattle.demands.specs.MessageWritten.{text_size_rules, write_rules, write_answers, write_leaves}
use Rattle.std.specs.Prelude.{Result, Ok, Err}
use Rattle.words.specs.declared.Refusal.{Refusal}

-- writing the text as plain 7-bit gives these octets and this count; reading the octets gives the text; septets read as the text;
-- an octet of a short message reads as the reading; a reading is written as the octet
pub data Case : Type 0 where
  writes : Service → List ℕ → List ℕ → ℕ → Case
  reads : Service → ℕ → ℕ → List ℕ → List ℕ → Case
  shows : List ℕ → List ℕ → Case
  says : ℕ → Reading → Case
  codes : Reading → ℕ → Case

-- a lent buffer that has room for every case, of 200 elements
abbrev lent : List ℕ
lent = replicate 200 0xff

wrote : Result MessageWritten Refusal → List ℕ → List ℕ → ℕ → Bool
wrote (Ok m) left octets count = both (both (eqb m.octets (length octets)) (eqb m.count count)) (same left (laid octets lent))
wrote (Err q) left octets count = false

was : Result MessageRead Refusal → List ℕ → List ℕ → Bool
was (Ok m) left text = both (eqb m.units (length text)) (same left (laid text lent))
was (Err q) left text = false

said : Result Reading Refusal → Reading → Bool
said (Ok x) r = same_coding x r
said (Err q) r = false

coded : Result ℕ Refusal → ℕ → Bool
coded (Ok o) n = eqb o n
coded (Err q) n = false

pub holds : Case → Bool
holds (writes service text octets count) = wrote (write_answers service unmentioned text 200) (write_leaves service unmentioned text lent) octets count
holds (reads service coding count octets text) = was (read_answers service coding count octets 200) (read_leaves service coding count octets lent) text
holds (shows septets text) = same (text_of septets) text
holds (says octet r) = said (octet_reads ShortMessage octet) r
holds (codes r octet) = coded (octet_writes ShortMessage r) octet

pub all_hold : List Case → Bool
all_hold [] = true
all_hold (c ∷ cs) = both (holds c) (all_hold cs)

-- "@" is 0040, CR is 000D
pub cases : List Case
cases =
    -- C1 to C3
    writes ShortMessage [] [] 0
    ∷ writes ShortMessage (0x0041 ∷ 0x0042 ∷ []) (0x41 ∷ 0x21 ∷ []) 2
    ∷ writes ShortMessage (0x20ac ∷ []) (0x9b ∷ 0x32 ∷ []) 2
    -- C4 to C7
    ∷ writes Ussd (replicate 7 0x0040) (replicate 6 0x00 ++ (0x1a ∷ [])) 0
    ∷ reads Ussd 0x0f 0 (replicate 6 0x00 ++ (0x1a ∷ [])) (replicate 7 0x0040)
    ∷ writes Ussd (replicate 8 0x0040) (replicate 7 0x00) 0
    ∷ writes Ussd (replicate 7 0x0040 ++ (0x000d ∷ [])) (replicate 6 0x00 ++ (0x1a ∷ 0x0d ∷ [])) 0
    ∷ writes Ussd (replicate 7 0x0040 ++ (0x000d ∷ 0x000d ∷ [])) (replicate 6 0x00 ++ (0x1a ∷ 0x0d ∷ [])) 0
    ∷ reads Ussd 0x0f 0 (replicate 6 0x00 ++ (0x1a ∷ 0x0d ∷ [])) (replicate 7 0x0040 ++ (0x000d ∷ 0x000d ∷ []))
    -- C8
    ∷ shows (0x1b ∷ 0x1b ∷ 0x65 ∷ []) (0x0020 ∷ 0x0065 ∷ [])
    ∷ shows (0x1b ∷ []) (0x0020 ∷ [])
    ∷ shows (0x1b ∷ 0x41 ∷ []) (0x0041 ∷ [])
    -- C9
    ∷ writes Broadcast [] (times 11 (0x8d ∷ 0x46 ∷ 0xa3 ∷ 0xd1 ∷ 0x68 ∷ 0x34 ∷ 0x1a ∷ []) ++ (0x8d ∷ 0x46 ∷ 0xa3 ∷ 0xd1 ∷ 0x00 ∷ [])) 0
    -- C10
    ∷ says 0x8f reserved_reading
    ∷ says 0xf5 (with_alphabet EightBit (with_class Class1 unmentioned))
    ∷ codes (with_alphabet EightBit (with_class Class1 unmentioned)) 0x15
    ∷ []

pub cases-hold : T (all_hold cases)
unfolding all_hold holds cases times wrote was said coded write_answers write_leaves read_answers read_leaves verdict write_rules read_rules text_length_rules text_size_rules coding_rules alone_rules any_letter text_rules octet_rules octet_reads octet_writes smallest first_place numbers_from read_short read_page bits_of gather bit_of general_reading notice_reading last_reading class_in discard_in store_in septets_in listed_in among beside main_table extension unit_in after_escape_in text_in escaped_in packed unpacked stream_bit cut octets_for ussd_octets closed adds_cr last ussd_septets opened drops_cr page_octets page laid without_closing before_kept
cases-hold = tt
