-- The words of the three demands, in which their theorems are stated (proofs/Accepting.antt, proofs/Demands.antt).
-- Own rule: none. Cited by those theorems alone, and by no contract. Assumes nothing.
--   HoldsText r                            == a reading that holds text: not compressed, none of 8-bit, WAP and I1, neither prefix mark nor header mark
--   Writable service r t room              == no rule of the whole writer refuses the text t under the reading r (8, 1, 2, 3, 6, 5, 7)
--   Readable service coding count o room r == no rule of the whole reader refuses the octets o, which read as r (1, 2, 3, 4, 7)
--   LetteredWritable r t room              == none refuses the text t on a broadcast page behind the letters of r (8, 1, 2, 11, 6, 5, 7)
--   LetteredReadable coding count o room   == none refuses the octets o of such a page (1, 2, 4, 11, 7)
--   Accepted service r t out               == the writer, lent the buffer out, answers without a refusal
--   sent, sent_count, sent_coding          == the octets that it leaves at the front of out, as many as it reports; the count; the coding octet
--   Comes service coding count o r text    == the reader, lent any buffer with room for the text, accepts the octets o, answers with the reading r and
--                                             leaves the text at the front of the buffer
--   FilledByCr t                           == the text fills a non-zero multiple of eight septets and ends in a carriage return
--   OneCrMore t u                          == u is t with a single carriage return added, where t is filled so
use Rattle.std.specs.Prelude.{◌≡◌, true, false, List, [], ◌∷◌, ◌++◌, ◌⊎◌, ℕ, ◌%◌, ◌<◌, ◌≤◌, length, take, Ok}
use Rattle.words.specs.declared.Service.{Service}
use Rattle.words.specs.declared.Service.TheVariants.{Broadcast}
use Rattle.words.specs.Sizes.{is_old_page}
use Rattle.lists.specs.Lists.{laid}
use Rattle.fields.specs.Letters.{are_letters}
use Rattle.coding.specs.declared.Reading.{Reading}
use Rattle.coding.specs.Readings.{without_letters}
use Rattle.coding.specs.OctetRead.{read_under, octet_reads}
use Rattle.coding.specs.Holding.{is_ucs2, is_data}
use Rattle.letters.specs.Writing.{septets_of}
use Rattle.stream.specs.UssdPacking.{last}
use Rattle.lettered.specs.LetteredPage.{room_septets, room_units, wrong_letters, lettered_text}
use Rattle.demands.specs.MessageRead.{fits_reading, text_of_message, read_answers, read_leaves}
use Rattle.demands.specs.MessageWritten.{not_codable, over_room, over_size, message_octets, write_answers, write_leaves}
use Rattle.demands.specs.Reports.{write_number, write_written, write_count, write_coding}
use Rattle.demands.specs.Successes.{ok_message_read}

pub record HoldsText (r : Reading) : Type 0 where
  pub clear : r.compressed ≡ false
  pub text : is_data r.alphabet ≡ false
  pub unmarked : r.prefix ≡ false
  pub unheaded : r.header ≡ false

pub record Writable (service : Service) (r : Reading) (t : List ℕ) (room : ℕ) : Type 0 where
  pub new : is_old_page service ≡ false
  pub plain : r.reserved ≡ false
  pub octet : (o : ℕ) × ((o < 256) × (octet_reads service o ≡ Ok r))
  pub holds : HoldsText r
  pub codable : not_codable (is_ucs2 r.alphabet) t ≡ false
  pub sized : over_size service (is_ucs2 r.alphabet) t ≡ false
  pub fits : length (message_octets service r t) ≤ room

pub record Readable (service : Service) (coding count : ℕ) (o : List ℕ) (room : ℕ) (r : Reading) : Type 0 where
  pub reads : octet_reads service coding ≡ Ok r
  pub holds : HoldsText r
  pub sized : fits_reading service r (length o) count ≡ true
  pub fits : length (text_of_message service r count o) ≤ room

pub record LetteredWritable (r : Reading) (t : List ℕ) (room : ℕ) : Type 0 where
  pub mark : r.prefix ≡ true
  pub plain : r.reserved ≡ false
  pub octet : (o : ℕ) × ((o < 256) × (octet_reads Broadcast o ≡ Ok (without_letters r)))
  pub letters : are_letters r.letters ≡ true
  pub codable : not_codable (is_ucs2 r.alphabet) t ≡ false
  pub sized : over_room room_septets room_units (is_ucs2 r.alphabet) t ≡ false
  pub fits : 82 ≤ room

pub record LetteredReadable (coding count : ℕ) (o : List ℕ) (room : ℕ) : Type 0 where
  pub mark : (coding ≡ 0b0001_0000) ⊎ (coding ≡ 0b0001_0001)
  pub whole : length o ≡ 82
  pub uncounted : count ≡ 0
  pub right : wrong_letters (is_ucs2 (read_under Broadcast coding).alphabet) o ≡ false
  pub fits : length (lettered_text (is_ucs2 (read_under Broadcast coding).alphabet) o) ≤ room

-- a success has the number 0, and no refusal has (number-above-0)
abbrev pub Accepted : Service → Reading → List ℕ → List ℕ → Type 0
Accepted service r t out = write_number (write_answers service r t (length out)) ≡ 0

abbrev pub sent : Service → Reading → List ℕ → List ℕ → List ℕ
sent service r t out = take (write_written (write_answers service r t (length out))) (write_leaves service r t out)

abbrev pub sent_count : Service → Reading → List ℕ → List ℕ → ℕ
sent_count service r t out = write_count (write_answers service r t (length out))

abbrev pub sent_coding : Service → Reading → List ℕ → List ℕ → ℕ
sent_coding service r t out = write_coding (write_answers service r t (length out))

abbrev pub Comes : Service → ℕ → ℕ → List ℕ → Reading → List ℕ → Type 0
Comes service coding count o r text =
    (out : List ℕ) → length text ≤ length out
    → (read_answers service coding count o (length out) ≡ ok_message_read (length text) r) × (read_leaves service coding count o out ≡ laid text out)

pub record FilledByCr (t : List ℕ) : Type 0 where
  pub some : 0 < length (septets_of t)
  pub eights : length (septets_of t) % 8 ≡ 0
  pub closed : last t ≡ 0x000d

pub record OneCrMore (t u : List ℕ) : Type 0 where
  pub filled : FilledByCr t
  pub added : u ≡ t ++ (0x000d ∷ [])
