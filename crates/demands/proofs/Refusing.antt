-- Demand 1: every public call answers on every input; a refusal carries its number from document 01, reports nothing written, and leaves each
-- lent buffer with the contents it came with. One lemma for each call that can refuse. (No call asks anything of its caller: no public
-- contract has a `requires`, which check/contracts.py reads off the source.)
-- Assumes nothing.
--   read-octet-refuses, write-octet-refuses, holds-refuses
--   text-to-septets-refuses, septets-to-text-refuses, pack-refuses, unpack-refuses, units-to-octets-refuses, octets-to-units-refuses
--   read-text-refuses, read-message-refuses, write-message-refuses
-- septets-to-text-refuses is of both septets_to_text and old_page_to_text: it holds whatever text the septets read as.
use Rattle.words.proofs.Rules.{verdict_of}
use mathlib.Core.Path.{◌≡◌, refl, ap, sym}
use mathlib.Core.Bool.{Bool}
use mathlib.Core.List.{List}
use Prim.Native.Nat.{ℕ}
use lib.ListN.{length}
use Rattle.words.specs.declared.Service.{Service}
use Rattle.words.specs.declared.Refusal.{Refusal}
use Rattle.words.specs.Refusals.{number_of, position_of}
use Rattle.words.specs.Answers.{filled_number, filled_position, filled_written}
use Rattle.lists.specs.Lists.{laid}
use Rattle.words.specs.Judging.{Rule, Verdict, refused, accepted, verdict, settle}
use Rattle.words.proofs.Judging.{settle-told}
use Rattle.coding.specs.declared.Reading.{Reading}
use Rattle.coding.specs.Readings.{unmentioned}
use Rattle.coding.specs.OctetRead.{octet_reads}
use Rattle.coding.specs.OctetWritten.{octet_writes}
use Rattle.coding.specs.Holding.{holds_text}
use Rattle.coding.specs.Answers.{read_number as octet_read_number, read_position as octet_read_position, read_reading as octet_read_reading, written_number, written_position, written_octet, held_number, held_position}
use Rattle.letters.specs.Writing.{septets_of, septets_rules, septets_answers, septets_leaves}
use Rattle.letters.specs.Reading.{text_rules, text_answers, text_leaves}
use Rattle.stream.specs.declared.Packed.{Packed}
use Rattle.stream.specs.Answers.{packed_number, packed_position, packed_written, packed_count}
use Rattle.stream.specs.SeptetCalls.{octets_of, count_of, pack_rules, pack_answers, pack_leaves, unpack_rules, unpack_answers, unpack_leaves, septets_of as unpacked_of}
use Rattle.stream.specs.UnitCalls.{ucs2_octets_of, units_of, to_octets_rules, to_octets_answers, to_octets_leaves, to_units_rules, to_units_answers, to_units_leaves}
use Rattle.demands.specs.MessageRead.{held_text, text_length_rules, text_reads, text_read_leaves, read_answers, read_leaves}
use Rattle.demands.specs.MessageWritten.{write_answers, write_leaves}
use Rattle.demands.specs.Reports.{read_number, read_position, read_written, read_reading, write_number, write_position, write_written, write_count, write_coding}
use Rattle.demands.proofs.Accepting.{read-verdict, write-verdict}
use Rattle.std.specs.Prelude.{Result, Ok, Err}
use Rattle.coding.specs.declared.Held.TheVariants as held
use Rattle.stream.specs.Successes.{ok_packed}

pub read-octet-refuses : (service : Service) (o : ℕ) (q : Refusal) → octet_reads service o ≡ Err q
    → (octet_read_number (octet_reads service o) ≡ number_of q) × (octet_read_position (octet_reads service o) ≡ position_of q) × (octet_read_reading (octet_reads service o) ≡ unmentioned)
read-octet-refuses service o q e = (ap octet_read_number e, ap octet_read_position e, ap octet_read_reading e)

pub write-octet-refuses : (service : Service) (r : Reading) (q : Refusal) → octet_writes service r ≡ Err q
    → (written_number (octet_writes service r) ≡ number_of q) × (written_position (octet_writes service r) ≡ position_of q) × (written_octet (octet_writes service r) ≡ 0)
write-octet-refuses service r q e = (ap written_number e, ap written_position e, ap written_octet e)

pub holds-refuses : (s : Service) (r : Reading) (q : Refusal) → holds_text s r ≡ Err q → (held_number (holds_text s r) ≡ number_of q) × (held_position (holds_text s r) ≡ position_of q)
holds-refuses s r q e = (ap held_number e, ap held_position e)

-- a refused call leaves what the buffer came with
kept : {A : Type 0} (v : Verdict) (q : Refusal) (out x : A) → v ≡ refused q → settle v (λ r. out) x ≡ out
kept v q out x e = ap (λ (w : Verdict). settle w (λ r. out) x) e

-- what a call that answers how much it filled reports where it refuses
pub record Refuses (answer : Result ℕ Refusal) (q : Refusal) (out left : List ℕ) : Type 0 where
  pub number : filled_number answer ≡ number_of q
  pub position : filled_position answer ≡ position_of q
  pub nothing : filled_written answer ≡ 0
  pub untouched : left ≡ out

-- said once, of any rules and of any list that is stored
filled-refuses : (rules : List Rule) (xs out : List ℕ) (q : Refusal) → settle (verdict rules) Err (Ok (length xs)) ≡ Err q
    → Refuses (settle (verdict rules) Err (Ok (length xs))) q out (settle (verdict rules) (λ r. out) (laid xs out))
filled-refuses rules xs out q e =
    record {
      number = ap filled_number e;
      position = ap filled_position e;
      nothing = ap filled_written e;
      untouched = kept (verdict rules) q out (laid xs out) (settle-told verdict_of Err (Ok (length xs)) (λ r. refl) refl (verdict rules) (Err q) (sym e));
    }

pub text-to-septets-refuses : (text out : List ℕ) (q : Refusal) → septets_answers text (length out) ≡ Err q → Refuses (septets_answers text (length out)) q out (septets_leaves text out)
unfolding septets_answers septets_leaves
text-to-septets-refuses text out q e = filled-refuses (septets_rules text (length out)) (septets_of text) out q e

pub septets-to-text-refuses : (septets text out : List ℕ) (q : Refusal) → text_answers septets text (length out) ≡ Err q → Refuses (text_answers septets text (length out)) q out (text_leaves septets text out)
unfolding text_answers text_leaves
septets-to-text-refuses septets text out q e = filled-refuses (text_rules septets text (length out)) text out q e

pub unpack-refuses : (service : Service) (o : List ℕ) (count : ℕ) (out : List ℕ) (q : Refusal) → unpack_answers service o count (length out) ≡ Err q
    → Refuses (unpack_answers service o count (length out)) q out (unpack_leaves service o count out)
unfolding unpack_answers unpack_leaves
unpack-refuses service o count out q e = filled-refuses (unpack_rules service o count (length out)) (unpacked_of service count o) out q e

pub units-to-octets-refuses : (service : Service) (units out : List ℕ) (q : Refusal) → to_octets_answers service units (length out) ≡ Err q
    → Refuses (to_octets_answers service units (length out)) q out (to_octets_leaves service units out)
unfolding to_octets_answers to_octets_leaves
units-to-octets-refuses service units out q e = filled-refuses (to_octets_rules service units (length out)) (ucs2_octets_of service units) out q e

pub octets-to-units-refuses : (service : Service) (o : List ℕ) (count : ℕ) (out : List ℕ) (q : Refusal) → to_units_answers service o count (length out) ≡ Err q
    → Refuses (to_units_answers service o count (length out)) q out (to_units_leaves service o count out)
unfolding to_units_answers to_units_leaves
octets-to-units-refuses service o count out q e = filled-refuses (to_units_rules service o count (length out)) (units_of service o) out q e

pub read-text-refuses : (service : Service) (ucs2 : Bool) (count : ℕ) (o out : List ℕ) (q : Refusal) → text_reads service ucs2 count o (length out) ≡ Err q
    → Refuses (text_reads service ucs2 count o (length out)) q out (text_read_leaves service ucs2 count o out)
unfolding text_reads text_read_leaves
read-text-refuses service ucs2 count o out q e = filled-refuses (text_length_rules service ucs2 count o (length out)) (held_text service ucs2 count o) out q e

pub pack-refuses : (service : Service) (s out : List ℕ) (q : Refusal) → pack_answers service s (length out) ≡ Err q
    → (packed_number (pack_answers service s (length out)) ≡ number_of q)
    × (packed_position (pack_answers service s (length out)) ≡ position_of q)
    × (packed_written (pack_answers service s (length out)) ≡ 0)
    × (packed_count (pack_answers service s (length out)) ≡ 0)
    × (pack_leaves service s out ≡ out)
unfolding pack_answers pack_leaves
pack-refuses service s out q e = (
  ap packed_number e,
  ap packed_position e,
  ap packed_written e,
  ap packed_count e,
  kept (verdict (pack_rules service s (length out))) q out (laid (octets_of service s) out)
      (settle-told verdict_of Err (ok_packed (length (octets_of service s)) (count_of service s)) (λ r. refl) refl (verdict (pack_rules service s (length out))) (Err q) (sym e)),
)

pub read-message-refuses : (service : Service) (coding count : ℕ) (o out : List ℕ) (q : Refusal) → read_answers service coding count o (length out) ≡ Err q
    → (read_number (read_answers service coding count o (length out)) ≡ number_of q)
    × (read_position (read_answers service coding count o (length out)) ≡ position_of q)
    × (read_written (read_answers service coding count o (length out)) ≡ 0)
    × (read_reading (read_answers service coding count o (length out)) ≡ unmentioned)
    × (read_leaves service coding count o out ≡ out)
unfolding read_leaves
read-message-refuses service coding count o out q e = (
  ap read_number e,
  ap read_position e,
  ap read_written e,
  ap read_reading e,
  kept _ q out _ (read-verdict service coding count o (length out) (Err q) (sym e)),
)

pub write-message-refuses : (service : Service) (r : Reading) (t out : List ℕ) (q : Refusal) → write_answers service r t (length out) ≡ Err q
    → (write_number (write_answers service r t (length out)) ≡ number_of q)
    × (write_position (write_answers service r t (length out)) ≡ position_of q)
    × (write_written (write_answers service r t (length out)) ≡ 0)
    × (write_count (write_answers service r t (length out)) ≡ 0)
    × (write_coding (write_answers service r t (length out)) ≡ 0)
    × (write_leaves service r t out ≡ out)
unfolding write_leaves
write-message-refuses service r t out q e = (
  ap write_number e,
  ap write_position e,
  ap write_written e,
  ap write_count e,
  ap write_coding e,
  kept _ q out _ (write-verdict service r t (length out) (Err q) (sym e)),
)
