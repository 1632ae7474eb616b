-- Each call with parts accepts exactly where no rule of its list refuses, and then answers with what the definitions give. What refuses a reading is what
-- the base refuses it for, so that the base's law of the empty text is said of it.
-- Assumes nothing.
--   reading-accepts, reading-accepted   no rule refuses a reading exactly where it is ReadingWritable
--   count-accepts, count-accepted   count_parts accepts exactly where the text is PartsWritable
--   write-accepts, write-accepted   write_part, exactly where part k is PartWritable
--   read-accepts, read-accepted     read_part, exactly where the octets are PartReadable
--   rules-accept, rules-accepted, read-rules-accepted   the same of their verdicts
--   verdict_of, verdict_of, verdict_of   == the verdict that an answer tells
--   count-verdict, write-verdict, read-verdict   which is that of the call's rules
--   coding-back          the coding octet that is written reads as the reading
use Rattle.words.proofs.Rules.{verdict_of}
use mathlib.Core.Path.{◌≡◌, refl, ap, ◌∙◌, sym}
use mathlib.Core.Bool.{Bool, true, false, not, ◌&&◌}
use mathlib.Core.List.{List, [], ◌∷◌, ◌++◌}
use Prim.Native.Nat.{ℕ, ◌≤◌}
use native.Mathlib.Omega.{arith}
use lib.Dec.{ltb}
use lib.ListN.{length}
use borrow.Author.Tests.{le-ltb, ltb-false, not-false}
use Rattle.words.specs.declared.Service.TheVariants.{ShortMessage}
use Rattle.words.specs.declared.Refusal.TheVariants.{WrongLength, TooLong, Unlisted, NoRoom, WrongPages, WrongHeader}
use Rattle.lists.specs.Lists.{first_place, laid}
use Rattle.words.specs.Judging.{when, accepted, verdict}
use Rattle.words.proofs.Judging.{accepted-rule, accepted-parts, accepted-both, settle-told, settle-given}
use Rattle.coding.specs.declared.Reading.{Reading}
use Rattle.coding.specs.OctetRead.{read_under}
use Rattle.coding.specs.OctetWritten.{smallest}
use Rattle.coding.specs.LanguageLetters.{coding_rules}
use Rattle.coding.specs.Holding.{is_ucs2, text_rules}
use Rattle.coding.proofs.Prefixed.{read-given}
use Rattle.letters.specs.Writing.{septets_in, first_unlisted}
use Rattle.letters.specs.Sized.{not_codable}
use Rattle.stream.specs.Stream.{cut, octets_for, packed}
use Rattle.stream.specs.Ucs2.{unit_octets}
use Rattle.demands.specs.MessageWritten.{text_octets, text_size_rules, over_size, message_octets, message_count, size_rules, write_rules, write_answers}
use Rattle.demands.specs.Demands.{Writable}
use Rattle.demands.proofs.Accepting.{text-accepts, write-accepts as message-accepts, write-accepted as message-accepted, write-verdict as message-verdict}
use Rattle.demands.proofs.Octets.{write-reads}
use Rattle.demands.proofs.Steps.{text-accepted}
use Rattle.filling.specs.Numbered.{lacks}
use Rattle.filling.proofs.Placing.{lacks-none, none-lacks}
use Rattle.parted.specs.declared.PartWritten.{PartWritten}
use Rattle.parted.specs.declared.PartRead.{PartRead}
use Rattle.parted.specs.Parts.{most_parts, is_marked}
use Rattle.parted.specs.Written.{reading_parts, octets_as, count_as, size_rules as part_size_rules, count_rules, count_answers, part_rules, part_answers, part_leaves}
use Rattle.parted.specs.Read.{count_fits, head_size, wrong_head, odd_behind, text_behind, marked_numbers, behind_rules, part_read_rules, part_reads, part_read_leaves}
use Rattle.parted.specs.Messages.{ReadingWritable, PartsWritable, PartWritable, PartReadable}
use Rattle.std.specs.Prelude.{Result, Option, Ok, Err}
use Rattle.words.specs.declared.Refusal.{Refusal}
use Rattle.headed.specs.declared.Numbers.{Numbers}
use Rattle.demands.specs.Successes.{ok_message_written}
use Rattle.parted.specs.Successes.{ok_part_read}
use Rattle.parted.specs.Successes.{ok_part_written}

-- ---- the verdict that an answer tells

pub count-verdict : (r : Reading) (t : List ℕ) (a : Result ℕ Refusal) → a ≡ count_answers r t → verdict (count_rules r t) ≡ verdict_of a
unfolding count_answers
count-verdict r t a e = settle-told verdict_of Err (Ok (reading_parts r t)) (λ q. refl) refl (verdict (count_rules r t)) a e

pub write-verdict : (r : Reading) (reference : ℕ) (t : List ℕ) (k room : ℕ) (a : Result PartWritten Refusal) → a ≡ part_answers r reference t k room → verdict (part_rules r reference t k room) ≡ verdict_of a
unfolding part_answers
write-verdict r reference t k room a e =
    settle-told verdict_of Err
    (ok_part_written (length (octets_as r reference t k)) (count_as r reference t k) (is_marked (reading_parts r t)) (smallest ShortMessage r) (reading_parts r t))
    (λ q. refl) refl (verdict (part_rules r reference t k room)) a e

pub read-verdict : (coding : ℕ) (marked : Bool) (count : ℕ) (o : List ℕ) (room : ℕ) (a : Result PartRead Refusal) → a ≡ part_reads coding marked count o room
    → verdict (part_read_rules (read_under ShortMessage coding) marked count o room) ≡ verdict_of a
unfolding part_reads
read-verdict coding marked count o room a e =
    settle-told verdict_of Err
    (ok_part_read (length (text_behind (is_ucs2 (read_under ShortMessage coding).alphabet) (head_size marked o) count o)) (read_under ShortMessage coding) (marked_numbers marked o))
    (λ q. refl) refl (verdict (part_read_rules (read_under ShortMessage coding) marked count o room)) a e

-- ---- the reading

empty-codable : (ucs2 : Bool) → not_codable ucs2 [] ≡ false
unfolding first_place
empty-codable true = refl
empty-codable false = refl

empty-sized : (ucs2 : Bool) → over_size ShortMessage ucs2 [] ≡ false
unfolding septets_in
empty-sized true = refl
empty-sized false = refl

empty-octets : (ucs2 : Bool) → length (text_octets ShortMessage ucs2 []) ≡ 0
unfolding septets_in packed octets_for cut unit_octets
empty-octets true = refl
empty-octets false = refl

module _ (r : Reading) where
  -- the base writes the empty text
  empty-writable : ReadingWritable r → Writable ShortMessage r [] 0
  empty-writable w =
      record {
        new = refl;
        plain = w.plain;
        octet = w.octet;
        holds = w.holds;
        codable = empty-codable (is_ucs2 r.alphabet);
        sized = empty-sized (is_ucs2 r.alphabet);
        fits = omega (arith, empty-octets (is_ucs2 r.alphabet));
      }

  empty-size : verdict (size_rules ShortMessage r [] 0) ≡ accepted
  unfolding text_size_rules verdict
  empty-size =
      let ucs2 : Bool = is_ucs2 r.alphabet in
      let fits : length (text_octets ShortMessage ucs2 []) ≤ 0 = omega (arith, empty-octets ucs2) in
      simp (empty-codable ucs2, empty-sized ucs2, le-ltb 0 _ fits)

  pub reading-accepts : ReadingWritable r → (verdict (coding_rules ShortMessage r) ≡ accepted) × (verdict (text_rules ShortMessage r) ≡ accepted)
  unfolding write_rules
  reading-accepts w =
      let a = (message-accepts ShortMessage r [] [] (empty-writable w)).0 in
      let v = accepted-parts (coding_rules ShortMessage r) (text_rules ShortMessage r ++ size_rules ShortMessage r [] 0) (message-verdict ShortMessage r [] 0 _ (sym a)) in
      (v.0, text-accepts ShortMessage r w.holds)

  pub reading-accepted : verdict (coding_rules ShortMessage r) ≡ accepted → verdict (text_rules ShortMessage r) ≡ accepted → ReadingWritable r
  unfolding write_rules write_answers
  reading-accepted c t =
      let v = accepted-both (coding_rules ShortMessage r) (text_rules ShortMessage r ++ size_rules ShortMessage r [] 0) c (accepted-both (text_rules ShortMessage r) (size_rules ShortMessage r [] 0) t empty-size) in
      let w = message-accepted ShortMessage r [] 0 _ _ _ refl (settle-given (verdict (write_rules ShortMessage r [] 0)) Err (ok_message_written (length (message_octets ShortMessage r [])) (message_count ShortMessage r []) (smallest ShortMessage r)) v) in
      record { plain = w.plain; octet = w.octet; holds = w.holds }

  pub coding-back : ReadingWritable r → read_under ShortMessage (smallest ShortMessage r) ≡ r
  coding-back w = read-given ShortMessage (smallest ShortMessage r) r (sym (write-reads ShortMessage r [] 0 (empty-writable w)).0)

-- ---- counting

module _ (r : Reading) (t : List ℕ) where
  pub rules-accept : PartsWritable r t → verdict (count_rules r t) ≡ accepted
  unfolding count_rules part_size_rules verdict
  rules-accept w =
      let ucs2 : Bool = is_ucs2 r.alphabet in
      let v = reading-accepts r w.reading in
      accepted-both (coding_rules ShortMessage r) (text_rules ShortMessage r ++ part_size_rules ucs2 t) v.0
      (accepted-both (text_rules ShortMessage r) (part_size_rules ucs2 t) v.1 (simp (w.codable, le-ltb most_parts (reading_parts r t) w.sized)))

  pub rules-accepted : verdict (count_rules r t) ≡ accepted → PartsWritable r t
  unfolding count_rules part_size_rules
  rules-accepted e =
      let ucs2 : Bool = is_ucs2 r.alphabet in
      let v = accepted-parts (coding_rules ShortMessage r) (text_rules ShortMessage r ++ part_size_rules ucs2 t) e in
      let w = accepted-parts (text_rules ShortMessage r) (part_size_rules ucs2 t) v.1 in
      let six = accepted-rule (not_codable ucs2 t) (Unlisted (first_unlisted t)) (when (ltb most_parts (reading_parts r t)) TooLong ∷ []) w.1 in
      let five = accepted-rule (ltb most_parts (reading_parts r t)) TooLong [] six.1 in
      record { reading = reading-accepted r v.0 w.0; codable = six.0; sized = ltb-false most_parts (reading_parts r t) five.0 }

  pub count-accepts : PartsWritable r t → count_answers r t ≡ Ok (reading_parts r t)
  unfolding count_answers
  count-accepts w = settle-given _ Err _ (rules-accept w)

  pub count-accepted : (n : ℕ) → count_answers r t ≡ Ok n → PartsWritable r t
  count-accepted n e = rules-accepted (count-verdict r t (Ok n) (sym e))

-- ---- writing one part

module _ (r : Reading) (reference : ℕ) (t : List ℕ) (k : ℕ) where
  part-rules-accept : (room : ℕ) → PartWritable r reference t k room → verdict (part_rules r reference t k room) ≡ accepted
  unfolding part_rules verdict
  part-rules-accept room w =
      accepted-both (count_rules r t) (when (lacks (reading_parts r t) k) WrongPages ∷ when (ltb room (length (octets_as r reference t k))) NoRoom ∷ []) (rules-accept r t w.writable)
      (simp (lacks-none (reading_parts r t) k w.some w.most, le-ltb room _ w.fits))

  pub write-accepts : (out : List ℕ) → PartWritable r reference t k (length out)
      → (part_answers r reference t k (length out)
      ≡ ok_part_written (length (octets_as r reference t k)) (count_as r reference t k) (is_marked (reading_parts r t)) (smallest ShortMessage r) (reading_parts r t))
      × (part_leaves r reference t k out ≡ laid (octets_as r reference t k) out)
  unfolding part_answers part_leaves
  write-accepts out w = (settle-given _ Err _ (part-rules-accept (length out) w), settle-given _ (λ q. out) _ (part-rules-accept (length out) w))

  pub write-accepted : (room octets count : ℕ) (marked : Bool) (coding parts : ℕ) → part_answers r reference t k room ≡ ok_part_written octets count marked coding parts → PartWritable r reference t k room
  unfolding part_rules
  write-accepted room octets count marked coding parts e =
      let long : ℕ = length (octets_as r reference t k) in
      let v = accepted-parts (count_rules r t) (when (lacks (reading_parts r t) k) WrongPages ∷ when (ltb room long) NoRoom ∷ []) (write-verdict r reference t k room (ok_part_written octets count marked coding parts) (sym e)) in
      let ten = accepted-rule (lacks (reading_parts r t) k) WrongPages (when (ltb room long) NoRoom ∷ []) v.1 in
      let seven = accepted-rule (ltb room long) NoRoom [] ten.1 in
      let l = none-lacks (reading_parts r t) k ten.0 in
      record { writable = rules-accepted r t v.0; some = l.0; most = l.1; fits = ltb-false room long seven.0 }

-- ---- reading one part

module _ (coding : ℕ) (marked : Bool) (count : ℕ) (o : List ℕ) where
  abbrev heard : Reading
  heard = read_under ShortMessage coding

  abbrev ucs2 : Bool
  ucs2 = is_ucs2 (read_under ShortMessage coding).alphabet

  abbrev text : List ℕ
  text = text_behind (is_ucs2 (read_under ShortMessage coding).alphabet) (head_size marked o) count o

  read-rules-accept : (room : ℕ) → PartReadable coding marked count o room → verdict (part_read_rules heard marked count o room) ≡ accepted
  unfolding part_read_rules behind_rules verdict
  read-rules-accept room w =
      accepted-both (text_rules ShortMessage heard) (behind_rules ucs2 marked count o room) (text-accepts ShortMessage heard w.holds)
      (simp (w.whole, head marked w.right, w.even, le-ltb room _ w.fits))
    where
      head : (m : Bool) → (m ≡ true → wrong_head ucs2 count o ≡ false) → (m && wrong_head ucs2 count o) ≡ false
      head true h = h refl
      head false h = refl

  pub read-accepts : (out : List ℕ) → PartReadable coding marked count o (length out)
      → (part_reads coding marked count o (length out) ≡ ok_part_read (length text) heard (marked_numbers marked o)) × (part_read_leaves coding marked count o out ≡ laid text out)
  unfolding part_reads part_read_leaves
  read-accepts out w = (settle-given _ Err _ (read-rules-accept (length out) w), settle-given _ (λ q. out) _ (read-rules-accept (length out) w))

  pub read-rules-accepted : (room : ℕ) → verdict (part_read_rules heard marked count o room) ≡ accepted → PartReadable coding marked count o room
  unfolding part_read_rules behind_rules
  read-rules-accepted room e =
      let v = accepted-parts (text_rules ShortMessage heard) (behind_rules ucs2 marked count o room) e in
      let four = accepted-rule (not (count_fits ucs2 (length o) count)) WrongLength _ v.1 in
      let twelve = accepted-rule (marked && wrong_head ucs2 count o) WrongHeader _ four.1 in
      let odd = accepted-rule (odd_behind ucs2 (head_size marked o) o) WrongLength _ twelve.1 in
      let seven = accepted-rule (ltb room (length text)) NoRoom [] odd.1 in
      record {
        holds = text-accepted ShortMessage heard v.0;
        whole = not-false _ four.0;
        right = λ m. ap (λ (b : Bool). b && wrong_head ucs2 count o) (sym m) ∙ twelve.0;
        even = odd.0;
        fits = ltb-false room (length text) seven.0;
      }

  pub read-accepted : (room units : ℕ) (reading : Reading) (c : Option Numbers) → part_reads coding marked count o room ≡ ok_part_read units reading c → PartReadable coding marked count o room
  read-accepted room units reading c e = read-rules-accepted room (read-verdict coding marked count o room (ok_part_read units reading c) (sym e))
