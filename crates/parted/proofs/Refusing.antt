-- A refused call with parts gives the first of its rules that applies, reports the number and position of that refusal and nothing else, and leaves the lent
-- buffer as it came: each follows from the verdict that its answer tells.
-- Assumes nothing.
--   count-refuses-iff, write-refuses-iff, read-refuses-iff   which refusal each call gives, exactly when
--   write-refuses-5-iff, write-refuses-10-iff   over 255 parts, and a part that the message lacks
--   read-refuses-4-iff, read-refuses-12-iff     octets of another length than the count asks, or odd behind the header; no right header, or one over the count
--   length-iff           4 where one rule gives it before 12 and another behind
--   in-front, refused-settles   a refusal that only the rules in front give; what a refusal settles into
--   count-never-3, write-never-3, read-never-3  no coding octet of a short message has a mark that gives 3
--   write-refuses, read-refuses   what a refused call reports, and leaves
use mathlib.Core.Path.{◌≡◌, refl, ap, ap₂, ◌∙◌, sym}
use mathlib.Core.Bool.{Bool, true, false, not, ◌&&◌}
use mathlib.Core.List.{List, [], ◌∷◌, ◌++◌}
use mathlib.Core.Logic.{◌↔◌, ◌⊎◌, inl, inr}
use Prim.Native.Nat.{ℕ, ◌<◌}
use native.Mathlib.Omega.{arith}
use lib.Dec.{ltb}
use lib.ListN.{length}
use borrow.Author.Tests.{lt-ltb, ltb-true, not-true, not-false}
use Rattle.lists.proofs.Tests.{and_left, and_right}
use Rattle.words.specs.declared.Service.TheVariants.{ShortMessage}
use Rattle.words.specs.declared.Refusal.{Refusal}
use Rattle.words.specs.declared.Refusal.TheVariants.{Prefixed, WrongLength, TooLong, Unlisted, NoRoom, WrongPages, WrongHeader}
use Rattle.words.specs.Refusals.{number_of, position_of}
use Rattle.words.specs.Judging.{Rule, when, Verdict, refused, accepted, verdict, settle}
use Rattle.words.proofs.Judging.{accepted-parts, accepted-both, accepted-rule, verdict-refused-first, verdict-accepted-first}
use Rattle.words.proofs.Rules.{gives, given-not, given-iff, settle-refused-iff, verdict_of}
use Rattle.coding.specs.declared.Reading.{Reading}
use Rattle.coding.specs.Readings.{unmentioned}
use Rattle.coding.specs.OctetRead.{octet_rules, read_under}
use Rattle.coding.specs.OctetWritten.{smallest, write_rules as alone_rules}
use Rattle.coding.specs.LanguageLetters.{coding_rules}
use Rattle.coding.specs.Holding.{is_ucs2, text_rules}
use Rattle.coding.specs.Refusing.{GivenBy}
use Rattle.coding.proofs.Refuses.{exactly}
use Rattle.letters.specs.Writing.{first_unlisted}
use Rattle.letters.specs.Sized.{not_codable}
use Rattle.demands.specs.Demands.{HoldsText}
use Rattle.demands.specs.MessageRead.{length_rules, read_rules, read_answers}
use Rattle.demands.specs.MessageWritten.{size_rules as message_size_rules, write_rules, write_answers}
use Rattle.demands.proofs.Accepting.{text-accepts}
use Rattle.demands.proofs.Never.{read-short-never-3, write-short-never-3}
use Rattle.demands.proofs.Steps.{text-accepted}
use Rattle.filling.specs.Numbered.{lacks}
use Rattle.parted.specs.declared.PartWritten.{PartWritten}
use Rattle.parted.specs.declared.PartRead.{PartRead}
use Rattle.parted.specs.Parts.{most_parts, is_marked}
use Rattle.parted.specs.Written.{reading_parts, octets_as, count_as, size_rules, count_rules, count_answers, part_rules, part_answers, part_leaves}
use Rattle.parted.specs.Read.{count_fits, head_size, wrong_head, odd_behind, text_behind, marked_numbers, behind_rules, part_read_rules, part_reads, part_read_leaves}
use Rattle.parted.specs.Reports.{part_number, part_position, part_written, part_travels, part_marked, part_coding, part_parts, read_number, read_position, read_written, read_reading, read_numbers}
use Rattle.parted.specs.Messages.{ReadingWritable, PartsWritable}
use Rattle.parted.proofs.Accepting.{count-verdict, write-verdict, read-verdict, reading-accepts, reading-accepted, rules-accept, rules-accepted}
use Rattle.std.specs.Prelude.{Result, Ok, Err, None}
use Rattle.parted.specs.Successes.{ok_part_read}
use Rattle.parted.specs.Successes.{ok_part_written}

-- ---- which refusal, exactly when

pub count-refuses-iff : (r : Reading) (t : List ℕ) (q : Refusal) → (count_answers r t ≡ Err q) ↔ GivenBy (count_rules r t) q
unfolding count_answers
count-refuses-iff r t q = exactly verdict_of Err (Ok (reading_parts r t)) (λ p. refl) refl (count_rules r t) q

-- what write_part and read_part give where no rule refuses
abbrev given_part : Reading → ℕ → List ℕ → ℕ → Result PartWritten Refusal
given_part r reference t k =
    ok_part_written (length (octets_as r reference t k)) (count_as r reference t k) (is_marked (reading_parts r t)) (smallest ShortMessage r) (reading_parts r t)

abbrev given_read : ℕ → Bool → ℕ → List ℕ → Result PartRead Refusal
given_read coding marked count o =
    ok_part_read (length (text_behind (is_ucs2 (read_under ShortMessage coding).alphabet) (head_size marked o) count o)) (read_under ShortMessage coding) (marked_numbers marked o)

pub write-refuses-iff : (r : Reading) (reference : ℕ) (t : List ℕ) (k room : ℕ) (q : Refusal) → (part_answers r reference t k room ≡ Err q) ↔ GivenBy (part_rules r reference t k room) q
unfolding part_answers
write-refuses-iff r reference t k room q = exactly verdict_of Err (given_part r reference t k) (λ p. refl) refl (part_rules r reference t k room) q

pub read-refuses-iff : (coding : ℕ) (marked : Bool) (count : ℕ) (o : List ℕ) (room : ℕ) (q : Refusal)
    → (part_reads coding marked count o room ≡ Err q) ↔ GivenBy (part_read_rules (read_under ShortMessage coding) marked count o room) q
unfolding part_reads
read-refuses-iff coding marked count o room q = exactly verdict_of Err (given_read coding marked count o) (λ p. refl) refl (part_read_rules (read_under ShortMessage coding) marked count o room) q

-- ---- what is new of them, in plain words

pub both_ways : {A B C : Type 0} → (A ↔ B) → (B ↔ C) → (A ↔ C)
both_ways f g = (λ a. g.0 (f.0 a), λ c. f.1 (g.1 c))

module _ (r : Reading) (reference : ℕ) (t : List ℕ) (k room : ℕ) where
  abbrev six : List Rule
  six = when (not_codable (is_ucs2 r.alphabet) t) (Unlisted (first_unlisted t)) ∷ []

  abbrev short : Rule
  short = when (ltb room (length (octets_as r reference t k))) NoRoom

  told : (q : Refusal) → (part_answers r reference t k room ≡ Err q) ↔ (verdict (part_rules r reference t k room) ≡ refused q)
  unfolding part_answers
  told q = settle-refused-iff verdict_of Err (given_part r reference t k) (λ p. refl) refl (verdict (part_rules r reference t k room)) q

  before-five : (verdict (coding_rules ShortMessage r ++ (text_rules ShortMessage r ++ six)) ≡ accepted) ↔ (ReadingWritable r × (not_codable (is_ucs2 r.alphabet) t ≡ false))
  unfolding verdict
  before-five = (
    λ e.
        let v = accepted-parts (coding_rules ShortMessage r) (text_rules ShortMessage r ++ six) e in
        let w = accepted-parts (text_rules ShortMessage r) six v.1 in
        (reading-accepted r v.0 w.0, (accepted-rule (not_codable (is_ucs2 r.alphabet) t) (Unlisted (first_unlisted t)) [] w.1).0),
    λ (w, c).
        let v = reading-accepts r w in
        accepted-both (coding_rules ShortMessage r) (text_rules ShortMessage r ++ six) v.0 (accepted-both (text_rules ShortMessage r) six v.1 (simp c)),
  )

  -- "over 255 parts is 5"
  pub write-refuses-5-iff : (part_answers r reference t k room ≡ Err TooLong) ↔ (ReadingWritable r × (not_codable (is_ucs2 r.alphabet) t ≡ false) × (most_parts < reading_parts r t))
  unfolding part_rules count_rules size_rules coding_rules alone_rules text_rules gives
  write-refuses-5-iff =
      let iff = both_ways (told TooLong)
      (given-iff (coding_rules ShortMessage r ++ (text_rules ShortMessage r ++ six)) (ltb most_parts (reading_parts r t)) TooLong (when (lacks (reading_parts r t) k) WrongPages ∷ short ∷ []) refl refl) in (
        λ e. let v = iff.0 e in let w = before-five.0 v.0 in (w.0, w.1, ltb-true most_parts (reading_parts r t) v.1),
        λ (w, c, more). iff.1 (before-five.1 (w, c), lt-ltb most_parts (reading_parts r t) more),
      )

  -- a part that the message lacks
  pub write-refuses-10-iff : (part_answers r reference t k room ≡ Err WrongPages) ↔ (PartsWritable r t × (lacks (reading_parts r t) k ≡ true))
  unfolding part_rules count_rules size_rules coding_rules alone_rules text_rules gives
  write-refuses-10-iff =
      let iff = both_ways (told WrongPages) (given-iff (count_rules r t) (lacks (reading_parts r t) k) WrongPages (short ∷ []) refl refl) in
      (λ e. let v = iff.0 e in (rules-accepted r t v.0, v.1), λ (w, l). iff.1 (rules-accept r t w, l))

-- the two rules that give 4, around 12
abbrev pub WrongSomewhere : Bool → Bool → Bool → Type 0
WrongSomewhere a b c = (a ≡ true) ⊎ ((a ≡ false) × (b ≡ false) × (c ≡ true))

length-told : (a b c : Bool) (rest : List Rule) → gives 4 rest ≡ false → verdict (when a WrongLength ∷ when b WrongHeader ∷ when c WrongLength ∷ rest) ≡ refused WrongLength → WrongSomewhere a b c
unfolding verdict
length-told true b c rest n e = inl refl
length-told false true c rest n e = absurd (let z : ◌≡◌ {A = ℕ} 0 1 = cc in omega arith)
length-told false false true rest n e = inr (refl, refl, refl)
length-told false false false rest n e = absurd (given-not rest WrongLength n e)

length-given : (a b c : Bool) (rest : List Rule) → WrongSomewhere a b c → verdict (when a WrongLength ∷ when b WrongHeader ∷ when c WrongLength ∷ rest) ≡ refused WrongLength
unfolding verdict
length-given a b c rest (inl e) = simp e
length-given a b c rest (inr (e, f, g)) = simp (e, f, g)

-- among others that do not give 4
pub length-iff : (first : List Rule) (a b c : Bool) (rest : List Rule) → gives 4 first ≡ false → gives 4 rest ≡ false
    → (verdict (first ++ (when a WrongLength ∷ when b WrongHeader ∷ when c WrongLength ∷ rest)) ≡ refused WrongLength) ↔ ((verdict first ≡ accepted) × WrongSomewhere a b c)
length-iff first a b c rest m n = (to (verdict first) refl, λ (v, w). verdict-accepted-first first behind v ∙ length-given a b c rest w)
  where
    behind : List Rule
    behind = when a WrongLength ∷ when b WrongHeader ∷ when c WrongLength ∷ rest

    to : (v : Verdict) → verdict first ≡ v → verdict (first ++ (when a WrongLength ∷ when b WrongHeader ∷ when c WrongLength ∷ rest)) ≡ refused WrongLength
        → (verdict first ≡ accepted) × WrongSomewhere a b c
    to (refused q) v e = absurd (given-not first WrongLength m (v ∙ sym (verdict-refused-first first behind q v) ∙ e))
    to accepted v e = (v, length-told a b c rest n (sym (verdict-accepted-first first behind v) ∙ e))

-- what fits is not wrong
unfit-iff : (a b c : Bool) → WrongSomewhere (not a) b c ↔ ((a ≡ false) ⊎ ((a ≡ true) × (b ≡ false) × (c ≡ true)))
unfit-iff a b c = (to, from)
  where
    to : WrongSomewhere (not a) b c → (a ≡ false) ⊎ ((a ≡ true) × (b ≡ false) × (c ≡ true))
    to (inl e) = inl (not-true a e)
    to (inr (e, f, g)) = inr (not-false a e, f, g)

    from : (a ≡ false) ⊎ ((a ≡ true) × (b ≡ false) × (c ≡ true)) → WrongSomewhere (not a) b c
    from (inl e) = inl (ap not e)
    from (inr (e, f, g)) = inr (ap not e, f, g)

module _ (coding : ℕ) (marked : Bool) (count : ℕ) (o : List ℕ) (room : ℕ) where
  abbrev heard : Reading
  heard = read_under ShortMessage coding

  abbrev ucs2 : Bool
  ucs2 = is_ucs2 (read_under ShortMessage coding).alphabet

  abbrev odd : Bool
  odd = odd_behind (is_ucs2 (read_under ShortMessage coding).alphabet) (head_size marked o) o

  abbrev over : Bool
  over = ltb room (length (text_behind (is_ucs2 (read_under ShortMessage coding).alphabet) (head_size marked o) count o))

  read-told : (q : Refusal) → (part_reads coding marked count o room ≡ Err q) ↔ (verdict (part_read_rules heard marked count o room) ≡ refused q)
  unfolding part_reads
  read-told q = settle-refused-iff verdict_of Err (given_read coding marked count o) (λ p. refl) refl (verdict (part_read_rules heard marked count o room)) q

  abbrev four : List Rule
  four = when (not (count_fits ucs2 (length o) count)) WrongLength ∷ []

  before-twelve : (verdict (text_rules ShortMessage heard ++ four) ≡ accepted) ↔ (HoldsText heard × (count_fits ucs2 (length o) count ≡ true))
  unfolding verdict
  before-twelve = (
    λ e.
        let v = accepted-parts (text_rules ShortMessage heard) four e in
        (text-accepted ShortMessage heard v.0, not-false _ (accepted-rule (not (count_fits ucs2 (length o) count)) WrongLength [] v.1).0),
    λ (h, c). accepted-both (text_rules ShortMessage heard) four (text-accepts ShortMessage heard h) (simp c),
  )

  -- "12, after 4, for a header longer than the octets or (in septets) than the count, or an element running past it or of wrong length"
  pub read-refuses-12-iff : (part_reads coding marked count o room ≡ Err WrongHeader)
      ↔ (HoldsText heard × (count_fits ucs2 (length o) count ≡ true) × (marked ≡ true) × (wrong_head ucs2 count o ≡ true))
  unfolding part_read_rules behind_rules text_rules gives
  read-refuses-12-iff =
      let iff = both_ways (read-told WrongHeader) (given-iff (text_rules ShortMessage heard ++ four) (marked && wrong_head ucs2 count o) WrongHeader (when odd WrongLength ∷ when over NoRoom ∷ []) refl refl) in (
        λ e. let v = iff.0 e in let w = before-twelve.0 v.0 in (w.0, w.1, and_left marked (wrong_head ucs2 count o) v.1, and_right marked (wrong_head ucs2 count o) v.1),
        λ (h, c, m, w). iff.1 (before-twelve.1 (h, c), ap₂ (λ (a b : Bool). a && b) m w),
      )

  -- "octets not of the length that the counts ask are 4"; "UCS2 evenness is judged behind the header, after 12"
  pub read-refuses-4-iff : (part_reads coding marked count o room ≡ Err WrongLength)
      ↔ (HoldsText heard × ((count_fits ucs2 (length o) count ≡ false) ⊎ ((count_fits ucs2 (length o) count ≡ true) × ((marked && wrong_head ucs2 count o) ≡ false) × (odd ≡ true))))
  unfolding part_read_rules behind_rules text_rules gives
  read-refuses-4-iff =
      let iff = both_ways (read-told WrongLength) (length-iff (text_rules ShortMessage heard) (not (count_fits ucs2 (length o) count)) (marked && wrong_head ucs2 count o) odd (when over NoRoom ∷ []) refl refl) in
      let unfit = unfit-iff (count_fits ucs2 (length o) count) (marked && wrong_head ucs2 count o) odd in (
        λ e. let v = iff.0 e in (text-accepted ShortMessage heard v.0, unfit.0 v.1),
        λ (h, w). iff.1 (text-accepts ShortMessage heard h, unfit.1 w),
      )

-- ---- 3 never comes

-- a refusal that the rest does not give is given in front
pub in-front : (first rest : List Rule) (q : Refusal) → gives (number_of q) rest ≡ false → verdict (first ++ rest) ≡ refused q → verdict first ≡ refused q
unfolding verdict
in-front [] rest q n e = absurd (given-not rest q n e)
in-front (when true p ∷ first) rest q n e = e
in-front (when false p ∷ first) rest q n e = in-front first rest q n e

-- what a refusing verdict settles into
pub refused-settles : {A : Type 0} (v : Verdict) (refuse : Refusal → A) (given : A) (q : Refusal) → v ≡ refused q → settle v refuse given ≡ refuse q
refused-settles v refuse given q e = ap (λ (w : Verdict). settle w refuse given) e

-- a reading for which 3 comes would have it come from the base
reading-never-3 : (r : Reading) → verdict (coding_rules ShortMessage r ++ text_rules ShortMessage r) ≡ refused Prefixed → ⊥
unfolding write_rules write_answers coding_rules alone_rules text_rules
reading-never-3 r e =
    write-short-never-3 r [] 0
    (refused-settles (verdict (write_rules ShortMessage r [] 0)) Err _ Prefixed
    (verdict-refused-first (coding_rules ShortMessage r ++ text_rules ShortMessage r) (message_size_rules ShortMessage r [] 0) Prefixed e))

pub count-never-3 : (r : Reading) (t : List ℕ) → count_answers r t ≡ Err Prefixed → ⊥
unfolding count_rules size_rules coding_rules alone_rules text_rules gives
count-never-3 r t e =
    reading-never-3 r
    (in-front (coding_rules ShortMessage r ++ text_rules ShortMessage r) (size_rules (is_ucs2 r.alphabet) t) Prefixed refl (count-verdict r t (Err Prefixed) (sym e)))

pub write-never-3 : (r : Reading) (reference : ℕ) (t : List ℕ) (k room : ℕ) → part_answers r reference t k room ≡ Err Prefixed → ⊥
unfolding part_rules count_rules size_rules coding_rules alone_rules text_rules gives
write-never-3 r reference t k room e =
    reading-never-3 r
    (in-front (coding_rules ShortMessage r ++ text_rules ShortMessage r)
    (size_rules (is_ucs2 r.alphabet) t ++ (when (lacks (reading_parts r t) k) WrongPages ∷ when (ltb room (length (octets_as r reference t k))) NoRoom ∷ [])) Prefixed refl
    (write-verdict r reference t k room (Err Prefixed) (sym e)))

pub read-never-3 : (coding : ℕ) (marked : Bool) (count : ℕ) (o : List ℕ) (room : ℕ) → coding < 256 → part_reads coding marked count o room ≡ Err Prefixed → ⊥
unfolding part_read_rules behind_rules text_rules gives read_answers read_rules octet_rules
read-never-3 coding marked count o room small e =
    let heard : Reading = read_under ShortMessage coding in
    let v = in-front (text_rules ShortMessage heard) (behind_rules (is_ucs2 heard.alphabet) marked count o room) Prefixed refl (read-verdict coding marked count o room (Err Prefixed) (sym e)) in
    read-short-never-3 coding count o room small
    (refused-settles (verdict (read_rules ShortMessage coding count o room)) Err _ Prefixed
    (verdict-refused-first (text_rules ShortMessage heard) (length_rules ShortMessage heard count o room) Prefixed v))

-- ---- what a refused call reports and leaves

pub write-refuses : (r : Reading) (reference : ℕ) (t : List ℕ) (k : ℕ) (out : List ℕ) (q : Refusal) → part_answers r reference t k (length out) ≡ Err q
    → (part_number (part_answers r reference t k (length out)) ≡ number_of q)
    × (part_position (part_answers r reference t k (length out)) ≡ position_of q)
    × (part_written (part_answers r reference t k (length out)) ≡ 0)
    × (part_travels (part_answers r reference t k (length out)) ≡ 0)
    × (part_marked (part_answers r reference t k (length out)) ≡ false)
    × (part_coding (part_answers r reference t k (length out)) ≡ 0)
    × (part_parts (part_answers r reference t k (length out)) ≡ 0)
    × (part_leaves r reference t k out ≡ out)
unfolding part_leaves
write-refuses r reference t k out q e = (
  ap part_number e,
  ap part_position e,
  ap part_written e,
  ap part_travels e,
  ap part_marked e,
  ap part_coding e,
  ap part_parts e,
  refused-settles (verdict (part_rules r reference t k (length out))) (λ p. out) _ q (write-verdict r reference t k (length out) (Err q) (sym e)),
)

pub read-refuses : (coding : ℕ) (marked : Bool) (count : ℕ) (o out : List ℕ) (q : Refusal) → part_reads coding marked count o (length out) ≡ Err q
    → (read_number (part_reads coding marked count o (length out)) ≡ number_of q)
    × (read_position (part_reads coding marked count o (length out)) ≡ position_of q)
    × (read_written (part_reads coding marked count o (length out)) ≡ 0)
    × (read_reading (part_reads coding marked count o (length out)) ≡ unmentioned)
    × (read_numbers (part_reads coding marked count o (length out)) ≡ None)
    × (part_read_leaves coding marked count o out ≡ out)
unfolding part_read_leaves
read-refuses coding marked count o out q e = (
  ap read_number e,
  ap read_position e,
  ap read_written e,
  ap read_reading e,
  ap read_numbers e,
  refused-settles (verdict (part_read_rules (read_under ShortMessage coding) marked count o (length out))) (λ p. out) _ q
      (read-verdict coding marked count o (length out) (Err q) (sym e)),
)
