-- Refusals that the order names and that no input brings about: each follows from what a service's octets can read as. Assumes nothing.
--   short-reads            no octet of a short message has the prefix mark, the header mark or the alphabet WAP or I1: one computed test
--   read-short-never-3     so the reader never gives 3 for a short message, and its 2 is 8-bit data
--   write-short-never-3    nor does the writer: a reading with a mark is 8 before
--   read-old-2-4-7         an old page is refused 2, 4 or 7: it reads as the unmentioned values
use mathlib.Core.Path.{◌≡◌, refl, ap, ap₂, ◌∙◌, sym}
use mathlib.Core.Bool.{Bool, true, false, not}
use mathlib.Core.List.{List, [], ◌∷◌, ◌++◌}
use mathlib.Core.Logic.{◌⊎◌, inl, inr}
use Prim.Native.Nat.{ℕ, ◌<◌}
use native.Mathlib.Omega.{arith}
use lib.Dec.{T, ltb}
use Rattle.lists.specs.Bits.{bit_of, gather, bits_of}
use Rattle.words.specs.declared.Service.TheVariants.{ShortMessage, OldPage}
use Rattle.words.specs.declared.Refusal.{Refusal}
use Rattle.words.specs.declared.Refusal.TheVariants.{Compressed, NoText, Prefixed, WrongLength, TooLong, Unlisted, NoRoom, Unwritable}
use Rattle.words.specs.Refusals.{number_of}
use Rattle.words.specs.Judging.{Rule, when, Verdict, refused, accepted, verdict}
use Rattle.lists.proofs.Tests.{both, both_left, both_right, every_below, every-below}
use Rattle.words.proofs.Judging.{settle-given}
use Rattle.coding.specs.declared.Reading.{Reading}
use Rattle.coding.specs.Readings.{without_letters}
use Rattle.fields.specs.Numbers.{alphabet_no}
use Rattle.coding.specs.OctetRead.{class_in, discard_in, store_in, general_reading, notice_reading, last_reading, read_short, octet_rules}
use Rattle.coding.specs.OctetWritten.{smallest, write_rules as alone_rules}
use Rattle.coding.specs.LanguageLetters.{coding_rules, coding_writes}
use Rattle.coding.specs.Holding.{is_data, text_rules}
use Rattle.coding.proofs.TextOctet.{coding-written}
use Rattle.coding.proofs.Theorems.{settled, write_read}
use Rattle.demands.specs.MessageRead.{text_length_rules, length_rules, read_rules, read_answers}
use Rattle.demands.specs.MessageWritten.{text_size_rules, size_rules, write_rules, write_answers}
use Rattle.demands.proofs.Accepting.{read-verdict, write-verdict}
use Rattle.coding.proofs.Prefixed.{read-given}
use Rattle.coding.proofs.Headed.{isnt}
use Rattle.std.specs.Prelude.{Ok, Err}

-- neither a mark nor an alphabet behind UCS2, whose number is 2
abbrev short_test : ℕ → Bool
short_test o = both (not (read_short o).prefix) (both (not (read_short o).header) (not (ltb 2 (alphabet_no (read_short o).alphabet))))

short-tests : T (every_below short_test 256)
unfolding read_short bits_of gather bit_of general_reading notice_reading last_reading class_in discard_in store_in
short-tests = tt

pub short-reads : (o : ℕ) → o < 256 → ((read_short o).prefix ≡ false) × ((read_short o).header ≡ false) × (ltb 2 (alphabet_no (read_short o).alphabet) ≡ false)
short-reads o h =
    let t = every-below short_test 256 short-tests o h in
    let u = both_right (not (read_short o).prefix) _ t in
    (isnt _ (both_left (not (read_short o).prefix) _ t), isnt _ (both_left (not (read_short o).header) _ u), isnt _ (both_right (not (read_short o).header) _ u))

abbrev number_of_verdict : Verdict → ℕ
number_of_verdict (refused q) = number_of q
number_of_verdict accepted = 0

-- six rules of which the two of 3 do not apply
not_third : (a b c d : Bool) → number_of_verdict (verdict (when a Compressed ∷ when b NoText ∷ when false Prefixed ∷ when false Prefixed ∷ when c WrongLength ∷ when d NoRoom ∷ [])) ≡ 3 → ⊥
unfolding verdict
not_third true b c d e = omega arith
not_third false true c d e = omega arith
not_third false false true d e = omega arith
not_third false false false true e = omega arith
not_third false false false false e = omega arith

pub read-short-never-3 : (coding count : ℕ) (o : List ℕ) (room : ℕ) → coding < 256 → read_answers ShortMessage coding count o room ≡ Err Prefixed → ⊥
unfolding read_rules octet_rules text_rules text_length_rules
read-short-never-3 coding count o room h e =
    let p = short-reads coding h in
    not_third (read_short coding).compressed (is_data (read_short coding).alphabet) _ _
    (ap₂ (λ (a b : Bool). number_of_verdict (verdict (when (read_short coding).compressed Compressed ∷ when (is_data (read_short coding).alphabet) NoText ∷ when a Prefixed ∷ when b Prefixed ∷ length_rules ShortMessage (read_short coding) count o room))) (sym p.0) (sym p.1)
    ∙ ap number_of_verdict (read-verdict ShortMessage coding count o room (Err Prefixed) (sym e)))

-- a verdict of rules that go on after others is of the first, or of the rest where the first accept
part : (first rest : List Rule) (n : ℕ) → number_of_verdict (verdict (first ++ rest)) ≡ n
    → (number_of_verdict (verdict first) ≡ n) ⊎ ((verdict first ≡ accepted) × (number_of_verdict (verdict rest) ≡ n))
unfolding verdict
part [] rest n e = inr (refl, e)
part (when true q ∷ first) rest n e = inl e
part (when false q ∷ first) rest n e = part first rest n e

not-coding : (a b c d : Bool) → number_of_verdict (verdict (when a Unwritable ∷ when b Unwritable ∷ when c Unwritable ∷ when d Unwritable ∷ [])) ≡ 3 → ⊥
unfolding verdict
not-coding true b c d e = omega arith
not-coding false true c d e = omega arith
not-coding false false true d e = omega arith
not-coding false false false true e = omega arith
not-coding false false false false e = omega arith

not-writing : (a b c d f : Bool) (u : ℕ) → number_of_verdict (verdict (when a Compressed ∷ when b NoText ∷ when false Prefixed ∷ when false Prefixed ∷ when c (Unlisted u) ∷ when d TooLong ∷ when f NoRoom ∷ [])) ≡ 3 → ⊥
unfolding verdict
not-writing true b c d f u e = omega arith
not-writing false true c d f u e = omega arith
not-writing false false true d f u e = omega arith
not-writing false false false true f u e = omega arith
not-writing false false false false true u e = omega arith
not-writing false false false false false u e = omega arith

-- a reading that a short message's octet has bears neither mark
written-unmarked : (r : Reading) → verdict (coding_rules ShortMessage r) ≡ accepted → (r.prefix ≡ false) × (r.header ≡ false)
unfolding coding_writes
written-unmarked r v =
    let c : coding_writes ShortMessage r ≡ Ok (smallest ShortMessage r) = settle-given (verdict (coding_rules ShortMessage r)) Err (Ok (smallest ShortMessage r)) v in
    let w = (coding-written ShortMessage r (smallest ShortMessage r) c).1 in
    let same : read_short (smallest ShortMessage r) ≡ without_letters r = read-given ShortMessage (smallest ShortMessage r) (without_letters r) (sym (write_read ShortMessage r (smallest ShortMessage r) w)) in
    let p = short-reads (smallest ShortMessage r) (settled ShortMessage r (smallest ShortMessage r) w).within in
    (ap (λ (x : Reading). x.prefix) (sym same) ∙ p.0, ap (λ (x : Reading). x.header) (sym same) ∙ p.1)

pub write-short-never-3 : (r : Reading) (t : List ℕ) (room : ℕ) → write_answers ShortMessage r t room ≡ Err Prefixed → ⊥
unfolding write_rules coding_rules alone_rules text_rules text_size_rules
write-short-never-3 r t room e = go (part (coding_rules ShortMessage r) (text_rules ShortMessage r ++ size_rules ShortMessage r t room) 3 (ap number_of_verdict (write-verdict ShortMessage r t room (Err Prefixed) (sym e))))
  where
    go : (number_of_verdict (verdict (coding_rules ShortMessage r)) ≡ 3) ⊎ ((verdict (coding_rules ShortMessage r) ≡ accepted) × (number_of_verdict (verdict (text_rules ShortMessage r ++ size_rules ShortMessage r t room)) ≡ 3)) → ⊥
    go (inl n) = not-coding _ _ _ _ n
    go (inr (v, n)) =
        let u = written-unmarked r v in
        not-writing r.compressed (is_data r.alphabet) _ _ _ _
        (ap₂ (λ (a b : Bool). number_of_verdict (verdict (when r.compressed Compressed ∷ when (is_data r.alphabet) NoText ∷ when a Prefixed ∷ when b Prefixed ∷ size_rules ShortMessage r t room))) (sym u.0) (sym u.1) ∙ n)

old-page : (a b c : Bool) (q : Refusal) → verdict (when a NoText ∷ when false Compressed ∷ when false NoText ∷ when false Prefixed ∷ when false Prefixed ∷ when b WrongLength ∷ when c NoRoom ∷ []) ≡ refused q
    → (q ≡ NoText) ⊎ ((q ≡ WrongLength) ⊎ (q ≡ NoRoom))
unfolding verdict
old-page true b c q h = inl (sym (cc))
old-page false true c q h = inr (inl (sym (cc)))
old-page false false true q h = inr (inr (sym (cc)))
old-page false false false q h = absurd (let z : ◌≡◌ {A = ℕ} 0 1 = cc in omega arith)

pub read-old-2-4-7 : (coding count : ℕ) (o : List ℕ) (room : ℕ) (q : Refusal) → read_answers OldPage coding count o room ≡ Err q → (q ≡ NoText) ⊎ ((q ≡ WrongLength) ⊎ (q ≡ NoRoom))
unfolding read_rules octet_rules text_rules text_length_rules
read-old-2-4-7 coding count o room q e = old-page _ _ _ q (read-verdict OldPage coding count o room (Err q) (sym e))
