-- How the whole reader and the whole writer come to their verdict, one call of another crate after the other.
-- Assumes nothing.
use Rattle.words.proofs.Rules.{verdict_of}
use mathlib.Core.Path.{◌≡◌, refl, ap, ap₂, ◌∙◌, sym}
use mathlib.Core.Bool.{Bool, true, false, cond}
use mathlib.Core.List.{List, [], ◌∷◌, ◌++◌}
use Prim.Native.Nat.{ℕ}
use native.Mathlib.Omega.{arith}
use lib.ListN.{length}
use Rattle.words.specs.declared.Service.{Service}
use Rattle.words.specs.declared.Service.TheVariants.{ShortMessage, Broadcast, Ussd, OldPage}
use Rattle.words.specs.declared.Refusal.{Refusal}
use Rattle.words.specs.declared.Refusal.TheVariants.{Unwritable, Compressed, NoText, Prefixed}
use Rattle.words.specs.Sizes.{is_old_page}
use Rattle.lists.specs.Lists.{laid}
use Rattle.words.specs.Judging.{Rule, when, Verdict, refused, accepted, verdict, settle}
use Rattle.words.proofs.Judging.{accepted-rule, verdict-refused-first, verdict-accepted-first, settle-told, settle-given}
use Rattle.coding.specs.declared.Reading.{Reading}
use Rattle.coding.specs.declared.Held.{Held}
use Rattle.coding.specs.OctetRead.{octet_rules, read_under, octet_reads}
use Rattle.coding.specs.OctetWritten.{smallest}
use Rattle.coding.specs.LanguageLetters.{is_lettered, coding_rules, coding_writes}
use Rattle.coding.specs.Holding.{holds_units, is_ucs2, is_data, text_rules, holds_text}
use Rattle.coding.proofs.Theorems.{settled}
use Rattle.coding.proofs.TextOctet.{coding-written}
use Rattle.coding.proofs.Prefixed.{read-given}
use Rattle.stream.specs.SeptetCalls.{travels}
use Rattle.stream.specs.UnitCalls.{ucs2_octets_of, unit_count_of, to_octets_rules, to_octets_answers, to_octets_leaves, to_units_answers, to_units_leaves, to_units_rules}
use Rattle.demands.specs.declared.MessageWritten.{MessageWritten}
use Rattle.demands.specs.MessageRead.{held_text, text_length_rules, text_reads, text_read_leaves, text_of_message, length_rules, heard_rules, reading_of_message, read_rules, read_answers, read_leaves}
use Rattle.demands.specs.MessageWritten.{text_octets, text_count, text_size_rules, text_writes, text_write_leaves, message_octets, message_count, size_rules, mark_rules, write_rules, write_answers, write_leaves}
use Rattle.demands.specs.Demands.{HoldsText}
use Rattle.demands.specs.Inner.{held_reads, held_read_leaves, shown_as, units_as}
use Rattle.demands.proofs.Unlettered.{unmarked, mark-rules, size-rules, octets-same, heard-rules, length-rules, text_same, reading-same}
use Rattle.std.specs.Prelude.{Result, Ok, Err}
use Rattle.coding.specs.declared.Held.TheVariants as held
use Rattle.demands.specs.Successes.{ok_message_written}
use Rattle.demands.specs.Successes.{ok_message_read}

-- ---- the verdict that an answer tells

pub octet-verdict : (s : Service) (o : ℕ) (a : Result Reading Refusal) → a ≡ octet_reads s o → verdict (octet_rules s o) ≡ verdict_of a
unfolding octet_reads
octet-verdict s o a e = settle-told verdict_of Err (Ok (read_under s o)) (λ q. refl) refl (verdict (octet_rules s o)) a e

pub coding-verdict : (s : Service) (r : Reading) (a : Result ℕ Refusal) → a ≡ coding_writes s r → verdict (coding_rules s r) ≡ verdict_of a
unfolding coding_writes
coding-verdict s r a e = settle-told verdict_of Err (Ok (smallest s r)) (λ q. refl) refl (verdict (coding_rules s r)) a e

pub held-verdict : (s : Service) (r : Reading) (a : Result Held Refusal) → a ≡ holds_text s r → verdict (text_rules s r) ≡ verdict_of a
unfolding holds_text
held-verdict s r a e = settle-told verdict_of Err (Ok (cond (is_ucs2 r.alphabet) held.Units held.Septets)) (λ q. refl) refl (verdict (text_rules s r)) a e

pub written-given : (s : Service) (r : Reading) (o : ℕ) → Ok o ≡ coding_writes s r → smallest s r ≡ o
unfolding coding_writes
written-given s r o e =
    let d : Ok o ≡ Ok (smallest s r) = e ∙ settle-given (verdict (coding_rules s r)) Err (Ok (smallest s r)) (coding-verdict s r (Ok o) e) in
    sym (cc)

-- what is left in a buffer, and what a reader and a writer answer, at equal verdicts and equal contents
pub leaves-agree : {v w : Verdict} {x y : List ℕ} (out : List ℕ) → v ≡ w → x ≡ y → settle w (λ q. out) (laid y out) ≡ settle v (λ q. out) (laid x out)
leaves-agree out e t = sym (ap₂ (λ (w : Verdict) (x : List ℕ). settle w (λ q. out) (laid x out)) e t)

read-agree : {v w : Verdict} {x y : List ℕ} {r q : Reading} → v ≡ w → x ≡ y → r ≡ q → settle w Err (ok_message_read (length y) q) ≡ settle v Err (ok_message_read (length x) r)
read-agree {v} {w} {x} {y} {r} {q} e t s =
    sym (ap₂ (λ (w : Verdict) (x : List ℕ). settle w Err (ok_message_read (length x) r)) e t ∙ ap (λ (r : Reading). settle w Err (ok_message_read (length y) r)) s)

-- ---- reading a message: by its coding octet

module _ (service : Service) (coding count : ℕ) (o : List ℕ) where
  on-reading : (r : Reading) (room : ℕ) → Ok r ≡ octet_reads service coding
      → verdict (read_rules service coding count o room) ≡ verdict (heard_rules service r ++ length_rules service r count o room)
  unfolding read_rules
  on-reading r room e =
      verdict-accepted-first (octet_rules service coding) (heard_rules service (read_under service coding) ++ length_rules service (read_under service coding) count o room) (octet-verdict service coding (Ok r) e)
      ∙ ap (λ (x : Reading). verdict (heard_rules service x ++ length_rules service x count o room)) (read-given service coding r e)

  -- a reading that the octet has, and whatever text and verdict that reading has
  pub read_held : (r s : Reading) (x : List ℕ) (v : Verdict) (out : List ℕ) → Ok r ≡ octet_reads service coding
      → verdict (heard_rules service r ++ length_rules service r count o (length out)) ≡ v → text_of_message service r count o ≡ x → reading_of_message service r o ≡ s
      → (settle v Err (ok_message_read (length x) s) ≡ read_answers service coding count o (length out)) × (settle v (λ q. out) (laid x out) ≡ read_leaves service coding count o out)
  unfolding read_answers read_leaves
  read_held r s x v out e p t u =
      let w = on-reading r (length out) e ∙ p in
      let same = read-given service coding r e in
      let held = ap (λ (x : Reading). text_of_message service x count o) same ∙ t in
      (read-agree w held (ap (λ (x : Reading). reading_of_message service x o) same ∙ u), leaves-agree out w held)

  pub read_done : (r : Reading) (out : List ℕ) → Ok r ≡ octet_reads service coding → is_lettered service r ≡ false
      → (held_reads service r count o (length out) ≡ read_answers service coding count o (length out)) × (held_read_leaves service r count o out ≡ read_leaves service coding count o out)
  unfolding held_reads held_read_leaves
  read_done r out e l =
      read_held r r (held_text service (is_ucs2 r.alphabet) count o) _ out e
      (ap₂ (λ (a b : List Rule). verdict (a ++ b)) (heard-rules service r l) (length-rules service r l count o (length out)))
      (text_same service r l count o) (reading-same service r l o)

  pub read-refused : (q : Refusal) (out : List ℕ) → Err q ≡ octet_reads service coding
      → (Err q ≡ read_answers service coding count o (length out)) × (out ≡ read_leaves service coding count o out)
  unfolding read_answers read_leaves read_rules
  read-refused q out e =
      let r = read_under service coding in
      let x = text_of_message service r count o in
      let s = reading_of_message service r o in
      let v = verdict-refused-first (octet_rules service coding) (heard_rules service (read_under service coding) ++ length_rules service (read_under service coding) count o (length out)) q (octet-verdict service coding (Err q) e) in
      (read-agree {x = x} {r = s} v refl refl, leaves-agree {x = x} out v refl)

-- ---- reading a message: by what its reading holds

shown-settle : (v : Verdict) (n : ℕ) (r : Reading) → shown_as r (settle v Err (Ok n)) ≡ settle v Err (ok_message_read n r)
shown-settle (refused q) n r = refl
shown-settle accepted n r = refl

units-settle : (v : Verdict) (n : ℕ) (s : Service) (coding : ℕ) → units_as s coding (settle v Err (Ok n)) ≡ settle v Err (ok_message_written n (travels s n) coding)
units-settle (refused q) n s coding = refl
units-settle accepted n s coding = refl

-- 7-bit text or UCS2, by the test of the alphabet
abbrev pub held_as : Bool → Result Held Refusal
held_as ucs2 = Ok (cond ucs2 held.Units held.Septets)

pub told_text : (ucs2 : Bool) → verdict_of (held_as ucs2) ≡ accepted
told_text ucs2 = refl

-- the same of the text that a reading holds
pub held-units : (h : Held) → held_as (holds_units h) ≡ Ok h
held-units held.Septets = refl
held-units held.Units = refl

pub holds-text : (s : Service) (r : Reading) (ucs2 : Bool) → held_as ucs2 ≡ holds_text s r → is_ucs2 r.alphabet ≡ ucs2
unfolding holds_text
holds-text s r ucs2 e =
    which ucs2 (is_ucs2 r.alphabet) (e ∙ settle-given (verdict (text_rules s r)) Err (held_as (is_ucs2 r.alphabet)) (held-verdict s r (held_as ucs2) e ∙ told_text ucs2))
  where
    which : (a b : Bool) → held_as a ≡ held_as b → b ≡ a
    which true true e = refl
    which true false e = let z : ◌≡◌ {A = ℕ} 0 1 = cc in absurd (omega arith)
    which false true e = let z : ◌≡◌ {A = ℕ} 0 1 = cc in absurd (omega arith)
    which false false e = refl

pub text-accepted : (s : Service) (r : Reading) → verdict (text_rules s r) ≡ accepted → HoldsText r
unfolding text_rules
text-accepted s r e =
    let one = accepted-rule r.compressed Compressed (when (is_data r.alphabet) NoText ∷ when r.prefix Prefixed ∷ when r.header Prefixed ∷ []) e in
    let two = accepted-rule (is_data r.alphabet) NoText (when r.prefix Prefixed ∷ when r.header Prefixed ∷ []) one.1 in
    let three = accepted-rule r.prefix Prefixed (when r.header Prefixed ∷ []) two.1 in
    record { clear = one.0; text = two.0; unmarked = three.0; unheaded = (accepted-rule r.header Prefixed [] three.1).0 }

-- what holds text has no prefix mark, so no letters are in front of it
held-unlettered : (s : Service) (r : Reading) (ucs2 : Bool) → held_as ucs2 ≡ holds_text s r → is_lettered s r ≡ false
held-unlettered s r ucs2 e = unmarked s r (text-accepted s r (held-verdict s r (held_as ucs2) e ∙ told_text ucs2)).unmarked

module _ (service : Service) (r : Reading) (count : ℕ) (o out : List ℕ) where
  pub held-text : (ucs2 : Bool) → held_as ucs2 ≡ holds_text service r
      → (shown_as r (text_reads service ucs2 count o (length out)) ≡ held_reads service r count o (length out)) × (text_read_leaves service ucs2 count o out ≡ held_read_leaves service r count o out)
  unfolding held_reads held_read_leaves text_reads text_read_leaves
  held-text ucs2 e =
      let b = holds-text service r ucs2 e in
      let v =
      verdict-accepted-first (text_rules service r) (text_length_rules service (is_ucs2 r.alphabet) count o (length out)) (held-verdict service r (held_as ucs2) e ∙ told_text ucs2)
      ∙ ap (λ (x : Bool). verdict (text_length_rules service x count o (length out))) b
      in
      let t = ap (λ (x : Bool). held_text service x count o) b in
      (shown-settle (verdict (text_length_rules service ucs2 count o (length out))) (length (held_text service ucs2 count o)) r ∙ read-agree {r = r} v t refl, leaves-agree out v t)

  pub held-refused : (q : Refusal) → Err q ≡ holds_text service r
      → (Err q ≡ held_reads service r count o (length out)) × (out ≡ held_read_leaves service r count o out)
  unfolding held_reads held_read_leaves
  held-refused q e =
      let v = verdict-refused-first (text_rules service r) (text_length_rules service (is_ucs2 r.alphabet) count o (length out)) q (held-verdict service r (Err q) e) in
      let x = held_text service (is_ucs2 r.alphabet) count o in
      (read-agree {x = x} {r = r} v refl refl, leaves-agree {x = x} out v refl)

pub units-read : (service : Service) (count : ℕ) (o out : List ℕ)
    → (to_units_answers service o count (length out) ≡ text_reads service true count o (length out)) × (to_units_leaves service o count out ≡ text_read_leaves service true count o out)
unfolding text_reads text_read_leaves text_length_rules to_units_answers to_units_leaves to_units_rules
units-read service count o out = (refl, refl)

-- ---- writing a message: by its coding octet

pub write-agree : {v w : Verdict} {x y : List ℕ} {m n c d : ℕ} → v ≡ w → x ≡ y → m ≡ n → c ≡ d → settle w Err (ok_message_written (length y) n d) ≡ settle v Err (ok_message_written (length x) m c)
write-agree {v} {w} {x} {y} {m} {n} {c} {d} e t p q =
    sym (ap₂ (λ (w : Verdict) (x : List ℕ). settle w Err (ok_message_written (length x) m c)) e t
    ∙ ap₂ (λ (m c : ℕ). settle w Err (ok_message_written (length y) m c)) p q)

-- the writer of a text by itself behind the coding octet: 1, 2, 3, 6, 5, 7
unfoldable held_writes : Service → Reading → ℕ → List ℕ → ℕ → Result MessageWritten Refusal
held_writes service r coding units room =
    settle (verdict (text_rules service r ++ text_size_rules service (is_ucs2 r.alphabet) units room)) Err
    (ok_message_written (length (text_octets service (is_ucs2 r.alphabet) units)) (message_count service r units) coding)

unfoldable held_write_leaves : Service → Reading → List ℕ → List ℕ → List ℕ
held_write_leaves service r units out =
    settle (verdict (text_rules service r ++ text_size_rules service (is_ucs2 r.alphabet) units (length out))) (λ q. out)
    (laid (text_octets service (is_ucs2 r.alphabet) units) out)

module _ (service : Service) (r : Reading) (units out : List ℕ) where
  -- a coding octet, and whatever octets and verdict the reading has behind it
  pub write-held : (coding : ℕ) (x : List ℕ) (v : Verdict) → Ok coding ≡ coding_writes service r
      → verdict (mark_rules service r ++ size_rules service r units (length out)) ≡ v → message_octets service r units ≡ x
      → (settle v Err (ok_message_written (length x) (message_count service r units) coding) ≡ write_answers service r units (length out)) × (settle v (λ q. out) (laid x out) ≡ write_leaves service r units out)
  unfolding write_answers write_leaves write_rules
  write-held coding x v e p t =
      let w = verdict-accepted-first (coding_rules service r) (mark_rules service r ++ size_rules service r units (length out)) (coding-verdict service r (Ok coding) e) ∙ p in
      (write-agree {m = message_count service r units} w t refl (written-given service r coding e), leaves-agree out w t)

  write_done : (coding : ℕ) → Ok coding ≡ coding_writes service r → is_lettered service r ≡ false
      → (held_writes service r coding units (length out) ≡ write_answers service r units (length out)) × (held_write_leaves service r units out ≡ write_leaves service r units out)
  unfolding held_writes held_write_leaves
  write_done coding e l =
      write-held coding (text_octets service (is_ucs2 r.alphabet) units) _ e
      (ap₂ (λ (a b : List Rule). verdict (a ++ b)) (mark-rules service r l) (size-rules service r l units (length out)))
      (octets-same service r l units)

  pub write-refused : (q : Refusal) → Err q ≡ coding_writes service r
      → (Err q ≡ write_answers service r units (length out)) × (out ≡ write_leaves service r units out)
  unfolding write_answers write_leaves write_rules
  write-refused q e =
      let v = verdict-refused-first (coding_rules service r) (mark_rules service r ++ size_rules service r units (length out)) q (coding-verdict service r (Err q) e) in
      (write-agree {x = message_octets service r units} {m = message_count service r units} {c = smallest service r} v refl refl refl, leaves-agree {x = message_octets service r units} out v refl)

-- ---- writing a message: by what its reading holds

units-count : (service : Service) (units : List ℕ) → unit_count_of service units ≡ travels service (length (ucs2_octets_of service units))
units-count ShortMessage units = refl
units-count Broadcast units = refl
units-count Ussd units = refl
units-count OldPage units = refl

-- where the service writes, 8 is no rule of a text
new-rules : (service : Service) (rules : List Rule) → is_old_page service ≡ false → verdict (when (is_old_page service) Unwritable ∷ rules) ≡ verdict rules
unfolding verdict
new-rules service rules new = simp new

-- nor is 6 a rule of UCS2
units-rules : (service : Service) (units : List ℕ) (room : ℕ) → verdict (when (is_old_page service) Unwritable ∷ text_size_rules service true units room) ≡ verdict (to_octets_rules service units room)
unfolding text_size_rules to_octets_rules verdict
units-rules service units room = refl

pub old-writes : (service : Service) (ucs2 : Bool) (coding : ℕ) (units out : List ℕ) → is_old_page service ≡ true
    → (Err Unwritable ≡ text_writes service ucs2 coding units (length out)) × (out ≡ text_write_leaves service ucs2 units out)
unfolding text_writes text_write_leaves verdict
old-writes service ucs2 coding units out old = simp old (refl, refl)

pub units-write : (service : Service) (coding : ℕ) (units out : List ℕ)
    → (units_as service coding (to_octets_answers service units (length out)) ≡ text_writes service true coding units (length out)) × (to_octets_leaves service units out ≡ text_write_leaves service true units out)
unfolding text_writes text_write_leaves to_octets_answers to_octets_leaves
units-write service coding units out =
    let v = units-rules service units (length out) in
    (units-settle (verdict (to_octets_rules service units (length out))) (length (ucs2_octets_of service units)) service coding ∙ write-agree {x = ucs2_octets_of service units} {c = coding} v refl (units-count service units) refl, leaves-agree {x = ucs2_octets_of service units} out v refl)

module _ (service : Service) (r : Reading) (coding : ℕ) (units out : List ℕ) where
  held-writes-text : (ucs2 : Bool) → held_as ucs2 ≡ holds_text service r → is_old_page service ≡ false
      → (text_writes service ucs2 coding units (length out) ≡ held_writes service r coding units (length out)) × (text_write_leaves service ucs2 units out ≡ held_write_leaves service r units out)
  unfolding held_writes held_write_leaves text_writes text_write_leaves
  held-writes-text ucs2 e new =
      let b = holds-text service r ucs2 e in
      let v =
      verdict-accepted-first (text_rules service r) (text_size_rules service (is_ucs2 r.alphabet) units (length out)) (held-verdict service r (held_as ucs2) e ∙ told_text ucs2)
      ∙ ap (λ (x : Bool). verdict (text_size_rules service x units (length out))) b
      ∙ sym (new-rules service (text_size_rules service ucs2 units (length out)) new)
      in
      let t = ap (λ (x : Bool). text_octets service x units) b in
      let n = ap (λ (x : Bool). text_count service x units) b in
      (write-agree {c = coding} v t n refl, leaves-agree out v t)

  held-writes-refused : (q : Refusal) → Err q ≡ holds_text service r
      → (Err q ≡ held_writes service r coding units (length out)) × (out ≡ held_write_leaves service r units out)
  unfolding held_writes held_write_leaves
  held-writes-refused q e =
      let v = verdict-refused-first (text_rules service r) (text_size_rules service (is_ucs2 r.alphabet) units (length out)) q (held-verdict service r (Err q) e) in
      let x = text_octets service (is_ucs2 r.alphabet) units in
      (write-agree {x = x} {m = message_count service r units} {c = coding} v refl refl refl, leaves-agree {x = x} out v refl)

-- ---- a text by itself, for a caller that knows the coding octet and what its reading holds

pub text-reads : (service : Service) (coding count : ℕ) (o out : List ℕ) (r : Reading) (ucs2 : Bool) → Ok r ≡ octet_reads service coding → held_as ucs2 ≡ holds_text service r
    → (shown_as r (text_reads service ucs2 count o (length out)) ≡ read_answers service coding count o (length out)) × (text_read_leaves service ucs2 count o out ≡ read_leaves service coding count o out)
text-reads service coding count o out r ucs2 e h =
    let t = held-text service r count o out ucs2 h in
    let d = read_done service coding count o r out e (held-unlettered service r ucs2 h) in
    (t.0 ∙ d.0, t.1 ∙ d.1)

pub none_reads : (service : Service) (coding count : ℕ) (o out : List ℕ) (r : Reading) (q : Refusal) → Ok r ≡ octet_reads service coding → is_lettered service r ≡ false → Err q ≡ holds_text service r
    → (Err q ≡ read_answers service coding count o (length out)) × (out ≡ read_leaves service coding count o out)
none_reads service coding count o out r q e l h =
    let t = held-refused service r count o out q h in
    let d = read_done service coding count o r out e l in
    (t.0 ∙ d.0, t.1 ∙ d.1)

pub text-writes : (service : Service) (r : Reading) (coding : ℕ) (units out : List ℕ) (ucs2 : Bool) → Ok coding ≡ coding_writes service r → held_as ucs2 ≡ holds_text service r
    → (text_writes service ucs2 coding units (length out) ≡ write_answers service r units (length out)) × (text_write_leaves service ucs2 units out ≡ write_leaves service r units out)
text-writes service r coding units out ucs2 e h =
    let t = held-writes-text service r coding units out ucs2 h (settled service r coding (coding-written service r coding (sym e)).1).new in
    let d = write_done service r units out coding e (held-unlettered service r ucs2 h) in
    (t.0 ∙ d.0, t.1 ∙ d.1)

pub none-writes : (service : Service) (r : Reading) (coding : ℕ) (units out : List ℕ) (q : Refusal) → Ok coding ≡ coding_writes service r → is_lettered service r ≡ false → Err q ≡ holds_text service r
    → (Err q ≡ write_answers service r units (length out)) × (out ≡ write_leaves service r units out)
none-writes service r coding units out q e l h =
    let t = held-writes-refused service r coding units out q h in
    let d = write_done service r units out coding e l in
    (t.0 ∙ d.0, t.1 ∙ d.1)
