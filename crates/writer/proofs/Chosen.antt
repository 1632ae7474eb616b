-- What a reading settles decides every call that writes text: behind 8, 1, 2, 3 there is a text by itself, under a coding octet, and other rules of that text.
-- Assumes nothing.
--   front                    the rules of a reading, in front of others
--   front-behind             rules behind some that stand behind it
--   Chosen, chosen           what is settled says of them: the others alone, the coding octet and the alphabet; or the refusal
use mathlib.Core.Path.{◌≡◌, refl, ap, ◌∙◌, sym, subst}
use mathlib.Core.Bool.{Bool, true, false}
use mathlib.Core.List.{List, ◌++◌, append_assoc}
use Prim.Native.Nat.{ℕ}
use Rattle.words.specs.declared.Service.{Service}
use Rattle.words.specs.declared.Refusal.{Refusal}
use Rattle.words.specs.Judging.{Rule, Verdict, refused, verdict}
use Rattle.words.proofs.Judging.{verdict-refused-first, verdict-accepted-first}
use Rattle.coding.specs.declared.Reading.{Reading}
use Rattle.coding.specs.declared.Held.{Held}
use Rattle.coding.specs.OctetWritten.{smallest}
use Rattle.coding.specs.LanguageLetters.{coding_rules, coding_writes}
use Rattle.coding.specs.Holding.{holds_units, is_ucs2, text_rules, holds_text}
use Rattle.demands.proofs.Steps.{coding-verdict, held-verdict, held_as, told_text, written-given, holds-text, held-units}
use Rattle.writer.specs.Settled.{settled_by, settled_as}
use Rattle.std.specs.Prelude.{Result, Ok, Err}
use Rattle.writer.specs.declared.TextCoding.{TextCoding}

abbrev pub front : Service → Reading → List Rule → Verdict
front service r rest = verdict (coding_rules service r ++ (text_rules service r ++ rest))

pub front-behind : (service : Service) (r : Reading) (s x : List Rule) → verdict ((coding_rules service r ++ (text_rules service r ++ s)) ++ x) ≡ front service r (s ++ x)
front-behind service r s x =
    let a = coding_rules service r in
    let b = text_rules service r in
    ap verdict (append_assoc a (b ++ s) x ∙ ap (λ (l : List Rule). a ++ l) (append_assoc b s x))

module _ (service : Service) (r : Reading) (rest : List Rule) where
  front-text : (coding : ℕ) (ucs2 : Bool) → Ok coding ≡ coding_writes service r → held_as ucs2 ≡ holds_text service r → front service r rest ≡ verdict rest
  front-text coding ucs2 e h =
      verdict-accepted-first (coding_rules service r) (text_rules service r ++ rest) (coding-verdict service r (Ok coding) e)
      ∙ verdict-accepted-first (text_rules service r) rest (held-verdict service r (held_as ucs2) h ∙ told_text ucs2)

  front-none : (coding : ℕ) (q : Refusal) → Ok coding ≡ coding_writes service r → Err q ≡ holds_text service r → front service r rest ≡ refused q
  front-none coding q e h =
      verdict-accepted-first (coding_rules service r) (text_rules service r ++ rest) (coding-verdict service r (Ok coding) e)
      ∙ verdict-refused-first (text_rules service r) rest q (held-verdict service r (Err q) h)

  front-refused : (q : Refusal) → Err q ≡ coding_writes service r → front service r rest ≡ refused q
  front-refused q e = verdict-refused-first (coding_rules service r) (text_rules service r ++ rest) q (coding-verdict service r (Err q) e)

abbrev pub Chosen : Service → Reading → Result TextCoding Refusal → Type 0
Chosen service r (Ok c) = ((rest : List Rule) → front service r rest ≡ verdict rest) × (smallest service r ≡ c.octet) × (is_ucs2 r.alphabet ≡ c.ucs2)
Chosen service r (Err q) = (rest : List Rule) → front service r rest ≡ refused q

pub chosen : (service : Service) (r : Reading) (s : Result TextCoding Refusal) → s ≡ settled_as service r → Chosen service r s
unfolding settled_as
chosen service r s e = subst (Chosen service r) (sym e) (go (coding_writes service r) refl (holds_text service r) refl)
  where
    go : (w : Result ℕ Refusal) → w ≡ coding_writes service r → (h : Result Held Refusal) → h ≡ holds_text service r → Chosen service r (settled_by service w h)
    go (Ok coding) e (Ok h) f = let held = held-units h ∙ f in (λ rest. front-text service r rest coding (holds_units h) e held, written-given service r coding e, holds-text service r (holds_units h) held)
    go (Ok coding) e (Err q) f = λ rest. front-none service r rest coding q e f
    go (Err q) e h f = λ rest. front-refused service r rest q e
