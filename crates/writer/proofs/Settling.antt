-- What is settled of a text and then written is the whole writer's. Assumes nothing.
--   settled-writes  writing what a reading settles of a text by itself is writing the message, but for a page behind letters
--   coded-writes    writing what a reading settles of one message is writing the message
--   plain-settled   plain text is held, 7-bit or UCS2
use mathlib.Core.Path.{◌≡◌, refl, ap, sym, ◌∙◌}
use mathlib.Core.Bool.{Bool, true, false, cond}
use mathlib.Core.List.{List}
use Prim.Native.Nat.{ℕ}
use lib.ListN.{length}
use Rattle.words.specs.declared.Service.{Service}
use Rattle.words.specs.Judging.{verdict}
use Rattle.coding.specs.declared.Reading.{Reading}
use Rattle.coding.specs.declared.Held.{Held}
use Rattle.coding.specs.LanguageLetters.{is_lettered, coding_writes}
use Rattle.coding.specs.Holding.{holds_units, text_rules, holds_text}
use Rattle.coding.specs.Readings.{plain_in}
use Rattle.demands.specs.MessageWritten.{write_answers, write_leaves}
use Rattle.demands.proofs.Steps.{held-units, text-writes, none-writes, write-refused}
use Rattle.demands.proofs.LetteredSteps.{lettered-writes}
use Rattle.writer.specs.declared.TextCoding.{TextCoding}
use Rattle.writer.specs.Settled.{settled_by, settled_as, settled_writes, settled_leaves}
use Rattle.writer.specs.Coded.{lettered_by, text_by, coded_as, coded_writes, coded_leaves}
use Rattle.std.specs.Prelude.{Result, Ok, Err}
use Rattle.words.specs.declared.Refusal.{Refusal}

pub settled-writes : (s : Service) (r : Reading) (us out : List ℕ) → is_lettered s r ≡ false
    → (settled_writes (settled_as s r) us (length out) ≡ write_answers s r us (length out)) × (settled_leaves (settled_as s r) us out ≡ write_leaves s r us out)
unfolding settled_as
settled-writes s r us out l = go (coding_writes s r) refl (holds_text s r) refl
  where
    go : (w : Result ℕ Refusal) → w ≡ coding_writes s r → (h : Result Held Refusal) → h ≡ holds_text s r
        → (settled_writes (settled_by s w h) us (length out) ≡ write_answers s r us (length out)) × (settled_leaves (settled_by s w h) us out ≡ write_leaves s r us out)
    go (Ok octet) e (Ok h) f = text-writes s r octet us out (holds_units h) e (held-units h ∙ f)
    go (Ok octet) e (Err q) f = none-writes s r octet us out q e l f
    go (Err q) e h f = write-refused s r us out q e

-- what is settled of a message, by whether it begins with letters
pub coded-lettered : (s : Service) (r : Reading) → is_lettered s r ≡ true → lettered_by r (coding_writes s r) ≡ coded_as s r
unfolding coded_as
coded-lettered s r l = ap (λ (b : Bool). cond b (lettered_by r (coding_writes s r)) (text_by (settled_as s r))) (sym l)

pub coded-text : (s : Service) (r : Reading) → is_lettered s r ≡ false → text_by (settled_as s r) ≡ coded_as s r
unfolding coded_as
coded-text s r l = ap (λ (b : Bool). cond b (lettered_by r (coding_writes s r)) (text_by (settled_as s r))) (sym l)

-- a text by itself is written as what is settled of it
pub text-settled : (x : Result TextCoding Refusal) (us out : List ℕ)
    → (coded_writes (text_by x) us (length out) ≡ settled_writes x us (length out)) × (coded_leaves (text_by x) us out ≡ settled_leaves x us out)
text-settled (Ok c) us out = (refl, refl)
text-settled (Err q) us out = (refl, refl)

pub coded-writes : (s : Service) (r : Reading) (us out : List ℕ)
    → (coded_writes (coded_as s r) us (length out) ≡ write_answers s r us (length out)) × (coded_leaves (coded_as s r) us out ≡ write_leaves s r us out)
unfolding coded_as
coded-writes s r us out = go (is_lettered s r) refl
  where
    octet : (w : Result ℕ Refusal) → w ≡ coding_writes s r → is_lettered s r ≡ true
        → (coded_writes (lettered_by r w) us (length out) ≡ write_answers s r us (length out)) × (coded_leaves (lettered_by r w) us out ≡ write_leaves s r us out)
    octet (Ok o) e l = lettered-writes s r o us out e l
    octet (Err q) e l = write-refused s r us out q e

    go : (b : Bool) → is_lettered s r ≡ b
        → (coded_writes (cond b (lettered_by r (coding_writes s r)) (text_by (settled_as s r))) us (length out) ≡ write_answers s r us (length out))
        × (coded_leaves (cond b (lettered_by r (coding_writes s r)) (text_by (settled_as s r))) us out ≡ write_leaves s r us out)
    go true l = octet (coding_writes s r) refl l
    go false l = let t = text-settled (settled_as s r) us out in let w = settled-writes s r us out l in (t.0 ∙ w.0, t.1 ∙ w.1)

pub plain-settled : (s : Service) (ucs2 : Bool) (octet : ℕ)
    → Ok (record { service = s; octet = octet; ucs2 = ucs2 }) ≡ settled_by s (Ok octet) (holds_text s (plain_in ucs2))
unfolding holds_text text_rules verdict
plain-settled s true octet = refl
plain-settled s false octet = refl
