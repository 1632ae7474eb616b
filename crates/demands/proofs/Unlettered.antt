-- One message that does not begin with letters is a text by itself: each definition of it chooses by that one test.
-- Assumes nothing.
--   unmarked           a reading without the prefix mark has no letters in front of its text, under any service
--   mark-rules, size-rules, octets-same            the writer's rules and octets are those of the text
--   heard-rules, length-rules, text_same, reading-same  the reader's rules, text and reading are
use mathlib.Core.Path.{◌≡◌, refl, ap}
use mathlib.Core.Bool.{Bool, false, cond}
use mathlib.Core.List.{List}
use Prim.Native.Nat.{ℕ}
use Rattle.words.specs.declared.Service.{Service}
use Rattle.words.specs.declared.Service.TheVariants.{ShortMessage, Broadcast, Ussd, OldPage}
use Rattle.coding.specs.declared.Reading.{Reading}
use Rattle.coding.specs.Readings.{with_letters}
use Rattle.coding.specs.LanguageLetters.{is_lettered}
use Rattle.coding.specs.Holding.{is_ucs2, text_rules}
use Rattle.lettered.specs.LetteredPage.{lettered_octets, lettered_size_rules, letters_in, lettered_text, lettered_read_rules}
use Rattle.demands.specs.MessageRead.{held_text, text_length_rules, text_of_message, length_rules, reading_of_message, clear_rules, heard_rules}
use Rattle.demands.specs.MessageWritten.{text_octets, text_size_rules, message_octets, size_rules, letter_rules, mark_rules}

pub unmarked : (s : Service) (r : Reading) → r.prefix ≡ false → is_lettered s r ≡ false
unmarked ShortMessage r e = refl
unmarked Broadcast r e = e
unmarked Ussd r e = refl
unmarked OldPage r e = refl

module _ (s : Service) (r : Reading) (e : is_lettered s r ≡ false) where
  pub mark-rules : mark_rules s r ≡ text_rules s r
  mark-rules = ap (λ (b : Bool). cond b (letter_rules r) (text_rules s r)) e

  pub size-rules : (t : List ℕ) (room : ℕ) → size_rules s r t room ≡ text_size_rules s (is_ucs2 r.alphabet) t room
  size-rules t room = ap (λ (b : Bool). cond b (lettered_size_rules (is_ucs2 r.alphabet) r.letters t room) (text_size_rules s (is_ucs2 r.alphabet) t room)) e

  pub octets-same : (t : List ℕ) → message_octets s r t ≡ text_octets s (is_ucs2 r.alphabet) t
  octets-same t = ap (λ (b : Bool). cond b (lettered_octets (is_ucs2 r.alphabet) r.letters t) (text_octets s (is_ucs2 r.alphabet) t)) e

  pub heard-rules : heard_rules s r ≡ text_rules s r
  heard-rules = ap (λ (b : Bool). cond b (clear_rules r) (text_rules s r)) e

  pub length-rules : (count : ℕ) (o : List ℕ) (room : ℕ) → length_rules s r count o room ≡ text_length_rules s (is_ucs2 r.alphabet) count o room
  length-rules count o room = ap (λ (b : Bool). cond b (lettered_read_rules (is_ucs2 r.alphabet) count o room) (text_length_rules s (is_ucs2 r.alphabet) count o room)) e

  pub text_same : (count : ℕ) (o : List ℕ) → text_of_message s r count o ≡ held_text s (is_ucs2 r.alphabet) count o
  text_same count o = ap (λ (b : Bool). cond b (lettered_text (is_ucs2 r.alphabet) o) (held_text s (is_ucs2 r.alphabet) count o)) e

  pub reading-same : (o : List ℕ) → reading_of_message s r o ≡ r
  reading-same o = ap (λ (b : Bool). cond b (with_letters (letters_in o) r) r) e
