-- What letters and the prefix mark do where no letters are in front of a text: a coding with the mark is still 3, and a letter in another coding is 8.
-- Both follow from the coding octets that have the mark. Assumes nothing.
--   judged-first         a reading that is written and holds no text is refused so, whatever rules are behind those of the reading
--   prefixed-first       a writable reading with the mark is refused 3, whatever rules are behind those of the reading
--   ussd-prefixed-write, ussd-prefixed-read   so 7-bit and UCS2 USSD with the mark is 3, written and read, with letters and without
--   stray-first, stray-write   a letter without the mark is 8, whatever else is wrong
use mathlib.Core.Path.{◌≡◌, refl, ap, ◌∙◌, sym, subst}
use mathlib.Core.Bool.{true}
use mathlib.Core.List.{List, ◌++◌}
use mathlib.Core.Logic.{◌⊎◌}
use Prim.Native.Nat.{ℕ, ◌<◌}
use Rattle.words.specs.declared.Service.{Service}
use Rattle.words.specs.declared.Service.TheVariants.{Broadcast, Ussd}
use Rattle.words.specs.declared.Refusal.{Refusal}
use Rattle.words.specs.declared.Refusal.TheVariants.{Prefixed, Unwritable}
use Rattle.words.specs.Judging.{Rule, refused, verdict}
use Rattle.words.proofs.Judging.{verdict-accepted-first, verdict-refused-first}
use Rattle.coding.specs.declared.Reading.{Reading}
use Rattle.coding.specs.Readings.{without_letters}
use Rattle.coding.specs.OctetRead.{octet_rules, read_page, read_under}
use Rattle.coding.specs.OctetWritten.{octet_writes}
use Rattle.coding.specs.LanguageLetters.{stray_letters, coding_rules, coding_writes}
use Rattle.coding.specs.Holding.{text_rules}
use Rattle.coding.proofs.TextOctet.{coding-bare, coding-stray}
use Rattle.coding.proofs.Theorems.{settled, write_read}
use Rattle.demands.specs.MessageRead.{length_rules, read_rules, read_answers}
use Rattle.demands.specs.MessageWritten.{mark_rules, size_rules, write_rules, write_answers}
use Rattle.coding.proofs.Prefixed.{lettered-octets, read-given}
use Rattle.demands.proofs.LetteredSteps.{Clear, lettered-clear}
use Rattle.demands.proofs.Steps.{coding-verdict}
use Rattle.std.specs.Prelude.{Ok, Err}

-- a reading with the mark that is neither compressed nor data is refused 3
marked : (s : Service) (r : Reading) → Clear r → r.prefix ≡ true → verdict (text_rules s r) ≡ refused Prefixed
unfolding text_rules verdict
marked s r c p = simp (c.clear, c.text, p)

-- a reading that is written is refused as it holds no text, whatever rules are behind
pub judged-first : (s : Service) (r : Reading) (o : ℕ) (q : Refusal) → coding_writes s r ≡ Ok o → verdict (text_rules s r) ≡ refused q
    → (rest : List Rule) → verdict (coding_rules s r ++ (text_rules s r ++ rest)) ≡ refused q
judged-first s r o q w v rest =
    verdict-accepted-first (coding_rules s r) (text_rules s r ++ rest) (coding-verdict s r (Ok o) (sym w))
    ∙ verdict-refused-first (text_rules s r) rest q v

-- a service that reads its octets by the table of pages
module _ (s : Service) (same : (o : ℕ) → read_under s o ≡ read_page o) (r : Reading) (p : r.prefix ≡ true) (o : ℕ) (w : octet_writes s r ≡ Ok o) where
  written-clear : Clear r
  written-clear =
      let t = settled s r o w in
      let shown : read_page o ≡ without_letters r = sym (same o) ∙ read-given s o (without_letters r) (sym (write_read s r o w)) in
      let c = subst Clear shown (lettered-clear Broadcast o t.within (ap (λ (x : Reading). x.prefix) shown ∙ p)) in
      record { clear = c.clear; text = c.text }

  pub prefixed-first : (rest : List Rule) → verdict (coding_rules s r ++ (text_rules s r ++ rest)) ≡ refused Prefixed
  prefixed-first = judged-first s r o Prefixed (coding-bare s r (simp p) ∙ w) (marked s r written-clear p)

pub ussd-prefixed-write : (r : Reading) (t : List ℕ) (room o : ℕ) → r.prefix ≡ true → octet_writes Ussd r ≡ Ok o → write_answers Ussd r t room ≡ Err Prefixed
unfolding write_answers write_rules
ussd-prefixed-write r t room o p w = simp (prefixed-first Ussd (λ k. refl) r p o w (size_rules Ussd r t room))

pub ussd-prefixed-read : (coding count : ℕ) (o : List ℕ) (room : ℕ) → coding < 256 → (coding ≡ 0b0001_0000) ⊎ (coding ≡ 0b0001_0001) → read_answers Ussd coding count o room ≡ Err Prefixed
unfolding read_answers read_rules octet_rules
ussd-prefixed-read coding count o room h m =
    let l = (lettered-octets coding h).1 m in
    simp
    (verdict-refused-first (text_rules Ussd (read_page coding)) (length_rules Ussd (read_page coding) count o room) Prefixed (marked Ussd (read_page coding) (lettered-clear Broadcast coding h l) l))

pub stray-first : (s : Service) (r : Reading) → stray_letters r ≡ true → (rest : List Rule) → verdict (coding_rules s r ++ rest) ≡ refused Unwritable
stray-first s r e rest = verdict-refused-first (coding_rules s r) rest Unwritable (coding-verdict s r (Err Unwritable) (sym (coding-stray s r e)))

pub stray-write : (s : Service) (r : Reading) (t : List ℕ) (room : ℕ) → stray_letters r ≡ true → write_answers s r t room ≡ Err Unwritable
unfolding write_answers write_rules
stray-write s r t room e = simp (stray-first s r e (mark_rules s r ++ size_rules s r t room))
