-- What holds of reading and writing the data coding octet, of the definitions that the contracts cite.
-- Assumes nothing.
--   write_read       reading what was written gives the reading back, without its letters
--   write-least      no smaller octet reads so
--   write-complete   a reading that is not reserved and that an octet has, but for its letters, is written: so 8 is given for no other cause
--   read-rewritten   an octet that is not reserved is written no larger than it was, and reads the same
--   octet-counts     reserved octets and writable readings of each service are those of the list counts
use Rattle.words.proofs.Rules.{ok-inside, ok-or-err}
use mathlib.Core.Path.{◌≡◌, refl, ap, ◌∙◌, sym, subst}
use mathlib.Core.Bool.{Bool, true, false}
use mathlib.Core.List.{[], ◌∷◌}
use Prim.Native.Nat.{ℕ, ◌≤◌, ◌<◌}
use native.Mathlib.Omega.{arith}
use borrow.Author.Tests.{eq-eqb}
use lib.Dec.{T, eqb}
use Rattle.lists.specs.Lists.{first_place, numbers_from}
use Rattle.words.specs.Sizes.{is_old_page}
use Rattle.words.specs.Judging.{when, verdict, settle}
use Rattle.words.specs.declared.Service.{Service}
use Rattle.words.specs.declared.Service.TheVariants.{ShortMessage, Broadcast, Ussd, OldPage}
use Rattle.words.specs.declared.Refusal.TheVariants.{Unwritable}
use Rattle.octets.proofs.First.{first-most, first_holds, first-least}
use Rattle.coding.specs.declared.Reading.{Reading}
use Rattle.coding.specs.OctetRead.{class_in, discard_in, store_in, general_reading, notice_reading, last_reading, header_reading, read_short, read_page, read_under, octet_rules, octet_reads}
use Rattle.lists.specs.Bits.{bit_of, gather, bits_of}
use Rattle.coding.specs.OctetWritten.{same_coding, smallest, write_rules, octet_writes}
use Rattle.coding.specs.Counts.{counted, counts, right}
use Rattle.coding.specs.Readings.{without_letters}
use Rattle.coding.proofs.Letterless.{letterless, read-letterless, octet-letterless}
use Rattle.coding.proofs.Same.{same-sound, same-complete}
use Rattle.coding.proofs.Smallest.{write-found}
use Rattle.std.specs.Prelude.{Result, Ok, Err}
use Rattle.words.specs.declared.Refusal.{Refusal}

-- a service that writes reads every octet
pub reads_all : (s : Service) (o : ℕ) → is_old_page s ≡ false → octet_reads s o ≡ Ok (read_under s o)
unfolding octet_reads octet_rules verdict
reads_all ShortMessage o e = refl
reads_all Broadcast o e = refl
reads_all Ussd o e = refl
reads_all OldPage o e = absurd (subst T e tt)

-- the three rules of writing, by their tests
abbrev pub outcome : Bool → Bool → Bool → ℕ → Result ℕ Refusal
outcome old marked absent o = settle (verdict (when old Unwritable ∷ when marked Unwritable ∷ when absent Unwritable ∷ [])) Err (Ok o)

pub told : (old marked absent : Bool) (n o : ℕ) → outcome old marked absent n ≡ Ok o → (old ≡ false) × (marked ≡ false) × (absent ≡ false) × (n ≡ o)
unfolding verdict
told true marked absent n o e = absurd (ok-or-err (sym e))
told false true absent n o e = absurd (ok-or-err (sym e))
told false false true n o e = absurd (ok-or-err (sym e))
told false false false n o e = (refl, refl, refl, cc)

-- writing ended in octet o: the service writes, the reading is not reserved, and o is the first octet that reads so
pub record Settled (s : Service) (r : Reading) (o : ℕ) : Type 0 where
  pub new : is_old_page s ≡ false
  pub plain : r.reserved ≡ false
  pub first : smallest s r ≡ o
  pub within : o < 256

pub settled : (s : Service) (r : Reading) (o : ℕ) → octet_writes s r ≡ Ok o → Settled s r o
unfolding octet_writes write_rules smallest
settled s r o e =
    let t = told (is_old_page s) r.reserved (eqb (smallest s r) 256) (smallest s r) o e in
    let most : smallest s r ≤ 256 = first-most (λ (k : ℕ). same_coding (read_under s k) r) in
    let apart : smallest s r ≡ 256 → ⊥ = λ (q : smallest s r ≡ 256). subst T (sym (eq-eqb _ _ q) ∙ t.2) tt in
    let same : smallest s r ≡ o = t.3 in
    record { new = t.0; plain = t.1; first = same; within = omega arith }

pub write_read : (s : Service) (r : Reading) (o : ℕ) → octet_writes s r ≡ Ok o → octet_reads s o ≡ Ok (without_letters r)
unfolding smallest
write_read s r o e =
    let t : Settled s r o = settled s r o e in
    reads_all s o t.new
    ∙ ap Ok
    (sym (letterless (read_under s o) (read-letterless s o))
    ∙ same-sound (read_under s o) r
    (subst (λ (k : ℕ). T (same_coding (read_under s k) r)) t.first
    (first_holds (λ (k : ℕ). same_coding (read_under s k) r) (subst (λ (k : ℕ). k < 256) (sym t.first) t.within))))

pub write-least : (s : Service) (r : Reading) (o k : ℕ) → octet_writes s r ≡ Ok o → k < 256 → octet_reads s k ≡ Ok (without_letters r) → o ≤ k
unfolding smallest
write-least s r o k e l h =
    let t : Settled s r o = settled s r o e in
    let here : read_under s k ≡ without_letters r = ok-inside (sym (reads_all s k t.new) ∙ h) in
    subst (λ (n : ℕ). n ≤ k) t.first (first-least (λ (n : ℕ). same_coding (read_under s n) r) k l (same-complete (read_under s k) r (ap without_letters here)))

pub write-complete : (s : Service) (r : Reading) (o : ℕ) → is_old_page s ≡ false → r.reserved ≡ false → o < 256 → octet_reads s o ≡ Ok (without_letters r) → (k : ℕ) × (octet_writes s r ≡ Ok k)
unfolding smallest
write-complete s r o new plain l h =
    let here : read_under s o ≡ without_letters r = ok-inside (sym (reads_all s o new) ∙ h) in
    let low : smallest s r ≤ o = first-least (λ (n : ℕ). same_coding (read_under s n) r) o l (same-complete (read_under s o) r (ap without_letters here)) in
    (smallest s r, write-found s r (smallest s r) new plain refl (omega arith))

pub read-rewritten : (s : Service) (o : ℕ) (x : Reading) → is_old_page s ≡ false → o < 256 → octet_reads s o ≡ Ok x → x.reserved ≡ false
    → (k : ℕ) × (octet_writes s x ≡ Ok k) × (k ≤ o) × (octet_reads s k ≡ Ok x)
read-rewritten s o x new l h plain =
    let bare : without_letters x ≡ x = letterless x (octet-letterless s o x h) in
    let heard : octet_reads s o ≡ Ok (without_letters x) = h ∙ ap Ok (sym bare) in
    let w = write-complete s x o new plain l heard in
    (w.0, w.1, write-least s x w.0 o w.1 l heard, write_read s x w.0 w.1 ∙ ap Ok bare)

-- the counts are right
pub octet-counts : T (right counts)
unfolding right counts counted octet_writes write_rules verdict smallest first_place numbers_from read_short read_page general_reading notice_reading last_reading header_reading class_in discard_in store_in bits_of gather bit_of
octet-counts = tt
