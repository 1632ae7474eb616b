-- How writing a reading settles: the smallest octet of a reading is the smallest of its key.
-- Assumes nothing.
use mathlib.Core.Path.{◌≡◌, refl, ap, ◌∙◌, sym}
use mathlib.Core.Bool.{Bool, true, false, cond}
use Prim.Native.Nat.{ℕ, ◌≤◌, ◌<◌}
use native.Mathlib.Omega.{arith}
use native.Mathlib.Decide.{dec_le}
use borrow.Author.Tests.{ne_eqb, lt-ltb, le-ltb}
use lib.Dec.{eqb, ltb}
use Rattle.words.specs.Sizes.{is_old_page}
use Rattle.words.specs.Judging.{verdict}
use Rattle.words.specs.declared.Service.{Service}
use Rattle.words.specs.declared.Service.TheVariants.{ShortMessage, Broadcast, Ussd, OldPage}
use Rattle.words.specs.declared.Refusal.TheVariants.{Unwritable}
use Rattle.keys.specs.Keys.{reserved_digit, short_key, page_key}
use Rattle.octets.specs.Smallest.{first_octet, short_octet, page_octet, octet_or_none}
use Rattle.std.specs.Option.{ok_or}
use Rattle.std.specs.Prelude.{Some, None, Ok, Err}
use Rattle.octets.proofs.First.{first-most, first-agree}
use Rattle.coding.specs.declared.Reading.{Reading}
use Rattle.coding.specs.OctetRead.{read_under}
use Rattle.coding.specs.OctetWritten.{same_coding, smallest, write_rules, octet_writes}
use Rattle.coding.specs.Inner.{key_of, written_as}
use Rattle.coding.proofs.Keys.{key-digits, flag-back}
use Rattle.coding.proofs.Same.{same_key}
use Rattle.coding.proofs.Octets.{short-key-is, page-key-is}

pub write-old : (r : Reading) → octet_writes OldPage r ≡ Err Unwritable
unfolding octet_writes write_rules verdict
write-old r = refl

pub write-reserved : (s : Service) (r : Reading) → r.reserved ≡ true → octet_writes s r ≡ Err Unwritable
unfolding octet_writes write_rules verdict
write-reserved ShortMessage r e = simp e
write-reserved Broadcast r e = simp e
write-reserved Ussd r e = simp e
write-reserved OldPage r e = refl

pub write-found : (s : Service) (r : Reading) (o : ℕ) → is_old_page s ≡ false → r.reserved ≡ false → smallest s r ≡ o → o < 256 → octet_writes s r ≡ Ok o
unfolding octet_writes write_rules verdict
write-found s r o new plain e l = simp (new, plain, e, ne_eqb o 256 (omega arith))

pub write-none : (s : Service) (r : Reading) → is_old_page s ≡ false → r.reserved ≡ false → smallest s r ≡ 256 → octet_writes s r ≡ Err Unwritable
unfolding octet_writes write_rules verdict
write-none s r new plain e = simp (new, plain, e)

-- 256, which is none, for a reserved reading
by-smallest : (s : Service) (r : Reading) → is_old_page s ≡ false → octet_writes s r ≡ written_as (cond r.reserved 256 (smallest s r))
unfolding smallest
by-smallest s r new = go r.reserved refl
  where
    go : (marked : Bool) → r.reserved ≡ marked → octet_writes s r ≡ written_as (cond marked 256 (smallest s r))
    go true e = write-reserved s r e
    go false e =
        let most : smallest s r ≤ 256 = first-most (λ (o : ℕ). same_coding (read_under s o) r) in
        elim (dec_le 256 (smallest s r)) [
          | yes m ↦ write-none s r new e (omega arith) ∙ simp (le-ltb (smallest s r) 256 m)
          | no m ↦ write-found s r (smallest s r) new e refl (omega arith) ∙ simp (lt-ltb (smallest s r) 256 (omega arith))
        ]

module _ (s : Service) (key : ℕ → ℕ) (new : is_old_page s ≡ false) (keyed : (o : ℕ) → o < 256 → key o ≡ key_of (read_under s o)) (r : Reading) where
  by_key : octet_writes s r ≡ written_as (cond (eqb (reserved_digit (key_of r)) 1) 256 (first_octet (λ (o : ℕ). eqb (key o) (key_of r))))
  unfolding smallest
  by_key =
      by-smallest s r new
      ∙ ap (λ (n : ℕ). written_as (cond r.reserved 256 n))
      (first-agree (λ (o : ℕ). same_coding (read_under s o) r) (λ (o : ℕ). eqb (key o) (key_of r))
      (λ o l. sym (ap (λ (k : ℕ). eqb k (key_of r)) (keyed o l) ∙ same_key (read_under s o) r)))
      ∙ ap (λ (b : Bool). written_as (cond b 256 (first_octet (λ (o : ℕ). eqb (key o) (key_of r)))))
      (sym (ap (λ (n : ℕ). eqb n 1) (key-digits r).reserved ∙ flag-back r.reserved))

-- the octet that is written, or 8 of none
pub written-option : (n : ℕ) → ok_or (octet_or_none n) Unwritable ≡ written_as n
written-option n = go (ltb n 256)
  where
    go : (b : Bool) → ok_or (cond b (Some n) None) Unwritable ≡ cond b (Ok n) (Err Unwritable)
    go true = refl
    go false = refl

pub write-short : (r : Reading) → octet_writes ShortMessage r ≡ written_as (short_octet (key_of r))
unfolding short_octet
write-short r = by_key ShortMessage short_key refl short-key-is r

pub write-broadcast : (r : Reading) → octet_writes Broadcast r ≡ written_as (page_octet (key_of r))
unfolding page_octet
write-broadcast r = by_key Broadcast page_key refl page-key-is r

pub write-ussd : (r : Reading) → octet_writes Ussd r ≡ written_as (page_octet (key_of r))
unfolding page_octet
write-ussd r = by_key Ussd page_key refl page-key-is r
