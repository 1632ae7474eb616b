-- Data coding alone knows no letters: every octet reads with both absent, and a reading is written as if it had none.
-- Assumes nothing.
--   letterless          a reading whose letters are absent is itself without them
--   read-letterless     an octet reads with both letters absent, under every service
--   octet-letterless    the same of what reading an octet answers
--   write-past-letters  whatever its letters are, a reading is written as the same octet
use mathlib.Core.Path.{◌≡◌, refl, ap, ◌∙◌, sym}
use mathlib.Core.Bool.{Bool, true, false, cond}
use Prim.Native.Nat.{ℕ}
use lib.Dec.{eqb, ltb}
use Rattle.lists.specs.Bits.{bits_of}
use Rattle.words.specs.declared.Service.{Service}
use Rattle.words.specs.declared.Service.TheVariants.{ShortMessage, Broadcast, Ussd, OldPage}
use Rattle.fields.specs.declared.Class.{Class}
use Rattle.fields.specs.declared.Notice.{Notice}
use Rattle.fields.specs.declared.Letters.{Letters}
use Rattle.fields.specs.Letters.{no_letters}
use Rattle.words.specs.Judging.{Verdict, refused, accepted, verdict, settle}
use Rattle.coding.specs.declared.Reading.{Reading}
use Rattle.coding.specs.Answers.{read_reading}
use Rattle.coding.specs.Readings.{with_letters, without_letters}
use Rattle.coding.specs.OctetRead.{is_set, general_reading, notice_reading, last_reading, header_reading, read_short, read_page, read_under, octet_reads, octet_rules}
use Rattle.coding.specs.OctetWritten.{smallest, write_rules, octet_writes}
use Rattle.std.specs.Prelude.{Result, Ok, Err}
use Rattle.words.specs.declared.Refusal.{Refusal}

pub letterless : (r : Reading) → r.letters ≡ no_letters → without_letters r ≡ r
letterless r e = ap (λ (t : Letters). with_letters t r) (sym e)

-- a choice of readings without letters has none
abbrev pub Bare : Reading → Type 0
Bare r = r.letters ≡ no_letters

pub either : (t : Bool) (x y : Reading) → Bare x → Bare y → Bare (cond t x y)
either true x y p q = p
either false x y p q = q

pub general-bare : (o : ℕ) (r : Reading) → Bare r → Bare (general_reading o r)
unfolding general_reading
general-bare o r p = either (eqb (bits_of o 3 2) 0b11) _ _ refl p

notice-bare : (o : ℕ) (n : Notice) (r : Reading) → Bare r → Bare (notice_reading o n r)
unfolding notice_reading
notice-bare o n r p = either (is_set o 2) _ _ refl p

pub last-bare : (o : ℕ) (c : Class) → Bare (last_reading o c)
unfolding last_reading
last-bare o c = either (is_set o 3) _ _ refl refl

header-bare : (o : ℕ) → Bare (header_reading o)
unfolding header_reading
header-bare o = either (eqb (bits_of o 3 2) 0b11) _ _ refl refl

short-bare : (o : ℕ) → Bare (read_short o)
unfolding read_short
short-bare o =
    either (eqb (bits_of o 7 6) 0b00) _ _ (general-bare o _ refl)
    (either (eqb (bits_of o 7 6) 0b01) _ _ (general-bare o _ refl)
    (either (eqb (bits_of o 7 6) 0b10) _ _ refl
    (either (eqb (bits_of o 7 4) 0b1100) _ _ (notice-bare o _ _ refl)
    (either (eqb (bits_of o 7 4) 0b1101) _ _ (notice-bare o _ _ refl)
    (either (eqb (bits_of o 7 4) 0b1110) _ _ (notice-bare o _ _ refl)
    (last-bare o _))))))

page-bare : (o : ℕ) → Bare (read_page o)
unfolding read_page
page-bare o =
    either (eqb (bits_of o 7 4) 0b0000) _ _ refl
    (either (eqb o 0b0001_0000) _ _ refl
    (either (eqb o 0b0001_0001) _ _ refl
    (either (eqb (bits_of o 7 4) 0b0001) _ _ refl
    (either (eqb (bits_of o 7 4) 0b0010) _ _ (either (ltb 0b0100 (bits_of o 3 0)) _ _ refl refl)
    (either (eqb (bits_of o 7 4) 0b0011) _ _ refl
    (either (eqb (bits_of o 7 6) 0b01) _ _ (general-bare o _ refl)
    (either (eqb (bits_of o 7 4) 0b1000) _ _ refl
    (either (eqb (bits_of o 7 4) 0b1001) _ _ (header-bare o)
    (either (ltb (bits_of o 7 4) 0b1101) _ _ refl
    (either (eqb (bits_of o 7 4) 0b1101) _ _ refl
    (either (eqb (bits_of o 7 4) 0b1110) _ _ refl
    (last-bare o _))))))))))))

pub read-letterless : (s : Service) (o : ℕ) → (read_under s o).letters ≡ no_letters
read-letterless ShortMessage o = short-bare o
read-letterless Broadcast o = page-bare o
read-letterless Ussd o = page-bare o
read-letterless OldPage o = refl

pub octet-letterless : (s : Service) (o : ℕ) (r : Reading) → octet_reads s o ≡ Ok r → r.letters ≡ no_letters
unfolding octet_reads
octet-letterless s o r e = go (verdict (octet_rules s o)) e
  where
    go : (v : Verdict) → settle v Err (Ok (read_under s o)) ≡ Ok r → r.letters ≡ no_letters
    go (refused q) f = sym (ap (λ (x : Result Reading Refusal). (read_reading x).letters) f)
    go accepted f = sym (ap (λ (x : Result Reading Refusal). (read_reading x).letters) f) ∙ read-letterless s o

pub write-past-letters : (s : Service) (r : Reading) (t : Letters) → octet_writes s (with_letters t r) ≡ octet_writes s r
unfolding octet_writes write_rules smallest
write-past-letters s r t = refl
