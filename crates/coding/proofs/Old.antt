-- An old page is refused where bits 3..0 are not 0; every other octet is read, under every service.
-- Assumes nothing.
use mathlib.Core.Path.{◌≡◌, refl, ap, ◌∙◌}
use mathlib.Core.Bool.{true, false, ◌&&◌, false≢true}
use native.Mathlib.Nat.{div-one}
use Prim.Native.Nat.{ℕ, ◌%◌}
use lib.Dec.{ltb}
use Rattle.words.specs.Sizes.{is_old_page}
use Rattle.words.specs.Judging.{verdict}
use Rattle.words.specs.declared.Service.{Service}
use Rattle.words.specs.declared.Service.TheVariants.{ShortMessage, Broadcast, Ussd, OldPage}
use Rattle.words.specs.declared.Refusal.TheVariants.{NoText}
use Rattle.coding.specs.OctetRead.{octet_rules, read_under, octet_reads}
use Rattle.lists.specs.Bits.{bits_of}
use Rattle.lists.proofs.Bits.{bits-number}
use Rattle.std.specs.Prelude.{Ok, Err}

bits-3-0 : (o : ℕ) → bits_of o 3 0 ≡ o % 16
bits-3-0 o = bits-number o 3 0 ∙ ap (λ (x : ℕ). x % 16) (div-one o)

pub alphabet-refused : (s : Service) (o : ℕ) → (is_old_page s && ltb 0 (o % 16)) ≡ true → octet_reads s o ≡ Err NoText
unfolding octet_reads octet_rules verdict
alphabet-refused ShortMessage o e = absurd (false≢true e)
alphabet-refused Broadcast o e = absurd (false≢true e)
alphabet-refused Ussd o e = absurd (false≢true e)
alphabet-refused OldPage o e = simp (bits-3-0, e)

pub alphabet-read : (s : Service) (o : ℕ) → (is_old_page s && ltb 0 (o % 16)) ≡ false → octet_reads s o ≡ Ok (read_under s o)
unfolding octet_reads octet_rules verdict
alphabet-read ShortMessage o e = refl
alphabet-read Broadcast o e = refl
alphabet-read Ussd o e = refl
alphabet-read OldPage o e = simp (bits-3-0, e)
