-- The key that the code computes for an octet is that of the octet's reading: one computed test over the 256 octets of each table.
-- Assumes nothing.
use mathlib.Core.Path.{◌≡◌, ap, ◌∙◌, subst, sym}
use mathlib.Core.Bool.{Bool}
use Prim.Native.Nat.{ℕ, ◌<◌}
use lib.ListN.{length}
use lib.Dec.{T, eqb, eqb→eq}
use Rattle.lists.specs.Bits.{bit_of, gather, bits_of}
use Rattle.lists.proofs.Tests.{every_below, every-below}
use Rattle.coding.specs.declared.Reading.{Reading}
use Rattle.coding.specs.OctetRead.{class_in, discard_in, store_in, general_reading, notice_reading, last_reading, header_reading, read_short, read_page}
use Rattle.keys.specs.Keys.{alphabet_digit, class_digit, language_digit, general_key, notice_key, last_key, short_key, language_key, header_key, page_key}
use Rattle.fields.specs.Numbers.{alphabets, classes, languages}
use Rattle.coding.specs.Inner.{key_of, reading_of}
use Rattle.fields.proofs.Numbered.{alphabet-named, class-named, language-named}
use Rattle.fields.specs.Letters.{no_letters}
use Rattle.coding.proofs.Keys.{key-digits, key-reading}
use Rattle.coding.proofs.Letterless.{letterless}

abbrev keyed : (ℕ → ℕ) → (ℕ → Reading) → ℕ → Bool
keyed key read o = eqb (key o) (key_of (read o))

short-keyed : T (every_below (keyed short_key read_short) 256)
unfolding short_key general_key notice_key last_key key_of read_short general_reading notice_reading last_reading class_in discard_in store_in bits_of gather bit_of
short-keyed = tt

page-keyed : T (every_below (keyed page_key read_page) 256)
unfolding page_key language_key general_key header_key last_key key_of read_page general_reading header_reading last_reading class_in bits_of gather bit_of
page-keyed = tt

pub short-key-is : (o : ℕ) → o < 256 → short_key o ≡ key_of (read_short o)
short-key-is o h = eqb→eq _ _ (every-below (keyed short_key read_short) 256 short-keyed o h)

pub page-key-is : (o : ℕ) → o < 256 → page_key o ≡ key_of (read_page o)
page-key-is o h = eqb→eq _ _ (every-below (keyed page_key read_page) 256 page-keyed o h)

-- the key of a reading can be read back
pub key-valid : (r : Reading) (k : ℕ) → k ≡ key_of r → (alphabet_digit k < length alphabets) × (class_digit k < length classes) × (language_digit k < length languages)
key-valid r k e = (
  subst (λ (n : ℕ). n < length alphabets) (sym (ap alphabet_digit e ∙ (key-digits r).alphabet)) (alphabet-named r.alphabet).below,
  subst (λ (n : ℕ). n < length classes) (sym (ap class_digit e ∙ (key-digits r).class)) (class-named r.class).below,
  subst (λ (n : ℕ). n < length languages) (sym (ap language_digit e ∙ (key-digits r).language)) (language-named r.language).below,
)

pub key_back : (r : Reading) (k : ℕ) → r.letters ≡ no_letters → k ≡ key_of r → reading_of k ≡ r
key_back r k n e = ap reading_of e ∙ key-reading r ∙ letterless r n
