-- Document 01, "Reading the data coding octet": "Writing a reading gives the smallest octet that reads so", said of keys. A reserved key is
-- not written.
-- Own rule: 256 stands for no octet among places. Cited by short_octet and page_octet. Assumes nothing.
--   first_octet test == the first octet of 0 to 255 at which the test holds, and 256 where there is none
--   short_octet k    == the smallest octet that has the key k in a short message, and 256 where there is none or k is reserved
--   page_octet k     == the same in a broadcast page and in USSD
--   octet_or_none n  == the octet n, or none where n is none
use Rattle.std.specs.Prelude.{ℕ, Bool, cond, eqb, ltb, Option, Some, None}
use Rattle.lists.specs.Lists.{first_place, numbers_from}
use Rattle.keys.specs.Keys.{reserved_digit, short_key, page_key}

abbrev pub first_octet : (ℕ → Bool) → ℕ
first_octet test = first_place test (numbers_from 0 256)

unfoldable pub short_octet : ℕ → ℕ
short_octet k = cond (eqb (reserved_digit k) 1) 256 (first_octet (λ (o : ℕ). eqb (short_key o) k))

unfoldable pub page_octet : ℕ → ℕ
page_octet k = cond (eqb (reserved_digit k) 1) 256 (first_octet (λ (o : ℕ). eqb (page_key o) k))

abbrev pub octet_or_none : ℕ → Option ℕ
octet_or_none n = cond (ltb n 256) (Some n) None
