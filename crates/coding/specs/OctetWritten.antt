-- Document 01, "Reading the data coding octet": "Writing a reading gives the smallest octet that reads so under that service. It is
-- refused when the reserved mark is set or no octet reads so." An old page is read only.
-- Own rule: none. Cited by Reading::write. Assumes nothing.
--   same_coding a b  == a and b are alike in every field that an octet tells
--   smallest s r     == the first octet of 0 to 255 that reads as r under service s, and 256 where none does
--   write_rules s r  == the refusals of writing r under s, in order
--   octet_writes s r == the octet that writing r under s gives, or the refusal
use Rattle.std.specs.Prelude.{ℕ, Bool, false, cond, List, [], ◌∷◌, ◌++◌, eqb, Result, Ok, Err}
use Rattle.octets.specs.Smallest.{first_octet}
use Rattle.words.specs.Sizes.{is_old_page}
use Rattle.words.specs.Judging.{Rule, when, verdict, settle, service_rules}
use Rattle.words.specs.declared.Service.{Service}
use Rattle.words.specs.declared.Refusal.TheVariants.{Unwritable}
use Rattle.coding.specs.declared.Reading.{Reading}
use Rattle.fields.specs.Numbers.{alphabet_no, class_no, language_no, notice_no, flag_no}
use Rattle.coding.specs.OctetRead.{read_under}
use Rattle.words.specs.declared.Refusal.{Refusal}

abbrev pub same_coding : Reading → Reading → Bool
same_coding a b =
    cond (eqb (alphabet_no a.alphabet) (alphabet_no b.alphabet))
    (cond (eqb (flag_no a.compressed) (flag_no b.compressed))
    (cond (eqb (class_no a.class) (class_no b.class))
    (cond (eqb (language_no a.language) (language_no b.language))
    (cond (eqb (flag_no a.deletion) (flag_no b.deletion))
    (cond (eqb (notice_no a.notice) (notice_no b.notice))
    (cond (eqb (flag_no a.prefix) (flag_no b.prefix))
    (cond (eqb (flag_no a.reserved) (flag_no b.reserved))
    (eqb (flag_no a.header) (flag_no b.header))
    false) false) false) false) false) false) false) false

unfoldable pub smallest : Service → Reading → ℕ
smallest s r = first_octet (λ (o : ℕ). same_coding (read_under s o) r)

unfoldable pub write_rules : Service → Reading → List Rule
write_rules s r =
    service_rules s
    ++ (when (is_old_page s) Unwritable
    ∷ when r.reserved Unwritable
    ∷ when (eqb (smallest s r) 256) Unwritable
    ∷ [])

unfoldable pub octet_writes : Service → Reading → Result ℕ Refusal
octet_writes s r = settle (verdict (write_rules s r)) Err (Ok (smallest s r))
