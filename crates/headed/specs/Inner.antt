-- What private functions that read a header say of themselves: no contract of a public call cites this file.
-- Own rule: none. Assumes nothing.
--   body_reads n found e == what reading elements answers, of a header of n octets, where so much was found before them
use Rattle.std.specs.Prelude.{ℕ, [], ◌∷◌, Result, Option, Err}
use Rattle.words.specs.declared.Refusal.TheVariants.{WrongHeader}
use Rattle.words.specs.Judging.{when, verdict, settle}
use Rattle.headed.specs.declared.Numbers.{Numbers}
use Rattle.headed.specs.declared.HeaderRead.{HeaderRead}
use Rattle.headed.specs.Header.{Elements, broken, whole, wrong_length, last_numbers}
use Rattle.words.specs.declared.Refusal.{Refusal}
use Rattle.headed.specs.Successes.{ok_header_read}

abbrev pub body_reads : ℕ → Option Numbers → Elements → Result HeaderRead Refusal
body_reads n found broken = Err WrongHeader
body_reads n found (whole es) = settle (verdict (when (wrong_length es) WrongHeader ∷ [])) Err (ok_header_read n (last_numbers found es))
