-- Inner: what private functions answer on the way. No contract of a public call cites this file.
-- Assumes nothing.
--   InOctets x == each of the numbers of a reading but its notice and its letters is below 256
use Rattle.std.specs.Prelude.{◌<◌}
use Rattle.names.specs.declared.ReadingNumbers.{ReadingNumbers}

pub record InOctets (x : ReadingNumbers) : Type 0 where
  pub alphabet : x.alphabet < 256
  pub compressed : x.compressed < 256
  pub class : x.class < 256
  pub language : x.language < 256
  pub deletion : x.deletion < 256
  pub prefix : x.prefix < 256
  pub reserved : x.reserved < 256
  pub header : x.header < 256
