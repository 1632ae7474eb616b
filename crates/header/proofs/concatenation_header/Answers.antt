-- The six octets are the header with the one element.
-- Assumes nothing.
use mathlib.Core.Path.{refl}
use Rattle.headed.specs.Header.{elements_octets, header_octets, concatenation_header}
use Rattle.header.proofs.concatenation_header.Goals as goal

pub returns : goal.returns
unfolding elements_octets header_octets concatenation_header
returns c = record { answer = refl }
