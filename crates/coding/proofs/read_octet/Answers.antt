-- `read_octet` meets its contract: an old page goes by the remainder by 16, and the key of an octet is that of its reading. Assumes nothing.
use Rattle.coding.proofs.Old.{alphabet-refused, alphabet-read}
use Rattle.coding.proofs.Letterless.{read-letterless}
use Rattle.coding.proofs.Octets.{key-valid, key_back}
use Rattle.coding.specs.OctetRead.{read_under}
use mathlib.Core.Path.{ap, sym, ◌∙◌}
use Rattle.coding.proofs.read_octet.Goals as goal
use Rattle.std.specs.Prelude.{Ok}

pub returns-then-no_alphabet : goal.returns-then-no_alphabet
returns-then-no_alphabet c = record {
  answer = let a = c.args in
      sym (alphabet-refused a.service a.octet (sym c.no_alphabet.ensures ∙ c.if-no_alphabet.true));
}

pub reading_of-requires : goal.reading_of-requires
reading_of-requires c = let a = c.args in
    key-valid (read_under a.service a.octet) _ c.octet_key.ensures

pub returns : goal.returns
returns c = record {
  answer = let a = c.args in
      ap Ok (c.reading_of.ensures ∙ key_back (read_under a.service a.octet) _ (read-letterless a.service a.octet) c.octet_key.ensures)
      ∙ sym (alphabet-read a.service a.octet (sym c.no_alphabet.ensures ∙ c.if-no_alphabet.false));
}
