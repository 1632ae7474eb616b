-- Document 01, "Packing" (GSM 03.41, 1991): the 93 septets of an old page, in 82 octets, which are read only.
-- Own rule: none. Cited by packing::unpack. Assumes nothing.
--   old_page_septets o == the text of the old page whose octets are o: every closing zero septet is dropped
use Rattle.std.specs.Prelude.{ℕ, List}
use Rattle.words.specs.declared.Service.TheVariants.{OldPage}
use Rattle.words.specs.Sizes.{most_septets}
use Rattle.lists.specs.Closing.{without_closing}
use Rattle.stream.specs.Stream.{unpacked}

unfoldable pub old_page_septets : List ℕ → List ℕ
old_page_septets o = without_closing 0 (unpacked (most_septets OldPage) o)
