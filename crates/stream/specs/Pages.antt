-- Document 01, "Packing": the 93 septets of a broadcast page, in 82 octets.
-- Own rule: none. Cited by packing::pack and packing::unpack. Assumes nothing.
--   page s         == the 93 septets of a page with the text s
--   page_octets s  == the octets of that page; its last five bits are spare
--   page_septets o == the text of the page whose octets are o: every closing CR is dropped
use Rattle.std.specs.Prelude.{ℕ, List, replicate}
use Rattle.words.specs.declared.Service.TheVariants.{Broadcast}
use Rattle.words.specs.Sizes.{most_septets}
use Rattle.lists.specs.Lists.{laid}
use Rattle.lists.specs.Closing.{without_closing}
use Rattle.stream.specs.Stream.{packed, unpacked}
use Rattle.stream.specs.UssdPacking.{cr}

-- "a page starts as 93 septets, all CR, and the text is laid over its front"
unfoldable pub page : List ℕ → List ℕ
page s = laid s (replicate (most_septets Broadcast) cr)

unfoldable pub page_octets : List ℕ → List ℕ
page_octets s = packed (page s)

unfoldable pub page_septets : List ℕ → List ℕ
page_septets o = without_closing cr (unpacked (most_septets Broadcast) o)
