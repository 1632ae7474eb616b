-- `plain_octet` meets its contract: the definition computes what is tried for a plain reading, and that reads back. Assumes nothing.
use Rattle.coding.proofs.Smallest.{write-old, write-short, write-broadcast, write-ussd}
use Rattle.keys.specs.Keys.{general_key, short_key, language_key, page_key}
use Rattle.octets.specs.Inner.{general_try, headed_try, short_try, page_try}
use Rattle.octets.proofs.Tried.{short-tried, page-tried}
use Rattle.coding.specs.Inner.{key_of, written_as}
use Rattle.coding.specs.OctetWritten.{octet_writes}
use Rattle.coding.specs.Readings.{plain_in}
use Rattle.words.specs.declared.Service.{Service}
use Rattle.words.specs.declared.Service.TheVariants.{ShortMessage, Broadcast, Ussd}
use mathlib.Core.Bool.{Bool, true, false, cond}
use mathlib.Core.Path.{◌≡◌, ap, sym, ◌∙◌}
use Rattle.coding.proofs.plain_octet.Goals as goal
use Rattle.std.specs.Prelude.{Ok}

short-plain : (ucs2 : Bool) → Ok (cond ucs2 0x08 0x00) ≡ octet_writes ShortMessage (plain_in ucs2)
unfolding key_of short_try general_try short_key general_key
short-plain true = sym (write-short (plain_in true) ∙ ap written_as (short-tried 962))
short-plain false = sym (write-short (plain_in false) ∙ ap written_as (short-tried 960))

page-plain : (ucs2 : Bool) → Ok (cond ucs2 0x48 0x0f) ≡ octet_writes Broadcast (plain_in ucs2)
unfolding key_of page_try headed_try general_try page_key language_key general_key
page-plain true = sym (write-broadcast (plain_in true) ∙ ap written_as (page-tried 962))
page-plain false = sym (write-broadcast (plain_in false) ∙ ap written_as (page-tried 960))

ussd-plain : (ucs2 : Bool) → Ok (cond ucs2 0x48 0x0f) ≡ octet_writes Ussd (plain_in ucs2)
unfolding key_of page_try headed_try general_try page_key language_key general_key
ussd-plain true = sym (write-ussd (plain_in true) ∙ ap written_as (page-tried 962))
ussd-plain false = sym (write-ussd (plain_in false) ∙ ap written_as (page-tried 960))

pub returns-in-ShortMessage : goal.returns-in-ShortMessage
returns-in-ShortMessage c = record { answer = let b = c.args.ucs2 in c.plain_done.ensures ∙ short-plain b ∙ ap (λ (s : Service). octet_writes s (plain_in b)) (sym c.in-ShortMessage.is) }

pub returns-in-Broadcast : goal.returns-in-Broadcast
returns-in-Broadcast c = record { answer = let b = c.args.ucs2 in c.plain_done-in-Broadcast.ensures ∙ page-plain b ∙ ap (λ (s : Service). octet_writes s (plain_in b)) (sym c.in-Broadcast.is) }

pub returns-in-Ussd : goal.returns-in-Ussd
returns-in-Ussd c = record { answer = let b = c.args.ucs2 in c.plain_done-in-Ussd.ensures ∙ ussd-plain b ∙ ap (λ (s : Service). octet_writes s (plain_in b)) (sym c.in-Ussd.is) }

pub returns-in-OldPage : goal.returns-in-OldPage
returns-in-OldPage c = record { answer = let b = c.args.ucs2 in sym (ap (λ (s : Service). octet_writes s (plain_in b)) c.in-OldPage.is ∙ write-old (plain_in b)) }
