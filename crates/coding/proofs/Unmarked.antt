-- What a reading that is neither compressed nor data holds: its text, but 3 where it has a mark.
-- Assumes nothing.
use mathlib.Core.Path.{◌≡◌, refl, subst}
use mathlib.Core.Bool.{Bool, true, false, cond}
use mathlib.Core.List.{[], ◌∷◌}
use lib.Dec.{T}
use Rattle.words.specs.Judging.{when, verdict, settle}
use Rattle.words.specs.declared.Service.{Service}
use Rattle.words.specs.declared.Refusal.TheVariants.{Compressed, NoText, Prefixed}
use Rattle.coding.specs.declared.Reading.{Reading}
use Rattle.coding.specs.declared.Held.{Held}
use Rattle.coding.specs.Holding.{is_ucs2, is_data, text_rules, holds_text}
use Rattle.coding.specs.Inner.{unmarked_holds}
use Rattle.std.specs.Prelude.{Result, Ok, Err}
use Rattle.words.specs.declared.Refusal.{Refusal}
use Rattle.coding.specs.declared.Held.TheVariants as held

pub held-unmarked : (s : Service) (r : Reading) → r.compressed ≡ false → is_data r.alphabet ≡ false → holds_text s r ≡ unmarked_holds r (cond (is_ucs2 r.alphabet) held.Units held.Septets)
unfolding holds_text text_rules verdict
held-unmarked s r = go r.compressed (is_data r.alphabet) r.prefix r.header (cond (is_ucs2 r.alphabet) held.Units held.Septets)
  where
    go : (z d p h : Bool) (text : Held) → z ≡ false → d ≡ false
        → settle (verdict (when z Compressed ∷ when d NoText ∷ when p Prefixed ∷ when h Prefixed ∷ [])) Err (Ok text) ≡ cond p (Err Prefixed) (cond h (Err Prefixed) (Ok text))
    go true d p h text e f = absurd (subst T e tt)
    go false true p h text e f = absurd (subst T f tt)
    go false false true h text e f = refl
    go false false false true text e f = refl
    go false false false false text e f = refl
