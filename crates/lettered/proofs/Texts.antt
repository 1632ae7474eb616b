-- A text comes back from what a page holds of it without closing CRs as the text without its own: closing CRs are the same of a text and of its
-- septets. Assumes nothing.
--   held_of ucs2 t     == what a page holds of the text t: its units, or its septets
--   closed-text       it reads without closing CRs as the text without closing CRs
--   closed-content    texts that are the same without closing CRs have septets, or units, that are so too
use mathlib.Core.Path.{◌≡◌, refl, ap, ◌∙◌, sym}
use mathlib.Core.Bool.{Bool, true, false, cond}
use mathlib.Core.List.{List}
use Prim.Native.Nat.{ℕ}
use borrow.Author.Tests.{ltb-false}
use Rattle.lists.specs.Closing.{without_closing}
use Rattle.letters.specs.Writing.{septets_of}
use Rattle.letters.specs.Reading.{text_of}
use Rattle.letters.specs.Sized.{not_codable}
use Rattle.letters.proofs.Texts.{codable-told, codable-closed, closing-septets}
use Rattle.letters.proofs.Theorems.{Codable, text-septets}
use Rattle.stream.specs.UssdPacking.{cr}

abbrev pub held_of : Bool → List ℕ → List ℕ
held_of ucs2 units = cond ucs2 units (septets_of units)

codable : (t : List ℕ) → not_codable false t ≡ false → Codable t
codable t e = codable-told t (ltb-false _ _ e)

pub closed-text : (ucs2 : Bool) (t : List ℕ) → not_codable ucs2 t ≡ false
    → cond ucs2 (without_closing cr (held_of ucs2 t)) (text_of (without_closing cr (held_of ucs2 t))) ≡ without_closing 0x000d t
closed-text true t e = refl
closed-text false t e = ap text_of (closing-septets t (codable t e)) ∙ text-septets (without_closing 0x000d t) (codable-closed t (codable t e))

pub closed-content : (ucs2 : Bool) (t u : List ℕ) → not_codable ucs2 t ≡ false → not_codable ucs2 u ≡ false → without_closing 0x000d t ≡ without_closing 0x000d u
    → without_closing cr (held_of ucs2 t) ≡ without_closing cr (held_of ucs2 u)
closed-content true t u c d e = e
closed-content false t u c d e = closing-septets t (codable t c) ∙ ap septets_of e ∙ sym (closing-septets u (codable u d))
