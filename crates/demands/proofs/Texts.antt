-- Texts and their septets: how a text and its septets end alike.
-- Assumes nothing.
use mathlib.Core.Path.{◌≡◌, ap, ◌∙◌, sym}
use mathlib.Core.List.{List, [], ◌∷◌, ◌++◌}
use Prim.Native.Nat.{ℕ, ◌+◌, ◌-◌, ◌<◌}
use native.Mathlib.Omega.{arith}
use lib.ListN.{length, get_or, length-append}
use lib.Seq.{get_or-append-add}
use Rattle.lists.proofs.Ends.{EndsIn, by_last}
use Rattle.letters.specs.Writing.{septets_in, septets_of}
use Rattle.letters.proofs.Texts.{codable-snoc, cr-codable}
use Rattle.letters.proofs.Theorems.{Codable, septets-injective, septets-closing, septets-cr-iff}
use Rattle.stream.specs.UssdPacking.{last}
use Rattle.stream.proofs.Theorems.{Doubled, OneMore}
use Rattle.demands.specs.Demands.{FilledByCr, OneCrMore}

-- ---- the last septet

last_snoc : (front : List ℕ) (x : ℕ) → last (front ++ (x ∷ [])) ≡ x
unfolding last
last_snoc front x =
    let n : length (front ++ (x ∷ [])) - 1 ≡ length front + 0 = omega (arith, length-append front (x ∷ [])) in
    ap (λ (k : ℕ). get_or (front ++ (x ∷ [])) k 0) n ∙ get_or-append-add front (x ∷ []) 0 0

ends_last : (x : ℕ) (s : List ℕ) → EndsIn x s → last s ≡ x
ends_last x s w = ap last w.1 ∙ last_snoc w.0 x

last-ends : (x : ℕ) (s : List ℕ) → 0 < length s → last s ≡ x → EndsIn x s
last-ends x =
    by_last (λ s. 0 < length s → last s ≡ x → EndsIn x s) (λ h e. absurd (omega arith))
    (λ front y ih h e. (front, ap (λ (z : ℕ). front ++ (z ∷ [])) (sym (last_snoc front y) ∙ e)))

-- ---- one carriage return more

-- a text with septets has units
some-units : (t : List ℕ) → 0 < length (septets_of t) → 0 < length t
unfolding septets_in
some-units [] h = h
some-units (u ∷ t) h = omega arith

pub filled-doubled : (t : List ℕ) → Codable t → FilledByCr t → Doubled (septets_of t)
filled-doubled t c f = (f.some, f.eights, ends_last 0x0d (septets_of t) ((septets-cr-iff t c).1 (last-ends 0x000d t (some-units t f.some) f.closed)))

pub doubled-filled : (t : List ℕ) → Codable t → Doubled (septets_of t) → FilledByCr t
doubled-filled t c d = record { some = d.0; eights = d.1; closed = ends_last 0x000d t ((septets-cr-iff t c).0 (last-ends 0x0d (septets_of t) d.0 d.2)) }

pub more-septets : (t u : List ℕ) → Codable t → OneCrMore t u → OneMore (septets_of t) (septets_of u)
more-septets t u c m = (filled-doubled t c m.filled, ap septets_of m.added ∙ septets-closing t 1)

pub septets-more : (t u : List ℕ) → Codable t → Codable u → OneMore (septets_of t) (septets_of u) → OneCrMore t u
septets-more t u c d m =
    record {
      filled = doubled-filled t c m.0;
      added = septets-injective u (t ++ (0x000d ∷ [])) d (codable-snoc t 0x000d c cr-codable) (m.1 ∙ sym (septets-closing t 1));
    }
