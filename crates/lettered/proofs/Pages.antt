-- A page with letters is the letters and, behind them, what it holds of the text filled up with CRs: septets whose first three are the letters and
-- their CR, or two octets and then units. So letters and filling come back from its octets each by itself.
-- Assumes nothing.
--   unpacked-front, unpacked-append   the first septets of octets, by all of them and by the octets that have them
--   letters-before, lettered-below    letters are septets, alone and before others
--   room-held                         a text that has room, by what a page holds of it
--   lettered-framed                   a page's octets by its letters and its filling
--   text-behind                       the text of octets by what they hold behind the letters
--   framed-length, framed-letters, framed-cr, framed-behind   how many there are, and what they hold
use mathlib.Core.Path.{◌≡◌, refl, sym, ap, ap₂, ◌∙◌}
use mathlib.Core.Bool.{Bool, true, false, cond}
use mathlib.Core.List.{List, [], ◌∷◌, ◌++◌}
use Prim.Native.Nat.{ℕ, zero, suc, ◌+◌, ◌*◌, ◌≤◌, ◌<◌}
use native.Mathlib.Nat.{not-suc-le-zero, le_of_suc-le-suc}
use native.Mathlib.Omega.{arith}
use borrow.Author.Tests.{ltb-false}
use lib.Dec.{lit<}
use lib.ListN.{length, take, drop, replicate, length-append, get_or-append}
use lib.Seq.{drop_at}
use Rattle.words.specs.declared.Service.TheVariants.{Broadcast}
use Rattle.words.specs.Sizes.{most_septets}
use Rattle.lists.specs.Bits.{bit_of, gather}
use Rattle.lists.specs.Lists.{laid}
use Rattle.lists.specs.Closing.{without_closing}
use Rattle.lists.proofs.Below.{Below}
use Rattle.fields.specs.declared.Letters.{Letters}
use Rattle.fields.specs.Letters.{are_letters}
use Rattle.letters.specs.Sized.{over_room}
use Rattle.letters.specs.Writing.{septets_of}
use Rattle.letters.specs.Reading.{text_of}
use Rattle.letters.proofs.Theorems.{septets-below}
use Rattle.stream.specs.Stream.{cut, stream_bit, octets_for, packed, unpacked}
use Rattle.stream.specs.UssdPacking.{cr}
use Rattle.stream.specs.Pages.{page, page_octets}
use Rattle.stream.specs.Ucs2.{unit_octets, octet_units}
use Rattle.stream.proofs.Stream.{packed-length, unpacked-packed}
use Rattle.stream.proofs.Pages.{over-length, over_below}
use Rattle.stream.proofs.UnitOctets.{unit-octets-length, octet-units-unit-octets}
use Rattle.stream.proofs.Theorems.{unpack-spare}
use Rattle.lettered.specs.LetteredPage.{room_septets, room_units, lettered_septets, lettered_units, lettered_octets, lettered_text}
use Rattle.lettered.proofs.Bits.{letters-below}
use Rattle.lettered.proofs.Texts.{held_of}

-- ---- the first septets of octets

cut-front : (b : ℕ → ℕ) (w m k n : ℕ) → k ≤ n → take k (cut b w m n) ≡ cut b w m k
unfolding cut
cut-front b w m zero n h = refl
cut-front b w m (suc k) zero h = absurd (not-suc-le-zero h)
cut-front b w m (suc k) (suc n) h = ap (λ (l : List ℕ). gather b m w ∷ l) (cut-front b w (m + w) k n (le_of_suc-le-suc h))

-- fewer septets are the front of more
pub unpacked-front : (k n : ℕ) (o : List ℕ) → k ≤ n → take k (unpacked n o) ≡ unpacked k o
unfolding unpacked
unpacked-front k n o h = cut-front (stream_bit 8 o) 7 0 k n h

-- octets behind those that have them do not matter
pub unpacked-append : (n : ℕ) (o p : List ℕ) → 7 * n ≤ 8 * length o → unpacked n (o ++ p) ≡ unpacked n o
unpacked-append n o p h = unpack-spare n (o ++ p) o (λ j l hl in-n. ap (λ (x : ℕ). bit_of x l) (get_or-append o p 0 j (omega arith)))

-- the first septets of what was packed
packed-front : (k : ℕ) (s : List ℕ) → Below 128 s → k ≤ length s → unpacked k (packed s) ≡ take k s
packed-front k s b h = sym (unpacked-front k (length s) (packed s) h) ∙ ap (take k) (unpacked-packed s b)

-- ---- letters

-- the letters alone, or before other septets
pub letters-before : (l : Letters) (s : List ℕ) → are_letters l ≡ true → Below 128 s → Below 128 (l.first ∷ l.second ∷ s)
letters-before l s e b zero = (letters-below l e).0
letters-before l s e b (suc zero) = (letters-below l e).1
letters-before l s e b (suc (suc k)) = b k

pub lettered-below : (l : Letters) (s : List ℕ) → are_letters l ≡ true → Below 128 s → Below 128 (lettered_septets l s)
lettered-below l s e b = letters-before l (cr ∷ s) e behind-cr
  where
    behind-cr : Below 128 (cr ∷ s)
    behind-cr zero = lit< tt
    behind-cr (suc k) = b k

-- ---- rooms

abbrev pub room_of : Bool → ℕ
room_of ucs2 = cond ucs2 room_units room_septets

pub room-held : (ucs2 : Bool) (t : List ℕ) → over_room room_septets room_units ucs2 t ≡ false → length (held_of ucs2 t) ≤ room_of ucs2
room-held true t e = ltb-false _ _ e
room-held false t e = ltb-false _ _ e

-- ---- the letters and what is filled up behind them

abbrev pub filling : Bool → List ℕ → List ℕ
filling ucs2 t = laid (held_of ucs2 t) (replicate (room_of ucs2) cr)

pub filling-length : (ucs2 : Bool) (t : List ℕ) → over_room room_septets room_units ucs2 t ≡ false → length (filling ucs2 t) ≡ room_of ucs2
filling-length ucs2 t e = over-length (room_of ucs2) cr (held_of ucs2 t) (room-held ucs2 t e)

pub filling-below : (t : List ℕ) → Below 128 (filling false t)
filling-below t = over_below room_septets cr 128 (lit< tt) (septets_of t) (septets-below t)

-- the octets of the letters with this behind them
abbrev pub framed : Bool → Letters → List ℕ → List ℕ
framed ucs2 l p = cond ucs2 (packed (l.first ∷ l.second ∷ []) ++ unit_octets p) (packed (lettered_septets l p))

pub lettered-framed : (ucs2 : Bool) (l : Letters) (t : List ℕ) → lettered_octets ucs2 l t ≡ framed ucs2 l (filling ucs2 t)
unfolding lettered_octets lettered_units page_octets page laid
lettered-framed true l t = refl
lettered-framed false l t = refl

-- what octets hold behind the letters
abbrev pub behind : Bool → List ℕ → List ℕ
behind ucs2 o = cond ucs2 (octet_units (drop 2 o)) (drop 3 (unpacked (most_septets Broadcast) o))

-- the text of octets, by what they hold behind the letters
pub text-behind : (ucs2 : Bool) (o : List ℕ) → lettered_text ucs2 o ≡ cond ucs2 (without_closing cr (behind ucs2 o)) (text_of (without_closing cr (behind ucs2 o)))
unfolding lettered_text
text-behind true o = refl
text-behind false o = refl

two-length : (l : Letters) → length (packed (l.first ∷ l.second ∷ [])) ≡ 2
unfolding octets_for
two-length l = packed-length (l.first ∷ l.second ∷ [])

module _ (l : Letters) (p : List ℕ) where
  pub framed-length : (ucs2 : Bool) → length p ≡ room_of ucs2 → length (framed ucs2 l p) ≡ 82
  unfolding octets_for
  framed-length true n =
      length-append (packed (l.first ∷ l.second ∷ [])) (unit_octets p)
      ∙ ap₂ (λ (a b : ℕ). a + b) (two-length l) (unit-octets-length p ∙ ap (λ (k : ℕ). 2 * k) n)
  framed-length false n = packed-length (lettered_septets l p) ∙ ap (λ (k : ℕ). octets_for (suc (suc (suc k)))) n

  module _ (e : are_letters l ≡ true) where
    pub framed-letters : (ucs2 : Bool) → (ucs2 ≡ false → Below 128 p) → unpacked 2 (framed ucs2 l p) ≡ l.first ∷ l.second ∷ []
    framed-letters true b =
        unpacked-append 2 (packed (l.first ∷ l.second ∷ [])) (unit_octets p) (omega (arith, two-length l))
        ∙ unpacked-packed (l.first ∷ l.second ∷ []) (letters-before l [] e (λ k. lit< tt))
    framed-letters false b = packed-front 2 (lettered_septets l p) (lettered-below l p e (b refl)) (omega arith)

    pub framed-cr : Below 128 p → unpacked 3 (framed false l p) ≡ l.first ∷ l.second ∷ cr ∷ []
    framed-cr b = packed-front 3 (lettered_septets l p) (lettered-below l p e b) (omega arith)

    pub framed-behind : (ucs2 : Bool) → length p ≡ room_of ucs2 → (ucs2 ≡ false → Below 128 p) → behind ucs2 (framed ucs2 l p) ≡ p
    framed-behind true n b =
        ap octet_units (drop_at (packed (l.first ∷ l.second ∷ [])) (unit_octets p) 2 (two-length l))
        ∙ octet-units-unit-octets p
    framed-behind false n b =
        ap (λ (k : ℕ). drop 3 (unpacked (suc (suc (suc k))) (packed (lettered_septets l p)))) (sym n)
        ∙ ap (drop 3) (unpacked-packed (lettered_septets l p) (lettered-below l p e (b refl)))
