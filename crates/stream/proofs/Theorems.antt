-- What the packings are, bit by bit, and what a reader gets back. Each theorem is of the definitions, over septets (all below 128).
-- For crates above: cite these, and open no definition.
--
-- Short message
--   pack-bit, pack-spare   bit i of septet k is bit 7k + i of the stream, octet j has bits 8j to 8j + 7, and spare bits are 0
--   pack-only              no other octets are so
--   unpack-bit             the same read backwards: septet k of the octets
--   unpack-spare           spare bits are ignored on reading
--   unpack-pack            unpacking what was packed gives the septets back
--   pack-injective         packing is one to one at equal counts
-- USSD
--   ussd-back              reading gives the septets back, but for
--   ussd-back-doubled      those whose length is a non-zero multiple of 8 and which end in CR: these come back with one CR more
--   ussd-iff               two texts have the same octets exactly when they are the same or differ by that CR (C6 and C7)
-- Broadcast page, and UCS2
--   page-octets-length, page-end   a page has 82 octets, and its last five bits are 0
--   page-back, page-iff    a page gives the septets back without closing CRs, and pages are equal exactly when those are
--   old-page-back          an old page that was filled with zero septets gives the septets back without closing zeros
--   units-back, units-injective, octets-back   UCS2 octets and units, one to one
--   unit-page-back, unit-page-iff              a UCS2 page, up to closing 000D
-- Assumes nothing.
use mathlib.Core.Path.{◌≡◌, refl, sym, ap, ap₂, ◌∙◌, subst}
use mathlib.Core.Logic.{◌⊎◌, inl, inr, ◌↔◌}
use mathlib.Core.List.{List, [], ◌∷◌, ◌++◌}
use Prim.Native.Nat.{ℕ, ◌+◌, ◌*◌, ◌/◌, ◌%◌, ◌≤◌, ◌<◌}
use native.Mathlib.Decide.{ℕ_discrete, dec_le}
use native.Mathlib.Omega.{arith}
use lib.Dec.{lit<}
use lib.ListN.{length, get_or, take, replicate, length-append}
use lib.Seq.{ext_get_or, take_at}
use Rattle.lists.specs.Bits.{bit_of}
use Rattle.lists.specs.Lists.{laid}
use Rattle.lists.specs.Closing.{without_closing}
use Rattle.lists.proofs.Below.{Below}
use Rattle.stream.specs.Stream.{stream_bit, octets_for, packed, unpacked}
use Rattle.stream.specs.UssdPacking.{last, ussd_octets, ussd_septets}
use Rattle.stream.specs.Pages.{page, page_octets, page_septets}
use Rattle.stream.specs.OldPage.{old_page_septets}
use Rattle.stream.specs.Ucs2.{unit_octets, octet_units, unit_page}
use Rattle.stream.proofs.Stream.{packed-length, packed-below, unpacked-packed}
use Rattle.stream.proofs.Bits.{cut-bit, stream-bit, stream_end, cut-agree, same_bits}
use Rattle.stream.proofs.Ussd.{adds-other, adds-eight, closed-added, closed_same, back-same, back-doubled}
use Rattle.stream.proofs.Pages.{over-length, over_below, over-closing, over-same, page-length, page-below}
use Rattle.stream.proofs.UnitOctets.{octet-units-unit-octets, unit-octets-octet-units}
use borrow.Author.Tests.{eq-eqb}

-- ---- short message

module _ (s : List ℕ) where
  -- the octet that takes bit 7k + i is one of the packing's
  within : (k i j l : ℕ) → k < length s → i < 7 → 7 * k + i ≡ 8 * j + l → j < octets_for (length s)
  unfolding octets_for
  within k i j l hk hi e = omega arith

  pub pack-bit : (k i j l : ℕ) → k < length s → i < 7 → l < 8 → 7 * k + i ≡ 8 * j + l → bit_of (get_or (packed s) j 0) l ≡ bit_of (get_or s k 0) i
  unfolding packed
  pack-bit k i j l hk hi hl e =
      cut-bit 7 8 s (octets_for (length s)) j l (within k i j l hk hi e) hl ∙ ap (stream_bit 7 s) (sym e) ∙ stream-bit 7 s k i hi

  pub pack-spare : (j l : ℕ) → j < octets_for (length s) → l < 8 → 7 * length s ≤ 8 * j + l → bit_of (get_or (packed s) j 0) l ≡ 0
  unfolding packed
  pack-spare j l hj hl h = cut-bit 7 8 s (octets_for (length s)) j l hj hl ∙ stream_end 7 (lit< tt) s (8 * j + l) h

  pub pack-only : (o : List ℕ) → Below 128 s → Below 256 o → length o ≡ octets_for (length s)
      → ((k i j l : ℕ) → k < length s → i < 7 → l < 8 → 7 * k + i ≡ 8 * j + l → bit_of (get_or o j 0) l ≡ bit_of (get_or s k 0) i)
      → ((j l : ℕ) → j < octets_for (length s) → l < 8 → 7 * length s ≤ 8 * j + l → bit_of (get_or o j 0) l ≡ 0)
      → o ≡ packed s
  pack-only o hs ho n bits spare =
      ext_get_or 0 o (packed s) (n ∙ sym (packed-length s))
      (λ j h.
      let hj : j < octets_for (length s) = omega arith in
      same_bits (get_or o j 0) (get_or (packed s) j 0) (ho j) (packed-below s hs j)
      (λ l hl.
      elim (dec_le (7 * length s) (8 * j + l)) [
        | yes past ↦ spare j l hj hl past ∙ sym (pack-spare j l hj hl past)
        | no here ↦ both j l hl (omega arith)
      ]))
    where
      both : (j l : ℕ) → l < 8 → 8 * j + l < 7 * length s → bit_of (get_or o j 0) l ≡ bit_of (get_or (packed s) j 0) l
      both j l hl here =
          let k : ℕ = (8 * j + l) / 7 in
          let i : ℕ = (8 * j + l) % 7 in
          let e : 7 * k + i ≡ 8 * j + l = omega arith in
          let hk : k < length s = omega arith in
          let hi : i < 7 = omega arith in
          bits k i j l hk hi hl e ∙ sym (pack-bit k i j l hk hi hl e)

pub unpack-bit : (n : ℕ) (o : List ℕ) (k i j l : ℕ) → k < n → i < 7 → l < 8 → 7 * k + i ≡ 8 * j + l → bit_of (get_or (unpacked n o) k 0) i ≡ bit_of (get_or o j 0) l
unfolding unpacked
unpack-bit n o k i j l hk hi hl e = cut-bit 8 7 o n k i hk hi ∙ ap (stream_bit 8 o) e ∙ stream-bit 8 o j l hl

pub unpack-spare : (n : ℕ) (o p : List ℕ) → ((j l : ℕ) → l < 8 → 8 * j + l < 7 * n → bit_of (get_or o j 0) l ≡ bit_of (get_or p j 0) l) → unpacked n o ≡ unpacked n p
unfolding unpacked
unpack-spare n o p h = cut-agree (stream_bit 8 o) (stream_bit 8 p) 7 0 n (λ m l. same m (omega arith))
  where
    same : (m : ℕ) → m < 7 * n → stream_bit 8 o m ≡ stream_bit 8 p m
    same m l =
        let at : 8 * (m / 8) + m % 8 ≡ m = omega arith in
        let low : m % 8 < 8 = omega arith in
        ap (stream_bit 8 o) (sym at) ∙ stream-bit 8 o (m / 8) (m % 8) low ∙ h (m / 8) (m % 8) low (omega arith) ∙ sym (stream-bit 8 p (m / 8) (m % 8) low) ∙ ap (stream_bit 8 p) at

pub unpack-pack : (s : List ℕ) → Below 128 s → unpacked (length s) (packed s) ≡ s
unpack-pack s h = unpacked-packed s h

pub pack-injective : (s t : List ℕ) → Below 128 s → Below 128 t → length s ≡ length t → packed s ≡ packed t → s ≡ t
pack-injective s t hs ht n e = sym (unpacked-packed s hs) ∙ ap₂ unpacked n e ∙ unpacked-packed t ht

-- ---- USSD

-- a non-zero multiple of 8 septets that end in CR: packing adds another, and reading keeps it
abbrev pub Doubled : List ℕ → Type 0
Doubled s = (0 < length s) × (length s % 8 ≡ 0) × (last s ≡ 13)

-- t is s with that one CR more
abbrev pub OneMore : List ℕ → List ℕ → Type 0
OneMore s t = Doubled s × (t ≡ s ++ 13 ∷ [])

pub ussd-back : (s : List ℕ) → Below 128 s → (Doubled s → ⊥) → ussd_septets (ussd_octets s) ≡ s
ussd-back s h k = back-same s h k

pub ussd-back-doubled : (s : List ℕ) → Below 128 s → Doubled s → ussd_septets (ussd_octets s) ≡ s ++ 13 ∷ []
ussd-back-doubled s h d = back-doubled s h d.0 d.1 d.2

-- the text with one CR more has the same octets
ussd-same : (s t : List ℕ) → OneMore s t → ussd_octets s ≡ ussd_octets t
unfolding ussd_octets
ussd-same s t m =
    let d : Doubled s = m.0 in
    let n : length t ≡ length s + 1 = ap length m.1 ∙ length-append s (13 ∷ []) in
    let over : length s % 8 ≡ 0 = d.1 in
    ap packed (closed-added s (adds-eight s d.0 d.1 ∙ eq-eqb _ _ d.2) ∙ sym m.1 ∙ sym (closed_same t (adds-other t (omega arith) (omega arith))))

doubled-or-not : (s : List ℕ) → Doubled s ⊎ (Doubled s → ⊥)
unfolding last
doubled-or-not s =
    elim (ℕ_discrete (length s % 8) 0) [
      | yes e ↦
          elim (ℕ_discrete (last s) 13) [
            | yes l ↦
                elim (dec_le (length s) 0) [
                  | yes z ↦ inr (λ d. omega (arith, d.0))
                  | no p ↦ inl (omega arith, e, l)
                ]
            | no l ↦ inr (λ d. l d.2)
          ]
      | no e ↦ inr (λ d. e d.1)
    ]

snoc-injective : (s t : List ℕ) → s ++ 13 ∷ [] ≡ t ++ 13 ∷ [] → s ≡ t
snoc-injective s t e =
    let n : length s ≡ length t = omega (arith, length-append s (13 ∷ []), length-append t (13 ∷ []), ap length e) in
    sym (take_at s (13 ∷ []) (length s) refl) ∙ ap₂ (λ (k : ℕ) (l : List ℕ). take k l) n e ∙ take_at t (13 ∷ []) (length t) refl

pub ussd-iff : (s t : List ℕ) → Below 128 s → Below 128 t → (ussd_octets s ≡ ussd_octets t) ↔ ((s ≡ t) ⊎ (OneMore s t ⊎ OneMore t s))
ussd-iff s t hs ht = (λ e. to e (doubled-or-not s) (doubled-or-not t), from)
  where
    to : ussd_octets s ≡ ussd_octets t → Doubled s ⊎ (Doubled s → ⊥) → Doubled t ⊎ (Doubled t → ⊥) → (s ≡ t) ⊎ (OneMore s t ⊎ OneMore t s)
    to e (inl a) (inl b) = inl (snoc-injective s t (sym (ussd-back-doubled s hs a) ∙ ap ussd_septets e ∙ ussd-back-doubled t ht b))
    to e (inl a) (inr b) = inr (inl (a, sym (ussd-back t ht b) ∙ ap ussd_septets (sym e) ∙ ussd-back-doubled s hs a))
    to e (inr a) (inl b) = inr (inr (b, sym (ussd-back s hs a) ∙ ap ussd_septets e ∙ ussd-back-doubled t ht b))
    to e (inr a) (inr b) = inl (sym (ussd-back s hs a) ∙ ap ussd_septets e ∙ ussd-back t ht b)

    from : (s ≡ t) ⊎ (OneMore s t ⊎ OneMore t s) → ussd_octets s ≡ ussd_octets t
    from (inl e) = ap ussd_octets e
    from (inr (inl m)) = ussd-same s t m
    from (inr (inr m)) = sym (ussd-same t s m)

-- ---- the broadcast page

pub page-octets-length : (s : List ℕ) → length s ≤ 93 → length (page_octets s) ≡ 82
unfolding page_octets octets_for
page-octets-length s h = packed-length (page s) ∙ ap octets_for (page-length s h)

-- the last octet has bits 648 to 655, of which the septets fill three
pub page-end : (s : List ℕ) → length s ≤ 93 → (l : ℕ) → 3 ≤ l → l < 8 → bit_of (get_or (page_octets s) 81 0) l ≡ 0
unfolding page_octets octets_for
page-end s h l low high =
    let n : length (page s) ≡ 93 = page-length s h in
    pack-spare (page s) 81 l (subst (λ (k : ℕ). 81 < octets_for k) (sym n) (lit< tt)) high (omega arith)

pub page-back : (s : List ℕ) → length s ≤ 93 → Below 128 s → page_septets (page_octets s) ≡ without_closing 13 s
unfolding page_septets page_octets page
page-back s n h =
    ap (without_closing 13) (ap (λ (k : ℕ). unpacked k (packed (page s))) (sym (page-length s n)) ∙ unpacked-packed (page s) (page-below s h))
    ∙ over-closing 93 13 s

pub page-iff : (s t : List ℕ) → length s ≤ 93 → length t ≤ 93 → Below 128 s → Below 128 t
    → (page_octets s ≡ page_octets t) ↔ (without_closing 13 s ≡ without_closing 13 t)
unfolding page_octets page
page-iff s t ns nt hs ht =
    (λ e. sym (page-back s ns hs) ∙ ap page_septets e ∙ page-back t nt ht, λ e. ap packed (over-same 93 13 s t ns nt e))

-- ---- the old page, which is read only: this is of a page that was filled with zero septets

pub old-page-back : (s : List ℕ) → length s ≤ 93 → Below 128 s → old_page_septets (packed (laid s (replicate 93 0))) ≡ without_closing 0 s
unfolding old_page_septets
old-page-back s n h =
    let filled : List ℕ = laid s (replicate 93 0) in
    ap (without_closing 0) (ap (λ (k : ℕ). unpacked k (packed filled)) (sym (over-length 93 0 s n)) ∙ unpacked-packed filled (over_below 93 0 128 (lit< tt) s h))
    ∙ over-closing 93 0 s

-- ---- UCS2

pub units-back : (us : List ℕ) → octet_units (unit_octets us) ≡ us
units-back us = octet-units-unit-octets us

pub units-injective : (us vs : List ℕ) → unit_octets us ≡ unit_octets vs → us ≡ vs
units-injective us vs e = sym (octet-units-unit-octets us) ∙ ap octet_units e ∙ octet-units-unit-octets vs

pub octets-back : (o : List ℕ) → Below 256 o → length o % 2 ≡ 0 → unit_octets (octet_units o) ≡ o
octets-back o h e = unit-octets-octet-units o h e

pub unit-page-back : (us : List ℕ) → without_closing 13 (octet_units (unit_octets (unit_page us))) ≡ without_closing 13 us
unfolding unit_page
unit-page-back us = ap (without_closing 13) (octet-units-unit-octets (unit_page us)) ∙ over-closing 41 13 us

pub unit-page-iff : (us vs : List ℕ) → length us ≤ 41 → length vs ≤ 41
    → (unit_octets (unit_page us) ≡ unit_octets (unit_page vs)) ↔ (without_closing 13 us ≡ without_closing 13 vs)
unfolding unit_page
unit-page-iff us vs nu nv = (
  λ e. sym (unit-page-back us) ∙ ap (λ (o : List ℕ). without_closing 13 (octet_units o)) e ∙ unit-page-back vs,
  λ e. ap unit_octets (over-same 41 13 us vs nu nv e),
)
