-- Which texts have the same octets, and which text the octets of one are read as: what the theorems of Demands.antt say of the calls, said
-- of `message_octets` and `message_count`. The rooms are those of the lent buffers. Assumes nothing.
use mathlib.Core.Path.{◌≡◌, refl, ap, ◌∙◌, sym}
use mathlib.Core.Bool.{Bool, true, false, cond}
use mathlib.Core.List.{List, [], ◌∷◌, ◌++◌}
use mathlib.Core.Logic.{◌↔◌, ◌⊎◌, inl, inr}
use Prim.Native.Nat.{ℕ, ◌≤◌}
use lib.Dec.{ltb}
use lib.ListN.{length}
use borrow.Author.Tests.{ltb-false}
use Rattle.words.specs.declared.Service.{Service}
use Rattle.words.specs.declared.Service.TheVariants.{ShortMessage, Broadcast, Ussd}
use Rattle.words.specs.Sizes.{most_septets, most_units}
use Rattle.lists.specs.Closing.{without_closing}
use Rattle.coding.specs.declared.Reading.{Reading}
use Rattle.coding.specs.OctetRead.{octet_reads}
use Rattle.coding.specs.OctetWritten.{smallest}
use Rattle.coding.specs.Holding.{is_ucs2}
use Rattle.coding.specs.LanguageLetters.{is_lettered}
use Rattle.coding.proofs.TextOctet.{coding-written, coding-read, coding-complete}
use Rattle.coding.proofs.Theorems.{settled}
use Rattle.letters.specs.Writing.{septets_of, first_unlisted}
use Rattle.letters.specs.Reading.{text_of}
use Rattle.letters.proofs.Theorems.{Codable, septets-below, septets-injective, septets-closing, text-septets}
use Rattle.stream.proofs.Theorems.{OneMore, pack-injective, units-injective, ussd-iff, page-iff, unit-page-iff}
use Rattle.stream.specs.SeptetCalls.{octets_of, count_of}
use Rattle.stream.specs.UnitCalls.{ucs2_octets_of, unit_count_of}
use Rattle.stream.proofs.RoundTrips.{pack-fits, unpack-pack-short, unpack-pack-page, unpack-pack-ussd, unpack-pack-ussd-doubled, units-fit, units-round-trip, unit-page-round-trip}
use Rattle.demands.specs.MessageRead.{fits_reading, text_of_message}
use Rattle.demands.specs.MessageWritten.{message_octets, message_count}
use Rattle.demands.specs.Demands.{Writable, FilledByCr, OneCrMore}
use Rattle.demands.proofs.Unlettered.{unmarked}
use Rattle.letters.proofs.Texts.{codable-told, codable-snoc, cr-codable, codable-closed, closing-septets}
use Rattle.demands.proofs.Texts.{more-septets, septets-more, filled-doubled, doubled-filled}
use Rattle.std.specs.Prelude.{Ok}

-- ---- what an accepted text is, by the alphabet of its reading

septets-codable : (service : Service) (r : Reading) (t : List ℕ) (room : ℕ) → is_ucs2 r.alphabet ≡ false → Writable service r t room → Codable t
septets-codable service r t room b w = codable-told t (ltb-false _ _ (sym (ap (λ (x : Bool). cond x false (ltb (first_unlisted t) (length t))) b) ∙ w.codable))

septets-sized : (service : Service) (r : Reading) (t : List ℕ) (room : ℕ) → is_ucs2 r.alphabet ≡ false → Writable service r t room → length (septets_of t) ≤ most_septets service
septets-sized service r t room b w =
    ltb-false _ _ (sym (ap (λ (x : Bool). cond x (ltb (most_units service) (length t)) (ltb (most_septets service) (length (septets_of t)))) b) ∙ w.sized)

units-sized : (service : Service) (r : Reading) (t : List ℕ) (room : ℕ) → is_ucs2 r.alphabet ≡ true → Writable service r t room → length t ≤ most_units service
units-sized service r t room b w =
    ltb-false _ _ (sym (ap (λ (x : Bool). cond x (ltb (most_units service) (length t)) (ltb (most_septets service) (length (septets_of t)))) b) ∙ w.sized)

septets-octets : (service : Service) (r : Reading) (t : List ℕ) → is_lettered service r ≡ false → is_ucs2 r.alphabet ≡ false → message_octets service r t ≡ octets_of service (septets_of t)
septets-octets service r t l b = simp (l, b)

units-octets : (service : Service) (r : Reading) (t : List ℕ) → is_lettered service r ≡ false → is_ucs2 r.alphabet ≡ true → message_octets service r t ≡ ucs2_octets_of service t
units-octets service r t l b = simp (l, b)

septets-count : (service : Service) (r : Reading) (t : List ℕ) → is_ucs2 r.alphabet ≡ false → message_count service r t ≡ count_of service (septets_of t)
septets-count service r t b = simp b

units-count : (service : Service) (r : Reading) (t : List ℕ) → is_ucs2 r.alphabet ≡ true → message_count service r t ≡ unit_count_of service t
units-count service r t b = simp b

-- a statement for each alphabet
by-alphabet : {A : Type 0} (r : Reading) → (is_ucs2 r.alphabet ≡ false → A) → (is_ucs2 r.alphabet ≡ true → A) → A
by-alphabet {A} r f g = go (is_ucs2 r.alphabet) refl
  where
    go : (b : Bool) → is_ucs2 r.alphabet ≡ b → A
    go false e = f e
    go true e = g e

module _ (r : Reading) (t u : List ℕ) (room other : ℕ) where
  -- ---- short messages

  pub short-one-to-one : Writable ShortMessage r t room → Writable ShortMessage r u other
      → message_octets ShortMessage r t ≡ message_octets ShortMessage r u → message_count ShortMessage r t ≡ message_count ShortMessage r u → t ≡ u
  short-one-to-one w v e n =
      by-alphabet r
      (λ b. septets-injective t u (septets-codable ShortMessage r t room b w) (septets-codable ShortMessage r u other b v)
      (pack-injective (septets_of t) (septets_of u) (septets-below t) (septets-below u) (sym (septets-count ShortMessage r t b) ∙ n ∙ septets-count ShortMessage r u b)
      (sym (septets-octets ShortMessage r t refl b) ∙ e ∙ septets-octets ShortMessage r u refl b)))
      (λ b. units-injective t u (sym (units-octets ShortMessage r t refl b) ∙ e ∙ units-octets ShortMessage r u refl b))

  -- ---- USSD

  pub ussd-same-iff : is_ucs2 r.alphabet ≡ false → Writable Ussd r t room → Writable Ussd r u other
      → (message_octets Ussd r t ≡ message_octets Ussd r u) ↔ ((t ≡ u) ⊎ (OneCrMore t u ⊎ OneCrMore u t))
  ussd-same-iff b w v = (
    λ e. to ((ussd-iff (septets_of t) (septets_of u) (septets-below t) (septets-below u)).0 (sym (septets-octets Ussd r t refl b) ∙ e ∙ septets-octets Ussd r u refl b)),
    λ x. septets-octets Ussd r t refl b ∙ (ussd-iff (septets_of t) (septets_of u) (septets-below t) (septets-below u)).1 (from x) ∙ sym (septets-octets Ussd r u refl b),
  )
    where
      c : Codable t
      c = septets-codable Ussd r t room b w

      d : Codable u
      d = septets-codable Ussd r u other b v

      to : (septets_of t ≡ septets_of u) ⊎ (OneMore (septets_of t) (septets_of u) ⊎ OneMore (septets_of u) (septets_of t)) → (t ≡ u) ⊎ (OneCrMore t u ⊎ OneCrMore u t)
      to (inl e) = inl (septets-injective t u c d e)
      to (inr (inl m)) = inr (inl (septets-more t u c d m))
      to (inr (inr m)) = inr (inr (septets-more u t d c m))

      from : (t ≡ u) ⊎ (OneCrMore t u ⊎ OneCrMore u t) → (septets_of t ≡ septets_of u) ⊎ (OneMore (septets_of t) (septets_of u) ⊎ OneMore (septets_of u) (septets_of t))
      from (inl e) = inl (ap septets_of e)
      from (inr (inl m)) = inr (inl (more-septets t u c m))
      from (inr (inr m)) = inr (inr (more-septets u t d m))

  pub ussd-ucs2-one-to-one : is_ucs2 r.alphabet ≡ true → message_octets Ussd r t ≡ message_octets Ussd r u → t ≡ u
  ussd-ucs2-one-to-one b e = units-injective t u (sym (units-octets Ussd r t refl b) ∙ e ∙ units-octets Ussd r u refl b)

  -- ---- one broadcast page

  pub page-same-iff : Writable Broadcast r t room → Writable Broadcast r u other
      → (message_octets Broadcast r t ≡ message_octets Broadcast r u) ↔ (without_closing 0x000d t ≡ without_closing 0x000d u)
  page-same-iff w v = by-alphabet r septets units
    where
      septets : is_ucs2 r.alphabet ≡ false → (message_octets Broadcast r t ≡ message_octets Broadcast r u) ↔ (without_closing 0x000d t ≡ without_closing 0x000d u)
      septets b =
          let c = septets-codable Broadcast r t room b w in
          let d = septets-codable Broadcast r u other b v in
          let iff = page-iff (septets_of t) (septets_of u) (septets-sized Broadcast r t room b w) (septets-sized Broadcast r u other b v) (septets-below t) (septets-below u) in (
            λ e. septets-injective (without_closing 0x000d t) (without_closing 0x000d u) (codable-closed t c) (codable-closed u d)
                (sym (closing-septets t c) ∙ iff.0 (sym (septets-octets Broadcast r t w.holds.unmarked b) ∙ e ∙ septets-octets Broadcast r u v.holds.unmarked b) ∙ closing-septets u d),
            λ e. septets-octets Broadcast r t w.holds.unmarked b ∙ iff.1 (closing-septets t c ∙ ap septets_of e ∙ sym (closing-septets u d)) ∙ sym (septets-octets Broadcast r u v.holds.unmarked b),
          )

      units : is_ucs2 r.alphabet ≡ true → (message_octets Broadcast r t ≡ message_octets Broadcast r u) ↔ (without_closing 0x000d t ≡ without_closing 0x000d u)
      units b =
          let iff = unit-page-iff t u (units-sized Broadcast r t room b w) (units-sized Broadcast r u other b v) in
          (λ e. iff.0 (sym (units-octets Broadcast r t w.holds.unmarked b) ∙ e ∙ units-octets Broadcast r u v.holds.unmarked b), λ e. units-octets Broadcast r t w.holds.unmarked b ∙ iff.1 e ∙ sym (units-octets Broadcast r u v.holds.unmarked b))

-- ---- the round trip

-- the coding octet that is written reads as the reading, and the octets and count that are written fit it
pub write-reads : (service : Service) (r : Reading) (t : List ℕ) (room : ℕ) → Writable service r t room
    → (octet_reads service (smallest service r) ≡ Ok r) × (fits_reading service r (length (message_octets service r t)) (message_count service r t) ≡ true)
write-reads service r t room w = (back, by-alphabet r septets units)
  where
    back : octet_reads service (smallest service r) ≡ Ok r
    back =
        let k = coding-complete service r w.octet.0 w.new w.plain w.octet.1.0 w.octet.1.1 in
        let s = settled service r k.0 (coding-written service r k.0 k.1).1 in
        ap (octet_reads service) s.first ∙ coding-read service r k.0 w.holds.unmarked k.1

    l : is_lettered service r ≡ false
    l = unmarked service r w.holds.unmarked

    septets : is_ucs2 r.alphabet ≡ false → fits_reading service r (length (message_octets service r t)) (message_count service r t) ≡ true
    septets b = simp (l, b) (pack-fits service (septets_of t) w.new (septets-sized service r t room b w))

    units : is_ucs2 r.alphabet ≡ true → fits_reading service r (length (message_octets service r t)) (message_count service r t) ≡ true
    units b = simp (l, b) (units-fit service t w.new (units-sized service r t room b w))

-- the text that is read where t was written
abbrev pub read_back : Service → Reading → List ℕ → List ℕ
read_back service r t = text_of_message service r (message_count service r t) (message_octets service r t)

module _ (r : Reading) (t : List ℕ) (room : ℕ) where
  pub short_back : Writable ShortMessage r t room → read_back ShortMessage r t ≡ t
  short_back w =
      by-alphabet r
      (λ b. simp b (ap text_of (unpack-pack-short (septets_of t) (septets-below t)) ∙ text-septets t (septets-codable ShortMessage r t room b w)))
      (λ b. simp b (units-round-trip t).0)

  pub ussd-back : is_ucs2 r.alphabet ≡ false → Writable Ussd r t room → (FilledByCr t → ⊥) → read_back Ussd r t ≡ t
  ussd-back b w n =
      let c = septets-codable Ussd r t room b w in
      simp b (ap text_of (unpack-pack-ussd (septets_of t) (septets-below t) (λ d. n (doubled-filled t c d))) ∙ text-septets t c)

  -- C6 comes back as C7
  pub ussd-back-filled : is_ucs2 r.alphabet ≡ false → Writable Ussd r t room → FilledByCr t → read_back Ussd r t ≡ t ++ (0x000d ∷ [])
  ussd-back-filled b w f =
      let c = septets-codable Ussd r t room b w in
      simp b
      (ap text_of (unpack-pack-ussd-doubled (septets_of t) (septets-below t) (filled-doubled t c f) ∙ sym (septets-closing t 1))
      ∙ text-septets (t ++ (0x000d ∷ [])) (codable-snoc t 0x000d c cr-codable))

  pub ussd-ucs2-back : is_ucs2 r.alphabet ≡ true → read_back Ussd r t ≡ t
  ussd-ucs2-back b = simp b (units-round-trip t).1

  pub page-back : Writable Broadcast r t room → read_back Broadcast r t ≡ without_closing 0x000d t
  page-back w =
      by-alphabet r
      (λ b. let c = septets-codable Broadcast r t room b w in
      simp (w.holds.unmarked, b) (ap text_of (unpack-pack-page (septets_of t) (septets-sized Broadcast r t room b w) (septets-below t) ∙ closing-septets t c) ∙ text-septets (without_closing 0x000d t) (codable-closed t c)))
      (λ b. simp (w.holds.unmarked, b) (unit-page-round-trip t))
