-- The septets that are packed for a text: whole groups of eight, and what is left of them with the CR that USSD adds, as the code stores them.
-- Assumes nothing.
use mathlib.Core.Path.{◌≡◌, refl, sym, ap, ap₂, ◌∙◌, subst}
use mathlib.Core.Bool.{Bool, true, false, false≢true}
use mathlib.Core.List.{List, [], ◌∷◌, ◌++◌, append-nil, append_assoc}
use Prim.Native.Nat.{ℕ, ◌+◌, ◌-◌, ◌*◌, ◌/◌, ◌%◌, ◌^◌, ◌≤◌, ◌<◌}
use native.Mathlib.Nat.{mod-lt}
use native.Mathlib.Omega.{arith}
use lib.Dec.{leb, lit<, lit≤}
use borrow.Author.Tests.{lt-leb}
use lib.Bits.{bit_and, bit_or, and_mask, or_shifted_r}
use lib.Pow.{shl_exact, pow_pos}
use lib.ListN.{length, get_or, take, drop, length-append, take-append-drop}
use lib.Seq.{length-take-le, take-add, drop_at, get_or-take}
use Rattle.words.specs.declared.Service.{Service}
use Rattle.words.specs.declared.Service.TheVariants.{ShortMessage, Broadcast, Ussd, OldPage}
use Rattle.words.specs.Sizes.{most_septets, is_old_page}
use Rattle.lists.specs.Lists.{first_place, laid}
use Rattle.lists.proofs.Below.{Below, below-take}
use Rattle.lists.proofs.Places.{place_none}
use Rattle.lists.proofs.Laid.{laid_then}
use Rattle.stream.specs.Stream.{octets_for, packed}
use Rattle.stream.specs.Digits.{value, digits}
use Rattle.stream.specs.UssdPacking.{last, with_cr, closed, ussd_octets}
use Rattle.stream.specs.Pages.{page, page_octets}
use Rattle.stream.specs.SeptetCalls.{octets_of}
use Rattle.stream.specs.Groups.{left_over}
use Rattle.stream.specs.Inner.{is_page}
use Rattle.stream.specs.ArrayCalls.{adds_under}
use Rattle.stream.proofs.Numbers.{pow-mul, digits-length, digits-below, digits_value, digits-front, digits_low, value-lt, value-digits, value-append, value-one, recut-append}
use Rattle.stream.proofs.Stream.{packed-digits}
use Rattle.stream.proofs.Ussd.{with-cr-below}

-- ---- the CR

pub cr-length : (cr : Bool) (t : List ℕ) → (length t ≤ length (with_cr cr t)) × (length (with_cr cr t) ≤ length t + 1)
cr-length true t = let e : length (t ++ 13 ∷ []) ≡ length t + 1 = length-append t (13 ∷ []) in (omega arith, omega arith)
cr-length false t = (omega arith, omega arith)

pub cr-longer : (t : List ℕ) → length (with_cr true t) ≡ length t + 1
cr-longer t = length-append t (13 ∷ [])

cr-after : (cr : Bool) (s t : List ℕ) → s ++ with_cr cr t ≡ with_cr cr (s ++ t)
cr-after true s t = sym (append_assoc s t (13 ∷ []))
cr-after false s t = refl

-- the CR above septets, by a shift and an or
cr-above : (l : List ℕ) → Below 128 l → length l < 8 → bit_or (value 128 l) (13 * 2 ^ (7 * length l) % 2 ^ 64) ≡ value 128 (with_cr true l)
cr-above l h few =
    ap (bit_or (value 128 l)) (shl_exact {a = 13} 4 (7 * length l) 64 (lit< tt) (omega arith))
    ∙ or_shifted_r 13 (7 * length l) (value 128 l) (subst (λ (k : ℕ). value 128 l < k) (sym (pow-mul 2 7 (length l))) (value-lt 128 l h))
    ∙ ap (λ (k : ℕ). 13 * k + value 128 l) (pow-mul 2 7 (length l))
    ∙ sym (value-append 128 l (13 ∷ []) ∙ ap (λ (k : ℕ). k * 128 ^ length l + value 128 l) (value-one 128 13))

-- ---- what whole groups of eight leave over

-- the mask of so many bits
ones : (k : ℕ) → k < 64 → 1 * 2 ^ k % 2 ^ 64 - 1 ≡ 2 ^ k - 1
ones k few =
    let e : 1 * 2 ^ k % 2 ^ 64 ≡ 1 * 2 ^ k = shl_exact {a = 1} 1 k 64 (lit< tt) (omega arith) in
    omega arith

pub ones-above-0 : (k : ℕ) → k < 64 → 1 ≤ 1 * 2 ^ k % 2 ^ 64
ones-above-0 k few =
    let e : 1 * 2 ^ k % 2 ^ 64 ≡ 1 * 2 ^ k = shl_exact {a = 1} 1 k 64 (lit< tt) (omega arith) in
    omega (arith, pow_pos k)

-- the septets left over, by a mask, and with the CR above them
over : (v k : ℕ) → k ≤ 8 → value 128 (take k (digits 128 8 v)) ≡ v % 2 ^ (7 * k)
over v k few =
    let small : v % 128 ^ k < 128 ^ k = subst (λ (m : ℕ). v % m < m) (pow-mul 2 7 k) (mod-lt v (pow_pos (7 * k))) in
    ap (value 128) (digits-front 128 8 k v few ∙ sym (digits_low 128 k v (lit< tt)))
    ∙ value-digits 128 k (v % 128 ^ k) (lit< tt) small
    ∙ ap (λ (m : ℕ). v % m) (sym (pow-mul 2 7 k))

pub over-masked : (v n : ℕ) → bit_and v (1 * 2 ^ (7 * (n % 8)) % 2 ^ 64 - 1) ≡ left_over v n false
unfolding left_over
over-masked v n = ap (bit_and v) (ones (7 * (n % 8)) (omega arith)) ∙ and_mask v (7 * (n % 8)) ∙ sym (over v (n % 8) (omega arith))

pub over_closed : (v n : ℕ) → bit_or (left_over v n false) (13 * 2 ^ (7 * (n % 8)) % 2 ^ 64) ≡ left_over v n true
unfolding left_over
over_closed v n =
    let l : List ℕ = take (n % 8) (digits 128 8 v) in
    let size : length l ≡ n % 8 = length-take-le (n % 8) (digits 128 8 v) (omega (arith, digits-length 128 8 v)) in
    ap (λ (k : ℕ). bit_or (value 128 l) (13 * 2 ^ (7 * k) % 2 ^ 64)) (sym size)
    ∙ cr-above l (below-take 128 (digits 128 8 v) (digits-below 128 8 v (lit< tt)) (n % 8)) (omega arith)

-- of the number of up to eight septets
pub over-few : (l : List ℕ) (n : ℕ) (cr : Bool) → Below 128 l → n % 8 ≤ length l → left_over (value 128 l) n cr ≡ value 128 (with_cr cr (take (n % 8) l))
unfolding left_over
over-few l n cr h few =
    ap (λ (s : List ℕ). value 128 (with_cr cr s))
    (digits-front 128 8 (n % 8) (value 128 l) (omega arith) ∙ sym (digits-front 128 (length l) (n % 8) (value 128 l) few) ∙ ap (take (n % 8)) (digits_value 128 l h))

-- ---- the front of a list

pub front-over : (n : ℕ) (s : List ℕ) → n ≤ length s → length (take n s) % 8 ≡ n % 8
front-over n s h = ap (λ (k : ℕ). k % 8) (length-take-le n s h)

pub front-last : (n : ℕ) (s : List ℕ) → n ≤ length s → 0 < n → last (take n s) ≡ get_or s (n - 1) 0
unfolding last
front-last n s h more = ap (λ (k : ℕ). get_or (take n s) (k - 1) 0) (length-take-le n s h) ∙ get_or-take n s (n - 1) 0 (omega arith)

-- what is left of the first n after k of them
pub front_rest : (n k : ℕ) (s : List ℕ) → k ≤ n → k ≤ length s → drop k (take n s) ≡ take (n - k) (drop k s)
front_rest n k s h few =
    let parts : n ≡ k + (n - k) = omega arith in
    ap (λ (i : ℕ). drop k (take i s)) parts ∙ ap (drop k) (take-add k (n - k) s) ∙ drop_at (take k s) (take (n - k) (drop k s)) k (length-take-le k s few)

-- ---- whole groups, and what is left

-- the octets are those of whole groups, and at most seven more
pub sent-count : (n : ℕ) (all : ℕ) → n ≤ all → all ≤ n + 1 → (7 * (n / 8) ≤ octets_for all) × (octets_for all ≤ 7 * (n / 8) + 7)
unfolding octets_for
sent-count n all least most = (omega arith, omega arith)

module _ (t : List ℕ) (h : Below 128 t) (cr : Bool) (n : ℕ) (all : length t ≡ n) where
  abbrev groups : ℕ
  groups = n / 8

  abbrev octets : ℕ
  octets = octets_for (length (with_cr cr t))

  pub sent-parts : digits 256 (7 * groups) (value 128 (take (8 * groups) t)) ++ digits 256 (octets - 7 * groups) (value 128 (with_cr cr (drop (8 * groups) t))) ≡ packed (with_cr cr t)
  sent-parts =
      let front : List ℕ = take (8 * groups) t in
      let size : 7 * length front ≡ 8 * (7 * groups) = ap (λ (k : ℕ). 7 * k) (length-take-le (8 * groups) t (omega arith)) ∙ omega arith in
      let least : n ≤ length (with_cr cr t) = omega (arith, cr-length cr t) in
      let most : length (with_cr cr t) ≤ n + 1 = omega (arith, cr-length cr t) in
      let whole : 7 * groups + (octets - 7 * groups) ≡ octets = omega (arith, sent-count n (length (with_cr cr t)) least most) in
      sym (recut-append 7 8 (7 * groups) (octets - 7 * groups) front (with_cr cr (drop (8 * groups) t)) (below-take 128 t h (8 * groups)) size)
      ∙ ap₂ (λ (k : ℕ) (l : List ℕ). digits 256 k (value 128 l)) whole (cr-after cr front (drop (8 * groups) t) ∙ ap (with_cr cr) (take-append-drop (8 * groups) t))
      ∙ sym (packed-digits (with_cr cr t) (with-cr-below cr t h))

  module _ (d first : List ℕ) (e : first ≡ laid (digits 256 (7 * groups) (value 128 (take (8 * groups) t))) d) where
    pub sent-whole : octets ≤ 7 * groups → first ≡ laid (packed (with_cr cr t)) d
    unfolding digits
    sent-whole none =
        let zero_left : 0 ≡ octets - 7 * groups = omega arith in
        e
        ∙ ap (λ (l : List ℕ). laid l d)
        (sym (append-nil (digits 256 (7 * groups) (value 128 (take (8 * groups) t))))
        ∙ ap (λ (k : ℕ). digits 256 (7 * groups) (value 128 (take (8 * groups) t)) ++ digits 256 k (value 128 (with_cr cr (drop (8 * groups) t)))) zero_left
        ∙ sent-parts)

    pub sent-end : (w : ℕ) (second : List ℕ) → w ≡ value 128 (with_cr cr (drop (8 * groups) t))
        → second ≡ take (7 * groups) first ++ digits 256 (octets - 7 * groups) w ++ drop (7 * groups + (octets - 7 * groups)) first → second ≡ laid (packed (with_cr cr t)) d
    sent-end w second ew f =
        let done : List ℕ = digits 256 (7 * groups) (value 128 (take (8 * groups) t)) in
        let end : List ℕ = digits 256 (octets - 7 * groups) (value 128 (with_cr cr (drop (8 * groups) t))) in
        f
        ∙ ap₂ (λ (l : List ℕ) (v : ℕ). take (7 * groups) l ++ digits 256 (octets - 7 * groups) v ++ drop (7 * groups + (octets - 7 * groups)) l) e ew
        ∙ laid_then done end d (7 * groups) (octets - 7 * groups) (digits-length 256 (7 * groups) (value 128 (take (8 * groups) t))) (digits-length 256 (octets - 7 * groups) (value 128 (with_cr cr (drop (8 * groups) t))))
        ∙ ap (λ (l : List ℕ). laid l d) sent-parts

-- ---- service by service

pub page-most : (service : Service) → is_page service ≡ true → most_septets service ≡ 93
page-most ShortMessage e = absurd (false≢true e)
page-most Broadcast e = refl
page-most Ussd e = absurd (false≢true e)
page-most OldPage e = absurd (false≢true e)

pub page-octets : (service : Service) (s : List ℕ) → is_page service ≡ true → packed (page s) ≡ octets_of service s
unfolding page_octets
page-octets ShortMessage s e = absurd (false≢true e)
page-octets Broadcast s e = refl
page-octets Ussd s e = absurd (false≢true e)
page-octets OldPage s e = absurd (false≢true e)

pub closed-octets : (service : Service) (s : List ℕ) → is_page service ≡ false → is_old_page service ≡ false → packed (with_cr (adds_under service s) s) ≡ octets_of service s
unfolding closed ussd_octets
closed-octets ShortMessage s e new = refl
closed-octets Broadcast s e new = absurd (false≢true (sym e))
closed-octets Ussd s e new = refl
closed-octets OldPage s e new = absurd (false≢true (sym new))

-- no septet of low bits is 128 or more
pub low_narrow : (s : List ℕ) → Below 128 s → length s ≤ first_place (leb 128) s
low_narrow s h = subst (λ (k : ℕ). length s ≤ k) (sym (place_none (leb 128) s (λ k l. lt-leb 128 (get_or s k 0) (h k)))) (omega arith)

pub most-182 : (service : Service) → most_septets service ≤ 182
most-182 ShortMessage = lit≤ tt
most-182 Broadcast = lit≤ tt
most-182 Ussd = lit≤ tt
most-182 OldPage = lit≤ tt
