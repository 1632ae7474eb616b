-- 7-bit text: septets fit the array of 184 that the code has of its own, whatever the service, so that a septet run read from it or
-- packed from it is the definition's.
-- Assumes nothing.
use mathlib.Core.Path.{◌≡◌, refl, ap, ap₂, ◌∙◌, sym, subst}
use mathlib.Core.Bool.{Bool, true, false, cond}
use mathlib.Core.List.{List, ◌∷◌}
use mathlib.Core.Logic.{⊎_elim}
use Prim.Native.Nat.{ℕ, zero, suc, ◌+◌, ◌/◌, ◌%◌, ◌^◌, ◌≤◌, ◌<◌}
use native.Mathlib.Nat.{mod-lt, pow-succ'}
use native.Mathlib.Omega.{arith}
use lib.Dec.{lit<, leb}
use lib.ListN.{length, get_or, take, drop, replicate}
use lib.Seq.{take-append_seam}
use borrow.Author.Tests.{lt-ltb, le-ltb, lt-leb}
use Rattle.words.specs.declared.Service.{Service}
use Rattle.words.specs.declared.Refusal.{Refusal}
use Rattle.words.specs.declared.Refusal.TheVariants.{Unlisted, TooLong, Unwritable}
use Rattle.words.specs.Sizes.{most_septets, is_old_page}
use Rattle.lists.specs.Bits.{bit_of, gather}
use Rattle.lists.specs.Lists.{first_wide, laid}
use Rattle.words.specs.Judging.{when, Verdict, refused, accepted, verdict, settle}
use Rattle.lists.proofs.Below.{Below, below-take}
use Rattle.lists.proofs.Places.{place_none}
use Rattle.letters.specs.declared.Gathered.{Gathered}
use Rattle.letters.specs.Writing.{septets_of as septets_of', first_unlisted, gathered_as}
use Rattle.letters.specs.Reading.{text_of, old_text_of, read_as, text_rules, text_answers, text_leaves}
use Rattle.letters.proofs.Gathering.{gathered-refused}
use Rattle.letters.proofs.Theorems.{septets-below}
use Rattle.stream.specs.Stream.{unpacked, stream_bit, cut}
use Rattle.stream.specs.SeptetCalls.{septets_fit, septets_of, octets_of, travels}
use Rattle.stream.specs.ArrayCalls.{low_bits, all_septets, array_rules, array_answers, array_leaves, all_answers, all_leaves, kept_count, held_count}
use Rattle.stream.proofs.Calls.{all_most, kept-most, array-done, array-refused, array-length, array-all, array-front}
use Rattle.stream.proofs.Arrays.{kept-front, kept-count, held-septets}
use Rattle.stream.proofs.LowBits.{low_part, low_same}
use Rattle.stream.proofs.Sent.{most-182}
use Rattle.demands.specs.MessageRead.{shown_septets, text_length_rules, text_reads, text_read_leaves}
use Rattle.demands.specs.MessageWritten.{text_size_rules, text_writes, text_write_leaves}
use Rattle.demands.specs.Inner.{packed_as}
use Rattle.demands.proofs.Steps.{write-agree, leaves-agree}
use Rattle.std.specs.Prelude.{Ok, Err}
use Rattle.stream.specs.Successes.{ok_packed}
use Rattle.demands.specs.Successes.{ok_message_written}

-- ---- reading

-- what unpacking into the array tells: the octets do not fit, or the septets that are kept stand at its front
module _ (service : Service) (count : ℕ) (o array : List ℕ) (n : length array ≡ 184) where
  pub unpacked-fits : (k : ℕ) → Ok k ≡ all_answers service o count (length array) → septets_fit service (length o) count ≡ true
  unpacked-fits k e = (array-done service o count array n k e).0

  pub unpacked-room : (k : ℕ) (left : List ℕ) → Ok k ≡ all_answers service o count (length array) → left ≡ all_leaves service o count array → k ≤ length left
  unpacked-room k left e l =
      let d = array-done service o count array n k e in
      omega (arith, d.1, array-length service o count array n left d.0 l, all_most service o count d.0)

  -- how many are left of the text, and they are its septets
  kept-length : (k : ℕ) (left : List ℕ) → Ok k ≡ all_answers service o count (length array) → left ≡ all_leaves service o count array
      → (m : ℕ) → m ≡ kept_count service (take k left) → m ≡ length (septets_of service count o)
  kept-length k left e l m p =
      let d = array-done service o count array n k e in
      p ∙ ap (kept_count service) (ap (λ (i : ℕ). take i left) d.1 ∙ array-all service o count array n left d.0 l) ∙ kept-count service count o

  pub kept-room : (k : ℕ) (left : List ℕ) → Ok k ≡ all_answers service o count (length array) → left ≡ all_leaves service o count array
      → (m : ℕ) → m ≡ kept_count service (take k left) → m ≤ length left
  kept-room k left e l m p =
      let d = array-done service o count array n k e in
      omega (arith, kept-length k left e l m p, array-length service o count array n left d.0 l, kept-most service o count, all_most service o count d.0)

  pub kept_run : (k : ℕ) (left : List ℕ) → Ok k ≡ all_answers service o count (length array) → left ≡ all_leaves service o count array
      → (m : ℕ) → m ≡ kept_count service (take k left) → take m left ≡ septets_of service count o
  kept_run k left e l m p =
      let d = array-done service o count array n k e in
      ap (λ (i : ℕ). take i left) (kept-length k left e l m p) ∙ array-front service o count array n left d.0 l

  -- octets that do not fit are refused by the reader of 7-bit text
  pub unpacked-refused : (q : Refusal) (out : List ℕ) → Err q ≡ all_answers service o count (length array)
      → (Err q ≡ text_reads service false count o (length out)) × (out ≡ text_read_leaves service false count o out)
  unfolding text_reads text_read_leaves text_length_rules verdict
  unpacked-refused q out e = let r = array-refused service o count array n q e in simp r.0 (ap Err r.1, refl)

-- the alphabet of a service
read-as : (old : Bool) (s : List ℕ) → read_as old s ≡ cond old (old_text_of s) (text_of s)
unfolding read_as
read-as true s = refl
read-as false s = refl

-- a septet out of a stream of bits is below 128
seven : (b : ℕ → ℕ) → ((m : ℕ) → b m < 2) → (m w : ℕ) → gather b m w < 2 ^ w
unfolding gather
seven b h m zero = lit< tt
seven b h m (suc w) = omega (arith, h m, seven b h (suc m) w, pow-succ' 2 w)

pub cut_below : (b : ℕ → ℕ) → ((m : ℕ) → b m < 2) → (m n : ℕ) → Below 128 (cut b 7 m n)
unfolding cut
cut_below b h m zero k = omega arith
cut_below b h m (suc n) zero = seven b h m 7
cut_below b h m (suc n) (suc k) = cut_below b h (m + 7) n k

all-below : (service : Service) (count : ℕ) (o : List ℕ) → Below 128 (all_septets service count o)
unfolding unpacked stream_bit bit_of
all-below service count o = subst (Below 128) (held-septets service count o) (cut_below (stream_bit 8 o) (λ m. mod-lt (get_or o (m / 8) 0 / 2 ^ (m % 8)) (lit< tt)) 0 (held_count service (length o) count))

narrow : (service : Service) (count : ℕ) (o : List ℕ) → length (septets_of service count o) ≤ first_wide (septets_of service count o)
narrow service count o =
    let s : List ℕ = septets_of service count o in
    let below : Below 128 s = subst (Below 128) (kept-front service count o) (below-take 128 (all_septets service count o) (all-below service count o) (length s)) in
    omega (arith, place_none (leb 128) s (λ k l. lt-leb 128 (get_or s k 0) (below k)))

-- reading the run by the alphabet is reading the octets
shown-run : (service : Service) (count : ℕ) (o out : List ℕ) → septets_fit service (length o) count ≡ true → (s text : List ℕ) → s ≡ septets_of service count o
    → text ≡ shown_septets service (septets_of service count o)
    → (text_answers s text (length out) ≡ text_reads service false count o (length out)) × (text_leaves s text out ≡ text_read_leaves service false count o out)
unfolding text_answers text_leaves text_rules text_reads text_read_leaves text_length_rules verdict
shown-run service count o out f s text p e = simp (f, p, e, le-ltb _ _ (narrow service count o)) (refl, refl)

pub shown-reads : (service : Service) (count : ℕ) (o out : List ℕ) → septets_fit service (length o) count ≡ true → (s : List ℕ) → s ≡ septets_of service count o
    → (old : Bool) → old ≡ is_old_page service
    → (text_answers s (read_as old s) (length out) ≡ text_reads service false count o (length out)) × (text_leaves s (read_as old s) out ≡ text_read_leaves service false count o out)
shown-reads service count o out f s e old p = shown-run service count o out f s (read_as old s) e (ap₂ read_as p e ∙ read-as (is_old_page service) (septets_of service count o))

-- ---- writing

packed-settle : (v : Verdict) (m n coding : ℕ) → packed_as coding (settle v Err (ok_packed m n)) ≡ settle v Err (ok_message_written m n coding)
packed-settle (refused q) m n coding = refl
packed-settle accepted m n coding = refl

-- a text that is gathered stands at the front of the array, and packing it from there is writing it
module _ (service : Service) (units : List ℕ) (l : length units ≤ first_unlisted units) (array : List ℕ) (e : array ≡ laid (septets_of' units) (replicate 184 0)) where
  abbrev text : List ℕ
  text = septets_of' units

  front : take (length text) (low_bits array) ≡ text
  unfolding laid
  front =
      low_part 7 (length text) 0 array
      ∙ ap low_bits (ap (take (length text)) e ∙ take-append_seam text (drop (length text) (replicate 184 0)))
      ∙ low_same 7 text (septets-below units)

  pub array-writes : is_old_page service ≡ false → (coding : ℕ) (out : List ℕ) (n : ℕ) → n ≡ length text
      → (packed_as coding (array_answers service array n (length out)) ≡ text_writes service false coding units (length out)) × (array_leaves service array n out ≡ text_write_leaves service false units out)
  unfolding array_answers array_leaves text_writes text_write_leaves array_rules text_size_rules verdict
  array-writes new coding out n p =
      let t : take n (low_bits array) ≡ text = ap (λ (k : ℕ). take k (low_bits array)) p ∙ front in
      let v : verdict (when (is_old_page service) Unwritable ∷ text_size_rules service false units (length out)) ≡ verdict (array_rules service array n (length out)) = simp (new, le-ltb _ _ l, p, front) in (
        packed-settle (verdict (array_rules service array n (length out))) (length (octets_of service (take n (low_bits array)))) (travels service n) coding
            ∙ write-agree {c = coding} v (ap (octets_of service) (sym t)) (ap (travels service) (sym p)) refl,
        leaves-agree out v (ap (octets_of service) (sym t)),
      )

-- a text that is refused, for a unit or for its size
pub unlisted-writes : (service : Service) (units : List ℕ) → is_old_page service ≡ false → first_unlisted units < length units → (coding : ℕ) (out : List ℕ)
    → (Err (Unlisted (first_unlisted units)) ≡ text_writes service false coding units (length out)) × (out ≡ text_write_leaves service false units out)
unfolding text_writes text_write_leaves text_size_rules verdict
unlisted-writes service units new l coding out = simp (new, lt-ltb _ _ l) (refl, refl)

pub long-writes : (service : Service) (units : List ℕ) → is_old_page service ≡ false → length units ≤ first_unlisted units → most_septets service < length (septets_of' units) → (coding : ℕ) (out : List ℕ)
    → (Err TooLong ≡ text_writes service false coding units (length out)) × (out ≡ text_write_leaves service false units out)
unfolding text_writes text_write_leaves text_size_rules verdict
long-writes service units new l m coding out = simp (new, le-ltb _ _ l, lt-ltb _ _ m) (refl, refl)

-- what is not gathered is refused by the writer, whatever the service's size
pub gathered-writes : (service : Service) (units : List ℕ) → is_old_page service ≡ false → (r : Gathered) → r ≡ gathered_as units → (q : Refusal) → Err q ≡ r.answer → (coding : ℕ) (out : List ℕ)
    → (Err q ≡ text_writes service false coding units (length out)) × (out ≡ text_write_leaves service false units out)
gathered-writes service units new r e q p coding out =
    ⊎_elim
    (λ w. let u = unlisted-writes service units new w.0 coding out in (ap Err w.1 ∙ u.0, u.1))
    (λ w. let u = long-writes service units new w.0 (omega (arith, w.1, most-182 service)) coding out in (ap Err w.2 ∙ u.0, u.1))
    (gathered-refused units r e q p)
