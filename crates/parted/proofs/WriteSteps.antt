-- Writing parts step by step: where each part begins, what stands in the array, and what is laid over the lent buffers after each part.
-- Assumes nothing.
--   begins_at p k         where part k of a plan begins, in septets or units
--   Placed p t k unit half  the code's place is where part k begins; of units that are laid as they stand none is kept
--   Blank p a            the array has its length, and zeros where the header's septets go
--   LaidPart p t k a     and behind them the septets of part k
--   begins-0, begins-here, begins-next   where parts begin
--   laid_at, at_length, at_front, at_before, at-run, put-run, at_open   a run laid over an array from a place on
--   encode-run, run-there, pairs-whole, pairs-open, pairs_next   the septets of a text from a place on
--   mark_header, septets-headed, units-headed, septets-room   what is laid over a buffer, and the header over its front
--   laid-two, octets-more, sizes-more   two elements behind what was laid; one part more behind others
--   septets-hold, over-fits, run_fits, laid-part, plain-part, blank-after, part-septets, part-units   the array with a part, and the part that it is
--   before-length, all-length   how many octets the parts before one have, and all
--   plain-hold, plain-laid   a part of units that are laid as they stand
--   zeros-some, zero-before, pairs-hold, pairs-laid   a part of others
--   septets-ready, octets-septets, octets-units, units-hold, units-few   what the packings ask
--   room-here, octets-laid   the part that is laid has room, and stands behind those before it
--   sizes-laid, sizes-room   and so do its two sizes
--   none-laid, blank_none    before the first part
use mathlib.Core.Path.{◌≡◌, refl, sym, ap, ap₂, ◌∙◌, subst}
use mathlib.Core.Bool.{Bool, true, false, cond}
use mathlib.Core.List.{List, [], ◌∷◌, ◌++◌, append_assoc, append-nil}
use mathlib.Core.Logic.{◌⊎◌, inl, inr, ⊎_elim}
use Prim.Native.Nat.{ℕ, zero, suc, ◌+◌, ◌-◌, ◌*◌, ◌≤◌, ◌<◌}
use native.Mathlib.Nat.{mul-zero, mul-suc, add-zero, add_comm}
use native.Mathlib.Decide.{dec_le}
use native.Mathlib.Numerals.{add-one}
use native.Mathlib.Omega.{arith}
use borrow.Author.Tests.{le-ltb, eqb-true, not-false}
use lib.Dec.{eqb}
use lib.ListN.{length, get_or, set, take, drop, replicate, length-append, length-drop, length-take, length-replicate, get_or-replicate, drop_of_length-le, take-append-drop}
use lib.Seq.{drop-append-le, take_at, drop_at, drop-drop, drop-cons, take_all, take-take, take-suc, set_at, get_or-take, length-take-le}
use Rattle.words.specs.declared.Service.TheVariants.{ShortMessage}
use Rattle.words.specs.Judging.{verdict}
use Rattle.lists.specs.Lists.{laid}
use Rattle.lists.proofs.Tests.{and_left, and_right}
use Rattle.lists.proofs.Below.{Below, below-append, below-replicate}
use Rattle.lists.proofs.Laid.{laid-length}
use Rattle.letters.specs.Writing.{septets_of, listed_front, encoded_leaves}
use Rattle.letters.specs.OwnCodes.{own_text, low_octets}
use Rattle.letters.specs.Sized.{content_of}
use Rattle.letters.proofs.Theorems.{Codable, codable-front, septets-append, septets-least, septets-below}
use Rattle.letters.proofs.OwnCodes.{own-append}
use Rattle.letters.proofs.OwnTexts.{own-text-septets, own-text-low}
use Rattle.stream.specs.Stream.{octets_for, packed}
use Rattle.stream.specs.ArrayCalls.{low_bits, array_rules, array_leaves}
use Rattle.stream.specs.UnitCalls.{to_octets_rules, to_octets_leaves}
use Rattle.stream.specs.Ucs2.{unit_octets}
use Rattle.stream.proofs.Stream.{packed-length}
use Rattle.stream.proofs.LowBits.{low_same}
use Rattle.stream.proofs.UnitOctets.{unit-octets-length}
use Rattle.headed.specs.declared.Numbers.{Numbers}
use Rattle.headed.specs.Header.{concatenation_header, septets_over}
use Rattle.headed.proofs.Theorems.{concatenation-length}
use Rattle.parted.specs.declared.Plan.{Plan}
use Rattle.parted.specs.Behind.{packed_behind}
use Rattle.parted.specs.Parts.{mark_size, is_marked, headed_octets, part_header, part_content, part_octets, part_count}
use Rattle.parted.specs.Written.{all_octets, all_sizes}
use Rattle.parted.specs.Cutting.{plan_room, part_length}
use Rattle.parted.specs.Inner.{plan_count, plan_octets, codes_in, open_after}
use Rattle.parted.proofs.Behind.{packed-behind}
use Rattle.parted.proofs.Rooms.{septets-over-0, septets-over-6}
use Rattle.parted.proofs.Parts.{content-below}
use Rattle.parted.proofs.Ends.{sizes-length, octets-length}
use Rattle.parted.proofs.Lent.{tail-lent, tail-laid}
use Rattle.parted.proofs.Plans.{Cut, cut-some, cut-before, length-here, length_most, length-cases, part-is, count-is, octets-is, octets-full, room-septets, room-units}
use Rattle.parted.proofs.Windows.{PairAt, PlaceAt, place-next, codable-take, codable-drop, front-units}

-- ---- places

-- no further than the content
abbrev pub begins_at : Plan → ℕ → ℕ
begins_at p k = p.content - (p.content - plan_room p * k)

abbrev pub Placed : Plan → List ℕ → ℕ → ℕ → Bool → Type 0
Placed p t k unit half = p.plain ≡ false → PlaceAt t (begins_at p k) unit half

abbrev pub Blank : Plan → List ℕ → Type 0
Blank p a = (length a ≡ 184) × (take (septets_over (mark_size p.total)) a ≡ replicate (septets_over (mark_size p.total)) 0)

abbrev pub LaidPart : Plan → List ℕ → ℕ → List ℕ → Type 0
LaidPart p t k a =
    (length a ≡ 184)
    × (take (septets_over (mark_size p.total) + part_length p k) a ≡ replicate (septets_over (mark_size p.total)) 0 ++ part_content false p.total (septets_of t) (k + 1))

module _ (p : Plan) (t : List ℕ) (c : Cut p t) where
  pub begins-0 : begins_at p 0 ≡ 0
  begins-0 = omega (arith, mul-zero (plan_room p))

  pub begins-here : (k : ℕ) → k < p.total → begins_at p k ≡ plan_room p * k
  begins-here k h = omega (arith, cut-before p t c k h)

  -- behind a part the next one begins, or the content ends
  pub begins-next : (k : ℕ) → k < p.total → begins_at p k + part_length p k ≡ begins_at p (k + 1)
  begins-next k h =
      let more : plan_room p * (k + 1) ≡ plan_room p + plan_room p * k = ap (λ (n : ℕ). plan_room p * n) (add-one k) ∙ mul-suc (plan_room p) k ∙ omega arith in
      ⊎_elim (λ w. omega (arith, w.0, w.1, cut-before p t c k h)) (λ w. omega (arith, w.0, w.1, cut-before p t c k h)) (length-cases p k)

-- ---- the septets of a part

-- a run laid over an array from a place on
abbrev pub laid_at : ℕ → List ℕ → List ℕ → List ℕ
laid_at at w a = take at a ++ laid w (drop at a)

module _ (at : ℕ) (w a : List ℕ) (h : at + length w ≤ length a) where
  pub at_length : length (laid_at at w a) ≡ length a
  at_length =
      length-append (take at a) (laid w (drop at a))
      ∙ omega (arith, length-take-le at a (omega arith), laid-length w (drop at a) (omega (arith, length-drop at a)), length-drop at a)

  -- what stands before it and the run itself
  pub at_front : take (at + length w) (laid_at at w a) ≡ take at a ++ w
  unfolding laid
  at_front =
      let front : length (take at a ++ w) ≡ at + length w = length-append (take at a) w ∙ omega (arith, length-take-le at a (omega arith)) in
      ap (take (at + length w)) (sym (append_assoc (take at a) w (drop (length w) (drop at a)))) ∙ take_at (take at a ++ w) (drop (length w) (drop at a)) (at + length w) front

  pub at_before : take at (laid_at at w a) ≡ take at a
  at_before = take_at (take at a) (laid w (drop at a)) at (length-take-le at a (omega arith))

  pub at-run : take (length w) (drop at (laid_at at w a)) ≡ w
  unfolding laid
  at-run =
      ap (take (length w)) (drop_at (take at a) (laid w (drop at a)) at (length-take-le at a (omega arith)))
      ∙ take_at w (drop (length w) (drop at a)) (length w) refl

-- a run that is put into the middle of an array, as long as what it covers
pub put-run : (at n : ℕ) (a w : List ℕ) → length w ≡ n → take at a ++ (w ++ drop (at + n - at) (drop at a)) ≡ laid_at at w a
unfolding laid
put-run at n a w e = let m : at + n - at ≡ length w = omega arith in ap (λ (k : ℕ). take at a ++ (w ++ drop k (drop at a))) m

-- an escape that was laid in front of a run is taken away
pub at_open : (over n : ℕ) (a w : List ℕ) (x : ℕ) → 0 < over → over + n ≤ length a → length w ≡ n → get_or a (over - 1) 0 ≡ 0 → set (laid_at (over - 1) (x ∷ w) a) (over - 1) 0 ≡ laid_at over w a
unfolding laid
at_open over n a w x some h e zero-before =
    let b : ℕ = over - 1 in
    let here : suc b ≡ over = omega arith in
    let rest : drop (suc (length w)) (drop b a) ≡ drop (length w) (drop over a) = drop-drop (suc (length w)) b a ∙ ap (λ (k : ℕ). drop k a) deeper ∙ sym (drop-drop (length w) over a) in
    let front : take over a ≡ take b a ++ (0 ∷ []) =
    ap (λ (k : ℕ). take k a) (sym here) ∙ take-suc a b 0 (omega arith) ∙ ap (λ (y : ℕ). take b a ++ (y ∷ [])) zero-before in
    set_at (take b a) x (w ++ drop (suc (length w)) (drop b a)) 0 b (length-take-le b a (omega arith))
    ∙ ap (λ (l : List ℕ). take b a ++ (0 ∷ (w ++ l))) rest
    ∙ sym (ap (λ (l : List ℕ). l ++ (w ++ drop (length w) (drop over a))) front ∙ append_assoc (take b a) (0 ∷ []) (w ++ drop (length w) (drop over a)))
  where
    deeper : over - 1 + suc (length w) ≡ over + length w
    deeper = omega arith

-- the first n septets of a text from a unit on, by the first units behind it
encoded-run : (d out : List ℕ) → Codable d → (few n : ℕ) → length out ≡ n → few ≤ length d → (few ≡ length d) ⊎ (n ≤ few) → n ≤ length (septets_of d)
    → encoded_leaves (take few d) out ≡ take n (septets_of d)
unfolding encoded_leaves laid
encoded-run d out c few n e within units h =
    let run : take (length out) (septets_of (listed_front (take few d))) ≡ take n (septets_of d) =
    ap₂ (λ (k : ℕ) (t : List ℕ). take k (septets_of t)) e (codable-front (take few d) (codable-take d few c)) ∙ front-units d c few n within units in
    let long : length (take n (septets_of d)) ≡ n = length-take-le n (septets_of d) h in
    ap (λ (w : List ℕ). w ++ drop (length w) out) run
    ∙ ap (λ (l : List ℕ). take n (septets_of d) ++ l) (drop_of_length-le out {i = length (take n (septets_of d))} (omega arith))
    ∙ append-nil (take n (septets_of d))

pub encode-run : (t a : List ℕ) (unit at n few : ℕ) → Codable t → at + n ≤ length a → n ≤ length (septets_of (drop unit t)) → few ≤ length t - unit → (few ≡ length t - unit) ⊎ (n ≤ few)
    → (sub : List ℕ) → sub ≡ encoded_leaves (take (unit + few - unit) (drop unit t)) (take (at + n - at) (drop at a))
    → take at a ++ (sub ++ drop (at + n - at) (drop at a)) ≡ laid_at at (take n (septets_of (drop unit t))) a
encode-run t a unit at n few c room h within units sub e =
    let m : at + n - at ≡ n = omega arith in
    let k : unit + few - unit ≡ few = omega arith in
    let long : length (drop unit t) ≡ length t - unit = length-drop unit t in
    let mid : length (take n (drop at a)) ≡ n = length-take-le n (drop at a) (omega (arith, length-drop at a)) in
    let run : sub ≡ take n (septets_of (drop unit t)) =
    e
    ∙ ap₂ (λ (i j : ℕ). encoded_leaves (take i (drop unit t)) (take j (drop at a))) k m
    ∙ encoded-run (drop unit t) (take n (drop at a)) (codable-drop t unit c) few n mid (omega arith) (⊎_elim (λ (x : few ≡ length t - unit). inl (x ∙ sym long)) (λ (x : n ≤ few). inr x) units) h in
    ap (λ (w : List ℕ). take at a ++ (w ++ drop (at + n - at) (drop at a))) run
    ∙ put-run at n a (take n (septets_of (drop unit t))) (length-take-le n (septets_of (drop unit t)) h)

-- ---- what lay_pairs leaves

module _ (t : List ℕ) (c : Codable t) (m unit : ℕ) (half : Bool) (p : PlaceAt t m unit half) (n : ℕ) (h : m + n ≤ length (septets_of t)) where
  -- the run is there, with the escape before it
  pub run-there : n + cond half 1 0 ≤ length (septets_of (drop unit t))
  run-there =
      let rest : length (drop m (septets_of t)) ≡ length (septets_of (drop unit t)) - cond half 1 0 = ap length p.rest ∙ length-drop (cond half 1 0) (septets_of (drop unit t)) in
      omega (arith, length-drop m (septets_of t), some half p.pair)
    where
      some : (b : Bool) → (b ≡ true → PairAt (drop unit t)) → cond b 1 0 ≤ length (septets_of (drop unit t))
      some false q = omega arith
      some true q = omega (arith, septets-least (drop unit t) (codable-drop t unit c), ap length (q refl).is)

  run_long : length (take n (drop m (septets_of t))) ≡ n
  run_long = length-take-le n (drop m (septets_of t)) (omega (arith, length-drop m (septets_of t)))

  pub pairs-whole : half ≡ false → (a : List ℕ) (over : ℕ) → laid_at over (take n (septets_of (drop unit t))) a ≡ laid_at over (take n (drop m (septets_of t))) a
  pairs-whole e a over = ap (λ (l : List ℕ). laid_at over (take n l) a) (sym (p.rest ∙ ap (λ (b : Bool). drop (cond b 1 0) (septets_of (drop unit t))) e))

  pub pairs-open : half ≡ true → (a : List ℕ) (over : ℕ) → 0 < over → over + n ≤ length a → get_or a (over - 1) 0 ≡ 0
      → set (laid_at (over - 1) (take (n + 1) (septets_of (drop unit t))) a) (over - 1) 0 ≡ laid_at over (take n (drop m (septets_of t))) a
  pairs-open e a over some room before =
      let s : List ℕ = septets_of (drop unit t) in
      let one : ◌≡◌ {A = ℕ} (cond half 1 0) 1 = ap {B = ℕ} (λ (b : Bool). cond b 1 0) e in
      let there : 1 ≤ length s = omega (arith, run-there) in
      let split : take (n + 1) s ≡ get_or s 0 0 ∷ take n (drop 1 s) = ap (λ (k : ℕ). take k s) (add-one n) ∙ ap (take (suc n)) (drop-cons s 0 0 there) in
      let same : take n (drop 1 s) ≡ take n (drop m (septets_of t)) = ap (take n) (sym (p.rest ∙ ap (λ (b : Bool). drop (cond b 1 0) s) e)) in
      ap (λ (w : List ℕ). set (laid_at (over - 1) w a) (over - 1) 0) (split ∙ ap (λ (w : List ℕ). get_or s 0 0 ∷ w) same)
      ∙ at_open over n a (take n (drop m (septets_of t))) (get_or s 0 0) some room run_long before

  -- and where it ends
  pub pairs_next : (a : List ℕ) (over : ℕ) → over + n ≤ length a → (left w : List ℕ) → left ≡ laid_at over (take n (drop m (septets_of t))) a → w ≡ take (over + n - over) (drop over left)
      → PlaceAt t (m + n) (unit + codes_in w) (open_after half w)
  pairs_next a over room left w e f =
      let k : over + n - over ≡ length (take n (drop m (septets_of t))) = omega (arith, run_long) in
      place-next t c m unit half p n h w
      (f ∙ ap₂ (λ (i : ℕ) (l : List ℕ). take i (drop over l)) k e ∙ at-run over (take n (drop m (septets_of t))) a (omega (arith, run_long)))

-- ---- a header laid over octets

-- what is laid over the front of what was laid is laid with it
laid-laid : (h x out : List ℕ) → length h ≤ length x → laid h (laid x out) ≡ laid (laid h x) out
unfolding laid
laid-laid h x out e =
    let long : length (h ++ drop (length h) x) ≡ length x = length-append h (drop (length h) x) ∙ omega (arith, length-drop (length h) x) in
    ap (λ (l : List ℕ). h ++ l) (drop-append-le (length h) x (drop (length x) out) e)
    ∙ sym (append_assoc h (drop (length h) x) (drop (length x) out))
    ∙ ap (λ (n : ℕ). h ++ drop (length h) x ++ drop n out) (sym long)

abbrev pub mark_header : ℕ → Numbers → List ℕ
mark_header total n = cond (is_marked total) (concatenation_header n) []

mark-long : (total : ℕ) (n : Numbers) → length (mark_header total n) ≡ mark_size total
mark-long total n = go (is_marked total)
  where
    go : (m : Bool) → length (cond m (concatenation_header n) []) ≡ cond m 6 0
    go true = concatenation-length n
    go false = refl

module _ (total : ℕ) (n : Numbers) (s out : List ℕ) (most : length s ≤ 160) (b : Below 128 s) (room : octets_for (length s) ≤ length out) where
  packs : array_leaves ShortMessage s (length s) out ≡ laid (packed s) out
  unfolding array_leaves array_rules verdict
  packs =
      let all : take (length s) (low_bits s) ≡ s = ap (take (length s)) (low_same 7 s b) ∙ take_all (length s) s (omega arith) in
      simp (all, le-ltb 160 (length s) most, le-ltb (length out) (length (packed s)) (omega (arith, packed-length s)))

  pub septets-headed : septets_over (mark_size total) ≤ length s → take (septets_over (mark_size total)) s ≡ replicate (septets_over (mark_size total)) 0
      → laid (mark_header total n) (array_leaves ShortMessage s (length s) out) ≡ laid (headed_octets false (mark_header total n) (drop (septets_over (mark_size total)) s)) out
  unfolding headed_octets octets_for
  septets-headed within zeros =
      let over : ℕ = septets_over (mark_size total) in
      let h : List ℕ = mark_header total n in
      let split : s ≡ replicate over 0 ++ drop over s = sym (take-append-drop over s) ∙ ap (λ (l : List ℕ). l ++ drop over s) zeros in
      let same : packed s ≡ packed_behind (septets_over (length h)) (drop over s) =
      ap packed split ∙ sym (packed-behind over (drop over s)) ∙ ap (λ (k : ℕ). packed_behind (septets_over k) (drop over s)) (sym (mark-long total n)) in
      let few : length h ≤ length (packed s) = omega (arith, mark-long total n, packed-length s, reach (is_marked total) within) in
      ap (laid h) packs ∙ laid-laid h (packed s) out few ∙ ap (λ (l : List ℕ). laid (laid h l) out) same
    where
      reach : (m : Bool) → septets_over (cond m 6 0) ≤ length s → cond m 6 0 ≤ octets_for (length s)
      reach true l = omega (arith, septets-over-6)
      reach false l = omega arith

module _ (total : ℕ) (n : Numbers) (us out : List ℕ) (most : length us ≤ 70) (room : mark_size total + 2 * length us ≤ length out) where
  units-laid : (lent : List ℕ) → 2 * length us ≤ length lent → to_octets_leaves ShortMessage us lent ≡ laid (unit_octets us) lent
  unfolding to_octets_leaves to_octets_rules verdict
  units-laid lent h = simp (le-ltb 70 (length us) most, le-ltb (length lent) (length (unit_octets us)) (omega (arith, unit-octets-length us)))

  pub units-headed : (lent : List ℕ) → lent ≡ drop (mark_size total) out
      → laid (mark_header total n) (take (mark_size total) out ++ to_octets_leaves ShortMessage us lent) ≡ laid (headed_octets true (mark_header total n) us) out
  unfolding headed_octets laid
  units-headed lent e =
      let size : ℕ = mark_size total in
      let h : List ℕ = mark_header total n in
      let long : length h ≡ size = mark-long total n in
      let d : List ℕ = drop size out in
      let here : to_octets_leaves ShortMessage us lent ≡ laid (unit_octets us) d = ap (to_octets_leaves ShortMessage us) e ∙ units-laid d (omega (arith, length-drop size out)) in
      let sum : size + length (unit_octets us) ≡ length (h ++ unit_octets us) = omega (arith, length-append h (unit_octets us)) in
      ap₂ (λ (k : ℕ) (l : List ℕ). h ++ drop k (take size out ++ l)) long here
      ∙ ap (λ (l : List ℕ). h ++ l) (drop_at (take size out) (unit_octets us ++ drop (length (unit_octets us)) d) size (length-take-le size out (omega arith)))
      ∙ sym (append_assoc h (unit_octets us) (drop (length (unit_octets us)) d))
      ∙ ap (λ (l : List ℕ). h ++ unit_octets us ++ l) (drop-drop (length (unit_octets us)) size out ∙ ap (λ (k : ℕ). drop k out) sum)

-- a front of a list is no longer than it is asked to be
pub run_fits : (at n : ℕ) (s a : List ℕ) → at + n ≤ length a → at + length (take n s) ≤ length a
run_fits at n s a h = omega (arith, length-take n s)

pub septets-room : (total : ℕ) (s out : List ℕ) → length s ≤ 160 → Below 128 s → octets_for (length s) ≤ length out → septets_over (mark_size total) ≤ length s
    → (left : List ℕ) → left ≡ array_leaves ShortMessage s (length s) out → mark_size total ≤ length left
unfolding octets_for
septets-room total s out most b room within left e =
    let none : Numbers = record { reference = 0; total = 0; number = 0 } in
    let long : length left ≡ length out = ap length (e ∙ packs total none s out most b room) ∙ laid-length (packed s) out (omega (arith, packed-length s)) in
    omega (arith, reach (is_marked total) within)
  where
    reach : (m : Bool) → septets_over (cond m 6 0) ≤ length s → cond m 6 0 ≤ octets_for (length s)
    reach true l = omega (arith, septets-over-6)
    reach false l = omega arith

-- ---- parts of a lent buffer

-- one element behind what was laid
laid_one : (xs start : List ℕ) (v : ℕ) → length xs < length start → set (laid xs start) (length xs) v ≡ laid (xs ++ (v ∷ [])) start
unfolding laid
laid_one xs start v h =
    let more : length (xs ++ (v ∷ [])) ≡ suc (length xs) = length-append xs (v ∷ []) ∙ add-one (length xs) in
    ap (λ (l : List ℕ). set (xs ++ l) (length xs) v) (drop-cons start (length xs) 0 h)
    ∙ set_at xs (get_or start (length xs) 0) (drop (suc (length xs)) start) v (length xs) refl
    ∙ sym (append_assoc xs (v ∷ []) (drop (suc (length xs)) start))
    ∙ ap (λ (n : ℕ). xs ++ (v ∷ []) ++ drop n start) (sym more)

pub laid-two : (xs start out : List ℕ) (n v w : ℕ) → length xs ≡ n → n + 2 ≤ length start → out ≡ laid xs start → set (set out n v) (n + 1) w ≡ laid (xs ++ (v ∷ w ∷ [])) start
laid-two xs start out n v w e h o =
    let one : length (xs ++ (v ∷ [])) ≡ n + 1 = length-append xs (v ∷ []) ∙ ap (λ (k : ℕ). k + 1) e in
    ap₂ (λ (l : List ℕ) (k : ℕ). set (set l k v) (n + 1) w) o (sym e)
    ∙ ap (λ (l : List ℕ). set l (n + 1) w) (laid_one xs start v (omega arith))
    ∙ ap (λ (k : ℕ). set (laid (xs ++ (v ∷ [])) start) k w) (sym one)
    ∙ laid_one (xs ++ (v ∷ [])) start w (omega arith)
    ∙ ap (λ (l : List ℕ). laid l start) (append_assoc xs (v ∷ []) (w ∷ []))

-- ---- all parts

module _ (ucs2 : Bool) (reference total : ℕ) (s : List ℕ) where
  pub octets-more : (k n : ℕ) → all_octets ucs2 reference total s k (n + 1) ≡ all_octets ucs2 reference total s k n ++ part_octets ucs2 reference total s (k + n)
  unfolding all_octets
  octets-more k zero = append-nil (part_octets ucs2 reference total s k) ∙ ap (part_octets ucs2 reference total s) (sym (add-zero k))
  octets-more k (suc n) =
      let deeper : suc n + 1 ≡ suc (n + 1) = omega arith in
      let next : suc k + n ≡ k + suc n = omega arith in
      ap (all_octets ucs2 reference total s k) deeper
      ∙ ap (λ (l : List ℕ). part_octets ucs2 reference total s k ++ l) (octets-more (suc k) n ∙ ap (λ (i : ℕ). all_octets ucs2 reference total s (suc k) n ++ part_octets ucs2 reference total s i) next)
      ∙ sym (append_assoc (part_octets ucs2 reference total s k) (all_octets ucs2 reference total s (suc k) n) (part_octets ucs2 reference total s (k + suc n)))

  pub sizes-more : (k n : ℕ) → all_sizes ucs2 reference total s k (n + 1)
      ≡ all_sizes ucs2 reference total s k n ++ (part_count ucs2 reference total s (k + n) ∷ length (part_octets ucs2 reference total s (k + n)) ∷ [])
  unfolding all_sizes
  sizes-more k zero = ap (λ (i : ℕ). part_count ucs2 reference total s i ∷ length (part_octets ucs2 reference total s i) ∷ []) (sym (add-zero k))
  sizes-more k (suc n) =
      let deeper : suc n + 1 ≡ suc (n + 1) = omega arith in
      let next : suc k + n ≡ k + suc n = omega arith in
      ap (all_sizes ucs2 reference total s k) deeper
      ∙ ap (λ (l : List ℕ). part_count ucs2 reference total s k ∷ length (part_octets ucs2 reference total s k) ∷ l)
      (sizes-more (suc k) n ∙ ap (λ (i : ℕ). all_sizes ucs2 reference total s (suc k) n ++ (part_count ucs2 reference total s i ∷ length (part_octets ucs2 reference total s i) ∷ [])) next)

-- ---- a part by what was laid

own-part : (t : List ℕ) → own_text t ≡ true → (m n : ℕ) → own_text (take n (drop m t)) ≡ true
own-part t own m n =
    let behind : own_text (drop m t) ≡ true = and_right (own_text (take m t)) (own_text (drop m t)) (sym (own-append (take m t) (drop m t)) ∙ ap own_text (take-append-drop m t) ∙ own) in
    and_left (own_text (take n (drop m t))) (own_text (drop n (drop m t))) (sym (own-append (take n (drop m t)) (drop n (drop m t))) ∙ ap own_text (take-append-drop n (drop m t)) ∙ behind)

module _ (p : Plan) (t : List ℕ) (c : Cut p t) (k : ℕ) (h : k < p.total) where
  abbrev over : ℕ
  over = septets_over (mark_size p.total)

  abbrev begin : ℕ
  begin = plan_room p * k

  abbrev held : ℕ
  held = part_length p k

  -- the septets of part k, where the content is those of the text
  septets-are : p.ucs2 ≡ false → part_content false p.total (septets_of t) (k + 1) ≡ take held (drop begin (septets_of t))
  septets-are e = ap (λ (b : Bool). part_content b p.total (content_of b t) (k + 1)) (sym e) ∙ part-is p t c k ∙ ap (λ (b : Bool). take held (drop begin (content_of b t))) e

  pub septets-hold : p.ucs2 ≡ false → begin + held ≤ length (septets_of t)
  septets-hold e = omega (arith, length-here p t c k h, c.content, ap (λ (b : Bool). length (content_of b t)) e)

  septets-long : p.ucs2 ≡ false → length (part_content false p.total (septets_of t) (k + 1)) ≡ held
  septets-long e = ap length (septets-are e) ∙ length-take-le held (drop begin (septets_of t)) (omega (arith, septets-hold e, length-drop begin (septets_of t)))

  pub over-fits : p.ucs2 ≡ false → over + held ≤ 160
  over-fits e = omega (arith, room-septets p e, length_most p k)

  -- what is laid behind the zeros is the part
  pub laid-part : p.ucs2 ≡ false → (a left w : List ℕ) → Blank p a → w ≡ take held (drop begin (septets_of t)) → left ≡ laid_at over w a → LaidPart p t k left
  laid-part e a left w blank is l =
      let content : List ℕ = part_content false p.total (septets_of t) (k + 1) in
      let same : w ≡ content = is ∙ sym (septets-are e) in
      let long : length w ≡ held = ap length same ∙ septets-long e in
      let room : over + length w ≤ length a = omega (arith, blank.0, over-fits e) in (
        ap length l ∙ at_length over w a room ∙ blank.0,
        ap₂ (λ (n : ℕ) (x : List ℕ). take (over + n) x) (sym long) l ∙ at_front over w a room ∙ ap₂ (λ (z x : List ℕ). z ++ x) blank.1 same,
      )

  -- units that are their own codes are laid as they stand
  pub plain-part : p.ucs2 ≡ false → p.plain ≡ true → (sub : List ℕ) → length sub ≡ held → laid (take (length sub) (low_octets (take held (drop begin t)))) sub ≡ take held (drop begin (septets_of t))
  unfolding laid
  plain-part e plain sub size =
      let own : own_text t ≡ true = c.own e plain in
      let text : septets_of t ≡ t = own-text-septets t own in
      let x : List ℕ = take held (drop begin t) in
      let long : length x ≡ held = length-take-le held (drop begin t) (omega (arith, septets-hold e, ap length text, length-drop begin t)) in
      let low : take (length sub) (low_octets x) ≡ x = ap (take (length sub)) (own-text-low x (own-part t own begin held)) ∙ take_all (length sub) x (omega arith) in
      ap (λ (l : List ℕ). l ++ drop (length l) sub) low
      ∙ ap (λ (l : List ℕ). x ++ l) (drop_of_length-le sub {i = length x} (omega arith))
      ∙ append-nil x
      ∙ ap (λ (l : List ℕ). take held (drop begin l)) (sym text)

  pub blank-after : (a : List ℕ) → LaidPart p t k a → Blank p a
  blank-after a l = (
    l.0,
    sym (take-take over (over + held) a (omega arith)) ∙ ap (take over) l.1 ∙ take_at (replicate over 0) (part_content false p.total (septets_of t) (k + 1)) over (length-replicate over 0),
  )

  module _ (reference : ℕ) where
    abbrev part_numbers : Numbers
    part_numbers = record { reference = reference; total = p.total; number = k + 1 }

    header_is : part_header reference p.total (k + 1) ≡ mark_header p.total part_numbers
    unfolding part_header
    header_is = refl

    pub part-septets : p.ucs2 ≡ false → (a : List ℕ) → LaidPart p t k a
        → headed_octets false (mark_header p.total part_numbers) (drop over (take (over + held) a)) ≡ part_octets p.ucs2 reference p.total (content_of p.ucs2 t) (k + 1)
    unfolding part_octets
    part-septets e a l =
        let content : List ℕ = part_content false p.total (septets_of t) (k + 1) in
        ap₂ (headed_octets false) (sym header_is) (ap (drop over) l.1 ∙ drop_at (replicate over 0) content over (length-replicate over 0))
        ∙ ap (λ (b : Bool). headed_octets b (part_header reference p.total (k + 1)) (part_content b p.total (content_of b t) (k + 1))) (sym e)

    pub part-units : p.ucs2 ≡ true → (us : List ℕ) → us ≡ take held (drop begin t)
        → headed_octets true (mark_header p.total part_numbers) us ≡ part_octets p.ucs2 reference p.total (content_of p.ucs2 t) (k + 1)
    unfolding part_octets
    part-units e us is =
        let content : us ≡ part_content true p.total t (k + 1) =
        is
        ∙ sym (ap (λ (b : Bool). part_content b p.total (content_of b t) (k + 1)) (sym e) ∙ part-is p t c k ∙ ap (λ (b : Bool). take held (drop begin (content_of b t))) e) in
        ap₂ (headed_octets true) (sym header_is) content
        ∙ ap (λ (b : Bool). headed_octets b (part_header reference p.total (k + 1)) (part_content b p.total (content_of b t) (k + 1))) (sym e)

-- the parts before part k have 140 octets each
pub before-length : (p : Plan) (t : List ℕ) → Cut p t → (reference k : ℕ) → k < p.total → length (all_octets p.ucs2 reference p.total (content_of p.ucs2 t) 1 k) ≡ 140 * k
unfolding all_octets
before-length p t c reference zero h = refl
before-length p t c reference (suc k) h =
    let s : List ℕ = content_of p.ucs2 t in
    let one : length (part_octets p.ucs2 reference p.total s (1 + k)) ≡ 140 =
    ap (λ (i : ℕ). length (part_octets p.ucs2 reference p.total s i)) (add_comm 1 k) ∙ sym (octets-is p t c reference k (omega arith)) ∙ octets-full p t c k h in
    ap (λ (i : ℕ). length (all_octets p.ucs2 reference p.total s 1 i)) (sym (add-one k))
    ∙ ap length (octets-more p.ucs2 reference p.total s 1 k)
    ∙ length-append (all_octets p.ucs2 reference p.total s 1 k) (part_octets p.ucs2 reference p.total s (1 + k))
    ∙ omega (arith, before-length p t c reference k (omega arith))

-- ---- the same by what the code's functions answer

-- a place behind an escape is not the first
half-later : (t : List ℕ) → Codable t → (m unit : ℕ) → PlaceAt t m unit true → 1 ≤ m
half-later t c m unit p =
    let rest : length (drop m (septets_of t)) ≡ length (septets_of (drop unit t)) - 1 = ap length p.rest ∙ length-drop 1 (septets_of (drop unit t)) in
    let whole : length (septets_of t) ≡ length (septets_of (take unit t)) + length (septets_of (drop unit t)) =
    ap (λ (l : List ℕ). length (septets_of l)) (sym (take-append-drop unit t)) ∙ ap length (septets-append (take unit t) (drop unit t)) ∙ length-append (septets_of (take unit t)) (septets_of (drop unit t)) in
    omega (arith, length-drop m (septets_of t), septets-least (drop unit t) (codable-drop t unit c), ap length (p.pair refl).is)

module _ (p : Plan) (t : List ℕ) (c : Cut p t) (k : ℕ) (h : k < p.total) (e : p.ucs2 ≡ false) where
  abbrev zeros : ℕ
  zeros = septets_over (mark_size p.total)

  pub plain-hold : p.plain ≡ true → plan_room p * k + part_length p k ≤ length t
  plain-hold plain = omega (arith, septets-hold p t c k h e, ap length (own-text-septets t (c.own e plain)))

  pub plain-laid : p.plain ≡ true → (a : List ℕ) → Blank p a → (o r n : ℕ) → o ≡ zeros → r ≡ plan_room p → n ≡ part_length p k → (sub : List ℕ)
      → sub ≡ laid (take (length (take (o + n - o) (drop o a))) (low_octets (take (r * k + n - r * k) (drop (r * k) t)))) (take (o + n - o) (drop o a))
      → LaidPart p t k (take o a ++ (sub ++ drop (o + n - o) (drop o a)))
  unfolding laid
  plain-laid plain a blank o r n eo er en sub es =
      let held : ℕ = part_length p k in
      let size : o + n - o ≡ held = omega arith in
      let text : r * k + n - r * k ≡ held = omega arith in
      let lent : List ℕ = take held (drop zeros a) in
      let long : length lent ≡ held = length-take-le held (drop zeros a) (omega (arith, length-drop zeros a, blank.0, over-fits p t c k h e)) in
      let w : List ℕ = take held (drop (plan_room p * k) (septets_of t)) in
      let is : sub ≡ w =
      es
      ∙ ap₂ (λ (i j : ℕ). laid (take (length (take i (drop o a))) (low_octets (take j (drop (r * k) t)))) (take i (drop o a))) size text
      ∙ ap₂ (λ (i j : ℕ). laid (take (length (take held (drop i a))) (low_octets (take held (drop (j * k) t)))) (take held (drop i a))) eo er
      ∙ plain-part p t c k h e plain lent long in
      laid-part p t c k h e a (take o a ++ (sub ++ drop (o + n - o) (drop o a))) sub blank is
      (ap₂ (λ (i j : ℕ). take i a ++ (sub ++ drop j (drop i a))) eo (size ∙ sym (ap length is ∙ length-take-le held (drop (plan_room p * k) (septets_of t)) (omega (arith, septets-hold p t c k h e, length-drop (plan_room p * k) (septets_of t))))) ∙ laid-is sub a)
    where
      laid-is : (w a : List ℕ) → take zeros a ++ (w ++ drop (length w) (drop zeros a)) ≡ laid_at zeros w a
      laid-is w a = refl

  -- of what pairs need
  pub zeros-some : (unit : ℕ) → PlaceAt t (begins_at p k) unit true → 0 < zeros
  zeros-some unit q = go (is_marked p.total) refl
    where
      later : 1 ≤ begins_at p k
      later = half-later t (c.codable e) (begins_at p k) unit q

      go : (m : Bool) → is_marked p.total ≡ m → 0 < septets_over (cond m 6 0)
      go true f = omega (arith, septets-over-6)
      go false f =
          let one : p.total ≡ 1 = eqb-true p.total 1 (not-false (eqb p.total 1) f) in
          let none : plan_room p * k ≡ 0 = ap (λ (j : ℕ). plan_room p * j) (first one) ∙ mul-zero (plan_room p) in
          absurd (omega (arith, begins-here p t c k h, later))
        where
          first : p.total ≡ 1 → k ≡ 0
          first one = omega arith

  pub zero-before : (a : List ℕ) → Blank p a → (o : ℕ) → o ≡ zeros → 0 < o → get_or a (o - 1) 0 ≡ 0
  zero-before a blank o eo some =
      let within : o - 1 < zeros = omega arith in
      sym (get_or-take zeros a (o - 1) 0 within) ∙ ap (λ (l : List ℕ). get_or l (o - 1) 0) blank.1 ∙ get_or-replicate zeros (o - 1) 0 0 within

  pub pairs-hold : (n : ℕ) → n ≡ part_length p k → begins_at p k + n ≤ length (septets_of t)
  pairs-hold n en = omega (arith, septets-hold p t c k h e, begins-here p t c k h)

  pub pairs-laid : (a left : List ℕ) → Blank p a → (o n : ℕ) → o ≡ zeros → n ≡ part_length p k → left ≡ laid_at o (take n (drop (begins_at p k) (septets_of t))) a → LaidPart p t k left
  pairs-laid a left blank o n eo en l =
      laid-part p t c k h e a left (take n (drop (begins_at p k) (septets_of t))) blank
      (ap₂ (λ (i j : ℕ). take i (drop j (septets_of t))) en (begins-here p t c k h))
      (l ∙ ap (λ (i : ℕ). laid_at i (take n (drop (begins_at p k) (septets_of t))) a) eo)

module _ (p : Plan) (t : List ℕ) (c : Cut p t) (k : ℕ) (h : k < p.total) where
  -- the septets that are packed
  pub septets-ready : p.ucs2 ≡ false → (a s : List ℕ) → LaidPart p t k a → s ≡ take (septets_over (mark_size p.total) + part_length p k) a
      → (length s ≡ septets_over (mark_size p.total) + part_length p k) × Below 128 s × (take (septets_over (mark_size p.total)) s ≡ replicate (septets_over (mark_size p.total)) 0)
  septets-ready e a s l is =
      let z : ℕ = septets_over (mark_size p.total) in
      let content : List ℕ = part_content false p.total (septets_of t) (k + 1) in
      let same : s ≡ replicate z 0 ++ content = is ∙ l.1 in (
        ap length same ∙ length-append (replicate z 0) content ∙ omega (arith, length-replicate {A = ℕ} z 0, septets-long p t c k h e),
        subst (Below 128) (sym same) (below-append 128 (replicate z 0) content (below-replicate 128 z 0 (omega arith)) (content-below false reference0 p.total (septets_of t) (k + 1) (λ f. septets-below t) refl)),
        ap (take z) same ∙ take_at (replicate z 0) content z (length-replicate z 0),
      )
    where
      reference0 : ℕ
      reference0 = 0

  pub octets-septets : p.ucs2 ≡ false → plan_octets p k ≡ octets_for (septets_over (mark_size p.total) + part_length p k)
  unfolding plan_octets plan_count
  octets-septets e = ap (λ (b : Bool). cond b (cond b (mark_size p.total + 2 * part_length p k) (septets_over (mark_size p.total) + part_length p k)) (octets_for (cond b (mark_size p.total + 2 * part_length p k) (septets_over (mark_size p.total) + part_length p k)))) e

  pub octets-units : p.ucs2 ≡ true → plan_octets p k ≡ mark_size p.total + 2 * part_length p k
  unfolding plan_octets plan_count
  octets-units e = ap (λ (b : Bool). cond b (cond b (mark_size p.total + 2 * part_length p k) (septets_over (mark_size p.total) + part_length p k)) (octets_for (cond b (mark_size p.total + 2 * part_length p k) (septets_over (mark_size p.total) + part_length p k)))) e

  pub units-hold : p.ucs2 ≡ true → plan_room p * k + part_length p k ≤ length t
  units-hold e = omega (arith, length-here p t c k h, c.content, ap (λ (b : Bool). length (content_of b t)) e)

  pub units-few : p.ucs2 ≡ true → part_length p k ≤ 70
  units-few e = omega (arith, room-units p e, length_most p k)

-- part k laid behind the parts before it, in each of the two buffers
module _ (p : Plan) (t : List ℕ) (c : Cut p t) (reference k : ℕ) (h : k < p.total) where
  abbrev all : List ℕ
  all = content_of p.ucs2 t

  abbrev here : List ℕ
  here = part_octets p.ucs2 reference p.total all (k + 1)

  pub room-here : (start out : List ℕ) → 140 * (p.total - 1) + plan_octets p (p.total - 1) ≤ length start → out ≡ laid (all_octets p.ucs2 reference p.total all 1 k) start
      → (140 * k ≤ length out) × (plan_octets p k ≤ length (take (length out - 140 * k) (drop (140 * k) out))) × (length out ≡ length start)
  room-here start out room o =
      let before : length (all_octets p.ucs2 reference p.total all 1 k) ≡ 140 * k = before-length p t c reference k h in
      let enough : 140 * k + plan_octets p k ≤ length start = fits (dec_le (suc (suc k)) p.total) in
      let long : length out ≡ length start = ap length o ∙ laid-length (all_octets p.ucs2 reference p.total all 1 k) start (omega arith) in
      (omega arith, omega (arith, ap length (tail-lent (140 * k) out), length-drop (140 * k) out), long)
    where
      fits : Dec (suc (suc k) ≤ p.total) → 140 * k + plan_octets p k ≤ length start
      fits (yes l) = omega (arith, octets-full p t c k l)
      fits (no l) = let last : p.total - 1 ≡ k = omega arith in omega (arith, ap (plan_octets p) last)

  pub octets-laid : (start out sub : List ℕ) → out ≡ laid (all_octets p.ucs2 reference p.total all 1 k) start
      → sub ≡ laid here (take (length out - 140 * k) (drop (140 * k) out))
      → take (140 * k) out ++ (sub ++ drop (length out - 140 * k) (drop (140 * k) out)) ≡ laid (all_octets p.ucs2 reference p.total all 1 (k + 1)) start
  octets-laid start out sub o s =
      let next : all_octets p.ucs2 reference p.total all 1 k ++ here ≡ all_octets p.ucs2 reference p.total all 1 (k + 1) =
      ap (λ (i : ℕ). all_octets p.ucs2 reference p.total all 1 k ++ part_octets p.ucs2 reference p.total all i) (add_comm k 1) ∙ sym (octets-more p.ucs2 reference p.total all 1 k) in
      tail-laid (all_octets p.ucs2 reference p.total all 1 k) here start out sub (140 * k) (before-length p t c reference k h) o s
      ∙ ap (λ (l : List ℕ). laid l start) next

  pub sizes-laid : (start sizes : List ℕ) (n m : ℕ) → 2 * p.total ≤ length start → sizes ≡ laid (all_sizes p.ucs2 reference p.total all 1 k) start
      → n ≡ plan_count p k → m ≡ plan_octets p k
      → set (set sizes (2 * k) n) (2 * k + 1) m ≡ laid (all_sizes p.ucs2 reference p.total all 1 (k + 1)) start
  sizes-laid start sizes n m room z en em =
      let count : n ≡ part_count p.ucs2 reference p.total all (1 + k) = en ∙ count-is p t c reference k h ∙ ap (part_count p.ucs2 reference p.total all) (add_comm k 1) in
      let octets : m ≡ length (part_octets p.ucs2 reference p.total all (1 + k)) = em ∙ octets-is p t c reference k h ∙ ap (λ (i : ℕ). length (part_octets p.ucs2 reference p.total all i)) (add_comm k 1) in
      laid-two (all_sizes p.ucs2 reference p.total all 1 k) start sizes (2 * k) n m (sizes-length p.ucs2 reference p.total all 1 k) (omega arith) z
      ∙ ap₂ (λ (i j : ℕ). laid (all_sizes p.ucs2 reference p.total all 1 k ++ (i ∷ j ∷ [])) start) count octets
      ∙ ap (λ (l : List ℕ). laid l start) (sym (sizes-more p.ucs2 reference p.total all 1 k))

  pub sizes-room : (start sizes : List ℕ) → 2 * p.total ≤ length start → sizes ≡ laid (all_sizes p.ucs2 reference p.total all 1 k) start → length sizes ≡ length start
  sizes-room start sizes room z = ap length z ∙ laid-length (all_sizes p.ucs2 reference p.total all 1 k) start (omega (arith, sizes-length p.ucs2 reference p.total all 1 k))

-- every part but the last is full
pub all-length : (p : Plan) (t : List ℕ) → Cut p t → (reference : ℕ) → length (all_octets p.ucs2 reference p.total (content_of p.ucs2 t) 1 p.total) ≡ 140 * (p.total - 1) + plan_octets p (p.total - 1)
all-length p t c reference =
    let s : List ℕ = content_of p.ucs2 t in
    let n : ℕ = p.total - 1 in
    let all : suc n ≡ p.total = omega (arith, cut-some p t c) in
    let long : (i : ℕ) → i < p.total → length (part_octets p.ucs2 reference p.total s (1 + i)) ≡ plan_octets p i =
    λ i h. ap (λ (j : ℕ). length (part_octets p.ucs2 reference p.total s j)) (add_comm 1 i) ∙ sym (octets-is p t c reference i h) in
    ap (λ (j : ℕ). length (all_octets p.ucs2 reference p.total s 1 j)) (sym all)
    ∙ octets-length p.ucs2 reference p.total s 140 1 n (λ i h. long i (omega arith) ∙ octets-full p t c i (omega arith))
    ∙ omega (arith, long n (omega arith))

pub none-laid : (p : Plan) (reference : ℕ) (s start list : List ℕ) → (start ≡ laid (all_octets p.ucs2 reference p.total s 1 0) start) × (list ≡ laid (all_sizes p.ucs2 reference p.total s 1 0) list)
unfolding all_octets all_sizes laid
none-laid p reference s start list = (refl, refl)

-- an array of zeros
pub blank_none : (p : Plan) → Blank p (replicate 184 0)
blank_none p = (refl, go (is_marked p.total))
  where
    none : ℕ → List ℕ
    none n = replicate n 0

    go : (m : Bool) → take (septets_over (cond m 6 0)) (none 184) ≡ none (septets_over (cond m 6 0))
    go true = ap (λ (n : ℕ). take n (none 184)) septets-over-6 ∙ sym (ap none septets-over-6)
    go false = ap (λ (n : ℕ). take n (none 184)) septets-over-0 ∙ sym (ap none septets-over-0)
