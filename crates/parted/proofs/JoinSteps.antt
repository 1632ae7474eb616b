-- Joining step by step: what the order of the parts leaves of the rules, where the part of each number stands, and its content read behind that of those before.
-- Assumes nothing.
--   join-octet           the whole call by the reading of its coding octet
--   held-joins, held_none   what the reading holds says how the text is joined
--   text-refused, text-sorted, text-sorted-few   the text by the order of its parts: the rest of the rules is the room
--   sorted-as, told-as   what is known of parts and of one of them, by the name of their alphabet
--   place-there, start_small, head-within, head_first   of the part with a number: where it stands, and its header's length octet there
--   place-read, start-read, count-read   the same as the tables say it
--   units-over, units-held, units-slice   UCS2: how much the header takes, how many units stand behind it, and where
--   septets-over, septets-held   7-bit text: the same of septets
--   units-read, septets-read   both as the tables say them
--   joined-more, joined-all   what one part more holds, and all
--   run-array, run-laid, run-below, run_ends, run-ready   the run of a part in the array that all its septets stand in
--   read_none, text-more, open_more, read-room, read_all   the text that is read up to a number
--   units-within, units-more, run_room, run_more, text-before   one part more in the lent buffer
--   run-read, run-unrefused, ready-text   a run that is read has room
--   text-most, given-short, given-fits   the room of the text
use mathlib.Core.Path.{◌≡◌, refl, sym, ap, ap₂, ◌∙◌, subst}
use mathlib.Core.Bool.{Bool, true, false, not, cond, true≢false}
use mathlib.Core.List.{List, [], ◌∷◌, ◌++◌, append_assoc, append-nil}
use Prim.Native.Nat.{ℕ, zero, suc, ◌+◌, ◌-◌, ◌*◌, ◌/◌, ◌%◌, ◌^◌, ◌≤◌, ◌<◌}
use native.Mathlib.Nat.{add-zero, zero-add, add_comm, suc-add, mod-lt}
use native.Mathlib.Numerals.{add-one}
use native.Mathlib.Omega.{arith}
use borrow.Author.Tests.{lt-ltb, le-ltb, le-leb, lt-leb, leb-true, leb-false, ltb-true, ltb-false, eq-eqb}
use lib.Dec.{lit<, ltb, leb, eqb}
use lib.ListN.{length, get_or, take, drop, set, length-set, length-append, length-drop}
use lib.Seq.{take_all, take-take, drop_at, drop-cons, take-add, drop-drop, drop-set-lt, length-take-le, get_or-take, get_or-drop, get_or-set_same}
use Rattle.words.specs.declared.Service.TheVariants.{ShortMessage}
use Rattle.words.specs.declared.Refusal.{Refusal}
use Rattle.words.specs.declared.Refusal.TheVariants.{WrongLength, WrongHeader, WrongPages, NoRoom}
use Rattle.words.specs.Judging.{Verdict, refused, accepted, when, verdict, settle}
use Rattle.words.proofs.Judging.{verdict-refused-first, verdict-accepted-first, accepted-rule}
use Rattle.lists.specs.Lists.{first_wide, laid}
use Rattle.lists.specs.Bits.{bit_of}
use Rattle.lists.proofs.Below.{Below, below-drop, below-take}
use Rattle.lists.proofs.Places.{place_none}
use Rattle.lists.proofs.Tests.{and_left, or_right}
use Rattle.filling.proofs.Table.{table-there}
use Rattle.letters.specs.Tables.{escape}
use Rattle.letters.specs.Reading.{text_of, read_as, text_answers, text_leaves, text_rules as shown_rules}
use Rattle.letters.proofs.Septets.{read-most}
use Rattle.coding.specs.declared.Reading.{Reading}
use Rattle.coding.specs.OctetRead.{octet_reads, read_under}
use Rattle.coding.specs.Holding.{is_ucs2, holds_text, holds_units}
use Rattle.coding.specs.declared.Held.{Held}
use Rattle.coding.proofs.Prefixed.{read-given}
use Rattle.stream.specs.Stream.{stream_bit, unpacked, octets_for}
use Rattle.stream.specs.ArrayCalls.{all_leaves}
use Rattle.stream.specs.SeptetCalls.{septets_fit}
use Rattle.stream.specs.Ucs2.{octet_units}
use Rattle.stream.specs.Storing.{given_answers, given_leaves}
use Rattle.stream.proofs.Stream.{unpacked-length}
use Rattle.stream.proofs.Calls.{array-length, array-all}
use Rattle.stream.proofs.UnitOctets.{octet-units-length}
use Rattle.demands.proofs.Steps.{leaves-agree, held_as, held-units, holds-text}
use Rattle.demands.proofs.Septets.{cut_below}
use Rattle.headed.specs.declared.Numbers.{Numbers}
use Rattle.headed.specs.Header.{Element, Elements, broken, whole, elements_up_to, elements_of, numbers_of, last_numbers, concatenation, header_size, header_body, numbers_in, header_numbers, right_header, septets_over}
use Rattle.headed.proofs.Steps.{chosen, header-fits}
use Rattle.parted.specs.Behind.{unpacked_behind}
use Rattle.parted.specs.Read.{wrong_head, content_behind}
use Rattle.parted.specs.Joined.{octets_asked, start_at, part_in, wrong_counts, wrong_heads, odd_parts, numbers_at, total_in, reference_in, total_at, number_at, wrong_parts, place_of, content_at, joined_from, joined_content, joined_text, parts_rules, join_rules, join_answers, join_leaves}
use Rattle.parted.specs.Ordered.{order_rules, part_order_of, places_left, starts_left}
use Rattle.parted.specs.InnerJoined.{held_joins, held_join_leaves, text_joins, text_join_leaves, joined_as, Sorted, over_in, ends_open, settled, run_behind, run_read, run_open, run_in, Ready, read_up_to, open_up_to}
use Rattle.parted.proofs.ReadSteps.{held_first, held-stops}
use Rattle.parted.proofs.Behind.{unpacked-behind, unpacked-behind-length}
use Rattle.parted.proofs.Lent.{tail-laid}
use Rattle.parted.proofs.Orders.{right-read-once}
use Rattle.parted.proofs.OrderSteps.{count_most, part-within, part-whole, start-most, head-there, head_at, start-entry, order-refused, order-accepted, order-reference, left-right}
use Rattle.parted.proofs.OpenRuns.{open-some, text-append, settled-closed, whole-next, read_next, open_next}
use Rattle.std.specs.Prelude.{Option, Some, None, Ok, Err}
use Rattle.parted.specs.Successes.{ok_parts_joined}

-- ---- by what the coding octet is read as

module _ (cs o out : List ℕ) where
  pub join-octet : (coding : ℕ) (r : Reading) → Ok r ≡ octet_reads ShortMessage coding
      → (held_joins r cs o (length out) ≡ join_answers coding cs o (length out)) × (held_join_leaves r cs o out ≡ join_leaves coding cs o out)
  unfolding held_joins held_join_leaves join_answers join_leaves
  join-octet coding r e =
      let same : read_under ShortMessage coding ≡ r = read-given ShortMessage coding r e in
      (ap (λ (x : Reading). held_joins x cs o (length out)) (sym same), ap (λ (x : Reading). held_join_leaves x cs o out) (sym same))

  pub held-joins : (r : Reading) (h : Held) (ucs2 : Bool) → ucs2 ≡ holds_units h → Ok h ≡ holds_text ShortMessage r
      → (text_joins r ucs2 cs o (length out) ≡ held_joins r cs o (length out)) × (text_join_leaves ucs2 cs o out ≡ held_join_leaves r cs o out)
  unfolding held_joins held_join_leaves text_joins text_join_leaves join_rules
  held-joins r h ucs2 u d =
      let e : held_as ucs2 ≡ holds_text ShortMessage r = ap held_as u ∙ held-units h ∙ d in
      let v = held_first r ucs2 (λ x. parts_rules x cs o (length out)) e in
      let b = holds-text ShortMessage r ucs2 e in (
        sym (ap₂ (λ (w : Verdict) (x : Bool). settle w Err (ok_parts_joined (length (joined_text x cs o)) r (reference_in (numbers_at x cs o 0)) (length cs))) v b),
        leaves-agree out v (ap (λ (x : Bool). joined_text x cs o) b),
      )

  pub held_none : (r : Reading) (q : Refusal) → Err q ≡ holds_text ShortMessage r
      → (Err q ≡ held_joins r cs o (length out)) × (out ≡ held_join_leaves r cs o out)
  unfolding held_joins held_join_leaves join_rules
  held_none r q e =
      let v = held-stops r q (parts_rules (is_ucs2 r.alphabet) cs o (length out)) e in
      let x = joined_text (is_ucs2 r.alphabet) cs o in
      (sym (ap (λ (w : Verdict). settle w Err (ok_parts_joined (length x) r (reference_in (numbers_at (is_ucs2 r.alphabet) cs o 0)) (length cs))) v), leaves-agree {x = x} out v refl)

-- ---- a total is an octet

-- what was found, and what elements behind it say
abbrev last_in : Option Numbers → Elements → Option Numbers
last_in found broken = None
last_in found (whole es) = last_numbers found es

small-elements : (m : ℕ) (o : List ℕ) → Below 256 o → (found : Option Numbers) → total_in found < 256 → total_in (last_in found (elements_up_to m o)) < 256
unfolding elements_up_to last_numbers
small-elements zero [] b found h = h
small-elements zero (i ∷ o) b found h = omega arith
small-elements (suc m) [] b found h = h
small-elements (suc m) (i ∷ []) b found h = omega arith
small-elements (suc m) (i ∷ n ∷ o) b found h =
    go (ltb (length o) n) (elements_up_to m (drop n o)) (small-elements m (drop n o) (below-drop 256 o behind n))
  where
    behind : Below 256 o
    behind k = b (suc (suc k))

    here : Element
    here = record { identifier = i; octets = take n o }

    chosen-small : (t : Bool) → total_in (cond t (Some (numbers_of here)) found) < 256
    chosen-small true = below-take 256 o behind n 1
    chosen-small false = h

    go : (t : Bool) (x : Elements) → ((f : Option Numbers) → total_in f < 256 → total_in (last_in f x) < 256) → total_in (last_in found (chosen t here x)) < 256
    go true x rest = omega arith
    go false broken rest = omega arith
    go false (whole es) rest = rest (cond (eqb i concatenation) (Some (numbers_of here)) found) (chosen-small (eqb i concatenation))

total-small : (o : List ℕ) → Below 256 o → total_in (header_numbers o) < 256
unfolding header_numbers header_body elements_of
total-small o b =
    subst (λ (c : Option Numbers). total_in c < 256) (same (elements_of (header_body o)))
    (small-elements (length (header_body o)) (header_body o) (below-take 256 (drop 1 o) (below-drop 256 o b 1) (get_or o 0 0)) None (omega arith))
  where
    same : (x : Elements) → last_in None x ≡ numbers_in x
    same broken = refl
    same (whole es) = refl

total-at : (ucs2 : Bool) (cs o : List ℕ) → Below 256 o → (i : ℕ) → total_at ucs2 cs o i < 256
unfolding numbers_at part_in
total-at ucs2 cs o b i =
    total-small (part_in ucs2 cs o i) (below-take 256 (drop (start_at ucs2 cs i) o) (below-drop 256 o b (start_at ucs2 cs i)) (octets_asked ucs2 (get_or cs i 0)))

-- ---- by the order of the parts

module _ (ucs2 : Bool) (cs o : List ℕ) where
  -- what the order says of the rules
  pub text-refused : (r : Reading) (out : List ℕ) (q : Refusal) → Err q ≡ part_order_of ucs2 cs o
      → (Err q ≡ text_joins r ucs2 cs o (length out)) × (out ≡ text_join_leaves ucs2 cs o out)
  unfolding text_joins text_join_leaves order_rules parts_rules
  text-refused r out q d =
      let v : verdict (parts_rules ucs2 cs o (length out)) ≡ refused q =
      verdict-refused-first (order_rules ucs2 cs o) (when (ltb (length out) (length (joined_text ucs2 cs o))) NoRoom ∷ []) q (order-refused ucs2 cs o q d) in
      (sym (ap (λ (w : Verdict). settle w Err (ok_parts_joined (length (joined_text ucs2 cs o)) r (reference_in (numbers_at ucs2 cs o 0)) (length cs))) v), leaves-agree {x = joined_text ucs2 cs o} out v refl)

  module _ (reference : ℕ) (d : Ok reference ≡ part_order_of ucs2 cs o) where
    -- no rule of the order refuses parts that have one
    passed : (wrong_counts ucs2 cs o ≡ false) × (wrong_heads ucs2 cs o ≡ false) × (odd_parts ucs2 cs o ≡ false) × (wrong_parts ucs2 cs o ≡ false)
    unfolding order_rules
    passed =
        let one = accepted-rule (wrong_counts ucs2 cs o) WrongLength _ (order-accepted ucs2 cs o reference d) in
        let two = accepted-rule (wrong_heads ucs2 cs o) WrongHeader _ one.1 in
        let three = accepted-rule (odd_parts ucs2 cs o) WrongLength _ two.1 in
        let four = accepted-rule (wrong_parts ucs2 cs o) WrongPages [] three.1 in
        (one.0, two.0, three.0, four.0)

    pub text-sorted-few : length cs < 256 → (places starts : List ℕ) → places ≡ places_left ucs2 cs o → starts ≡ starts_left ucs2 cs o → Sorted ucs2 cs o places starts
    text-sorted-few few places starts x y =
        let right = (right-read-once ucs2 cs o passed.3).1 in
        let left = left-right ucs2 cs o reference d in
        record {
          fits = passed.0;
          heads = passed.1;
          even = passed.2;
          right = passed.3;
          few = few;
          placed = λ k some most.
              ap (λ (l : List ℕ). get_or l k 0) (x ∙ sym left.0)
              ∙ table-there (number_at ucs2 cs o) (length cs) 256 k (omega arith) (right.there k some (omega (arith, right.count))).0;
          starting = λ i h.
              ap (λ (l : List ℕ). get_or l i 0) (y ∙ sym left.1) ∙ start-entry ucs2 cs o i (omega arith) ∙ ap (λ (t : Bool). cond t (start_at ucs2 cs i) 0) (lt-ltb i (length cs) h);
        }

    -- of octets the parts are so few, since their total is one
    pub text-sorted : Below 256 o → (places starts : List ℕ) → places ≡ places_left ucs2 cs o → starts ≡ starts_left ucs2 cs o → Sorted ucs2 cs o places starts
    text-sorted b places starts x y =
        let right = (right-read-once ucs2 cs o passed.3).1 in
        text-sorted-few (omega (arith, right.count, total-at ucs2 cs o b 0)) places starts x y

    pub text-joins : (r : Reading) (out : List ℕ)
        → (joined_as r reference (length cs) (given_answers (joined_text ucs2 cs o) (length out)) ≡ text_joins r ucs2 cs o (length out)) × (given_leaves (joined_text ucs2 cs o) out ≡ text_join_leaves ucs2 cs o out)
    unfolding text_joins text_join_leaves given_answers given_leaves order_rules parts_rules
    text-joins r out =
        let v : verdict (parts_rules ucs2 cs o (length out)) ≡ verdict (when (ltb (length out) (length (joined_text ucs2 cs o))) NoRoom ∷ []) =
        verdict-accepted-first (order_rules ucs2 cs o) (when (ltb (length out) (length (joined_text ucs2 cs o))) NoRoom ∷ []) (order-accepted ucs2 cs o reference d) in (
          go (verdict (when (ltb (length out) (length (joined_text ucs2 cs o))) NoRoom ∷ []))
              ∙ sym
              (ap₂ (λ (w : Verdict) (n : ℕ). settle w Err (ok_parts_joined (length (joined_text ucs2 cs o)) r n (length cs))) v (sym (order-reference ucs2 cs o reference d))),
          leaves-agree {x = joined_text ucs2 cs o} out v refl,
        )
      where
        go : (v : Verdict) → joined_as r reference (length cs) (settle v Err (Ok (length (joined_text ucs2 cs o))))
            ≡ settle v Err (ok_parts_joined (length (joined_text ucs2 cs o)) r reference (length cs))
        go (refused q) = refl
        go accepted = refl

-- ---- parts whose alphabet is known

module _ (ucs2 u : Bool) (e : ucs2 ≡ u) (cs o : List ℕ) where
  pub sorted-as : {places starts : List ℕ} → Sorted ucs2 cs o places starts → Sorted u cs o places starts
  sorted-as {places} {starts} s = subst (λ (x : Bool). Sorted x cs o places starts) e s

  pub told-as : (k start count over : ℕ) → (start ≡ start_at ucs2 cs (place_of ucs2 cs o k)) × (count ≡ get_or cs (place_of ucs2 cs o k) 0) → over ≡ over_in ucs2 (part_in ucs2 cs o (place_of ucs2 cs o k))
      → (start ≡ start_at u cs (place_of u cs o k)) × (count ≡ get_or cs (place_of u cs o k) 0) × (over ≡ over_in u (part_in u cs o (place_of u cs o k)))
  told-as k start count over b t =
      subst (λ (x : Bool). (start ≡ start_at x cs (place_of x cs o k)) × (count ≡ get_or cs (place_of x cs o k) 0) × (over ≡ over_in x (part_in x cs o (place_of x cs o k)))) e (b.0, b.1, t)

-- ---- the part with a number

-- a list from place h on, of which only the first c are taken
drop-front : (h c : ℕ) (l : List ℕ) → h ≤ c → h ≤ length l → drop h (take c l) ≡ take (c - h) (drop h l)
drop-front h c l within there =
    let whole : c ≡ h + (c - h) = omega arith in
    ap (λ (n : ℕ). drop h (take n l)) whole ∙ ap (drop h) (take-add h (c - h) l) ∙ drop_at (take h l) (take (c - h) (drop h l)) h (length-take-le h l there)

module _ (ucs2 : Bool) (cs o places starts : List ℕ) (s : Sorted ucs2 cs o places starts) where
  pub total-is : total_at ucs2 cs o 0 ≡ length cs
  total-is = sym (right-read-once ucs2 cs o s.right).1.count

  pub joined-all : joined_content ucs2 cs o ≡ joined_from ucs2 cs o 1 (length cs)
  unfolding joined_content
  joined-all = ap (joined_from ucs2 cs o 1) total-is

  module _ (k : ℕ) (some : 1 ≤ k) (most : k ≤ length cs) where
    abbrev pub place : ℕ
    place = place_of ucs2 cs o k

    abbrev pub part : List ℕ
    part = part_in ucs2 cs o place

    pub place-there : place < length cs
    place-there = ((right-read-once ucs2 cs o s.right).1.there k some (omega (arith, total-is))).0

    pub start_small : start_at ucs2 cs place ≤ 35700
    start_small = omega (arith, place-there, s.few, start-most ucs2 cs o s.fits place (omega (arith, place-there)))

    pub head-whole : header_size part ≤ octets_asked ucs2 (get_or cs place 0)
    head-whole = omega (arith, header-fits part (head-there ucs2 cs o s.heads place place-there), part-whole ucs2 cs o s.fits place place-there)

    pub head-within : start_at ucs2 cs place < length o
    head-within = omega (arith, head-whole, part-within ucs2 cs o s.fits place place-there)

    -- what the tables say of it
    abbrev pub place_read : ℕ
    place_read = get_or places k 0 - 1

    abbrev pub start_read : ℕ
    start_read = get_or starts place_read 0

    pub place-read : place_read ≡ place
    place-read = omega (arith, s.placed k some most)

    pub start-read : start_read ≡ start_at ucs2 cs place
    start-read = ap (λ (i : ℕ). get_or starts i 0) place-read ∙ s.starting place place-there

    pub count-read : get_or cs place_read 0 ≡ get_or cs place 0
    count-read = ap (λ (i : ℕ). get_or cs i 0) place-read

    -- its length octet is the first of its octets
    pub head_first : suc (get_or o (start_at ucs2 cs place) 0) ≡ header_size part
    unfolding part_in
    head_first =
        ap suc
        (sym
        (get_or-take (octets_asked ucs2 (get_or cs place 0)) (drop (start_at ucs2 cs place) o) 0 0 (omega (arith, head-whole))
        ∙ get_or-drop (start_at ucs2 cs place) o 0 0
        ∙ ap (λ (n : ℕ). get_or o n 0) (add-zero (start_at ucs2 cs place))))

    head_read : get_or o start_read 0 + 1 ≡ header_size part
    head_read = add-one (get_or o start_read 0) ∙ ap (λ (i : ℕ). suc (get_or o i 0)) start-read ∙ head_first

module _ (cs o places starts : List ℕ) (s : Sorted true cs o places starts) (k : ℕ) (some : 1 ≤ k) (most : k ≤ length cs) where
  abbrev units_place : ℕ
  units_place = place_of true cs o k

  pub units-over : header_size (part_in true cs o units_place) ≤ get_or cs units_place 0
  units-over = head-whole true cs o places starts s k some most

  pub units-held : length (content_at true cs o units_place) ≡ (get_or cs units_place 0 - header_size (part_in true cs o units_place)) / 2
  unfolding content_behind
  units-held =
      let h : ℕ = header_size (part_in true cs o units_place) in
      octet-units-length (drop h (part_in true cs o units_place))
      ∙ ap (λ (n : ℕ). n / 2) (length-drop h (part_in true cs o units_place) ∙ ap (λ (n : ℕ). n - h) (part-whole true cs o s.fits units_place (place-there true cs o places starts s k some most)))

  -- the octets behind the header
  pub units-slice : (start over count : ℕ) → start ≡ start_at true cs units_place → over ≡ header_size (part_in true cs o units_place) → count ≡ get_or cs units_place 0
      → octet_units (take (start + count - (start + over)) (drop (start + over) o)) ≡ content_at true cs o units_place
  unfolding content_behind part_in
  units-slice start over count a b c =
      let behind : start + count - (start + over) ≡ count - over = omega arith in
      let long : over ≤ length (drop start o) =
      omega (arith, length-drop start o, a, b, c, units-over, part-within true cs o s.fits units_place (place-there true cs o places starts s k some most)) in
      ap octet_units
      (ap₂ (λ (n : ℕ) (l : List ℕ). take n l) behind (sym (drop-drop over start o))
      ∙ sym (drop-front over count (drop start o) (omega (arith, b, c, units-over)) long)
      ∙ ap₂ (λ (n : ℕ) (l : List ℕ). drop n l) b (ap₂ (λ (n m : ℕ). take n (drop m o)) c a))

module _ (cs o places starts : List ℕ) (s : Sorted false cs o places starts) (k : ℕ) (some : 1 ≤ k) (most : k ≤ length cs) where
  abbrev septets_place : ℕ
  septets_place = place_of false cs o k

  pub septets-over : septets_over (header_size (part_in false cs o septets_place)) ≤ get_or cs septets_place 0
  unfolding wrong_head
  septets-over =
      ltb-false (get_or cs septets_place 0) (septets_over (header_size (part_in false cs o septets_place)))
      (or_right (not (right_header (part_in false cs o septets_place))) _ (head_at false cs o s.heads septets_place (place-there false cs o places starts s k some most)))

  -- a header has its length octet
  pub over-some : 2 ≤ septets_over (header_size (part_in false cs o septets_place))
  unfolding septets_over
  over-some = omega arith

  pub septets-held : length (content_at false cs o septets_place) ≡ get_or cs septets_place 0 - septets_over (header_size (part_in false cs o septets_place))
  unfolding content_behind
  septets-held =
      unpacked-behind-length (septets_over (header_size (part_in false cs o septets_place))) (get_or cs septets_place 0 - septets_over (header_size (part_in false cs o septets_place)))
      (part_in false cs o septets_place)

  pub septets-most : get_or cs septets_place 0 ≤ 160
  septets-most = count_most false cs o s.fits septets_place (place-there false cs o places starts s k some most)

  septets-fit : septets_fit ShortMessage (length (part_in false cs o septets_place)) (get_or cs septets_place 0) ≡ true
  septets-fit =
      simp (
        le-leb (get_or cs septets_place 0) 160 septets-most,
        eq-eqb (length (part_in false cs o septets_place)) (octets_for (get_or cs septets_place 0)) (part-whole false cs o s.fits septets_place (place-there false cs o places starts s k some most)),
      )

-- what is read of a part by the tables: how much of its count the header takes, and how much is left
pub units-read : (ucs2 : Bool) (cs o places starts : List ℕ) (s : Sorted ucs2 cs o places starts) (k : ℕ) (some : 1 ≤ k) (most : k ≤ length cs) → ucs2 ≡ true
    → let size : ℕ = get_or o (start_read ucs2 cs o places starts s k some most) 0 + 1 in
    let count : ℕ = get_or cs (place_read ucs2 cs o places starts s k some most) 0 in
    (size ≡ over_in ucs2 (part_in ucs2 cs o (place_of ucs2 cs o k))) × ((count - size) / 2 ≡ length (content_at ucs2 cs o (place_of ucs2 cs o k))) × (size ≤ count)
units-read false cs o places starts s k some most e = absurd (true≢false (sym e))
units-read true cs o places starts s k some most e =
    let size = head_read true cs o places starts s k some most in
    let count = count-read true cs o places starts s k some most in (
      size,
      ap₂ (λ (n m : ℕ). (n - m) / 2) count size ∙ sym (units-held cs o places starts s k some most),
      omega (arith, size, count, units-over cs o places starts s k some most),
    )

pub septets-read : (ucs2 : Bool) (cs o places starts : List ℕ) (s : Sorted ucs2 cs o places starts) (k : ℕ) (some : 1 ≤ k) (most : k ≤ length cs) → ucs2 ≡ false
    → (over : ℕ) → over ≡ septets_over (get_or o (start_read ucs2 cs o places starts s k some most) 0 + 1)
    → let count : ℕ = get_or cs (place_read ucs2 cs o places starts s k some most) 0 in
    (over ≡ over_in ucs2 (part_in ucs2 cs o (place_of ucs2 cs o k))) × (count - over ≡ length (content_at ucs2 cs o (place_of ucs2 cs o k))) × (over ≤ count)
septets-read true cs o places starts s k some most e over v = absurd (true≢false e)
septets-read false cs o places starts s k some most e over v =
    let same : over ≡ septets_over (header_size (part_in false cs o (place_of false cs o k))) = v ∙ ap septets_over (head_read false cs o places starts s k some most) in
    let count = count-read false cs o places starts s k some most in (
      same,
      ap₂ (λ (n m : ℕ). n - m) count same ∙ sym (septets-held cs o places starts s k some most),
      omega (arith, same, count, septets-over cs o places starts s k some most),
    )

-- what one part holds at most
pub held-most : (ucs2 : Bool) (cs o places starts : List ℕ) (s : Sorted ucs2 cs o places starts) (k : ℕ) → 1 ≤ k → k ≤ length cs → length (content_at ucs2 cs o (place_of ucs2 cs o k)) ≤ 160
held-most true cs o places starts s k some most =
    omega (arith, units-held cs o places starts s k some most, count_most true cs o s.fits (place_of true cs o k) (place-there true cs o places starts s k some most))
held-most false cs o places starts s k some most = omega (arith, septets-held cs o places starts s k some most, septets-most cs o places starts s k some most)

-- ---- what the parts up to a number hold

module _ (ucs2 : Bool) (cs o : List ℕ) where
  joined-split : (k n m : ℕ) → joined_from ucs2 cs o k (n + m) ≡ joined_from ucs2 cs o k n ++ joined_from ucs2 cs o (k + n) m
  unfolding joined_from
  joined-split k zero m = ap₂ (joined_from ucs2 cs o) (sym (add-zero k)) (zero-add m)
  joined-split k (suc n) m =
      let next : suc k + n ≡ k + suc n = omega arith in
      let first : List ℕ = content_at ucs2 cs o (place_of ucs2 cs o k) in
      ap (joined_from ucs2 cs o k) (suc-add n m)
      ∙ ap (λ (l : List ℕ). first ++ l) (joined-split (suc k) n m)
      ∙ sym (append_assoc first (joined_from ucs2 cs o (suc k) n) (joined_from ucs2 cs o (suc k + n) m))
      ∙ ap (λ (i : ℕ). joined_from ucs2 cs o k (suc n) ++ joined_from ucs2 cs o i m) next

  pub joined-more : (k : ℕ) → joined_from ucs2 cs o 1 (k + 1) ≡ joined_from ucs2 cs o 1 k ++ content_at ucs2 cs o (place_of ucs2 cs o (k + 1))
  unfolding joined_from
  joined-more k =
      joined-split 1 k 1
      ∙ ap (λ (l : List ℕ). joined_from ucs2 cs o 1 k ++ l) (append-nil (content_at ucs2 cs o (place_of ucs2 cs o (1 + k))) ∙ ap (λ (i : ℕ). content_at ucs2 cs o (place_of ucs2 cs o i)) (add_comm 1 k))

  pub joined-none : joined_from ucs2 cs o 1 0 ≡ []
  unfolding joined_from
  joined-none = refl

  -- what is left of all parts behind those up to a number
  joined-rest : (k n : ℕ) → k ≤ n → joined_from ucs2 cs o 1 n ≡ joined_from ucs2 cs o 1 k ++ joined_from ucs2 cs o (1 + k) (n - k)
  joined-rest k n h = let whole : n ≡ k + (n - k) = omega arith in ap (joined_from ucs2 cs o 1) whole ∙ joined-split 1 k (n - k)

  pub joined-most : (k n : ℕ) → k ≤ n → length (joined_from ucs2 cs o 1 k) ≤ length (joined_from ucs2 cs o 1 n)
  joined-most k n h = omega (arith, ap length (joined-rest k n h) ∙ length-append (joined_from ucs2 cs o 1 k) (joined_from ucs2 cs o (1 + k) (n - k)))

-- ---- the run of a part

-- an array with all septets of a part, and an escape in front of those behind the header: those, or the escape too
run-plain : (count over : ℕ) (p left : List ℕ) → septets_fit ShortMessage (length p) count ≡ true → 1 ≤ over → over ≤ count → (array : List ℕ) → length array ≡ 184 → left ≡ all_leaves ShortMessage p count array
    → (half : Bool) → take (count - (over - cond half 1 0)) (drop (over - cond half 1 0) (set left (over - 1) escape)) ≡ run_behind half (unpacked_behind over (count - over) p)
unfolding run_behind
run-plain count over p left fit some within array room e half =
    go half
  where
    long : length left ≡ 184
    long = array-length ShortMessage p count array room left fit e

    most : count ≤ length left
    most = let few : count ≤ 160 = leb-true count 160 (and_left (leb count 160) _ fit) in omega (arith, long)

    front : take count left ≡ unpacked count p
    front = ap (λ (n : ℕ). take n left) (sym (unpacked-length count p)) ∙ array-all ShortMessage p count array room left fit e

    text : take (count - over) (drop over left) ≡ unpacked_behind over (count - over) p
    text =
        let all : over + (count - over) ≡ count = omega arith in
        sym (drop-front over count left within (omega (arith, most)))
        ∙ ap (drop over) front
        ∙ sym (unpacked-behind over (count - over) p ∙ ap (λ (n : ℕ). drop over (unpacked n p)) all)

    behind : drop over (set left (over - 1) escape) ≡ drop over left
    behind = drop-set-lt over left (over - 1) escape (omega arith)

    go : (h : Bool) → take (count - (over - cond h 1 0)) (drop (over - cond h 1 0) (set left (over - 1) escape)) ≡ cond h (escape ∷ unpacked_behind over (count - over) p) (unpacked_behind over (count - over) p)
    go false =
        let none : over - 0 ≡ over = omega arith in
        ap (λ (n : ℕ). take (count - n) (drop n (set left (over - 1) escape))) none ∙ ap (take (count - over)) behind ∙ text
    go true =
        let one : count - (over - 1) ≡ suc (count - over) = omega arith in
        let next : suc (over - 1) ≡ over = omega arith in
        let there : over - 1 < length left = omega (arith, most) in
        ap₂ (λ (n : ℕ) (l : List ℕ). take n l) one
        (drop-cons (set left (over - 1) escape) (over - 1) 0 (omega (arith, length-set left (over - 1) escape))
        ∙ ap₂ (λ (x : ℕ) (l : List ℕ). x ∷ l) (get_or-set_same left (over - 1) escape 0 there) (ap (λ (n : ℕ). drop n (set left (over - 1) escape)) next ∙ behind))
        ∙ ap (λ (l : List ℕ). escape ∷ l) text

module _ (cs o places starts : List ℕ) (s : Sorted false cs o places starts) (k : ℕ) (some : 1 ≤ k) (most : k ≤ length cs) where
  abbrev run_part : List ℕ
  run_part = part_in false cs o (place_of false cs o k)

  module _ (count over : ℕ) (p left : List ℕ) (c : count ≡ get_or cs (place_of false cs o k) 0) (v : over ≡ septets_over (header_size run_part)) (e : p ≡ run_part)
      (array : List ℕ) (room : length array ≡ 184) (l : left ≡ all_leaves ShortMessage p count array) where
    run-fit : septets_fit ShortMessage (length p) count ≡ true
    run-fit = ap₂ (λ (x : List ℕ) (n : ℕ). septets_fit ShortMessage (length x) n) e c ∙ septets-fit cs o places starts s k some most

    pub run-array : length left ≡ 184
    run-array = array-length ShortMessage p count array room left run-fit l

    pub run-laid : (half : Bool) → take (count - (over - cond half 1 0)) (drop (over - cond half 1 0) (set left (over - 1) escape)) ≡ run_behind half (content_at false cs o (place_of false cs o k))
    unfolding content_behind
    run-laid half =
        run-plain count over p left run-fit (omega (arith, v, over-some cs o places starts s k some most)) (omega (arith, v, c, septets-over cs o places starts s k some most)) array room l half
        ∙ ap (run_behind half) (ap₂ (λ (n m : ℕ). unpacked_behind n (m - n) p) v c ∙ ap (unpacked_behind (septets_over (header_size run_part)) (get_or cs (place_of false cs o k) 0 - septets_over (header_size run_part))) e)

  -- septets are septets, and so is the escape
  pub run-below : (half : Bool) → Below 128 (run_behind half (content_at false cs o (place_of false cs o k)))
  unfolding run_behind content_behind unpacked_behind stream_bit bit_of
  run-below half = go half
    where
      content : Below 128 (content_at false cs o (place_of false cs o k))
      content =
          cut_below (stream_bit 8 run_part) (λ m. mod-lt (get_or run_part (m / 8) 0 / 2 ^ (m % 8)) (lit< tt)) (7 * septets_over (header_size run_part))
          (get_or cs (place_of false cs o k) 0 - septets_over (header_size run_part))

      go : (h : Bool) → Below 128 (cond h (escape ∷ content_at false cs o (place_of false cs o k)) (content_at false cs o (place_of false cs o k)))
      go true zero = omega arith
      go true (suc i) = content i
      go false i = content i

-- what is read of a run ends before an escape that is left for the next
pub run_ends : (count begin end : ℕ) (x run : List ℕ) (last left : Bool) → begin ≤ count → count ≤ length x → run ≡ take (count - begin) (drop begin x) → left ≡ run_open last run → end ≡ count - cond left 1 0
    → (begin ≤ end) × (take (end - begin) (drop begin x) ≡ run_read last run)
unfolding run_open run_read settled
run_ends count begin end x run last left within there e t d =
    let size : length run ≡ count - begin = ap length e ∙ length-take-le (count - begin) (drop begin x) (omega (arith, length-drop begin x)) in
    go last (ends_open false run) refl (t ∙ refl) size
  where
    whole : (left ≡ false) → (begin ≤ end) × (take (end - begin) (drop begin x) ≡ run)
    whole none =
        let same : end ≡ count = omega (arith, d ∙ ap (λ (b : Bool). count - cond b 1 0) none) in
        (omega arith, ap (λ (n : ℕ). take (n - begin) (drop begin x)) same ∙ sym e)

    go : (b h : Bool) → ends_open false run ≡ h → left ≡ cond b false (ends_open false run) → length run ≡ count - begin
        → (begin ≤ end) × (take (end - begin) (drop begin x) ≡ cond b run (cond (ends_open false run) (take (length run - 1) run) run))
    go true h g f size = whole f
    go false false g f size =
        let w = whole (f ∙ g) in
        (w.0, w.1 ∙ sym (ap (λ (b : Bool). cond b (take (length run - 1) run) run) g))
    go false true g f size =
        let one : end ≡ count - 1 = d ∙ ap (λ (b : Bool). count - cond b 1 0) (f ∙ g) in
        let least : 1 ≤ length run = open-some run g in
        let fewer : end - begin ≡ length run - 1 = omega arith in (
          omega arith,
          ap (λ (n : ℕ). take n (drop begin x)) fewer
              ∙ sym (take-take (length run - 1) (count - begin) (drop begin x) (omega arith))
              ∙ ap (take (length run - 1)) (sym e)
              ∙ sym (ap (λ (b : Bool). cond b (take (length run - 1) run) run) g),
        )

-- ---- the text that is read up to a number

module _ (cs o : List ℕ) where
  pub read_none : (read_up_to cs o 0 ≡ []) × (open_up_to cs o 0 ≡ false)
  unfolding read_up_to open_up_to run_read run_open settled ends_open joined_from
  read_none = go (leb (length cs) 0)
    where
      go : (b : Bool) → (◌≡◌ {A = List ℕ} (cond b [] []) []) × (◌≡◌ {A = Bool} (cond b false false) false)
      go true = (refl, refl)
      go false = (refl, refl)

  -- what the run of the next part is
  abbrev pub next_run : ℕ → List ℕ
  next_run k = run_behind (open_up_to cs o k) (content_at false cs o (place_of false cs o (k + 1)))

  module _ (k : ℕ) (h : k < length cs) where
    read_some : read_up_to cs o k ≡ settled (joined_from false cs o 1 k)
    unfolding read_up_to run_read
    read_some = ap (λ (b : Bool). cond b (joined_from false cs o 1 k) (settled (joined_from false cs o 1 k))) (lt-leb (length cs) k h)

    open-some-at : open_up_to cs o k ≡ ends_open false (joined_from false cs o 1 k)
    unfolding open_up_to run_open
    open-some-at = ap (λ (b : Bool). cond b false (ends_open false (joined_from false cs o 1 k))) (lt-leb (length cs) k h)

    next-is : run_behind (ends_open false (joined_from false cs o 1 k)) (content_at false cs o (place_of false cs o (k + 1))) ≡ next_run k
    next-is = ap (λ (b : Bool). run_behind b (content_at false cs o (place_of false cs o (k + 1)))) (sym open-some-at)

    read_more : read_up_to cs o (k + 1) ≡ settled (joined_from false cs o 1 k) ++ run_read (leb (length cs) (k + 1)) (next_run k)
    unfolding read_up_to
    read_more =
        ap (run_read (leb (length cs) (k + 1))) (joined-more false cs o k)
        ∙ read_next (joined_from false cs o 1 k) (content_at false cs o (place_of false cs o (k + 1))) (leb (length cs) (k + 1))
        ∙ ap (λ (l : List ℕ). settled (joined_from false cs o 1 k) ++ run_read (leb (length cs) (k + 1)) l) next-is

    pub text-more : text_of (read_up_to cs o (k + 1)) ≡ text_of (read_up_to cs o k) ++ text_of (run_read (leb (length cs) (k + 1)) (next_run k))
    text-more =
        ap text_of read_more
        ∙ text-append (settled (joined_from false cs o 1 k)) (run_read (leb (length cs) (k + 1)) (next_run k)) (settled-closed (joined_from false cs o 1 k))
        ∙ ap (λ (l : List ℕ). text_of l ++ text_of (run_read (leb (length cs) (k + 1)) (next_run k))) (sym read_some)

    pub open_more : open_up_to cs o (k + 1) ≡ run_open (leb (length cs) (k + 1)) (next_run k)
    unfolding open_up_to
    open_more =
        ap (run_open (leb (length cs) (k + 1))) (joined-more false cs o k)
        ∙ open_next (joined_from false cs o 1 k) (content_at false cs o (place_of false cs o (k + 1))) (leb (length cs) (k + 1))
        ∙ ap (run_open (leb (length cs) (k + 1))) next-is

    -- the text of all parts begins with it
    text-within : length (text_of (read_up_to cs o k)) ≤ length (text_of (joined_from false cs o 1 (length cs)))
    text-within =
        let a : List ℕ = joined_from false cs o 1 k in
        let b : List ℕ = joined_from false cs o (1 + k) (length cs - k) in
        let r : List ℕ = run_behind (ends_open false a) b in
        let whole : text_of (joined_from false cs o 1 (length cs)) ≡ text_of (settled a) ++ text_of r =
        ap text_of (joined-rest false cs o k (length cs) (omega arith) ∙ whole-next a b) ∙ text-append (settled a) r (settled-closed a) in
        omega (arith, ap length whole ∙ length-append (text_of (settled a)) (text_of r), ap (λ (l : List ℕ). length (text_of l)) read_some)

  pub read_all : (k : ℕ) → k ≡ length cs → read_up_to cs o k ≡ joined_from false cs o 1 (length cs)
  unfolding read_up_to run_read
  read_all k e =
      ap (λ (b : Bool). cond b (joined_from false cs o 1 k) (settled (joined_from false cs o 1 k))) (le-leb (length cs) k (omega arith)) ∙ ap (joined_from false cs o 1) e

  pub read-room : (k : ℕ) → k ≤ length cs → length (text_of (read_up_to cs o k)) ≤ length (text_of (joined_from false cs o 1 (length cs)))
  read-room k h = go (ltb k (length cs)) refl
    where
      go : (b : Bool) → ltb k (length cs) ≡ b → length (text_of (read_up_to cs o k)) ≤ length (text_of (joined_from false cs o 1 (length cs)))
      go true e = text-within k (ltb-true k (length cs) e)
      go false e = omega (arith, ap (λ (l : List ℕ). length (text_of l)) (read_all k (omega (arith, ltb-false k (length cs) e))))

-- ---- one part more in the lent buffer

-- what is stored behind xs in the rest of the buffer, where both have room
module _ (xs ys start out : List ℕ) (at : ℕ) (size : at ≡ length xs) (room : length (xs ++ ys) ≤ length start) (same : length out ≡ length start) where
  abbrev lent : List ℕ
  lent = take (length out - at) (drop at out)

  lent-room : length ys ≤ length lent
  lent-room = omega (arith, length-append xs ys, length-take-le (length out - at) (drop at out) (omega (arith, length-drop at out)), length-drop at out)

  step-laid : out ≡ laid xs start → (sub : List ℕ) → sub ≡ laid ys lent → (n : ℕ) → n ≡ length ys
      → (at + n ≡ length (xs ++ ys)) × (take at out ++ (sub ++ drop (length out - at) (drop at out)) ≡ laid (xs ++ ys) start) × (at + n ≤ length start)
  step-laid l sub e n d =
      let whole : at + n ≡ length (xs ++ ys) = omega (arith, length-append xs ys) in
      (whole, tail-laid xs ys start out sub at (sym size) l e, omega arith)

module _ (cs o places starts : List ℕ) (s : Sorted true cs o places starts) (start out : List ℕ) (room : length (joined_text true cs o) ≤ length start) (same : length out ≡ length start)
    (k : ℕ) (h : k < length cs) (at : ℕ) (size : at ≡ length (joined_from true cs o 1 k)) where
  abbrev units_next : List ℕ
  units_next = content_at true cs o (place_of true cs o (k + 1))

  units-room : length (joined_from true cs o 1 k ++ units_next) ≤ length start
  units-room =
      omega (arith, ap length (joined-more true cs o k), joined-most true cs o (k + 1) (length cs) (omega arith), ap length (joined-all true cs o places starts s))

  pub units-within : at ≤ length out
  units-within = omega (arith, units-room, length-append (joined_from true cs o 1 k) units_next)

  pub units-more : out ≡ laid (joined_from true cs o 1 k) start → (slice : List ℕ) → octet_units slice ≡ units_next
      → let rest : List ℕ = take (length out - at) (drop at out) in
      (sub : List ℕ) → sub ≡ laid (take (length rest) (octet_units slice)) rest → (n : ℕ) → n ≡ length (take (length rest) (octet_units slice))
      → (at + n ≡ length (joined_from true cs o 1 (k + 1))) × (take at out ++ (sub ++ drop (length out - at) (drop at out)) ≡ laid (joined_from true cs o 1 (k + 1)) start) × (at + n ≤ length start)
  units-more l slice u sub e n d =
      let rest : List ℕ = take (length out - at) (drop at out) in
      let fits : length units_next ≤ length rest = lent-room (joined_from true cs o 1 k) units_next start out at size units-room same in
      let all : take (length rest) (octet_units slice) ≡ units_next = ap (take (length rest)) u ∙ take_all (length rest) units_next fits in
      let t = step-laid (joined_from true cs o 1 k) units_next start out at size units-room same l sub (e ∙ ap (λ (x : List ℕ). laid x rest) all) n (d ∙ ap length all) in
      let whole = sym (joined-more true cs o k) in
      (t.0 ∙ ap length whole, t.1 ∙ ap (λ (x : List ℕ). laid x start) whole, t.2)

module _ (cs o places starts : List ℕ) (s : Sorted false cs o places starts) (start out : List ℕ) (room : length (joined_text false cs o) ≤ length start) (same : length out ≡ length start)
    (k : ℕ) (h : k < length cs) (at : ℕ) (size : at ≡ length (text_of (read_up_to cs o k))) (run : List ℕ) (is : run ≡ run_read (leb (length cs) (k + 1)) (next_run cs o k)) where
  text-next : text_of (read_up_to cs o (k + 1)) ≡ text_of (read_up_to cs o k) ++ text_of run
  text-next = text-more cs o k h ∙ ap (λ (l : List ℕ). text_of (read_up_to cs o k) ++ text_of l) (sym is)

  text-room : length (text_of (read_up_to cs o k) ++ text_of run) ≤ length start
  text-room = omega (arith, ap length text-next, read-room cs o (k + 1) (omega arith), ap (λ (l : List ℕ). length (text_of l)) (joined-all false cs o places starts s))

  pub run_room : length (text_of run) ≤ length (take (length out - at) (drop at out))
  run_room = lent-room (text_of (read_up_to cs o k)) (text_of run) start out at size text-room same

  pub run_more : out ≡ laid (text_of (read_up_to cs o k)) start → (sub : List ℕ) → sub ≡ laid (text_of run) (take (length out - at) (drop at out)) → (n : ℕ) → n ≡ length (text_of run)
      → (at + n ≡ length (text_of (read_up_to cs o (k + 1)))) × (take at out ++ (sub ++ drop (length out - at) (drop at out)) ≡ laid (text_of (read_up_to cs o (k + 1))) start) × (at + n ≤ length start)
  run_more l sub e n d =
      let t = step-laid (text_of (read_up_to cs o k)) (text_of run) start out at size text-room same l sub e n d in
      (t.0 ∙ ap length (sym text-next), t.1 ∙ ap (λ (x : List ℕ). laid x start) (sym text-next), t.2)

-- the place before a run is within the buffer
pub text-before : (cs o places starts : List ℕ) (s : Sorted false cs o places starts) (room : ℕ) → length (joined_text false cs o) ≤ room → (k : ℕ) → k ≤ length cs
    → length (text_of (read_up_to cs o k)) ≤ room
text-before cs o places starts s room fits k h = omega (arith, read-room cs o k h, ap (λ (l : List ℕ). length (text_of l)) (joined-all false cs o places starts s))

-- ---- a run read

module _ (s out : List ℕ) (narrow : Below 128 s) (room : length (text_of s) ≤ length out) where
  run-passed : (text_answers s (text_of s) (length out) ≡ Ok (length (text_of s))) × (text_leaves s (text_of s) out ≡ laid (text_of s) out)
  unfolding text_answers text_leaves shown_rules verdict
  run-passed =
      let low : length s ≤ first_wide s = omega (arith, place_none (leb 128) s (λ k l. lt-leb 128 (get_or s k 0) (narrow k))) in
      simp (le-ltb (first_wide s) (length s) low, le-ltb (length out) (length (text_of s)) room) (refl, refl)

  pub run-read : (n : ℕ) (left : List ℕ) → Ok n ≡ text_answers s (text_of s) (length out) → left ≡ text_leaves s (text_of s) out → (n ≡ length (text_of s)) × (left ≡ laid (text_of s) out)
  run-read n left e l = let same : Ok n ≡ Ok (length (text_of s)) = e ∙ run-passed.0 in (cc, l ∙ run-passed.1)

  pub run-unrefused : (q : Refusal) → Err q ≡ text_answers s (text_of s) (length out) → ⊥
  run-unrefused q e =
      let other : Err q ≡ Ok (length (text_of s)) = e ∙ run-passed.0 in
      let z : ◌≡◌ {A = ℕ} 0 1 = cc in
      omega arith

-- a run that is ready is no longer than 160 septets, nor is its text
pub ready-text : (septets : List ℕ) (begin end : ℕ) → Ready septets begin end → length (text_of (run_in septets begin end)) ≤ 160
unfolding read_as
ready-text septets begin end r =
    omega (arith, read-most false (run_in septets begin end), length-take-le (end - begin) (drop begin septets) (omega (arith, length-drop begin septets, r.long, r.most)), r.most)

-- the run up to a place of the array, without the escape that is left for the next
pub run-ready : (count begin end : ℕ) (x run : List ℕ) (last left : Bool) → begin ≤ count → count ≤ 160 → length x ≡ 184 → take (count - begin) (drop begin x) ≡ run → Below 128 run
    → left ≡ run_open last (take (count - begin) (drop begin x)) → end ≡ count - cond left 1 0
    → Ready x begin end × (run_in x begin end ≡ run_read last run) × (left ≡ run_open last run)
run-ready count begin end x run last left within few size e narrow t d =
    let all : List ℕ = take (count - begin) (drop begin x) in
    let ends = run_ends count begin end x all last left within (omega arith) refl t d in
    let front : run_in x begin end ≡ take (end - begin) run = sym (take-take (end - begin) (count - begin) (drop begin x) (omega (arith, d))) ∙ ap (take (end - begin)) e in (
      record { long = size; forward = ends.0; most = omega (arith, d); narrow = subst (Below 128) (sym front) (below-take 128 run narrow (end - begin)) },
      ends.1 ∙ ap (run_read last) e,
      t ∙ ap (run_open last) e,
    )

-- ---- the room

-- units are never more than the septets that they are read from
pub text-most : (ucs2 : Bool) (cs o : List ℕ) → length (joined_text ucs2 cs o) ≤ length (joined_content ucs2 cs o)
unfolding read_as
text-most true cs o = omega arith
text-most false cs o = read-most false (joined_content false cs o)

module _ (xs out : List ℕ) where
  pub given-short : leb (length xs) (length out) ≡ false → (Err NoRoom ≡ given_answers xs (length out)) × (out ≡ given_leaves xs out)
  unfolding given_answers given_leaves verdict
  given-short e = simp (lt-ltb (length out) (length xs) (leb-false (length xs) (length out) e)) (refl, refl)

  pub given-fits : leb (length xs) (length out) ≡ true → (n : ℕ) (left : List ℕ) → n ≡ length xs → left ≡ laid xs out → (Ok n ≡ given_answers xs (length out)) × (left ≡ given_leaves xs out)
  unfolding given_answers given_leaves verdict
  given-fits e n left d l = simp (le-ltb (length out) (length xs) (leb-true (length xs) (length out) e)) (ap Ok d, l)
