-- All parts of a text, end to end: write_parts accepts exactly where no rule of its list refuses, and what it then has sent is, part by part, what write_part
-- writes, since the sizes say where each part begins. Parts are filled as W1's pages are, so that every part but the last has 140 octets.
-- Assumes nothing.
--   all-accepts, all-accepted   write_parts accepts exactly where the parts are PartsStorable
--   verdict_of, all-verdict, given_all   the verdict that an answer tells, which is that of the rules; what an accepting call answers
--   all-storable, all-writable, all-octets, all-sizes, all-mark, all-coding, all-total   what a call that accepted its text says of it, and has sent
--   all-at               part i of what was sent, and its sizes
--   all-is-written       it is what write_part writes and reports
--   fits-most            octets that a count fits: how many they are, and the most of both
--   part-most, part-whole, all-length   a part has 140 octets at most, and just that where another follows; all together
--   any-reference, all_room   which room is enough does not depend on the reference, and 140 octets and two sizes a part are
--   sent-length, sent-sizes-length   how much was sent: 140 octets for every part but the last, two sizes a part
--   parts-alone-iff, parts-least, parts-filled, content-is, parts-joined   how many parts, and what each holds
use Rattle.words.proofs.Rules.{verdict_of}
use mathlib.Core.Path.{◌≡◌, refl, ap, ap₂, ◌∙◌, sym, subst}
use mathlib.Core.Bool.{Bool, true, false, ◌||◌}
use mathlib.Core.List.{List, [], ◌∷◌}
use mathlib.Core.Logic.{◌↔◌}
use Prim.Native.Nat.{ℕ, suc, ◌+◌, ◌-◌, ◌*◌, ◌≤◌, ◌<◌}
use native.Mathlib.Omega.{arith}
use lib.Dec.{ltb, leb, eqb}
use lib.ListN.{length, take}
use borrow.Author.Tests.{le-ltb, ltb-false, leb-true, eqb-true}
use Rattle.lists.specs.Lists.{laid}
use Rattle.lists.proofs.Tests.{and_left, and_right, or_left, or_right}
use Rattle.words.specs.declared.Service.TheVariants.{ShortMessage}
use Rattle.words.specs.declared.Refusal.TheVariants.{NoRoom}
use Rattle.words.specs.Judging.{when, accepted, verdict}
use Rattle.words.proofs.Judging.{accepted-rule, accepted-parts, accepted-both, settle-told, settle-given}
use Rattle.words.proofs.Numbers.{number-above-0}
use Rattle.coding.specs.declared.Reading.{Reading}
use Rattle.coding.specs.OctetWritten.{smallest}
use Rattle.coding.specs.Holding.{is_ucs2}
use Rattle.stream.specs.Stream.{octets_for}
use Rattle.demands.proofs.Demands.{take-laid}
use Rattle.filling.specs.Filling.{fewest, part_at, parts_from}
use Rattle.filling.proofs.Parts.{fewest-least, parts_all}
use Rattle.parted.specs.declared.PartsWritten.{PartsWritten}
use Rattle.parted.specs.Parts.{most_parts, room_behind, is_marked, mark_size, part_content}
use Rattle.parted.specs.Written.{reading_parts, reading_content, octets_as, count_as, all_octets, octets_of_all, sizes_of_all, size_rules, count_rules, part_answers, part_leaves, all_rules, all_answers, all_leaves, sizes_leaves}
use Rattle.parted.specs.Cutting.{plan_of, planned_as}
use Rattle.parted.specs.Read.{count_fits}
use Rattle.parted.specs.Joined.{octets_asked, most_count}
use Rattle.parted.specs.Reports.{parts_number, parts_written, parts_marked, parts_coding, parts_parts}
use Rattle.parted.specs.Messages.{content_as, PartsWritable, PartsStorable, SendsParts, sent_all, sent_sizes, sent_all_mark, sent_all_coding, sent_total, count_in, size_in, piece_in}
use Rattle.parted.proofs.Rooms.{parts-marked, parts-1-iff, parts-2, parts-some, parts-hold, marked-part-room}
use Rattle.parted.proofs.Parts.{part-fits}
use Rattle.parted.proofs.Accepting.{rules-accept, rules-accepted, write-accepts}
use Rattle.parted.proofs.Plans.{Cut, cut-told, length-full, part-long, octets-is, octets-full}
use Rattle.parted.proofs.Ends.{sizes-length, sizes-at, piece-at, octets-length}
use Rattle.std.specs.Prelude.{Result, Ok, Err}
use Rattle.words.specs.declared.Refusal.{Refusal}
use Rattle.parted.specs.Successes.{ok_parts_written}
use Rattle.parted.specs.Successes.{ok_part_written}

-- ---- the verdict that an answer tells

module _ (r : Reading) (reference : ℕ) (t : List ℕ) where
  abbrev octets : List ℕ
  octets = octets_of_all r reference t

  abbrev sizes : List ℕ
  sizes = sizes_of_all r reference t

  abbrev pub given_all : Result PartsWritten Refusal
  given_all = ok_parts_written (length (octets_of_all r reference t)) (is_marked (reading_parts r t)) (smallest ShortMessage r) (reading_parts r t)

  pub all-verdict : (room list : ℕ) (a : Result PartsWritten Refusal) → a ≡ all_answers r reference t room list → verdict (all_rules r reference t room list) ≡ verdict_of a
  unfolding all_answers
  all-verdict room list a e = settle-told verdict_of Err given_all (λ q. refl) refl (verdict (all_rules r reference t room list)) a e

  listed-length : length (sizes_of_all r reference t) ≡ 2 * reading_parts r t
  listed-length = sizes-length (is_ucs2 r.alphabet) reference (reading_parts r t) (reading_content r t) 1 (reading_parts r t)

  rules-accept-all : (room list : ℕ) → PartsStorable r reference t room list → verdict (all_rules r reference t room list) ≡ accepted
  unfolding all_rules verdict
  rules-accept-all room list w =
      accepted-both (count_rules r t) (when (ltb room (length octets) || ltb list (length sizes)) NoRoom ∷ []) (rules-accept r t w.writable)
      (simp (le-ltb room (length octets) w.fits, le-ltb list (length sizes) (omega (arith, listed-length, w.listed))))

  pub all-accepts : (out list : List ℕ) → PartsStorable r reference t (length out) (length list)
      → (all_answers r reference t (length out) (length list)
      ≡ ok_parts_written (length (octets_of_all r reference t)) (is_marked (reading_parts r t)) (smallest ShortMessage r) (reading_parts r t))
      × (all_leaves r reference t (length list) out ≡ laid (octets_of_all r reference t) out)
      × (sizes_leaves r reference t (length out) list ≡ laid (sizes_of_all r reference t) list)
  unfolding all_answers all_leaves sizes_leaves
  all-accepts out list w =
      let v = rules-accept-all (length out) (length list) w in
      (settle-given _ Err _ v, settle-given _ (λ q. out) _ v, settle-given _ (λ q. list) _ v)

  pub all-accepted : (room list n : ℕ) (marked : Bool) (coding parts : ℕ) → all_answers r reference t room list ≡ ok_parts_written n marked coding parts → PartsStorable r reference t room list
  unfolding all_rules
  all-accepted room list n marked coding parts e =
      let v = accepted-parts (count_rules r t) (when (ltb room (length octets) || ltb list (length sizes)) NoRoom ∷ []) (all-verdict room list (ok_parts_written n marked coding parts) (sym e)) in
      let seven = accepted-rule (ltb room (length octets) || ltb list (length sizes)) NoRoom [] v.1 in
      record {
        writable = rules-accepted r t v.0;
        fits = ltb-false room (length octets) (or_left (ltb room (length octets)) (ltb list (length sizes)) seven.0);
        listed = omega (arith, listed-length, ltb-false list (length sizes) (or_right (ltb room (length octets)) (ltb list (length sizes)) seven.0));
      }

-- ---- what a call that accepted its text has sent

module _ (r : Reading) (reference : ℕ) (t out list : List ℕ) (a : SendsParts r reference t out list) where
  pub all-storable : PartsStorable r reference t (length out) (length list)
  all-storable = go (all_answers r reference t (length out) (length list)) refl a
    where
      go : (x : Result PartsWritten Refusal) → all_answers r reference t (length out) (length list) ≡ x → parts_number x ≡ 0 → PartsStorable r reference t (length out) (length list)
      go (Ok w) e z = all-accepted r reference t (length out) (length list) w.octets w.marked w.coding w.parts e
      go (Err q) e z = absurd (omega (arith, number-above-0 q))

  pub all-writable : PartsWritable r t
  all-writable = all-storable.writable

  answer : all_answers r reference t (length out) (length list)
      ≡ ok_parts_written (length (octets_of_all r reference t)) (is_marked (reading_parts r t)) (smallest ShortMessage r) (reading_parts r t)
  answer = (all-accepts r reference t out list all-storable).0

  pub all-octets : sent_all r reference t out list ≡ octets_of_all r reference t
  all-octets = ap₂ take (ap parts_written answer) (all-accepts r reference t out list all-storable).1 ∙ take-laid (octets_of_all r reference t) out

  pub all-sizes : sent_sizes r reference t out list ≡ sizes_of_all r reference t
  all-sizes =
      let many : 2 * parts_parts (all_answers r reference t (length out) (length list)) ≡ length (sizes_of_all r reference t) =
      ap (λ (x : Result PartsWritten Refusal). 2 * parts_parts x) answer ∙ sym (listed-length r reference t) in
      ap₂ take many (all-accepts r reference t out list all-storable).2 ∙ take-laid (sizes_of_all r reference t) list

  pub all-mark : sent_all_mark r reference t out list ≡ is_marked (reading_parts r t)
  all-mark = ap parts_marked answer

  pub all-coding : sent_all_coding r reference t out list ≡ smallest ShortMessage r
  all-coding = ap parts_coding answer

  pub all-total : sent_total r reference t out list ≡ reading_parts r t
  all-total = ap parts_parts answer

  -- part i of what was sent
  pub all-at : (i : ℕ) → i < reading_parts r t
      → (count_in (sent_sizes r reference t out list) i ≡ count_as r reference t (1 + i))
      × (size_in (sent_sizes r reference t out list) i ≡ length (octets_as r reference t (1 + i)))
      × (piece_in (sent_sizes r reference t out list) (sent_all r reference t out list) i ≡ octets_as r reference t (1 + i))
  all-at i h =
      let ucs2 : Bool = is_ucs2 r.alphabet in
      let n : ℕ = reading_parts r t in
      let s = sizes-at ucs2 reference n (reading_content r t) 1 n i h in (
        ap (λ (z : List ℕ). count_in z i) all-sizes ∙ s.0,
        ap (λ (z : List ℕ). size_in z i) all-sizes ∙ s.1,
        ap₂ (λ (z m : List ℕ). piece_in z m i) all-sizes all-octets ∙ piece-at ucs2 reference n (reading_content r t) 1 n i h,
      )

  -- and write_part writes just that
  pub all-is-written : (k : ℕ) → 1 ≤ k → k ≤ sent_total r reference t out list → (lent : List ℕ) → size_in (sent_sizes r reference t out list) (k - 1) ≤ length lent
      → (part_answers r reference t k (length lent)
      ≡ ok_part_written (size_in (sent_sizes r reference t out list) (k - 1)) (count_in (sent_sizes r reference t out list) (k - 1)) (sent_all_mark r reference t out list)
      (sent_all_coding r reference t out list) (sent_total r reference t out list))
      × (part_leaves r reference t k lent ≡ laid (piece_in (sent_sizes r reference t out list) (sent_all r reference t out list) (k - 1)) lent)
  all-is-written k some most lent room =
      let within : k ≤ reading_parts r t = omega (arith, all-total) in
      let s = all-at (k - 1) (omega arith) in
      let which : 1 + (k - 1) ≡ k = omega arith in
      let count : count_in (sent_sizes r reference t out list) (k - 1) ≡ count_as r reference t k = s.0 ∙ ap (count_as r reference t) which in
      let size : size_in (sent_sizes r reference t out list) (k - 1) ≡ length (octets_as r reference t k) = s.1 ∙ ap (λ (j : ℕ). length (octets_as r reference t j)) which in
      let piece : piece_in (sent_sizes r reference t out list) (sent_all r reference t out list) (k - 1) ≡ octets_as r reference t k = s.2 ∙ ap (octets_as r reference t) which in
      let w = write-accepts r reference t k lent record { writable = all-writable; some = some; most = within; fits = omega arith } in (
        w.0
            ∙ ap₂ (λ (n c : ℕ). ok_part_written n c (is_marked (reading_parts r t)) (smallest ShortMessage r) (reading_parts r t)) (sym size) (sym count)
            ∙ ap₂ (λ (m : Bool) (d : ℕ). ok_part_written (size_in (sent_sizes r reference t out list) (k - 1)) (count_in (sent_sizes r reference t out list) (k - 1)) m d (reading_parts r t)) (sym all-mark) (sym all-coding)
            ∙ ap (ok_part_written (size_in (sent_sizes r reference t out list) (k - 1)) (count_in (sent_sizes r reference t out list) (k - 1)) (sent_all_mark r reference t out list) (sent_all_coding r reference t out list)) (sym all-total),
        w.1 ∙ ap (λ (l : List ℕ). laid l lent) (sym piece),
      )

-- ---- how many octets

pub fits-most : (ucs2 : Bool) (n c : ℕ) → count_fits ucs2 n c ≡ true → (n ≡ octets_asked ucs2 c) × (n ≤ 140) × (c ≤ most_count ucs2)
unfolding count_fits octets_for
fits-most true n c e =
    let same : c ≡ n = eqb-true c n (and_right (leb n 140) (eqb c n) e) in
    let most : n ≤ 140 = leb-true n 140 (and_left (leb n 140) (eqb c n) e) in
    (sym same, most, omega arith)
fits-most false n c e =
    let most : c ≤ 160 = leb-true c 160 (and_left (leb c 160) (eqb n (octets_for c)) e) in
    let same : n ≡ octets_for c = eqb-true n (octets_for c) (and_right (leb c 160) (eqb n (octets_for c)) e) in
    (same, omega arith, most)

module _ (r : Reading) (t : List ℕ) where
  abbrev ucs2 : Bool
  ucs2 = is_ucs2 r.alphabet

  abbrev total : ℕ
  total = reading_parts r t

  abbrev content : List ℕ
  content = reading_content r t

  pub part-most : (reference k : ℕ) → length (octets_as r reference t k) ≤ 140
  part-most reference k = (fits-most ucs2 _ _ (part-fits ucs2 reference total content k)).1

  -- "1 exactly when": a text that fits alone has no header
  pub parts-alone-iff : (reading_parts r t ≡ 1) ↔ (length (reading_content r t) ≤ room_behind (is_ucs2 r.alphabet) 0)
  parts-alone-iff = parts-1-iff ucs2 (length content)

  -- what part k holds
  pub content-is : (k : ℕ) → content_as r t k ≡ part_at (room_behind (is_ucs2 r.alphabet) (mark_size (reading_parts r t))) (reading_content r t) k
  unfolding part_content
  content-is k = refl

  module _ (w : PartsWritable r t) where
    cut : Cut (plan_of (is_ucs2 r.alphabet) t) t
    unfolding planned_as size_rules verdict
    cut =
        let v : verdict (size_rules ucs2 t) ≡ accepted = simp (w.codable, le-ltb most_parts total w.sized) in
        (cut-told ucs2 t (plan_of ucs2 t) (sym (settle-given (verdict (size_rules ucs2 t)) Err (Ok (plan_of ucs2 t)) v))).2

    -- "every page but the last is full"
    pub part-whole : (reference k : ℕ) → 1 ≤ k → k < reading_parts r t → length (octets_as r reference t k) ≡ 140
    part-whole reference k some h =
        let which : k - 1 + 1 ≡ k = omega arith in
        ap (λ (j : ℕ). length (octets_as r reference t j)) (sym which)
        ∙ sym (octets-is (plan_of ucs2 t) t cut reference (k - 1) (omega arith))
        ∙ octets-full (plan_of ucs2 t) t cut (k - 1) (omega arith)

    pub all-length : (reference : ℕ) → length (octets_of_all r reference t) ≡ 140 * (reading_parts r t - 1) + length (octets_as r reference t (reading_parts r t))
    all-length reference =
        let some : 1 ≤ total = parts-some ucs2 (length content) in
        let last : suc (total - 1) ≡ total = omega arith in
        let end : 1 + (total - 1) ≡ total = omega arith in
        subst (λ (n : ℕ). length (all_octets ucs2 reference total content 1 n) ≡ 140 * (total - 1) + length (octets_as r reference t (1 + (total - 1)))) last
        (octets-length ucs2 reference total content 140 1 (total - 1) (λ i h. part-whole reference (1 + i) (omega arith) (omega arith)))
        ∙ ap (λ (k : ℕ). 140 * (total - 1) + length (octets_as r reference t k)) end

    pub parts-filled : (k : ℕ) → 1 ≤ k → k < reading_parts r t → length (content_as r t k) ≡ room_behind (is_ucs2 r.alphabet) 6
    parts-filled k some h =
        let which : k - 1 + 1 ≡ k = omega arith in
        ap (λ (j : ℕ). length (content_as r t j)) (sym which)
        ∙ part-long (plan_of ucs2 t) t cut (k - 1) (omega arith)
        ∙ length-full (plan_of ucs2 t) t cut (k - 1) (omega arith)
        ∙ marked-part-room ucs2 0 total (omega arith)

    -- "as few as hold the text"
    pub parts-least : room_behind (is_ucs2 r.alphabet) 0 < length (reading_content r t)
        → (length (reading_content r t) ≤ room_behind (is_ucs2 r.alphabet) 6 * reading_parts r t)
        × (2 ≤ reading_parts r t)
        × (reading_parts r t ≤ 255)
        × ((k : ℕ) → 1 ≤ k → length (reading_content r t) ≤ room_behind (is_ucs2 r.alphabet) 6 * k → reading_parts r t ≤ k)
    parts-least more =
        let two : 2 ≤ total = parts-2 ucs2 (length content) more in
        let few : total ≡ fewest most_parts (room_behind ucs2 6) (length content) = parts-marked ucs2 (length content) more in (
          subst (λ (n : ℕ). length content ≤ n * total) (marked-part-room ucs2 0 total two) (parts-hold ucs2 (length content) w.sized),
          two,
          w.sized,
          λ k some holds. omega (arith, fewest-least most_parts (room_behind ucs2 6) (length content) k some holds),
        )

    pub parts-joined : parts_from (room_behind (is_ucs2 r.alphabet) (mark_size (reading_parts r t))) (reading_content r t) 1 (reading_parts r t) ≡ reading_content r t
    parts-joined = parts_all (room_behind ucs2 (mark_size total)) content total (parts-hold ucs2 (length content) w.sized)

    -- how long a part is does not depend on the reference
    length-same : (i j k : ℕ) → 1 ≤ k → k ≤ reading_parts r t → length (octets_as r i t k) ≡ length (octets_as r j t k)
    length-same i j k some most =
        let which : k - 1 + 1 ≡ k = omega arith in
        ap (λ (m : ℕ). length (octets_as r i t m)) (sym which)
        ∙ sym (octets-is (plan_of ucs2 t) t cut i (k - 1) (omega arith))
        ∙ octets-is (plan_of ucs2 t) t cut j (k - 1) (omega arith)
        ∙ ap (λ (m : ℕ). length (octets_as r j t m)) which

    pub any-reference : (i j room list : ℕ) → PartsStorable r i t room list → PartsStorable r j t room list
    any-reference i j room list p =
        let last : length (octets_as r i t total) ≡ length (octets_as r j t total) = length-same i j total (parts-some ucs2 (length content)) (omega arith) in
        record { writable = w; fits = omega (arith, all-length i, all-length j, p.fits); listed = p.listed }

    -- 140 octets for each part are enough
    pub all_room : (reference room list : ℕ) → 140 * reading_parts r t ≤ room → 2 * reading_parts r t ≤ list → PartsStorable r reference t room list
    all_room reference room list fits listed =
        record { writable = w; fits = omega (arith, all-length reference, part-most reference total, parts-some ucs2 (length content)); listed = listed }

module _ (r : Reading) (reference : ℕ) (t out list : List ℕ) (a : SendsParts r reference t out list) where
  pub sent-length : length (sent_all r reference t out list)
      ≡ 140 * (sent_total r reference t out list - 1) + size_in (sent_sizes r reference t out list) (sent_total r reference t out list - 1)
  sent-length =
      let n : ℕ = reading_parts r t in
      let some : 1 ≤ n = parts-some (is_ucs2 r.alphabet) (length (reading_content r t)) in
      let which : 1 + (n - 1) ≡ n = omega arith in
      let last : size_in (sent_sizes r reference t out list) (n - 1) ≡ length (octets_as r reference t n) =
      (all-at r reference t out list a (n - 1) (omega arith)).1 ∙ ap (λ (j : ℕ). length (octets_as r reference t j)) which in
      ap length (all-octets r reference t out list a)
      ∙ all-length r t (all-writable r reference t out list a) reference
      ∙ ap (λ (m : ℕ). 140 * (n - 1) + m) (sym last)
      ∙ ap (λ (m : ℕ). 140 * (m - 1) + size_in (sent_sizes r reference t out list) (m - 1)) (sym (all-total r reference t out list a))

  pub sent-sizes-length : length (sent_sizes r reference t out list) ≡ 2 * sent_total r reference t out list
  sent-sizes-length =
      ap length (all-sizes r reference t out list a) ∙ listed-length r reference t ∙ ap (λ (n : ℕ). 2 * n) (sym (all-total r reference t out list a))
