-- A plan says how much each part holds: before every part but the first the text is longer than the parts before it hold, so that part k begins at k times the room
-- and is full unless it is the last.
-- Assumes nothing.
--   Cut p t              the plan p is that of the text t, which it cuts into no more than 255 parts
--   cut-told, cut-refused   what planning answers
--   cut-some, cut_holds, cut-before   a plan has a part; its parts hold the text; the parts before one that it has do not
--   room-septets, room-units   the room and what the header takes are a whole short message
--   length_most, length-here, length-full, length-rest   how much a part holds
--   part-is, part-long   part k is what stands from k times the room on
--   count-is, octets-is, octets-full  its count and its octets
--   holding-sum, holding-room, sized-over, sized-done, plan-units, plan-counted, plan-stopped   how the code counts
use Rattle.words.proofs.Rules.{verdict_of}
use mathlib.Core.Path.{◌≡◌, refl, sym, ap, ap₂, ◌∙◌, subst}
use mathlib.Core.Bool.{Bool, true, false, cond}
use mathlib.Core.List.{List, [], ◌∷◌}
use mathlib.Core.Logic.{◌⊎◌, inl, inr, ⊎_elim}
use Prim.Native.Nat.{ℕ, zero, suc, ◌+◌, ◌-◌, ◌*◌, ◌/◌, ◌%◌, ◌≤◌, ◌<◌, min}
use native.Mathlib.Nat.{mul-zero, mul-suc, mul_comm, mul-le-mul_left}
use native.Mathlib.Decide.{dec_le}
use native.Mathlib.Omega.{arith}
use borrow.Author.Tests.{lt-ltb, le-ltb, ltb-false}
use lib.Dec.{ltb}
use lib.ListN.{length, take, drop, length-drop}
use lib.Seq.{take_all, length-take-le}
use Rattle.words.specs.declared.Refusal.{Refusal}
use Rattle.words.specs.declared.Refusal.TheVariants.{Unlisted, TooLong}
use Rattle.words.specs.Judging.{when, refused, accepted, verdict}
use Rattle.words.proofs.Judging.{accepted-rule, settle-told, settle-given}
use Rattle.letters.specs.Writing.{septets_of, first_unlisted, measured}
use Rattle.letters.specs.Sized.{content_of, not_codable}
use Rattle.letters.specs.OwnCodes.{own_text}
use Rattle.letters.proofs.Theorems.{Codable}
use Rattle.letters.proofs.Texts.{codable-told}
use Rattle.stream.specs.Stream.{octets_for}
use Rattle.stream.specs.Ucs2.{unit_octets}
use Rattle.stream.proofs.UnitOctets.{unit-octets-length}
use Rattle.filling.specs.Filling.{fewest, part_at}
use Rattle.filling.proofs.Parts.{fewest-before, fewest-over, fewest-are}
use Rattle.std.proofs.lemmas.Grind.{div_ceil_times}
use Rattle.headed.specs.Header.{septets_over}
use Rattle.parted.specs.declared.Plan.{Plan}
use Rattle.parted.specs.Parts.{most_parts, room_behind, parts_holding, parts_of, is_marked, mark_size, part_header, part_content, headed_count, part_octets, part_count}
use Rattle.parted.specs.Written.{size_rules}
use Rattle.parted.specs.Cutting.{plan_of, planned_as, plan_room, part_length}
use Rattle.parted.specs.Inner.{sized_plan, plan_count, plan_octets}
use Rattle.parted.proofs.Rooms.{septets-over-0, septets-over-6, alone-room, part_room, parts-alone, parts-marked, parts-some, parts-hold, marked-part-room}
use Rattle.parted.proofs.Headed.{headed-length}
use Rattle.parted.proofs.Parts.{header-long}
use Rattle.std.specs.Prelude.{Ok, Err}

pub record Cut (p : Plan) (t : List ℕ) : Type 0 where
  pub codable : p.ucs2 ≡ false → Codable t
  pub total : p.total ≡ parts_of p.ucs2 t
  pub content : p.content ≡ length (content_of p.ucs2 t)
  pub own : p.ucs2 ≡ false → p.plain ≡ true → own_text t ≡ true
  pub units : p.ucs2 ≡ true → p.plain ≡ true
  pub most : p.total ≤ 255

-- ---- what planning answers

listed : (ucs2 : Bool) (t : List ℕ) → not_codable ucs2 t ≡ false → ucs2 ≡ false → Codable t
listed true t e f = let z : ◌≡◌ {A = ℕ} 0 1 = cc in absurd (omega arith)
listed false t e f = codable-told t (ltb-false (first_unlisted t) (length t) e)

module _ (ucs2 : Bool) (t : List ℕ) where
  cut-plan : verdict (size_rules ucs2 t) ≡ accepted → Cut (plan_of ucs2 t) t
  unfolding size_rules
  cut-plan v =
      let one = accepted-rule (not_codable ucs2 t) (Unlisted (first_unlisted t)) (when (ltb most_parts (parts_of ucs2 t)) TooLong ∷ []) v in
      let two = accepted-rule (ltb most_parts (parts_of ucs2 t)) TooLong [] one.1 in
      record {
        codable = listed ucs2 t one.0;
        total = refl;
        content = refl;
        own = λ f e. sym (ap (λ (b : Bool). cond b true (own_text t)) f) ∙ e;
        units = λ f. ap (λ (b : Bool). cond b true (own_text t)) f;
        most = ltb-false most_parts (parts_of ucs2 t) two.0;
      }

  pub cut-told : (p : Plan) → Ok p ≡ planned_as ucs2 t → (verdict (size_rules ucs2 t) ≡ accepted) × (p ≡ plan_of ucs2 t) × Cut p t
  unfolding planned_as
  cut-told p e =
      let v : verdict (size_rules ucs2 t) ≡ accepted = settle-told verdict_of Err (Ok (plan_of ucs2 t)) (λ q. refl) refl (verdict (size_rules ucs2 t)) (Ok p) e in
      let same : Ok p ≡ Ok (plan_of ucs2 t) = e ∙ settle-given (verdict (size_rules ucs2 t)) Err (Ok (plan_of ucs2 t)) v in
      let is : p ≡ plan_of ucs2 t = cc in
      (v, is, subst (λ (x : Plan). Cut x t) (sym is) (cut-plan v))

  pub cut-refused : (q : Refusal) → Err q ≡ planned_as ucs2 t → verdict (size_rules ucs2 t) ≡ refused q
  unfolding planned_as
  cut-refused q e = settle-told verdict_of Err (Ok (plan_of ucs2 t)) (λ q. refl) refl (verdict (size_rules ucs2 t)) (Err q) e

-- ---- rooms

pub room-septets : (p : Plan) → p.ucs2 ≡ false → septets_over (mark_size p.total) + plan_room p ≡ 160
room-septets p e = go (is_marked p.total) ∙ refl
  where
    go : (m : Bool) → septets_over (cond m 6 0) + room_behind p.ucs2 (cond m 6 0) ≡ 160
    go true = omega (arith, septets-over-6, ap (λ (b : Bool). room_behind b 6) e, part_room.0)
    go false = omega (arith, septets-over-0, ap (λ (b : Bool). room_behind b 0) e, alone-room.0)

pub room-units : (p : Plan) → p.ucs2 ≡ true → mark_size p.total + 2 * plan_room p ≡ 140
room-units p e = go (is_marked p.total) ∙ refl
  where
    go : (m : Bool) → cond m 6 0 + 2 * room_behind p.ucs2 (cond m 6 0) ≡ 140
    go true = omega (arith, ap (λ (b : Bool). room_behind b 6) e, part_room.1)
    go false = omega (arith, ap (λ (b : Bool). room_behind b 0) e, alone-room.1)

pub room_most : (p : Plan) → plan_room p ≤ 160
room_most p = go p.ucs2 refl
  where
    go : (b : Bool) → p.ucs2 ≡ b → plan_room p ≤ 160
    go true e = omega (arith, room-units p e)
    go false e = omega (arith, room-septets p e)

-- the room, or what is left
pub length-cases : (p : Plan) (k : ℕ) → ((plan_room p ≤ p.content - plan_room p * k) × (part_length p k ≡ plan_room p)) ⊎ ((p.content - plan_room p * k < plan_room p) × (part_length p k ≡ p.content - plan_room p * k))
unfolding part_length
length-cases p k =
    elim (dec_le (plan_room p) (p.content - plan_room p * k)) [
      | yes h ↦ inl (h, ap (λ (b : Bool). cond b (p.content - plan_room p * k) (plan_room p)) (le-ltb (p.content - plan_room p * k) (plan_room p) h))
      | no h ↦ let less : p.content - plan_room p * k < plan_room p = omega arith in inr (less, ap (λ (b : Bool). cond b (p.content - plan_room p * k) (plan_room p)) (lt-ltb (p.content - plan_room p * k) (plan_room p) less))
    ]

pub length_most : (p : Plan) (k : ℕ) → part_length p k ≤ plan_room p
length_most p k = ⊎_elim (λ w. omega (arith, w.1)) (λ w. omega (arith, w.0, w.1)) (length-cases p k)

-- ---- the parts of a plan

marked-room : (p : Plan) → 2 ≤ p.total → plan_room p ≡ room_behind p.ucs2 6
marked-room p h = marked-part-room p.ucs2 0 p.total h

module _ (p : Plan) (t : List ℕ) (c : Cut p t) where
  pub cut-some : 1 ≤ p.total
  cut-some = omega (arith, c.total, parts-some p.ucs2 (length (content_of p.ucs2 t)))

  pub cut_holds : p.content ≤ plan_room p * p.total
  cut_holds =
      let n : ℕ = length (content_of p.ucs2 t) in
      let held = parts-hold p.ucs2 n (omega (arith, c.total, c.most)) in
      subst (λ (k : ℕ). p.content ≤ room_behind p.ucs2 (mark_size k) * k) (sym c.total) (subst (λ (k : ℕ). k ≤ room_behind p.ucs2 (mark_size (parts_of p.ucs2 t)) * parts_of p.ucs2 t) (sym c.content) held)

  -- the parts before one that there is do not hold the text
  pub cut-before : (k : ℕ) → k < p.total → plan_room p * k ≤ p.content
  cut-before zero h = omega (arith, mul-zero (plan_room p))
  cut-before (suc k) h =
      let n : ℕ = length (content_of p.ucs2 t) in
      let more : room_behind p.ucs2 0 < n = elim (dec_le n (room_behind p.ucs2 0)) [ yes l ↦ absurd (omega (arith, c.total, parts-alone p.ucs2 n l)) | no l ↦ omega arith ] in
      let few : suc k < fewest most_parts (room_behind p.ucs2 6) n = omega (arith, c.total, parts-marked p.ucs2 n more) in
      let less : room_behind p.ucs2 6 * suc k < n = fewest-before most_parts (room_behind p.ucs2 6) n (suc k) (omega arith) few in
      subst (λ (r : ℕ). r * suc k ≤ p.content) (sym (marked-room p (omega arith))) (omega (arith, c.content))

  pub length-here : (k : ℕ) → k < p.total → plan_room p * k + part_length p k ≤ p.content
  length-here k h = ⊎_elim (λ w. omega (arith, w.0, w.1, cut-before k h)) (λ w. omega (arith, w.1, cut-before k h)) (length-cases p k)

  pub length-full : (k : ℕ) → suc k < p.total → part_length p k ≡ plan_room p
  length-full k h =
      let next : plan_room p * suc k ≤ p.content = cut-before (suc k) h in
      let more : plan_room p * suc k ≡ plan_room p + plan_room p * k = mul-suc (plan_room p) k ∙ omega arith in
      ⊎_elim (λ w. w.1) (λ w. absurd (omega (arith, w.0))) (length-cases p k)

  abbrev content : List ℕ
  content = content_of p.ucs2 t

  pub part-is : (k : ℕ) → part_content p.ucs2 p.total content (k + 1) ≡ take (part_length p k) (drop (plan_room p * k) content)
  unfolding part_content part_at
  part-is k =
      let d : List ℕ = drop (plan_room p * k) content in
      let long : length d ≡ p.content - plan_room p * k = length-drop (plan_room p * k) content ∙ ap (λ (n : ℕ). n - plan_room p * k) (sym c.content) in
      let which : k + 1 - 1 ≡ k = omega arith in
      ap (λ (j : ℕ). take (plan_room p) (drop (plan_room p * j) content)) which
      ∙ ⊎_elim (λ w. ap (λ (n : ℕ). take n d) (sym w.1)) (λ w. take_all (plan_room p) d (omega (arith, w.0)) ∙ sym (take_all (part_length p k) d (omega (arith, w.1)))) (length-cases p k)

  pub part-long : (k : ℕ) → k < p.total → length (part_content p.ucs2 p.total content (k + 1)) ≡ part_length p k
  part-long k h =
      ap length (part-is k)
      ∙ length-take-le (part_length p k) (drop (plan_room p * k) content) (omega (arith, length-drop (plan_room p * k) content, length-here k h, c.content))

  module _ (reference : ℕ) (k : ℕ) (h : k < p.total) where
    pub count-is : plan_count p k ≡ part_count p.ucs2 reference p.total content (k + 1)
    unfolding plan_count part_count headed_count
    count-is =
        let head = header-long reference p.total (k + 1) in
        let body = part-long k h in
        go p.ucs2 (part_content p.ucs2 p.total content (k + 1)) body
      where
        go : (b : Bool) (s : List ℕ) → length s ≡ part_length p k
            → cond b (mark_size p.total + 2 * part_length p k) (septets_over (mark_size p.total) + part_length p k)
            ≡ cond b (length (part_header reference p.total (k + 1)) + length (unit_octets s)) (septets_over (length (part_header reference p.total (k + 1))) + length s)
        go true s e = omega (arith, header-long reference p.total (k + 1), unit-octets-length s)
        go false s e = ap₂ (λ (m n : ℕ). septets_over m + n) (sym (header-long reference p.total (k + 1))) (sym e)

    pub octets-is : plan_octets p k ≡ length (part_octets p.ucs2 reference p.total content (k + 1))
    unfolding plan_octets part_octets part_count
    octets-is =
        ap (λ (n : ℕ). cond p.ucs2 n (octets_for n)) count-is
        ∙ sym (headed-length p.ucs2 (part_header reference p.total (k + 1)) (part_content p.ucs2 p.total content (k + 1)))

  pub octets-full : (k : ℕ) → suc k < p.total → plan_octets p k ≡ 140
  unfolding plan_octets plan_count octets_for
  octets-full k h = go p.ucs2 refl
    where
      go : (b : Bool) → p.ucs2 ≡ b → cond b (cond b (mark_size p.total + 2 * part_length p k) (septets_over (mark_size p.total) + part_length p k)) (octets_for (cond b (mark_size p.total + 2 * part_length p k) (septets_over (mark_size p.total) + part_length p k))) ≡ 140
      go true e = omega (arith, length-full k h, room-units p e)
      go false e = ap octets_for (ap (λ (n : ℕ). septets_over (mark_size p.total) + n) (length-full k h) ∙ room-septets p e)

-- ---- how the code counts

pub holding-room : (ucs2 : Bool) → (67 ≤ room_behind ucs2 6) × (room_behind ucs2 6 ≤ 153)
holding-room true = (omega (arith, part_room.1), omega (arith, part_room.1))
holding-room false = (omega (arith, part_room.0), omega (arith, part_room.0))

-- the rounded quotient of some n holds them, and one less does not
rounded : (room n k : ℕ) → 0 < room → 0 < n → k ≡ n / room + min 1 (n % room) → (1 ≤ k) × ((n ≤ room * k) × (room * (k - 1) < n))
rounded room n k some more e =
    let w : (n ≤ k * room) × (k * room < n + room) = subst (λ (q : ℕ). (n ≤ q * room) × (q * room < n + room)) (sym e) (div_ceil_times n room some) in
    let one : 1 ≤ k = elim (dec_le k 0) [ yes none ↦ let zero : k ≡ 0 = omega arith in absurd (omega (arith, w.0, ap (λ (q : ℕ). q * room) zero)) | no h ↦ omega arith ] in
    let before : room * k ≡ room * (k - 1) + room = ap (λ (j : ℕ). room * j) (omega arith) ∙ mul-suc room (k - 1) in
    (one, (omega (arith, w.0, mul_comm k room), omega (arith, w.1, mul_comm k room, before)))

pub holding-sum : (ucs2 : Bool) (n k : ℕ) → room_behind ucs2 0 < n → k ≡ n / room_behind ucs2 6 + min 1 (n % room_behind ucs2 6)
    → (k ≤ 255 → parts_holding ucs2 n ≡ k) × (255 < k → 255 < parts_holding ucs2 n)
holding-sum ucs2 n k more e =
    let room : ℕ = room_behind ucs2 6 in
    let w = rounded room n k (omega (arith, holding-room ucs2)) (omega arith) e in
    let marked = parts-marked ucs2 n more in (
      λ few. marked ∙ fewest-are most_parts room n k w.0 few w.1.0 (inr w.1.1),
      λ over. omega (arith, marked, (fewest-over most_parts room n (omega arith)).1 (omega (arith, w.1.1, mul-le-mul_left {m = 255} {n = k - 1} room (omega arith)))),
    )

pub sized-over : (ucs2 plain : Bool) (n : ℕ) → 255 < parts_holding ucs2 n → Err TooLong ≡ sized_plan ucs2 plain n
unfolding sized_plan verdict
sized-over ucs2 plain n h = simp (lt-ltb most_parts (parts_holding ucs2 n) h)

pub sized-done : (ucs2 plain : Bool) (n : ℕ) → parts_holding ucs2 n ≤ 255 → Ok (record { ucs2 = ucs2; plain = plain; total = parts_holding ucs2 n; content = n }) ≡ sized_plan ucs2 plain n
unfolding sized_plan verdict
sized-done ucs2 plain n h = simp (le-ltb most_parts (parts_holding ucs2 n) h)

pub plan-units : (t : List ℕ) → sized_plan true true (length t) ≡ planned_as true t
unfolding sized_plan planned_as size_rules verdict
plan-units t = refl

-- a 7-bit text whose every unit is listed
plan-listed : (t : List ℕ) → Codable t → sized_plan false (own_text t) (length (septets_of t)) ≡ planned_as false t
unfolding sized_plan planned_as size_rules verdict
plan-listed t c = simp (le-ltb (first_unlisted t) (length t) (omega (arith, c)))

pub plan-counted : (t : List ℕ) (n : ℕ) → Ok n ≡ measured t → sized_plan false (own_text t) n ≡ planned_as false t
unfolding measured
plan-counted t n e = go (ltb (first_unlisted t) (length t)) refl e
  where
    go : (b : Bool) → ltb (first_unlisted t) (length t) ≡ b → Ok n ≡ cond b (Err (first_unlisted t)) (Ok (length (septets_of t)))
        → sized_plan false (own_text t) n ≡ planned_as false t
    go true f d = let z : ◌≡◌ {A = ℕ} 0 1 = cc in absurd (omega arith)
    go false f d =
        let same : n ≡ length (septets_of t) = cc in
        ap (sized_plan false (own_text t)) same ∙ plan-listed t (codable-told t (ltb-false (first_unlisted t) (length t) f))

pub plan-stopped : (t : List ℕ) (unit : ℕ) → Err unit ≡ measured t → Err (Unlisted unit) ≡ planned_as false t
unfolding measured planned_as size_rules verdict
plan-stopped t unit e = go (ltb (first_unlisted t) (length t)) refl e
  where
    go : (b : Bool) → ltb (first_unlisted t) (length t) ≡ b → Err unit ≡ cond b (Err (first_unlisted t)) (Ok (length (septets_of t))) → Err (Unlisted unit) ≡ planned_as false t
    go true f d = let same : unit ≡ first_unlisted t = cc in simp (f, same)
    go false f d = let z : ◌≡◌ {A = ℕ} 0 1 = cc in absurd (omega arith)

pub size-most : (total : ℕ) → mark_size total ≤ 6
size-most total = go (is_marked total)
  where
    go : (m : Bool) → cond m 6 0 ≤ 6
    go true = omega arith
    go false = omega arith

pub over-most : (total : ℕ) → septets_over (mark_size total) ≤ 7
over-most total = go (is_marked total)
  where
    go : (m : Bool) → septets_over (cond m 6 0) ≤ 7
    go true = omega (arith, septets-over-6)
    go false = omega (arith, septets-over-0)

pub room-some : (p : Plan) → 0 < plan_room p
room-some p = go p.ucs2 refl
  where
    go : (b : Bool) → p.ucs2 ≡ b → 0 < plan_room p
    go true e = omega (arith, room-units p e, size-most p.total)
    go false e = omega (arith, room-septets p e, over-most p.total)

-- how much a part holds, by what is left
pub length-left : (p : Plan) (k : ℕ) → p.content - plan_room p * k < plan_room p → p.content - plan_room p * k ≡ part_length p k
length-left p k h = ⊎_elim (λ w. absurd (omega (arith, w.0))) (λ w. sym w.1) (length-cases p k)

pub length-room : (p : Plan) (k : ℕ) → plan_room p ≤ p.content - plan_room p * k → plan_room p ≡ part_length p k
length-room p k h = ⊎_elim (λ w. sym w.1) (λ w. absurd (omega (arith, w.0))) (length-cases p k)

-- no part is longer than a short message
pub count_most : (p : Plan) (k : ℕ) → plan_count p k ≤ 160
unfolding plan_count
count_most p k = go p.ucs2 refl
  where
    go : (b : Bool) → p.ucs2 ≡ b → cond b (mark_size p.total + 2 * part_length p k) (septets_over (mark_size p.total) + part_length p k) ≤ 160
    go true e = omega (arith, room-units p e, length_most p k)
    go false e = omega (arith, room-septets p e, length_most p k)

pub octets-most : (p : Plan) (k : ℕ) → plan_octets p k ≤ 140
unfolding plan_octets plan_count octets_for
octets-most p k = go p.ucs2 refl
  where
    go : (b : Bool) → p.ucs2 ≡ b
        → cond b (cond b (mark_size p.total + 2 * part_length p k) (septets_over (mark_size p.total) + part_length p k)) (octets_for (cond b (mark_size p.total + 2 * part_length p k) (septets_over (mark_size p.total) + part_length p k))) ≤ 140
    go true e = omega (arith, room-units p e, length_most p k)
    go false e = omega (arith, room-septets p e, length_most p k)

-- what is not laid as it stands is 7-bit
pub septets-plan : (p : Plan) (t : List ℕ) → Cut p t → p.plain ≡ false → p.ucs2 ≡ false
septets-plan p t c other = go p.ucs2 refl
  where
    go : (b : Bool) → p.ucs2 ≡ b → b ≡ false
    go true e = let z : true ≡ false = sym (c.units e) ∙ other in z
    go false e = refl
