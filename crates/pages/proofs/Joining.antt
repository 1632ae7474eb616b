-- Joining: where nothing is wrong with the pages each has its place among the blocks, so that what they hold is laid one page after the other.
-- Assumes nothing.
use mathlib.Core.Path.{◌≡◌, refl, ap, ap₂, ◌∙◌, sym, subst}
use mathlib.Core.Bool.{Bool, true, false, cond}
use mathlib.Core.List.{List, [], ◌++◌, append_assoc, append-nil}
use Prim.Native.Nat.{ℕ, zero, suc, ◌+◌, ◌-◌, ◌*◌, ◌/◌, ◌%◌, ◌≤◌, ◌<◌}
use native.Mathlib.Nat.{add-zero, mul-suc, mul-zero}
use native.Mathlib.Numerals.{add-one}
use native.Mathlib.Omega.{arith}
use lib.Dec.{lit<, leb, eqb}
use lib.ListN.{length, get_or, take, drop, length-append, length-drop, drop_of_length-le}
use lib.Seq.{length-take-le, take_all, take_at, take-take, drop-drop}
use borrow.Author.Tests.{le-ltb, lt-leb, eq-eqb, ne_eqb}
use Rattle.words.specs.declared.Service.TheVariants.{Broadcast}
use Rattle.words.specs.declared.Refusal.{Refusal}
use Rattle.words.specs.declared.Refusal.TheVariants.{WrongLength, WrongPages}
use Rattle.words.specs.Judging.{Verdict, refused, accepted, verdict, settle}
use Rattle.words.proofs.Judging.{verdict-refused-first, verdict-accepted-first}
use Rattle.lists.specs.Lists.{first_wide, laid}
use Rattle.lists.specs.Closing.{without_closing}
use Rattle.lists.proofs.Below.{Below, below-drop, below-take, below-append}
use Rattle.lists.proofs.Closing.{closing-front, closing-length}
use Rattle.lists.proofs.Places.{place_none}
use Rattle.lists.proofs.Laid.{laid-length, laid_then}
use Rattle.lists.proofs.Tests.{or_right}
use Rattle.filling.proofs.Table.{table-there}
use Rattle.stream.specs.Stream.{unpacked}
use Rattle.stream.specs.Ucs2.{octet_units}
use Rattle.stream.specs.ArrayCalls.{all_rules, all_leaves}
use Rattle.stream.specs.Digits.{value}
use Rattle.stream.specs.Storing.{given_answers, given_leaves}
use Rattle.stream.proofs.Numbers.{digits-below, group-within}
use Rattle.stream.proofs.Stream.{unpacked-length, unpacked-digits}
use Rattle.stream.proofs.UnitOctets.{octet-units-length}
use Rattle.coding.specs.declared.Reading.{Reading}
use Rattle.coding.specs.OctetRead.{octet_rules, read_under, octet_reads}
use Rattle.coding.specs.Holding.{is_ucs2, text_rules as held_rules, holds_text}
use Rattle.coding.proofs.Prefixed.{read-given}
use Rattle.demands.proofs.Steps.{held-verdict, leaves-agree, held_as, told_text, holds-text}
use Rattle.letters.specs.Reading.{text_of, text_rules, text_answers, text_leaves}
use Rattle.pages.specs.declared.Header.{Header}
use Rattle.pages.specs.Blocks.{header_of, text_in}
use Rattle.pages.specs.Parts.{page_room}
use Rattle.pages.specs.Joined.{block_count, block_at, header_at, number_at, total_at, place_of, wrong_pages, page_content, joined_from, joined_content, joined_text, joined_reading, page_rules, join_rules, join_answers, join_leaves}
use Rattle.pages.specs.Ordered.{block_or_zeros, table_of, no_order, order_of}
use Rattle.pages.proofs.Placing.{right-read-once, total-small}
use Rattle.pages.proofs.Table.{block_here}
use Rattle.pages.specs.Inner.{text_joins, text_join_leaves, held_joins, held_join_leaves, joined_as, Places}
use Rattle.std.specs.Prelude.{Ok, Err, Some, None}
use Rattle.std.proofs.lemmas.Option.{none-some, same_Some}
use Rattle.pages.specs.Successes.{ok_joined}

-- ---- a page that is there

-- each page of a message has a block
pub page-placed : (o : List ℕ) (k : ℕ) → wrong_pages o ≡ false → 1 ≤ k → k ≤ total_at o 0 → place_of o k < block_count o
page-placed o k right low high = ((right-read-once o right).there k low high).0

-- a total has four bits
pub total-below : (o : List ℕ) (i : ℕ) → total_at o i < 16
unfolding header_at
total-below o i = total-small (block_at o i)

-- a block that is there is whole
block-whole : (o : List ℕ) (i : ℕ) → i < block_count o → length (block_at o i) ≡ 88
unfolding block_at
block-whole o i h = length-take-le 88 (drop (88 * i) o) (omega (arith, length-drop (88 * i) o))

text-whole : (o : List ℕ) (i : ℕ) → i < block_count o → length (text_in (block_at o i)) ≡ 82
text-whole o i h = omega (arith, length-drop 6 (block_at o i), block-whole o i h)

-- the block of page k and its text
module _ (o places : List ℕ) (k : ℕ) (right : wrong_pages o ≡ false) (table : Places o places) (low : 1 ≤ k) (high : k ≤ total_at o 0) where
  -- where this block begins
  page-at : get_or places k 0 - 1 ≡ place_of o k
  page-at = omega (arith, table k low high)

  -- the block that the table names for it
  pub page-there : block_or_zeros o (get_or places k 0 - 1) ≡ block_at o (place_of o k)
  page-there = rw page-at (block_here o (place_of o k) (page-placed o k right low high))

  -- what stands behind the header of this block is a text of 82 octets
  pub page-text : (block : List ℕ) → block ≡ block_at o (place_of o k) → take 82 (drop 6 block) ≡ text_in (block_at o (place_of o k))
  page-text block e =
      let t : List ℕ = text_in (block_at o (place_of o k)) in
      let whole : length t ≡ 82 = text-whole o (place_of o k) (page-placed o k right low high) in
      ap (λ (x : List ℕ). take 82 (drop 6 x)) e ∙ take_all 82 t (omega arith)

-- its septets are septets
page-below : (o : List ℕ) → Below 256 o → (i : ℕ) → Below 128 (unpacked 93 (text_in (block_at o i)))
unfolding block_at
page-below o h i =
    let octets : Below 256 (text_in (block_at o i)) = below-drop 256 (block_at o i) (below-take 256 (drop (88 * i) o) (below-drop 256 o h (88 * i)) 88) 6 in
    subst (Below 128) (sym (unpacked-digits 93 (text_in (block_at o i)) octets)) (digits-below 128 93 (value 256 (text_in (block_at o i))) (lit< tt))

-- ---- what pages hold

content-length : (ucs2 : Bool) (t : List ℕ) → length t ≡ 82 → length (page_content ucs2 t) ≡ page_room ucs2
content-length true t e = octet-units-length t ∙ ap (λ (n : ℕ). n / 2) e
content-length false t e = unpacked-length 93 t

-- one page more at the end
pub joined-more : (ucs2 : Bool) (o : List ℕ) (k n : ℕ) → joined_from ucs2 o k (suc n) ≡ joined_from ucs2 o k n ++ page_content ucs2 (text_in (block_at o (place_of o (k + n))))
unfolding joined_from
joined-more ucs2 o k zero = ap (λ (i : ℕ). page_content ucs2 (text_in (block_at o (place_of o i))) ++ []) (sym (add-zero k)) ∙ append-nil (page_content ucs2 (text_in (block_at o (place_of o (k + 0)))))
joined-more ucs2 o k (suc n) =
    let next : suc k + n ≡ k + suc n = omega arith in
    let first : List ℕ = page_content ucs2 (text_in (block_at o (place_of o k))) in
    ap (λ (s : List ℕ). first ++ s) (joined-more ucs2 o (suc k) n ∙ ap (λ (i : ℕ). joined_from ucs2 o (suc k) n ++ page_content ucs2 (text_in (block_at o (place_of o i)))) next)
    ∙ sym (append_assoc first (joined_from ucs2 o (suc k) n) (page_content ucs2 (text_in (block_at o (place_of o (k + suc n))))))

module _ (ucs2 : Bool) (o : List ℕ) (right : wrong_pages o ≡ false) where
  -- what page k holds
  abbrev page_at : ℕ → List ℕ
  page_at k = page_content ucs2 (text_in (block_at o (place_of o k)))

  page-length : (k : ℕ) → 1 ≤ k → k ≤ total_at o 0 → length (page_at k) ≡ page_room ucs2
  page-length k low high = content-length ucs2 (text_in (block_at o (place_of o k))) (text-whole o (place_of o k) (page-placed o k right low high))

  -- each page is full
  pub joined_length : (n : ℕ) → n ≤ total_at o 0 → length (joined_from ucs2 o 1 n) ≡ page_room ucs2 * n
  unfolding joined_from
  joined_length zero h = sym (mul-zero (page_room ucs2))
  joined_length (suc n) h =
      ap length (joined-more ucs2 o 1 n)
      ∙ length-append (joined_from ucs2 o 1 n) (page_at (1 + n))
      ∙ ap₂ (λ (a b : ℕ). a + b) (joined_length n (omega arith)) (page-length (1 + n) (omega arith) (omega arith))
      ∙ sym (mul-suc (page_room ucs2) n)

-- ---- pages laid one after the other

pub joined-start : (ucs2 : Bool) (o start : List ℕ) → start ≡ laid (joined_from ucs2 o 1 0) start
unfolding laid joined_from
joined-start ucs2 o start = refl

-- what the call for a page leaves in the part of a buffer that it is lent
abbrev pub page_leaves : Bool → List ℕ → List ℕ → List ℕ
page_leaves ucs2 t out = cond ucs2 (laid (take (length out) (octet_units t)) out) (all_leaves Broadcast t 0 out)

page-leaves : (ucs2 : Bool) (t out : List ℕ) → length t ≡ 82 → page_room ucs2 ≤ length out → page_leaves ucs2 t out ≡ laid (page_content ucs2 t) out
unfolding all_leaves all_rules verdict
page-leaves true t out e h = ap (λ (l : List ℕ). laid l out) (take_all (length out) (octet_units t) (omega (arith, content-length true t e)))
page-leaves false t out e h = rw e (simp (le-ltb (length out) (length (unpacked 93 t)) (omega (arith, content-length false t e))))

-- a part up to the end of a buffer, with what is laid over its front, back in its place
part-laid : (xs out : List ℕ) (a : ℕ) → a ≤ length out
    → take a out ++ (laid xs (take (length out - a) (drop a out)) ++ drop (length out - a) (drop a out)) ≡ take a out ++ xs ++ drop (a + length xs) out
unfolding laid
part-laid xs out a h =
    let rest : List ℕ = drop a out in
    let size : length rest ≡ length out - a = length-drop a out in
    ap₂ (λ (p q : List ℕ). take a out ++ ((xs ++ drop (length xs) p) ++ q)) (take_all (length out - a) rest (omega arith)) (drop_of_length-le rest {i = length out - a} (omega arith))
    ∙ ap (λ (p : List ℕ). take a out ++ p) (append-nil (xs ++ drop (length xs) rest) ∙ ap (λ (p : List ℕ). xs ++ p) (drop-drop (length xs) a out))
    ∙ sym (append_assoc (take a out) xs (drop (a + length xs) out))

module _ (ucs2 : Bool) (o start : List ℕ) (right : wrong_pages o ≡ false) where
  -- page k + 1 is stored behind the k pages before it
  pub page-laid : (k : ℕ) (out text left : List ℕ) → k < total_at o 0 → page_room ucs2 * total_at o 0 ≤ length start → length out ≡ length start → out ≡ laid (joined_from ucs2 o 1 k) start
      → text ≡ text_in (block_at o (place_of o (1 + k)))
      → left ≡ page_leaves ucs2 text (take (length out - page_room ucs2 * k) (drop (page_room ucs2 * k) out))
      → take (page_room ucs2 * k) out ++ (left ++ drop (length out - page_room ucs2 * k) (drop (page_room ucs2 * k) out)) ≡ laid (joined_from ucs2 o 1 (k + 1)) start
  page-laid k out text left h fits same e b l =
      let a : ℕ = page_room ucs2 * k in
      let more : a + page_room ucs2 ≤ page_room ucs2 * total_at o 0 = group-within (page_room ucs2) h in
      let p : ℕ = place_of o (1 + k) in
      let t : List ℕ = text_in (block_at o p) in
      let whole : length t ≡ 82 = text-whole o p (page-placed o (1 + k) right (omega arith) (omega arith)) in
      let part : List ℕ = take (length out - a) (drop a out) in
      let room : page_room ucs2 ≤ length part = omega (arith, ap length (take_all (length out - a) (drop a out) (omega (arith, length-drop a out))), length-drop a out) in
      let content : List ℕ = page_content ucs2 t in
      let size : length content ≡ page_room ucs2 = content-length ucs2 t whole in
      ap (λ (x : List ℕ). take a out ++ (x ++ drop (length out - a) (drop a out))) (l ∙ ap (λ (x : List ℕ). page_leaves ucs2 x part) b ∙ page-leaves ucs2 t part whole room)
      ∙ part-laid content out a (omega arith)
      ∙ ap (λ (x : List ℕ). take a x ++ content ++ drop (a + length content) x) e
      ∙ laid_then (joined_from ucs2 o 1 k) content start a (length content) (joined_length ucs2 o right k (omega arith)) refl
      ∙ ap (λ (x : List ℕ). laid x start) (sym (joined-more ucs2 o 1 k))
      ∙ ap (λ (n : ℕ). laid (joined_from ucs2 o 1 n) start) (sym (add-one k))

-- ---- all pages in an array that has room for them

-- what is kept of the first m elements is the front of them all
closing-part : (x n m : ℕ) (s : List ℕ) → m ≤ length s → n ≡ length (without_closing x (take m s)) → take n s ≡ without_closing x (take m s)
closing-part x n m s h e =
    let short : n ≤ m = omega (arith, closing-length x (take m s), length-take-le m s h) in
    sym (take-take n m s short) ∙ ap (λ (k : ℕ). take k (take m s)) e ∙ closing-front x (take m s)

module _ (ucs2 : Bool) (o array left : List ℕ) (total : ℕ) (right : wrong_pages o ≡ false) (is : total ≡ total_at o 0) (fits : page_room ucs2 * 15 ≤ length array)
    (l : left ≡ laid (joined_from ucs2 o 1 total) array) where
  all-length : length (joined_from ucs2 o 1 total) ≡ page_room ucs2 * total
  all-length = joined_length ucs2 o right total (omega arith)

  pub all_room : page_room ucs2 * total ≤ length left
  all_room =
      let few : total < 16 = omega (arith, total-below o 0) in
      let most : page_room ucs2 * total ≤ page_room ucs2 * 15 = omega (arith, group-within (page_room ucs2) few) in
      omega (arith, all-length, ap length l ∙ laid-length (joined_from ucs2 o 1 total) array (omega (arith, all-length)))

  all-front : take (page_room ucs2 * total) left ≡ joined_from ucs2 o 1 total
  unfolding laid
  all-front =
      let xs : List ℕ = joined_from ucs2 o 1 total in
      ap (take (page_room ucs2 * total)) l ∙ take_at xs (drop (length xs) array) (page_room ucs2 * total) all-length

  -- without the CRs that close them: how many are left, and they are the content
  pub content-room : (n : ℕ) → n ≡ length (without_closing 13 (take (page_room ucs2 * total) left)) → n ≤ length left
  content-room n e =
      omega (arith, closing-length 13 (take (page_room ucs2 * total) left), length-take-le (page_room ucs2 * total) left all_room, all_room)

  pub content-front : (n : ℕ) → n ≡ length (without_closing 13 (take (page_room ucs2 * total) left)) → take n left ≡ joined_content ucs2 o
  unfolding joined_content
  content-front n e =
      closing-part 13 n (page_room ucs2 * total) left all_room e
      ∙ ap (without_closing 13) (all-front ∙ ap (joined_from ucs2 o 1) is)

-- ---- the content read

joined-below : (o : List ℕ) → Below 256 o → (k n : ℕ) → Below 128 (joined_from false o k n)
unfolding joined_from
joined-below o h k zero i = omega arith
joined-below o h k (suc n) i = below-append 128 (unpacked 93 (text_in (block_at o (place_of o k)))) (joined_from false o (suc k) n) (page-below o h (place_of o k)) (joined-below o h (suc k) n) i

narrow : (o : List ℕ) → Below 256 o → length (joined_content false o) ≤ first_wide (joined_content false o)
unfolding joined_content
narrow o h =
    let all : List ℕ = joined_from false o 1 (total_at o 0) in
    let s : List ℕ = without_closing 13 all in
    let below : Below 128 s = subst (Below 128) (closing-front 13 all) (below-take 128 all (joined-below o h 1 (total_at o 0)) (length s)) in
    omega (arith, place_none (leb 128) s (λ k l. lt-leb 128 (get_or s k 0) (below k)))

-- 7-bit text is read by its septets, none of which is 128 or more, and UCS2 is its units
pub septets-join : (o out s : List ℕ) → wrong_pages o ≡ false → Below 256 o → s ≡ joined_content false o
    → (text_answers s (text_of s) (length out) ≡ text_joins false o (length out)) × (text_leaves s (text_of s) out ≡ text_join_leaves false o out)
unfolding text_answers text_leaves text_rules text_joins text_join_leaves page_rules verdict
septets-join o out s right h e = simp (right, e, le-ltb _ _ (narrow o h)) (refl, refl)

pub units-join : (o out s : List ℕ) → wrong_pages o ≡ false → s ≡ joined_content true o
    → (given_answers s (length out) ≡ text_joins true o (length out)) × (given_leaves s out ≡ text_join_leaves true o out)
unfolding given_answers given_leaves text_joins text_join_leaves page_rules verdict
units-join o out s right e = simp (right, e) (refl, refl)

-- ---- the order of the pages

table-places : (o : List ℕ) → wrong_pages o ≡ false → Places o (table_of o)
table-places o right k low high = table-there (number_at o) (block_count o) 16 k (omega (arith, total-below o 0)) (page-placed o k right low high)

module _ (o : List ℕ) where
  pub order-right : (places : List ℕ) → Some places ≡ order_of o → (wrong_pages o ≡ false) × Places o places
  unfolding order_of no_order
  order-right places e = go (no_order o) refl e
    where
      go : (b : Bool) → no_order o ≡ b → Some places ≡ cond b None (Some (table_of o)) → (wrong_pages o ≡ false) × Places o places
      go true n f = absurd (none-some places (sym f))
      go false n f =
          let right : wrong_pages o ≡ false = or_right (eqb (block_count o) 0) (wrong_pages o) n in
          (right, subst (Places o) (sym (same_Some places (table_of o) f)) (table-places o right))

  pub order-wrong : (ucs2 : Bool) (out : List ℕ) → 88 ≤ length o → None ≡ order_of o → (Err WrongPages ≡ text_joins ucs2 o (length out)) × (out ≡ text_join_leaves ucs2 o out)
  unfolding order_of no_order text_joins text_join_leaves page_rules verdict
  order-wrong ucs2 out some e = go (wrong_pages o) refl
    where
      go : (b : Bool) → wrong_pages o ≡ b → (Err WrongPages ≡ text_joins ucs2 o (length out)) × (out ≡ text_join_leaves ucs2 o out)
      go true wrong = simp wrong (refl, refl)
      go false right =
          let none : eqb (block_count o) 0 ≡ false = ne_eqb (block_count o) 0 (omega arith) in
          absurd (none-some (table_of o) (e ∙ simp (none, right)))

-- ---- by what the coding octet of the first block is read as

joined-settle : (v : Verdict) (n : ℕ) (h : Header) (r : Reading)
    → joined_as h r (settle v Err (Ok n)) ≡ settle v Err (ok_joined n r h.sequence h.identifier h.total)
joined-settle (refused q) n h r = refl
joined-settle accepted n h r = refl

joined-agree : (h : Header) (r : Reading) {v w : Verdict} {x y : List ℕ} → v ≡ w → x ≡ y
    → settle w Err (ok_joined (length y) r h.sequence h.identifier h.total) ≡ settle v Err (ok_joined (length x) r h.sequence h.identifier h.total)
joined-agree h r e t = sym (ap₂ (λ (w : Verdict) (x : List ℕ). settle w Err (ok_joined (length x) r h.sequence h.identifier h.total)) e t)

module _ (h : Header) (r : Reading) (o out : List ℕ) where
  pub held-joins : (ucs2 : Bool) → held_as ucs2 ≡ holds_text Broadcast r
      → (joined_as h r (text_joins ucs2 o (length out)) ≡ held_joins h r o (length out)) × (text_join_leaves ucs2 o out ≡ held_join_leaves r o out)
  unfolding held_joins held_join_leaves text_joins text_join_leaves
  held-joins ucs2 e =
      let b = holds-text Broadcast r ucs2 e in
      let v =
      verdict-accepted-first (held_rules Broadcast r) (page_rules (is_ucs2 r.alphabet) o (length out)) (held-verdict Broadcast r (held_as ucs2) e ∙ told_text ucs2)
      ∙ ap (λ (x : Bool). verdict (page_rules x o (length out))) b
      in
      let t = ap (λ (x : Bool). joined_text x o) b in
      (joined-settle (verdict (page_rules ucs2 o (length out))) (length (joined_text ucs2 o)) h r ∙ joined-agree h r v t, leaves-agree out v t)

  pub held_none : (q : Refusal) → Err q ≡ holds_text Broadcast r
      → (Err q ≡ held_joins h r o (length out)) × (out ≡ held_join_leaves r o out)
  unfolding held_joins held_join_leaves
  held_none q e =
      let v = verdict-refused-first (held_rules Broadcast r) (page_rules (is_ucs2 r.alphabet) o (length out)) q (held-verdict Broadcast r (Err q) e) in
      let x = joined_text (is_ucs2 r.alphabet) o in
      (joined-agree h r {x = x} v refl, leaves-agree {x = x} out v refl)

-- ---- the whole call

-- a broadcast page's coding octet is never refused by itself
pub octet-read-here : (coding : ℕ) (q : Refusal) → Err q ≡ octet_reads Broadcast coding → ⊥
unfolding octet_reads octet_rules verdict
octet-read-here coding q e = let z : ◌≡◌ {A = ℕ} 0 1 = cc in omega arith

pub first-header : (o : List ℕ) → 88 ≤ length o → header_of (block_or_zeros o 0) ≡ header_at o 0
unfolding header_at
first-header o h = ap header_of (block_here o 0 (omega arith))

module _ (o out : List ℕ) where
  pub join-broken : (length o % 88 ≡ 0 → ⊥) → (Err WrongLength ≡ join_answers o (length out)) × (out ≡ join_leaves o out)
  unfolding join_answers join_leaves join_rules verdict
  join-broken h = simp (ne_eqb (length o % 88) 0 h) (refl, refl)

  pub join-none : length o % 88 ≡ 0 → length o ≡ 0 → (Err WrongPages ≡ join_answers o (length out)) × (out ≡ join_leaves o out)
  unfolding join_answers join_leaves join_rules verdict
  join-none h z = simp (eq-eqb (length o % 88) 0 h, eq-eqb (length o) 0 z) (refl, refl)

  some-joins : length o % 88 ≡ 0 → (length o ≡ 0 → ⊥) → (room : ℕ)
      → verdict (join_rules o room) ≡ verdict (held_rules Broadcast (joined_reading o) ++ page_rules (is_ucs2 (joined_reading o).alphabet) o room)
  unfolding join_rules verdict
  some-joins h some room = simp (eq-eqb (length o % 88) 0 h, ne_eqb (length o) 0 some)

  first-joins : length o % 88 ≡ 0 → (length o ≡ 0 → ⊥)
      → (held_joins (header_at o 0) (joined_reading o) o (length out) ≡ join_answers o (length out)) × (held_join_leaves (joined_reading o) o out ≡ join_leaves o out)
  unfolding held_joins held_join_leaves join_answers join_leaves
  first-joins h some =
      let v = some-joins h some (length out) in
      let x = joined_text (is_ucs2 (joined_reading o).alphabet) o in
      (joined-agree (header_at o 0) (joined_reading o) {x = x} v refl, leaves-agree {x = x} out v refl)

  pub join-read : (h : Header) (r : Reading) → length o % 88 ≡ 0 → (length o ≡ 0 → ⊥) → h ≡ header_at o 0 → Ok r ≡ octet_reads Broadcast h.coding
      → (held_joins h r o (length out) ≡ join_answers o (length out)) × (held_join_leaves r o out ≡ join_leaves o out)
  join-read h r whole some e d =
      let same : r ≡ joined_reading o = sym (read-given Broadcast h.coding r d) ∙ ap (λ (x : Header). read_under Broadcast x.coding) e in
      let j = first-joins whole some in
      (ap₂ (λ (x : Header) (y : Reading). held_joins x y o (length out)) e same ∙ j.0, ap (λ (y : Reading). held_join_leaves y o out) same ∙ j.1)
