-- join_parts accepts exactly where no rule of its list refuses; what it then joins is what its rules have checked, each part once. The parts of a message
-- pass every rule in any order, so that they join into its text.
-- Assumes nothing.
--   join-accepts, join-accepted   join_parts accepts exactly where the parts are PartsJoinable
--   verdict_of, join-verdict, given_join   the verdict that an answer tells, which is that of the rules; what an accepting call answers
--   join-reads-once      what is joined is what was checked: each part is read once and none is left out
--   parts_join           the parts of a text of several, in any order, join into the text
--   join-back            those that write_parts sent
--   join-back-each       those that write_part sent, one by one
--   join-any-order       those that are laid end to end in any order
--   join-in-order        those that write_parts leaves, as it leaves them
--   join-unique          parts join into one thing only
use Rattle.words.proofs.Rules.{verdict_of, ok-inside}
use mathlib.Core.Path.{◌≡◌, refl, ap, ap₂, ◌∙◌, sym, subst}
use mathlib.Core.Bool.{Bool, true}
use mathlib.Core.List.{List, [], map}
use Prim.Native.Nat.{ℕ, ◌+◌, ◌≤◌, ◌<◌}
use native.Mathlib.Omega.{arith}
use lib.Dec.{ltb}
use lib.ListN.{length, take, replicate, length-replicate}
use borrow.Author.Tests.{le-ltb, ltb-false, ne_eqb}
use Rattle.lists.specs.Lists.{numbers_from, laid}
use Rattle.words.specs.declared.Service.TheVariants.{ShortMessage}
use Rattle.words.specs.declared.Refusal.TheVariants.{WrongLength, WrongHeader, WrongPages, NoRoom}
use Rattle.words.specs.Judging.{accepted, verdict}
use Rattle.words.proofs.Judging.{accepted-rule, accepted-parts, accepted-both, settle-told, settle-given}
use Rattle.coding.specs.declared.Reading.{Reading}
use Rattle.coding.specs.OctetRead.{read_under}
use Rattle.coding.specs.OctetWritten.{smallest}
use Rattle.coding.specs.Holding.{is_ucs2, text_rules}
use Rattle.demands.specs.Demands.{HoldsText}
use Rattle.demands.proofs.Accepting.{text-accepts}
use Rattle.demands.proofs.Demands.{take-laid}
use Rattle.demands.proofs.Steps.{text-accepted}
use Rattle.parted.specs.declared.PartsJoined.{PartsJoined}
use Rattle.parted.specs.Parts.{is_marked}
use Rattle.parted.specs.Written.{reading_parts, reading_content, octets_as, count_as, sizes_of_all}
use Rattle.parted.specs.Read.{shown_as}
use Rattle.parted.specs.Joined.{numbers_at, reference_in, wrong_counts, wrong_heads, odd_parts, wrong_parts, joined_text, parts_rules, join_rules, join_answers, join_leaves}
use Rattle.parted.specs.Messages.{PartsWritable, PartsJoinable, SendsPart, sent_part, sent_count, SendsParts, sent_all, sent_sizes, sent_all_coding, sent_total, count_in, piece_in, counts_of, Reordered, pieces_from, JoinsParts, ReadOnce}
use Rattle.parted.proofs.Rooms.{parts-hold}
use Rattle.parted.proofs.Accepting.{coding-back}
use Rattle.parted.proofs.Demands.{septets-content, content-text, sent-octets, sent-count}
use Rattle.parted.proofs.All.{all-writable, all-octets, all-sizes, all-coding, all-total, all-at}
use Rattle.parted.proofs.Orders.{right-read-once, order-right-counts, order-right-heads, order-even, order-right, order-numbers, order-content, by-other-name, ends-reordered, part-asked, in_order}
use Rattle.std.specs.Prelude.{Result, Err}
use Rattle.words.specs.declared.Refusal.{Refusal}
use Rattle.parted.specs.Successes.{ok_parts_joined}

-- ---- accepting

module _ (coding : ℕ) (cs o : List ℕ) where
  abbrev heard : Reading
  heard = read_under ShortMessage coding

  abbrev ucs2 : Bool
  ucs2 = is_ucs2 (read_under ShortMessage coding).alphabet

  abbrev text : List ℕ
  text = joined_text (is_ucs2 (read_under ShortMessage coding).alphabet) cs o

  abbrev pub given_join : Result PartsJoined Refusal
  given_join =
      ok_parts_joined (length (joined_text (is_ucs2 (read_under ShortMessage coding).alphabet) cs o)) (read_under ShortMessage coding)
      (reference_in (numbers_at (is_ucs2 (read_under ShortMessage coding).alphabet) cs o 0)) (length cs)

  pub join-verdict : (room : ℕ) (a : Result PartsJoined Refusal) → a ≡ join_answers coding cs o room → verdict (join_rules (read_under ShortMessage coding) cs o room) ≡ verdict_of a
  unfolding join_answers
  join-verdict room a e = settle-told verdict_of Err given_join (λ q. refl) refl (verdict (join_rules heard cs o room)) a e

  join-rules-accept : (room : ℕ) → PartsJoinable coding cs o room → verdict (join_rules heard cs o room) ≡ accepted
  unfolding join_rules parts_rules verdict
  join-rules-accept room w =
      accepted-both (text_rules ShortMessage heard) (parts_rules ucs2 cs o room) (text-accepts ShortMessage heard w.holds)
      (simp (w.whole, w.heads, w.even, w.right, le-ltb room (length text) w.fits))

  pub join-accepts : (out : List ℕ) → PartsJoinable coding cs o (length out)
      → (join_answers coding cs o (length out)
      ≡ ok_parts_joined (length (joined_text (is_ucs2 (read_under ShortMessage coding).alphabet) cs o)) (read_under ShortMessage coding)
      (reference_in (numbers_at (is_ucs2 (read_under ShortMessage coding).alphabet) cs o 0)) (length cs))
      × (join_leaves coding cs o out ≡ laid (joined_text (is_ucs2 (read_under ShortMessage coding).alphabet) cs o) out)
  unfolding join_answers join_leaves
  join-accepts out w =
      let v = join-rules-accept (length out) w in
      (settle-given _ Err _ v, settle-given _ (λ q. out) _ v)

  pub join-accepted : (room units : ℕ) (r : Reading) (reference parts : ℕ) → join_answers coding cs o room ≡ ok_parts_joined units r reference parts → PartsJoinable coding cs o room
  unfolding join_rules parts_rules
  join-accepted room units r reference parts e =
      let v = accepted-parts (text_rules ShortMessage heard) (parts_rules ucs2 cs o room) (join-verdict room (ok_parts_joined units r reference parts) (sym e)) in
      let four = accepted-rule (wrong_counts ucs2 cs o) WrongLength _ v.1 in
      let twelve = accepted-rule (wrong_heads ucs2 cs o) WrongHeader _ four.1 in
      let odd = accepted-rule (odd_parts ucs2 cs o) WrongLength _ twelve.1 in
      let ten = accepted-rule (wrong_parts ucs2 cs o) WrongPages _ odd.1 in
      let seven = accepted-rule (ltb room (length text)) NoRoom [] ten.1 in
      record {
        holds = text-accepted ShortMessage heard v.0;
        whole = four.0;
        heads = twelve.0;
        even = odd.0;
        right = ten.0;
        fits = ltb-false room (length text) seven.0;
      }

  pub join-reads-once : (room units : ℕ) (r : Reading) (reference parts : ℕ) → join_answers coding cs o room ≡ ok_parts_joined units r reference parts
      → ReadOnce (is_ucs2 (read_under ShortMessage coding).alphabet) cs o
  join-reads-once room units r reference parts e = (right-read-once ucs2 cs o (join-accepted room units r reference parts e).right).1

-- ---- joining back

module _ (r : Reading) (reference : ℕ) (t : List ℕ) (w : PartsWritable r t) (several : 1 < reading_parts r t) where
  abbrev coding : ℕ
  coding = smallest ShortMessage r

  marked : is_marked (reading_parts r t) ≡ true
  marked = simp (ne_eqb (reading_parts r t) 1 (omega arith))

  same : read_under ShortMessage (smallest ShortMessage r) ≡ r
  same = coding-back r w.reading

  pub parts_join : (cs o : List ℕ) → Reordered (is_ucs2 r.alphabet) (reading_parts r t) (λ i. count_as r reference t (1 + i)) (λ i. octets_as r reference t (1 + i)) cs o
      → JoinsParts (smallest ShortMessage r) cs o r reference (reading_parts r t) t
  parts_join cs o x out room =
      let u : Bool = is_ucs2 r.alphabet in
      let n : ℕ = reading_parts r t in
      let s : List ℕ = reading_content r t in
      let some : 1 ≤ n = omega arith in
      let whole : joined_text u cs o ≡ t =
      ap (shown_as u) (order-content u reference n s marked some cs o x (septets-content u t) (parts-hold u (length s) w.sized)) ∙ content-text u t w.codable in
      let held : joined_text (is_ucs2 (read_under ShortMessage coding).alphabet) cs o ≡ t = ap (λ (q : Reading). joined_text (is_ucs2 q.alphabet) cs o) same ∙ whole in
      let numbers : reference_in (numbers_at (is_ucs2 (read_under ShortMessage coding).alphabet) cs o 0) ≡ reference =
      ap (λ (q : Reading). reference_in (numbers_at (is_ucs2 q.alphabet) cs o 0)) same ∙ ap reference_in (order-numbers u reference n s marked some cs o x 0 some) in
      let a =
      join-accepts coding cs o out
      record {
        holds = subst HoldsText (sym same) w.reading.holds;
        whole = ap (λ (q : Reading). wrong_counts (is_ucs2 q.alphabet) cs o) same ∙ order-right-counts u reference n s marked some cs o x;
        heads = ap (λ (q : Reading). wrong_heads (is_ucs2 q.alphabet) cs o) same ∙ order-right-heads u reference n s marked some cs o x;
        even = ap (λ (q : Reading). odd_parts (is_ucs2 q.alphabet) cs o) same ∙ order-even u reference n s marked some cs o x;
        right = ap (λ (q : Reading). wrong_parts (is_ucs2 q.alphabet) cs o) same ∙ order-right u reference n s marked some cs o x;
        fits = subst (λ (l : List ℕ). length l ≤ length out) (sym held) room;
      } in (
        a.0
            ∙ ap₂ (λ (l : List ℕ) (q : Reading). ok_parts_joined (length l) q (reference_in (numbers_at (is_ucs2 (read_under ShortMessage coding).alphabet) cs o 0)) (length cs)) held same
            ∙ ap₂ (ok_parts_joined (length t) r) numbers x.long,
        a.1 ∙ ap (λ (l : List ℕ). laid l out) held,
      )

  -- end to end in any order
  pub join-any-order : (from to : ℕ → ℕ) → ((i : ℕ) → i < reading_parts r t → from i < reading_parts r t) → ((k : ℕ) → k < reading_parts r t → to k < reading_parts r t)
      → ((i : ℕ) → i < reading_parts r t → to (from i) ≡ i) → ((k : ℕ) → k < reading_parts r t → from (to k) ≡ k)
      → JoinsParts (smallest ShortMessage r) (map (λ i. count_as r reference t (1 + from i)) (numbers_from 0 (reading_parts r t)))
      (pieces_from (λ i. octets_as r reference t (1 + from i)) 0 (reading_parts r t)) r reference (reading_parts r t) t
  join-any-order from to a b c d =
      let u : Bool = is_ucs2 r.alphabet in
      let n : ℕ = reading_parts r t in
      parts_join (map (λ i. count_as r reference t (1 + from i)) (numbers_from 0 n)) (pieces_from (λ i. octets_as r reference t (1 + from i)) 0 n)
      (ends-reordered u n (λ i. count_as r reference t (1 + i)) (λ i. octets_as r reference t (1 + i)) from to
      (λ k. part-asked u reference n (reading_content r t) (1 + k)) a b c d)

  -- parts that write_part sent, each into a buffer of its own
  pub join-back-each : (lent : ℕ → List ℕ) → ((i : ℕ) → i < reading_parts r t → SendsPart r reference t (1 + i) (lent i)) → (cs o : List ℕ)
      → Reordered (is_ucs2 r.alphabet) (reading_parts r t) (λ i. sent_count r reference t (1 + i) (lent i)) (λ i. sent_part r reference t (1 + i) (lent i)) cs o
      → JoinsParts (smallest ShortMessage r) cs o r reference (reading_parts r t) t
  join-back-each lent sends cs o x =
      parts_join cs o
      (by-other-name (is_ucs2 r.alphabet) (reading_parts r t) (λ i. sent_count r reference t (1 + i) (lent i)) (λ i. count_as r reference t (1 + i))
      (λ i. sent_part r reference t (1 + i) (lent i)) (λ i. octets_as r reference t (1 + i)) cs o
      (λ i h. sent-count r reference t (1 + i) (lent i) (sends i h)) (λ i h. sent-octets r reference t (1 + i) (lent i) (sends i h)) x)

module _ (r : Reading) (reference : ℕ) (t out list : List ℕ) (a : SendsParts r reference t out list) (several : 1 < sent_total r reference t out list) where
  more : 1 < reading_parts r t
  more = omega (arith, all-total r reference t out list a)

  -- under the coding octet, and with the total, that was sent
  sent-join : (cs o : List ℕ) → JoinsParts (smallest ShortMessage r) cs o r reference (reading_parts r t) t
      → JoinsParts (sent_all_coding r reference t out list) cs o r reference (sent_total r reference t out list) t
  sent-join cs o j =
      subst (λ (d : ℕ). JoinsParts d cs o r reference (sent_total r reference t out list) t) (sym (all-coding r reference t out list a))
      (subst (λ (n : ℕ). JoinsParts (smallest ShortMessage r) cs o r reference n t) (sym (all-total r reference t out list a)) j)

  pub join-back : (cs o : List ℕ)
      → Reordered (is_ucs2 r.alphabet) (sent_total r reference t out list) (count_in (sent_sizes r reference t out list))
      (piece_in (sent_sizes r reference t out list) (sent_all r reference t out list)) cs o
      → JoinsParts (sent_all_coding r reference t out list) cs o r reference (sent_total r reference t out list) t
  join-back cs o x =
      let z : List ℕ = sent_sizes r reference t out list in
      let m : List ℕ = sent_all r reference t out list in
      let u : Bool = is_ucs2 r.alphabet in
      sent-join cs o
      (parts_join r reference t (all-writable r reference t out list a) more cs o
      (by-other-name u (reading_parts r t) (count_in z) (λ i. count_as r reference t (1 + i)) (piece_in z m) (λ i. octets_as r reference t (1 + i)) cs o
      (λ i h. (all-at r reference t out list a i h).0) (λ i h. (all-at r reference t out list a i h).2)
      (subst (λ (n : ℕ). Reordered u n (count_in z) (piece_in z m) cs o) (all-total r reference t out list a) x)))

  pub join-in-order : JoinsParts (sent_all_coding r reference t out list) (counts_of (sent_sizes r reference t out list)) (sent_all r reference t out list) r reference
      (sent_total r reference t out list) t
  join-in-order =
      sent-join (counts_of (sent_sizes r reference t out list)) (sent_all r reference t out list)
      (parts_join r reference t (all-writable r reference t out list a) more (counts_of (sent_sizes r reference t out list)) (sent_all r reference t out list)
      (subst (λ (z : List ℕ). Reordered (is_ucs2 r.alphabet) (reading_parts r t) (λ i. count_as r reference t (1 + i)) (λ i. octets_as r reference t (1 + i)) (counts_of z) (sent_all r reference t out list))
      (sym (all-sizes r reference t out list a))
      (subst (λ (m : List ℕ). Reordered (is_ucs2 r.alphabet) (reading_parts r t) (λ i. count_as r reference t (1 + i)) (λ i. octets_as r reference t (1 + i)) (counts_of (sizes_of_all r reference t)) m)
      (sym (all-octets r reference t out list a))
      (in_order (is_ucs2 r.alphabet) reference (reading_parts r t) (reading_content r t)))))

pub join-unique : (coding : ℕ) (cs o : List ℕ) (r s : Reading) (i j p q : ℕ) (t u : List ℕ) → JoinsParts coding cs o r i p t → JoinsParts coding cs o s j q u
    → (r ≡ s) × (i ≡ j) × (p ≡ q) × (t ≡ u)
join-unique coding cs o r s i j p q t u x y =
    let out : List ℕ = replicate (length t + length u) 0 in
    let long : length out ≡ length t + length u = length-replicate (length t + length u) 0 in
    let m = x out (omega arith) in
    let n = y out (omega arith) in
    let same = ok-inside {A = PartsJoined} {E = Refusal} (sym m.0 ∙ n.0) in
    let size : length t ≡ length u = ap (λ (z : PartsJoined). z.units) same in (
      ap (λ (z : PartsJoined). z.reading) same,
      ap (λ (z : PartsJoined). z.reference) same,
      ap (λ (z : PartsJoined). z.parts) same,
      sym (take-laid t out) ∙ ap₂ take size (sym m.1 ∙ n.1) ∙ take-laid u out,
    )
