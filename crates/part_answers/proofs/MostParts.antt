-- No answer tells of more than 255 parts, and none of a count over 160, so that both cross to C in 32 bits: an accepted text takes no more, a header holds the
-- total in an octet, and a part is no longer than a short message.
-- Assumes nothing.
--   counted-within, written-within, parts_within, joined-within: the parts that count_parts, write_part, write_parts and join_parts tell of
--   count-within         the count that write_part tells of
use mathlib.Core.Path.{◌≡◌, refl, sym, subst}
use mathlib.Core.Bool.{Bool, true, false, cond}
use mathlib.Core.List.{List, [], ◌∷◌, ◌++◌}
use Prim.Native.Nat.{ℕ, zero, suc, ◌+◌, ◌≤◌, ◌<◌}
use native.Mathlib.Omega.{arith}
use lib.Dec.{ltb, eqb}
use lib.ListN.{length, get_or, drop}
use borrow.Author.Tests.{ltb-false, eqb-true}
use Rattle.words.specs.declared.Service.TheVariants.{ShortMessage}
use Rattle.words.specs.declared.Refusal.TheVariants.{WrongLength, WrongHeader, WrongPages, Unlisted, TooLong}
use Rattle.words.specs.Judging.{Verdict, refused, accepted, verdict, settle}
use Rattle.words.proofs.Judging.{accepted-rule, accepted-parts}
use Rattle.lists.proofs.Below.{Below, below-drop, below-take}
use Rattle.lists.proofs.Tests.{and_right, or_right}
use Rattle.filling.proofs.Parts.{part-length}
use Rattle.filling.proofs.Placing.{right-one-to-one}
use Rattle.coding.specs.declared.Reading.{Reading}
use Rattle.coding.specs.OctetRead.{read_under}
use Rattle.coding.specs.Holding.{is_ucs2, text_rules}
use Rattle.coding.specs.LanguageLetters.{coding_rules}
use Rattle.letters.specs.Writing.{first_unlisted}
use Rattle.letters.specs.Sized.{not_codable}
use Rattle.stream.proofs.UnitOctets.{unit-octets-length}
use Rattle.headed.specs.Header.{Element, Elements, broken, whole, elements_octets, elements_of, concatenation, numbers_of, last_numbers, header_body, header_numbers, numbers_in, septets_over}
use Rattle.headed.proofs.Theorems.{elements-joined}
use Rattle.parted.specs.declared.Plan.{Plan}
use Rattle.parted.specs.Parts.{most_parts, mark_size, room_behind, part_header, part_content, headed_count, part_count}
use Rattle.parted.specs.Written.{size_rules, count_rules, reading_parts, count_answers, part_rules, part_answers, all_rules, all_answers}
use Rattle.parted.specs.Joined.{octets_asked, start_at, part_in, numbers_at, total_in, of_one_message, number_at, total_at, alike, wrong_counts, wrong_heads, odd_parts, wrong_parts, parts_rules, join_rules, join_answers}
use Rattle.parted.specs.Reports.{counted_parts, part_travels, part_parts, parts_parts, join_parts}
use Rattle.parted.proofs.Parts.{header-long}
use Rattle.parted.proofs.Plans.{room-septets, room-units}
use Rattle.std.specs.Prelude.{Option, Ok, Err, Some, None}
use Rattle.headed.specs.declared.Numbers.{Numbers}
use Rattle.parted.specs.Successes.{ok_parts_written}
use Rattle.parted.specs.Successes.{ok_part_written}
use Rattle.parted.specs.Successes.{ok_parts_joined}

-- ---- an answer that is given only where the verdict is accepted

counted-settled : (v : Verdict) (n : ℕ) → (v ≡ accepted → n ≤ 255) → counted_parts (settle v Err (Ok n)) ≤ 255
counted-settled (refused q) n h = omega arith
counted-settled accepted n h = h refl

written-settled : (v : Verdict) (octets count : ℕ) (marked : Bool) (coding n : ℕ) → (v ≡ accepted → n ≤ 255)
    → part_parts (settle v Err (ok_part_written octets count marked coding n)) ≤ 255
written-settled (refused q) octets count marked coding n h = omega arith
written-settled accepted octets count marked coding n h = h refl

count-settled : (v : Verdict) (octets count : ℕ) (marked : Bool) (coding n : ℕ) → count ≤ 160
    → part_travels (settle v Err (ok_part_written octets count marked coding n)) ≤ 160
count-settled (refused q) octets count marked coding n h = omega arith
count-settled accepted octets count marked coding n h = h

parts-settled : (v : Verdict) (octets : ℕ) (marked : Bool) (coding n : ℕ) → (v ≡ accepted → n ≤ 255)
    → parts_parts (settle v Err (ok_parts_written octets marked coding n)) ≤ 255
parts-settled (refused q) octets marked coding n h = omega arith
parts-settled accepted octets marked coding n h = h refl

joined-settled : (v : Verdict) (units : ℕ) (r : Reading) (reference n : ℕ) → (v ≡ accepted → n ≤ 255)
    → join_parts (settle v Err (ok_parts_joined units r reference n)) ≤ 255
joined-settled (refused q) units r reference n h = omega arith
joined-settled accepted units r reference n h = h refl

-- ---- counting and writing

sized : (r : Reading) (us : List ℕ) → verdict (count_rules r us) ≡ accepted → reading_parts r us ≤ 255
unfolding count_rules size_rules
sized r us e =
    let size = (accepted-parts (text_rules ShortMessage r) _ (accepted-parts (coding_rules ShortMessage r) _ e).1).1 in
    let two = (accepted-rule (not_codable (is_ucs2 r.alphabet) us) (Unlisted (first_unlisted us)) _ size).1 in
    ltb-false _ _ (accepted-rule (ltb most_parts (reading_parts r us)) TooLong _ two).0

pub counted-within : (r : Reading) (us : List ℕ) → counted_parts (count_answers r us) ≤ 255
unfolding count_answers
counted-within r us = counted-settled (verdict (count_rules r us)) _ (sized r us)

pub written-within : (r : Reading) (reference : ℕ) (us : List ℕ) (k room : ℕ) → part_parts (part_answers r reference us k room) ≤ 255
unfolding part_answers part_rules
written-within r reference us k room =
    written-settled (verdict (part_rules r reference us k room)) _ _ _ _ _ (λ e. sized r us (accepted-parts (count_rules r us) _ e).0)

pub parts_within : (r : Reading) (reference : ℕ) (us : List ℕ) (room list : ℕ) → parts_parts (all_answers r reference us room list) ≤ 255
unfolding all_answers all_rules
parts_within r reference us room list =
    parts-settled (verdict (all_rules r reference us room list)) _ _ _ _ (λ e. sized r us (accepted-parts (count_rules r us) _ e).0)

-- what a header leaves is the rest of a short message
count_most : (ucs2 : Bool) (reference total : ℕ) (s : List ℕ) (k : ℕ) → part_count ucs2 reference total s k ≤ 160
unfolding part_count headed_count part_content
count_most ucs2 reference total s k = go ucs2
  where
    plan : Bool → Plan
    plan b = record { ucs2 = b; plain = true; total = total; content = 0 }

    long : length (part_header reference total k) ≡ mark_size total
    long = header-long reference total k

    go : (b : Bool) → headed_count b (part_header reference total k) (part_content b total s k) ≤ 160
    go true =
        omega (arith, long, room-units (plan true) refl, unit-octets-length (part_content true total s k), part-length (room_behind true (mark_size total)) s k)
    go false =
        subst (λ (h : ℕ). septets_over h + length (part_content false total s k) ≤ 160) (sym long)
        (omega (arith, room-septets (plan false) refl, part-length (room_behind false (mark_size total)) s k))

pub count-within : (r : Reading) (reference : ℕ) (us : List ℕ) (k room : ℕ) → part_travels (part_answers r reference us k room) ≤ 160
unfolding part_answers
count-within r reference us k room =
    count-settled (verdict (part_rules r reference us k room)) _ _ _ _ _ (count_most (is_ucs2 r.alphabet) reference (reading_parts r us) _ k)

-- ---- joining

below-first : (x : ℕ) (s : List ℕ) → x < 256 → Below 256 s → Below 256 (x ∷ s)
below-first x s h b zero = h
below-first x s h b (suc k) = b k

below_parts : (s t : List ℕ) → Below 256 (s ++ t) → (Below 256 s) × (Below 256 t)
below_parts [] t h = (λ k. omega arith, h)
below_parts (x ∷ s) t h =
    let rest = below_parts s t (λ k. h (suc k)) in
    (below-first x s (h 0) rest.0, rest.1)

total-last : (c : Option Numbers) (es : List Element) → total_in c ≤ 255 → Below 256 (elements_octets es) → total_in (last_numbers c es) ≤ 255
unfolding last_numbers elements_octets
total-last c [] h b = h
total-last c (e ∷ es) h b =
    let parts = below_parts e.octets (elements_octets es) (λ k. b (suc (suc k))) in
    total-last (cond (eqb e.identifier concatenation) (Some (numbers_of e)) c) es (go (eqb e.identifier concatenation) parts.0) parts.1
  where
    go : (t : Bool) → Below 256 e.octets → total_in (cond t (Some (numbers_of e)) c) ≤ 255
    go true s = omega (arith, s 1)
    go false s = h

total-most : (o : List ℕ) → Below 256 o → total_in (header_numbers o) ≤ 255
unfolding header_numbers header_body
total-most o b = go (elements_of (header_body o)) refl
  where
    body : Below 256 (header_body o)
    body = below-take 256 _ (below-drop 256 o b 1) (get_or o 0 0)

    go : (x : Elements) → elements_of (header_body o) ≡ x → total_in (numbers_in x) ≤ 255
    go broken e = omega arith
    go (whole es) e = total-last None es (omega arith) (subst (Below 256) (sym (elements-joined (header_body o) es e)) body)

one-total : (c d : Option Numbers) → of_one_message c d ≡ true → total_in c ≡ total_in d
one-total (Some m) (Some n) e = eqb-true m.total n.total (and_right (eqb m.reference n.reference) (eqb m.total n.total) e)
one-total (Some m) None e = let z : ◌≡◌ {A = ℕ} 0 1 = cc in absurd (omega arith)
one-total None d e = let z : ◌≡◌ {A = ℕ} 0 1 = cc in absurd (omega arith)

part-below : (ucs2 : Bool) (cs o : List ℕ) → Below 256 o → (i : ℕ) → Below 256 (part_in ucs2 cs o i)
unfolding part_in
part-below ucs2 cs o b i =
    below-take 256 (drop (start_at ucs2 cs i) o) (below-drop 256 o b (start_at ucs2 cs i)) (octets_asked ucs2 (get_or cs i 0))

as_many : (ucs2 : Bool) (cs o : List ℕ) → Below 256 o → wrong_parts ucs2 cs o ≡ false → length cs ≤ 255
unfolding wrong_parts numbers_at
as_many ucs2 cs o b e =
    let one = right-one-to-one (number_at ucs2 cs o) (total_at ucs2 cs o) (alike ucs2 cs o) (length cs) (λ i. one-total (numbers_at ucs2 cs o 0) (numbers_at ucs2 cs o i)) (or_right (eqb (length cs) 0) _ e) in
    omega (arith, one.count, total-most (part_in ucs2 cs o 0) (part-below ucs2 cs o b 0))

pub joined-within : (coding : ℕ) (cs o : List ℕ) (room : ℕ) → Below 256 o → join_parts (join_answers coding cs o room) ≤ 255
unfolding join_answers join_rules parts_rules
joined-within coding cs o room b =
    let r : Reading = read_under ShortMessage coding in
    let ucs2 : Bool = is_ucs2 r.alphabet in
    joined-settled (verdict (join_rules r cs o room)) _ _ _ _ (λ e.
    let one = (accepted-rule (wrong_counts ucs2 cs o) WrongLength _ (accepted-parts (text_rules ShortMessage r) _ e).1).1 in
    let two = (accepted-rule (wrong_heads ucs2 cs o) WrongHeader _ one).1 in
    let three = (accepted-rule (odd_parts ucs2 cs o) WrongLength _ two).1 in
    as_many ucs2 cs o b (accepted-rule (wrong_parts ucs2 cs o) WrongPages _ three).0)
