-- The arrays that the code fills are the pages of the definitions: each is as long as what is laid over it and behind it. Assumes nothing.
--   septets-laid  the letters, a CR and the text's septets over a page of CR
--   units-laid    the letters' octets, and those of the text over a page of 000D; lay-behind: one more of them
--   take-few      a front is no longer than it is asked to be
--   kept-few, kept-text  how many septets are left without closing CRs, and which
--   text-units    the units behind the letters
use mathlib.Core.Path.{◌≡◌, refl, sym, ap, ap₂, ◌∙◌}
use mathlib.Core.Bool.{true}
use mathlib.Core.List.{List, [], ◌∷◌, ◌++◌, append-nil, append_assoc}
use Prim.Native.Nat.{ℕ, zero, suc, ◌+◌, ◌-◌, ◌/◌, ◌%◌, ◌≤◌, ◌<◌}
use native.Mathlib.Omega.{arith}
use borrow.Author.Tests.{le-ltb}
use lib.ListN.{length, get_or, take, drop, set, replicate, length-append, length-drop}
use lib.Seq.{take_all, take_at, length-take-le, get_or-take, drop-append-le, drop-set-lt}
use Rattle.words.specs.declared.Service.TheVariants.{Broadcast}
use Rattle.lists.specs.Lists.{laid}
use Rattle.lists.specs.Closing.{without_closing}
use Rattle.lists.proofs.Laid.{Laying, lay-one, lay-rest, lay-moved, laid-length, laid-full}
use Rattle.lists.proofs.Closing.{closing-front, closing-length}
use Rattle.fields.specs.declared.Letters.{Letters}
use Rattle.letters.specs.Writing.{septets_of, listed_front, encoded_leaves}
use Rattle.stream.specs.Stream.{packed, unpacked}
use Rattle.stream.specs.Pages.{page}
use Rattle.stream.specs.ArrayCalls.{kept_count}
use Rattle.stream.specs.Ucs2.{unit_octets, unit_page, octet_units}
use Rattle.stream.proofs.Stream.{unpacked-length}
use Rattle.stream.proofs.UnitOctets.{unit-octets-length, octet-units-length}
use Rattle.lettered.specs.LetteredPage.{lettered_septets, lettered_units, lettered_octets}
use Rattle.lettered.proofs.Theorems.{lettered-length}

pub septets-laid : (l : Letters) (t left : List ℕ) → listed_front t ≡ t → length (septets_of t) ≤ 90 → left ≡ encoded_leaves t (replicate 90 13)
    → l.first ∷ l.second ∷ 13 ∷ left ++ [] ≡ page (lettered_septets l (septets_of t))
unfolding encoded_leaves page laid
septets-laid l t left whole few e =
    ap (λ (s : List ℕ). l.first ∷ l.second ∷ 13 ∷ s)
    (append-nil left ∙ e ∙ ap (λ (s : List ℕ). laid s (replicate 90 13)) (take_all 90 (septets_of (listed_front t)) (omega (arith, ap (λ (s : List ℕ). length (septets_of s)) whole)) ∙ ap septets_of whole))

-- the octets of two lists of units are those of both
octets-joined : (us vs : List ℕ) → unit_octets (us ++ vs) ≡ unit_octets us ++ unit_octets vs
unfolding unit_octets
octets-joined [] vs = refl
octets-joined (u ∷ us) vs = ap (λ (o : List ℕ). u / 256 ∷ u % 256 ∷ o) (octets-joined us vs)

-- a page of 41 units is that of 40 and one more that fills it up
page-over : (t : List ℕ) → length t ≤ 40 → unit_page t ≡ lettered_units t ++ 13 ∷ []
unfolding unit_page lettered_units laid
page-over t few = ap (λ (s : List ℕ). t ++ s) (drop-append-le (length t) (replicate 40 13) (13 ∷ []) few) ∙ sym (append_assoc t (drop (length t) (replicate 40 13)) (13 ∷ []))

units-front : (t : List ℕ) → length t ≤ 40 → take 80 (unit_octets (unit_page (take 41 t))) ≡ unit_octets (lettered_units t)
unfolding lettered_units
units-front t few =
    let size : length (lettered_units t) ≡ 40 = laid-length t (replicate 40 13) few in
    ap (λ (s : List ℕ). take 80 (unit_octets (unit_page s))) (take_all 41 t (omega arith))
    ∙ ap (λ (s : List ℕ). take 80 (unit_octets s)) (page-over t few)
    ∙ ap (take 80) (octets-joined (lettered_units t) (13 ∷ []))
    ∙ take_at (unit_octets (lettered_units t)) (unit_octets (13 ∷ [])) 80 (omega (arith, unit-octets-length (lettered_units t), size))

-- the letters' octets are stored in front
letters-stored : (start : List ℕ) (a b : ℕ) → 82 ≤ length start → take 2 (set (set start 0 a) 1 b) ≡ a ∷ b ∷ []
letters-stored [] a b room = absurd (omega arith)
letters-stored (x ∷ []) a b room = absurd (omega arith)
letters-stored (x ∷ y ∷ start) a b room = refl

pub units-laid : (l : Letters) (t start : List ℕ) (a b : ℕ) → length t ≤ 40 → 82 ≤ length start → a ∷ b ∷ [] ≡ packed (l.first ∷ l.second ∷ []) → (o : List ℕ) → o ≡ unit_octets (unit_page (take 41 t))
    → laid (take 2 (set (set start 0 a) 1 b) ++ take 80 o) (set (set start 0 a) 1 b) ≡ laid (lettered_octets true l t) start
unfolding lettered_octets laid
units-laid l t start a b few room e o q =
    let whole : take 2 (set (set start 0 a) 1 b) ++ take 80 o ≡ lettered_octets true l t =
    ap₂ (λ (x y : List ℕ). x ++ y) (letters-stored start a b room ∙ e) (ap (take 80) q ∙ units-front t few) in
    let size : length (lettered_octets true l t) ≡ 82 = lettered-length true l t (le-ltb 40 (length t) few) in
    ap (λ (w : List ℕ). w ++ drop (length w) (set (set start 0 a) 1 b)) whole
    ∙ ap (λ (s : List ℕ). lettered_octets true l t ++ s)
    (drop-set-lt (length (lettered_octets true l t)) (set start 0 a) 1 b (omega arith) ∙ drop-set-lt (length (lettered_octets true l t)) start 0 a (omega arith))

-- the next octet of the text is stored behind the letters'
pub lay-behind : (start o out : List ℕ) (i : ℕ) → 82 ≤ length start → length o ≡ 82 → i < 80 → Laying start (take 2 start ++ take 80 o) (drop i (take 80 o)) (2 + i) out
    → Laying start (take 2 start ++ take 80 o) (drop (i + 1) (take 80 o)) (2 + (i + 1)) (set out (2 + i) (get_or o i 0))
lay-behind start o out i room size h l =
    let text : length (take 80 o) ≡ 80 = length-take-le 80 o (omega arith) in
    let front : length (take 2 start) ≡ 2 = length-take-le 2 start (omega arith) in
    let fits : length (take 2 start ++ take 80 o) ≤ length start = omega (arith, length-append (take 2 start) (take 80 o)) in
    let next : 2 + (i + 1) ≡ 2 + i + 1 = omega arith in
    let stored = lay-one (lay-rest (take 80 o) i l (omega arith)) fits in
    lay-moved stored next (ap (set out (2 + i)) (sym (get_or-take 80 o i 0 h)))

pub take-few : (m : ℕ) (s : List ℕ) → length (take m s) ≤ m
take-few zero s = omega arith
take-few (suc m) [] = omega arith
take-few (suc m) (x ∷ s) = omega (arith, take-few m s)

pub kept-few : (r m : ℕ) (s : List ℕ) → r ≡ kept_count Broadcast s → length s ≤ m → r ≤ m
kept-few r m s e h = omega (arith, closing-length 13 s)

pub kept-text : (o a : List ℕ) (n : ℕ) → a ≡ unpacked 93 o → n ≡ length (without_closing 13 (take 90 (drop 3 a))) → take (3 + n - 3) (drop 3 a) ≡ without_closing 13 (drop 3 (unpacked 93 o))
kept-text o a n e k =
    let rest : List ℕ = drop 3 a in
    let all : take 90 rest ≡ rest = take_all 90 rest (omega (arith, length-drop 3 a, ap length e, unpacked-length 93 o)) in
    let many : 3 + n - 3 ≡ length (without_closing 13 rest) = omega (arith, k, ap (λ (s : List ℕ). length (without_closing 13 s)) all) in
    ap (λ (m : ℕ). take m rest) many ∙ closing-front 13 rest ∙ ap (λ (s : List ℕ). without_closing 13 (drop 3 s)) e

pub text-units : (o z : List ℕ) → length o ≡ 82 → length z ≡ 40 → laid (take (length z) (octet_units (take (length o - 2) (drop 2 o)))) z ≡ octet_units (drop 2 o)
text-units o z size room =
    let rest : List ℕ = drop 2 o in
    let all : take (length o - 2) rest ≡ rest = take_all (length o - 2) rest (omega (arith, length-drop 2 o)) in
    let many : length (octet_units rest) ≡ 40 = omega (arith, octet-units-length rest, length-drop 2 o) in
    ap (λ (s : List ℕ). laid (take (length z) (octet_units s)) z) all
    ∙ ap (λ (s : List ℕ). laid s z) (take_all (length z) (octet_units rest) (omega arith))
    ∙ laid-full (octet_units rest) z (omega arith)
