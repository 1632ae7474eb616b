-- All septets of the part stand in the array, with an escape in front of its text: the run begins there or behind it, and ends before an escape that is
-- left for the next. Assumes nothing.
use Prim.Native.Nat.{ℕ, ◌+◌, ◌-◌, ◌≤◌}
use mathlib.Core.Bool.{Bool, false, cond}
use mathlib.Core.List.{List}
use mathlib.Core.Path.{◌≡◌, ap, ◌∙◌}
use native.Mathlib.Omega.{arith}
use lib.ListN.{length, get_or, take, drop, set, length-set}
use Rattle.words.specs.declared.Service.TheVariants.{ShortMessage}
use Rattle.stream.specs.Stream.{octets_for}
use Rattle.stream.specs.ArrayCalls.{all_leaves}
use Rattle.parted.specs.Joined.{start_at, part_in, place_of}
use Rattle.parted.specs.InnerJoined.{Sorted, over_in, run_behind, numbered_content}
use Rattle.parted.proofs.OrderSteps.{part-within, part-is}
use Rattle.parted.proofs.JoinSteps.{place-there, septets-over, over-some, septets-most, run-array, run-laid, run-below, run-ready, sorted-as, told-as}
use borrow.Author.Rules.{rules}
use Rattle.part_joining.proofs.Ordered.run_at.Goals as goal

-- what is known of the part
module _ (cs o places starts : List ℕ) (s : Sorted false cs o places starts) (k : ℕ) (some : 1 ≤ k) (most : k ≤ length cs) (start count over : ℕ)
    (begins : start ≡ start_at false cs (place_of false cs o k)) (counts : count ≡ get_or cs (place_of false cs o k) 0) (takes : over ≡ over_in false (part_in false cs o (place_of false cs o k))) where
  sizes : (2 ≤ over) × (over ≤ count) × (count ≤ 160)
  sizes = (
    omega (arith, takes, over-some cs o places starts s k some most),
    omega (arith, takes, counts, septets-over cs o places starts s k some most),
    omega (arith, counts, septets-most cs o places starts s k some most),
  )

  module _ (n : ℕ) (asks : n ≡ octets_for count) where
    within : start + n ≤ length o
    within = omega (arith, part-within false cs o s.fits _ (place-there false cs o places starts s k some most), begins, asks ∙ ap octets_for counts)

    -- its octets are what is lent
    slice_is : take (start + n - start) (drop start o) ≡ part_in false cs o (place_of false cs o k)
    slice_is = part-is false cs o _ _ _ begins (asks ∙ ap octets_for counts)

    module _ (array left : List ℕ) (room : length array ≡ 184) (leaves : left ≡ all_leaves ShortMessage (take (start + n - start) (drop start o)) count array) where
      array-is : length left ≡ 184
      array-is = run-array cs o places starts s k some most count over _ left counts takes slice_is array room leaves

      -- the run, behind an escape or not
      run_is : (half : Bool) (begin : ℕ) → begin ≡ over - cond half 1 0 → take (count - begin) (drop begin (set left (over - 1) 0x1b)) ≡ run_behind half (numbered_content false cs o k)
      run_is half begin e =
          ap (λ (m : ℕ). take (count - m) (drop m (set left (over - 1) 0x1b))) e
          ∙ run-laid cs o places starts s k some most count over _ left counts takes slice_is array room leaves half

pub overflow_add-end : goal.overflow_add-end
overflow_add-end c = let p = c.args.self.now in
    let s = sorted-as p.parts.ucs2 false c.requires.0 p.parts.counts.now p.parts.octets.now p.sorted in
    let d = told-as p.parts.ucs2 false c.requires.0 p.parts.counts.now p.parts.octets.now c.args.k _ _ _ c.part_at-part.ensures.start_value c.part_at-part.ensures.over_value.0 in
    let w = within p.parts.counts.now p.parts.octets.now p.tables.now.places p.tables.now.starts s c.args.k c.requires.1 c.requires.2 _ _ _ d.0 d.1 d.2 _ c.octets_for.ensures.answer in
    search rules

pub slice_bounds-unpack_all-end : goal.slice_bounds-unpack_all-end
slice_bounds-unpack_all-end c = let p = c.args.self.now in
    let s = sorted-as p.parts.ucs2 false c.requires.0 p.parts.counts.now p.parts.octets.now p.sorted in
    let d = told-as p.parts.ucs2 false c.requires.0 p.parts.counts.now p.parts.octets.now c.args.k _ _ _ c.part_at-part.ensures.start_value c.part_at-part.ensures.over_value.0 in
    within p.parts.counts.now p.parts.octets.now p.tables.now.places p.tables.now.starts s c.args.k c.requires.1 c.requires.2 _ _ _ d.0 d.1 d.2 _ c.octets_for.ensures.answer

pub overflow_sub-before : goal.overflow_sub-before
overflow_sub-before c = let p = c.args.self.now in
    let s = sorted-as p.parts.ucs2 false c.requires.0 p.parts.counts.now p.parts.octets.now p.sorted in
    let d = told-as p.parts.ucs2 false c.requires.0 p.parts.counts.now p.parts.octets.now c.args.k _ _ _ c.part_at-part.ensures.start_value c.part_at-part.ensures.over_value.0 in
    omega (arith, (sizes p.parts.counts.now p.parts.octets.now p.tables.now.places p.tables.now.starts s c.args.k c.requires.1 c.requires.2 _ _ _ d.0 d.1 d.2).0)

pub bounds-septets-before : goal.bounds-septets-before
bounds-septets-before c = let p = c.args.self.now in
    let s = sorted-as p.parts.ucs2 false c.requires.0 p.parts.counts.now p.parts.octets.now p.sorted in
    let d = told-as p.parts.ucs2 false c.requires.0 p.parts.counts.now p.parts.octets.now c.args.k _ _ _ c.part_at-part.ensures.start_value c.part_at-part.ensures.over_value.0 in
    let size = sizes p.parts.counts.now p.parts.octets.now p.tables.now.places p.tables.now.starts s c.args.k c.requires.1 c.requires.2 _ _ _ d.0 d.1 d.2 in
    let long =
    array-is p.parts.counts.now p.parts.octets.now p.tables.now.places p.tables.now.starts s c.args.k c.requires.1 c.requires.2 _ _ _ d.0 d.1 d.2 _ c.octets_for.ensures.answer
    c.args.septets.now c.unpack_all.new.out c.requires.3 c.unpack_all.ensures.buffer in
    omega (arith, size.1, size.2, long)

pub without-begin-requires : goal.without-begin-requires
without-begin-requires c = let p = c.args.self.now in
    let s = sorted-as p.parts.ucs2 false c.requires.0 p.parts.counts.now p.parts.octets.now p.sorted in
    let d = told-as p.parts.ucs2 false c.requires.0 p.parts.counts.now p.parts.octets.now c.args.k _ _ _ c.part_at-part.ensures.start_value c.part_at-part.ensures.over_value.0 in
    omega (arith, (sizes p.parts.counts.now p.parts.octets.now p.tables.now.places p.tables.now.starts s c.args.k c.requires.1 c.requires.2 _ _ _ d.0 d.1 d.2).0)

pub slice_bounds-stays_open-count : goal.slice_bounds-stays_open-count
slice_bounds-stays_open-count c = let p = c.args.self.now in
    let s = sorted-as p.parts.ucs2 false c.requires.0 p.parts.counts.now p.parts.octets.now p.sorted in
    let d = told-as p.parts.ucs2 false c.requires.0 p.parts.counts.now p.parts.octets.now c.args.k _ _ _ c.part_at-part.ensures.start_value c.part_at-part.ensures.over_value.0 in
    omega (arith, c.without-begin.ensures, (sizes p.parts.counts.now p.parts.octets.now p.tables.now.places p.tables.now.starts s c.args.k c.requires.1 c.requires.2 _ _ _ d.0 d.1 d.2).1)

pub slice_bounds-stays_open-start : goal.slice_bounds-stays_open-start
slice_bounds-stays_open-start c = let p = c.args.self.now in
    let s = sorted-as p.parts.ucs2 false c.requires.0 p.parts.counts.now p.parts.octets.now p.sorted in
    let d = told-as p.parts.ucs2 false c.requires.0 p.parts.counts.now p.parts.octets.now c.args.k _ _ _ c.part_at-part.ensures.start_value c.part_at-part.ensures.over_value.0 in
    omega (arith, c.without-begin.ensures, (sizes p.parts.counts.now p.parts.octets.now p.tables.now.places p.tables.now.starts s c.args.k c.requires.1 c.requires.2 _ _ _ d.0 d.1 d.2).1)

pub slice_bounds-stays_open-end : goal.slice_bounds-stays_open-end
slice_bounds-stays_open-end c = let p = c.args.self.now in
    let s = sorted-as p.parts.ucs2 false c.requires.0 p.parts.counts.now p.parts.octets.now p.sorted in
    let d = told-as p.parts.ucs2 false c.requires.0 p.parts.counts.now p.parts.octets.now c.args.k _ _ _ c.part_at-part.ensures.start_value c.part_at-part.ensures.over_value.0 in
    let size = sizes p.parts.counts.now p.parts.octets.now p.tables.now.places p.tables.now.starts s c.args.k c.requires.1 c.requires.2 _ _ _ d.0 d.1 d.2 in
    let long =
    array-is p.parts.counts.now p.parts.octets.now p.tables.now.places p.tables.now.starts s c.args.k c.requires.1 c.requires.2 _ _ _ d.0 d.1 d.2 _ c.octets_for.ensures.answer
    c.args.septets.now c.unpack_all.new.out c.requires.3 c.unpack_all.ensures.buffer in
    omega (arith, long, length-set c.unpack_all.new.out (c.part_at-part.result.over - 1) 0x1b, size.2)

pub without-requires : goal.without-requires
without-requires c = let p = c.args.self.now in
    let s = sorted-as p.parts.ucs2 false c.requires.0 p.parts.counts.now p.parts.octets.now p.sorted in
    let d = told-as p.parts.ucs2 false c.requires.0 p.parts.counts.now p.parts.octets.now c.args.k _ _ _ c.part_at-part.ensures.start_value c.part_at-part.ensures.over_value.0 in
    let size = sizes p.parts.counts.now p.parts.octets.now p.tables.now.places p.tables.now.starts s c.args.k c.requires.1 c.requires.2 _ _ _ d.0 d.1 d.2 in
    omega (arith, size.0, size.1)

pub returns : goal.returns
returns c = let p = c.args.self.now in
    let s = sorted-as p.parts.ucs2 false c.requires.0 p.parts.counts.now p.parts.octets.now p.sorted in
    let d = told-as p.parts.ucs2 false c.requires.0 p.parts.counts.now p.parts.octets.now c.args.k _ _ _ c.part_at-part.ensures.start_value c.part_at-part.ensures.over_value.0 in
    let array : List ℕ = c.unpack_all.new.out in
    let over : ℕ = c.part_at-part.result.over in
    let size = sizes p.parts.counts.now p.parts.octets.now p.tables.now.places p.tables.now.starts s c.args.k c.requires.1 c.requires.2 _ _ _ d.0 d.1 d.2 in
    let long =
    array-is p.parts.counts.now p.parts.octets.now p.tables.now.places p.tables.now.starts s c.args.k c.requires.1 c.requires.2 _ _ _ d.0 d.1 d.2 _ c.octets_for.ensures.answer c.args.septets.now
    array c.requires.3 c.unpack_all.ensures.buffer in
    let run =
    run_is p.parts.counts.now p.parts.octets.now p.tables.now.places p.tables.now.starts s c.args.k c.requires.1 c.requires.2 _ _ _ d.0 d.1 d.2 _ c.octets_for.ensures.answer c.args.septets.now array
    c.requires.3 c.unpack_all.ensures.buffer c.args.half _ c.without-begin.ensures in
    let r =
    run-ready c.part_at-part.result.count c.without-begin.result c.without.result (set array (over - 1) 0x1b) _ _ c.stays_open-left.result (omega (arith, c.without-begin.ensures, size.1)) size.2
    (length-set array (over - 1) 0x1b ∙ long) run (run-below p.parts.counts.now p.parts.octets.now p.tables.now.places p.tables.now.starts s c.args.k c.requires.1 c.requires.2 c.args.half) c.stays_open-left.ensures c.without.ensures in
    record { ready = r.0; end_after = r.1; half_value = r.2 }
