-- The tables say where the part stands, and its length octet how much of the count the header takes. Assumes nothing.
use Prim.Native.Nat.{ℕ, ◌-◌, ◌≤◌, ◌<◌}
use mathlib.Core.Bool.{Bool}
use mathlib.Core.List.{List}
use native.Mathlib.Omega.{arith}
use lib.ListN.{length, get_or}
use Rattle.parted.specs.InnerJoined.{Sorted}
use Rattle.parted.proofs.JoinSteps.{place-there, start_small, head-within, place-read, start-read, count-read, units-read, septets-read}
use Rattle.part_joining.proofs.Ordered.part_at.Goals as goal

-- the part stands among the counts, and begins within the octets
module _ (ucs2 : Bool) (cs o places starts : List ℕ) (s : Sorted ucs2 cs o places starts) (k : ℕ) (some : 1 ≤ k) (most : k ≤ length cs) where
  there : get_or places k 0 - 1 < length cs
  there = omega (arith, place-read ucs2 cs o places starts s k some most, place-there ucs2 cs o places starts s k some most)

  begins : (get_or starts (get_or places k 0 - 1) 0 ≤ 35700) × (get_or starts (get_or places k 0 - 1) 0 < length o)
  begins =
      let e = start-read ucs2 cs o places starts s k some most in (
        omega (arith, e, start_small ucs2 cs o places starts s k some most),
        omega (arith, e, head-within ucs2 cs o places starts s k some most),
      )

pub bounds-self-place-2 : goal.bounds-self-place-2
bounds-self-place-2 c = let p = c.args.self.now in
    there p.parts.ucs2 p.parts.counts.now p.parts.octets.now p.tables.now.places p.tables.now.starts p.sorted c.args.k c.requires.0 c.requires.1

pub bounds-self-start : goal.bounds-self-start
bounds-self-start c = let p = c.args.self.now in
    (begins p.parts.ucs2 p.parts.counts.now p.parts.octets.now p.tables.now.places p.tables.now.starts p.sorted c.args.k c.requires.0 c.requires.1).1

pub overflow_sub-result : goal.overflow_sub-result
overflow_sub-result c = let p = c.args.self.now in
    (units-read p.parts.ucs2 p.parts.counts.now p.parts.octets.now p.tables.now.places p.tables.now.starts p.sorted c.args.k c.requires.0 c.requires.1 c.if-self.true).2

pub returns-then-self : goal.returns-then-self
returns-then-self c = let p = c.args.self.now in
    let u = units-read p.parts.ucs2 p.parts.counts.now p.parts.octets.now p.tables.now.places p.tables.now.starts p.sorted c.args.k c.requires.0 c.requires.1 c.if-self.true in
    record {
      start_value = (
        start-read p.parts.ucs2 p.parts.counts.now p.parts.octets.now p.tables.now.places p.tables.now.starts p.sorted c.args.k c.requires.0 c.requires.1,
        count-read p.parts.ucs2 p.parts.counts.now p.parts.octets.now p.tables.now.places p.tables.now.starts p.sorted c.args.k c.requires.0 c.requires.1,
      );
      over_value = (u.0, u.1);
    }

pub overflow_sub-result-2 : goal.overflow_sub-result-2
overflow_sub-result-2 c = let p = c.args.self.now in
    (septets-read p.parts.ucs2 p.parts.counts.now p.parts.octets.now p.tables.now.places p.tables.now.starts p.sorted c.args.k c.requires.0 c.requires.1 c.if-self.false _ c.septets_over-over.ensures.answer).2

pub returns : goal.returns
returns c = let p = c.args.self.now in
    let u = septets-read p.parts.ucs2 p.parts.counts.now p.parts.octets.now p.tables.now.places p.tables.now.starts p.sorted c.args.k c.requires.0 c.requires.1 c.if-self.false _ c.septets_over-over.ensures.answer in
    record {
      start_value = (
        start-read p.parts.ucs2 p.parts.counts.now p.parts.octets.now p.tables.now.places p.tables.now.starts p.sorted c.args.k c.requires.0 c.requires.1,
        count-read p.parts.ucs2 p.parts.counts.now p.parts.octets.now p.tables.now.places p.tables.now.starts p.sorted c.args.k c.requires.0 c.requires.1,
      );
      over_value = (u.0, u.1);
    }
