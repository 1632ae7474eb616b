-- After each part the sum is how much the parts so far hold. Assumes nothing.
use Prim.Native.Nat.{ℕ, ◌+◌, ◌≤◌, ◌<◌}
use mathlib.Core.Bool.{Bool}
use mathlib.Core.List.{List}
use mathlib.Core.Path.{◌≡◌, sym, ap, ◌∙◌}
use native.Mathlib.Omega.{arith}
use lib.ListN.{length, length-append}
use Rattle.parted.specs.Joined.{place_of, content_at, joined_from}
use Rattle.parted.specs.InnerJoined.{Sorted}
use Rattle.parted.proofs.JoinSteps.{joined-none, joined-more, joined-all, held-most}
use Rattle.part_joining.proofs.Ordered.content_length.Goals as goal

pub loop-k-init : goal.loop-k-init
loop-k-init c = let p = c.args.self.now.parts in
    (sym (ap length (joined-none p.ucs2 p.counts.now p.octets.now)), omega arith)

-- one part more
more : (ucs2 : Bool) (cs o places starts : List ℕ) → Sorted ucs2 cs o places starts → (k : ℕ) → k < length cs → (n held : ℕ) → n ≡ length (joined_from ucs2 cs o 1 k) → held ≡ length (content_at ucs2 cs o (place_of ucs2 cs o (k + 1)))
    → (n + held ≡ length (joined_from ucs2 cs o 1 (k + 1))) × (held ≤ 160)
more ucs2 cs o places starts s k h n held so_far here =
    let content : List ℕ = content_at ucs2 cs o (place_of ucs2 cs o (k + 1)) in (
      omega (arith, here, so_far, ap length (joined-more ucs2 cs o k) ∙ length-append (joined_from ucs2 cs o 1 k) content),
      omega (arith, here, held-most ucs2 cs o places starts s (k + 1) (omega arith) (omega (arith, h))),
    )

pub overflow_add-n : goal.overflow_add-n
overflow_add-n c = let p = c.args.self.now in
    let m = more p.parts.ucs2 p.parts.counts.now p.parts.octets.now _ _ p.sorted c.loop-k.k c.loop-k-test.true _ _ c.loop-k.invariant.0 c.part_at-n.ensures.over_value.1 in
    record { fits = omega (arith, m.1, c.loop-k.invariant.1, c.loop-k-test.true, p.sorted.few) }

pub loop-k-preserved : goal.loop-k-preserved
loop-k-preserved c = let p = c.args.self.now in
    let m = more p.parts.ucs2 p.parts.counts.now p.parts.octets.now _ _ p.sorted c.loop-k.k c.loop-k-test.true _ _ c.loop-k.invariant.0 c.part_at-n.ensures.over_value.1 in
    (m.0, omega (arith, m.1, c.loop-k.invariant.1))

pub returns : goal.returns
returns c = let p = c.args.self.now in
    let all : c.loop-k.k ≡ length p.parts.counts.now = omega (arith, c.loop-k.auto.k-end, c.loop-k-test.false) in
    c.loop-k.invariant.0
    ∙ ap (λ (k : ℕ). length (joined_from p.parts.ucs2 p.parts.counts.now p.parts.octets.now 1 k)) all
    ∙ sym (ap length (joined-all p.parts.ucs2 p.parts.counts.now p.parts.octets.now p.tables.now.places p.tables.now.starts p.sorted))
