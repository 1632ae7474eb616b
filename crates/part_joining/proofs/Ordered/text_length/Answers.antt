-- After each run the sum is how many units the runs so far read as. Assumes nothing.
use Prim.Native.Nat.{ℕ, ◌+◌, ◌<◌}
use mathlib.Core.Bool.{Bool, false}
use mathlib.Core.List.{List, ◌++◌}
use mathlib.Core.Path.{◌≡◌, sym, ap, ◌∙◌}
use native.Mathlib.Omega.{arith}
use lib.Dec.{leb}
use lib.ListN.{length, length-append}
use Rattle.letters.specs.Reading.{text_in, text_of}
use Rattle.parted.specs.InnerJoined.{run_behind, run_read, run_open, numbered_content, read_up_to, open_up_to}
use Rattle.parted.proofs.JoinSteps.{next_run, read_none, text-more, open_more, read_all, joined-all, ready-text, sorted-as}
use Rattle.part_joining.proofs.Ordered.text_length.Goals as goal

pub loop-k-init : goal.loop-k-init
unfolding text_in
loop-k-init c = let p = c.args.self.now in
    let none = read_none p.parts.counts.now p.parts.octets.now in
    (sym (ap (λ (l : List ℕ). length (text_of l)) none.0), sym none.1, omega arith)

pub read_run-n-requires : goal.read_run-n-requires
read_run-n-requires c = (c.run_at-run.ensures.ready.narrow, omega (arith, ready-text _ _ _ c.run_at-run.ensures.ready))

-- one run more
more : (cs o : List ℕ) (k : ℕ) → k < length cs → (n : ℕ) (half : Bool) (run : List ℕ) → n ≡ length (text_of (read_up_to cs o k)) → half ≡ open_up_to cs o k
    → run ≡ run_read (leb (length cs) (k + 1)) (run_behind half (numbered_content false cs o (k + 1))) → n + length (text_of run) ≡ length (text_of (read_up_to cs o (k + 1)))
more cs o k h n half run so_far left read =
    let is : run ≡ run_read (leb (length cs) (k + 1)) (next_run cs o k) =
    read ∙ ap (λ (b : Bool). run_read (leb (length cs) (k + 1)) (run_behind b (numbered_content false cs o (k + 1)))) left in
    let whole : length (text_of (read_up_to cs o (k + 1))) ≡ length (text_of (read_up_to cs o k)) + length (text_of run) =
    ap length (text-more cs o k h ∙ ap (λ (l : List ℕ). text_of (read_up_to cs o k) ++ text_of l) (sym is))
    ∙ length-append (text_of (read_up_to cs o k)) (text_of run) in
    omega (arith, whole, so_far)

pub overflow_add-n : goal.overflow_add-n
overflow_add-n c =
    let short = ready-text _ _ _ c.run_at-run.ensures.ready in
    record { fits = omega (arith, c.read_run-n.ensures.answer, short, c.loop-k.invariant.2, c.loop-k-test.true, c.args.self.now.sorted.few) }

pub loop-k-preserved : goal.loop-k-preserved
loop-k-preserved c = let p = c.args.self.now in
    let k : ℕ = c.loop-k.k in
    let short = ready-text _ _ _ c.run_at-run.ensures.ready in
    let m = more p.parts.counts.now p.parts.octets.now k c.loop-k-test.true c.loop-k.n c.loop-k.half _ c.loop-k.invariant.0 c.loop-k.invariant.1 c.run_at-run.ensures.end_after in (
      omega (arith, m, c.read_run-n.ensures.answer),
      c.run_at-run.ensures.half_value
          ∙ ap (λ (h : Bool). run_open (leb (length p.parts.counts.now) (k + 1)) (run_behind h (numbered_content false p.parts.counts.now p.parts.octets.now (k + 1)))) c.loop-k.invariant.1
          ∙ sym (open_more p.parts.counts.now p.parts.octets.now k c.loop-k-test.true),
      omega (arith, short, c.read_run-n.ensures.answer, c.loop-k.invariant.2),
    )

pub returns : goal.returns
returns c = let p = c.args.self.now in
    let all : c.loop-k.k ≡ length p.parts.counts.now = omega (arith, c.loop-k.auto.k-end, c.loop-k-test.false) in
    c.loop-k.invariant.0
    ∙ ap (λ (l : List ℕ). length (text_of l))
    (read_all p.parts.counts.now p.parts.octets.now c.loop-k.k all ∙ sym (joined-all false p.parts.counts.now p.parts.octets.now p.tables.now.places p.tables.now.starts (sorted-as p.parts.ucs2 false c.requires p.parts.counts.now p.parts.octets.now p.sorted)))
