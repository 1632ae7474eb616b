-- `read_septets` meets its contract: the septets fit the array, and the run at its front that is left of a text is what the octets hold. Assumes nothing.
use Rattle.demands.proofs.Septets.{unpacked-fits, unpacked-room, kept_run, kept-room, unpacked-refused, shown-reads}
use Rattle.words.proofs.Clauses.{passed}
use lib.Seq.{length-take-le}
use lib.ListN.{replicate}
use mathlib.Core.Path.{refl, sym, ◌∙◌}
use borrow.Author.Rules.{rules}
use Rattle.reader.proofs.read_septets.Goals as goal

pub slice_bounds-septets-end : goal.slice_bounds-septets-end
slice_bounds-septets-end c =
    unpacked-room c.args.service c.args.count c.args.octets.now (replicate 184 0) refl _ _ c.in_ok-all.ensures.answer c.in_ok-all.ensures.buffer

pub slice_bounds-text_length-end : goal.slice_bounds-text_length-end
slice_bounds-text_length-end c =
    sym (length-take-le _ _ (unpacked-room c.args.service c.args.count c.args.octets.now (replicate 184 0) refl _ _ c.in_ok-all.ensures.answer c.in_ok-all.ensures.buffer))

pub slice_bounds-septets-end-2 : goal.slice_bounds-septets-end-2
slice_bounds-septets-end-2 c =
    kept-room c.args.service c.args.count c.args.octets.now (replicate 184 0) refl _ _ c.in_ok-all.ensures.answer c.in_ok-all.ensures.buffer _ c.text_length-n.ensures.answer

pub slice_bounds-read_run-end : goal.slice_bounds-read_run-end
slice_bounds-read_run-end c =
    sym (length-take-le _ _ (kept-room c.args.service c.args.count c.args.octets.now (replicate 184 0) refl _ _ c.in_ok-all.ensures.answer c.in_ok-all.ensures.buffer _ c.text_length-n.ensures.answer))

pub returns : goal.returns
returns c =
    let a = c.args in
    let done = c.in_ok-all.ensures in
    let fits = unpacked-fits a.service a.count a.octets.now (replicate 184 0) refl _ done.answer in
    let run = kept_run a.service a.count a.octets.now (replicate 184 0) refl _ _ done.answer done.buffer _ c.text_length-n.ensures.answer in
    let s = shown-reads a.service a.count a.octets.now a.out.now fits _ run _ refl in
    record { answer = c.read_run.ensures.answer ∙ s.0; buffer = c.read_run.ensures.buffer ∙ s.1 }

pub returns-in_err-all : goal.returns-in_err-all
returns-in_err-all c =
    let a = c.args in
    passed (search rules) (unpacked-refused a.service a.count a.octets.now (replicate 184 0) refl _ a.out.now c.in_err-all.ensures.answer)
