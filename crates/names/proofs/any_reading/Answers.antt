-- `any_reading` meets its contract: the first field that names nothing decides, and else all of them do. Assumes nothing.
use Rattle.std.proofs.Common.{◌∙◌, sym}
use Rattle.names.proofs.Fields.{flags-named, no-flags, no-alphabet, no-class, no-language, no-notice, found}
use Rattle.names.proofs.any_reading.Goals as goal

pub returns-then-not-flags : goal.returns-then-not-flags
returns-then-not-flags c = no-flags c.args.numbers (sym (flags-named c.args.numbers) ∙ sym c.flags.ensures ∙ c.if-not-flags.true)

pub returns-in_err-get : goal.returns-in_err-get
returns-in_err-get c = c.from_residual.ensures ∙ no-alphabet c.args.numbers (sym c.in_err-get.ensures.lookup.0)

pub returns-in_err-get-2 : goal.returns-in_err-get-2
returns-in_err-get-2 c = c.from_residual-in_err-get-2.ensures ∙ no-class c.args.numbers (sym c.in_err-get-2.ensures.lookup.0)

pub returns-in_err-get-3 : goal.returns-in_err-get-3
returns-in_err-get-3 c = c.from_residual-in_err-get-3.ensures ∙ no-language c.args.numbers (sym c.in_err-get-3.ensures.lookup.0)

pub returns-in_err-notice : goal.returns-in_err-notice
returns-in_err-notice c = c.from_residual-in_err-notice.ensures ∙ no-notice c.args.numbers c.in_err-notice.ensures

pub returns : goal.returns
returns c =
    found c.args.numbers _ _ _ _ (sym (flags-named c.args.numbers) ∙ sym c.flags.ensures ∙ c.if-not-flags.false)
    (sym c.in_ok-get.ensures.lookup.0) c.in_ok-get.ensures.lookup.1 (sym c.in_ok-get-2.ensures.lookup.0) c.in_ok-get-2.ensures.lookup.1
    (sym c.in_ok-get-3.ensures.lookup.0) c.in_ok-get-3.ensures.lookup.1 c.in_ok-notice.ensures
