-- `codes::entry_of` meets its contract: its own place, then what each search finds, then nowhere because neither finds it.
-- Assumes nothing.
use mathlib.Core.Path.{◌≡◌, sym, ◌∙◌}
use native.Mathlib.Omega.{arith}
use Rattle.std.proofs.Common.{rules}
use Rattle.std.specs.Prelude.{Some, None}
use Rattle.letters.specs.Reading.{shown, after_escape}
use Rattle.codes.specs.Inner.{codes_in, looked}
use Rattle.codes.proofs.Search.{own-narrow, own-entry, main-entry, extension-entry, extension-narrow, entry-nowhere}
use Rattle.codes.proofs.entry_of.Goals as goal

pub overflow_cast-result : goal.overflow_cast-result
overflow_cast-result c = record { fits = omega (arith, own-narrow c.args.unit (sym c.is_own.ensures ∙ c.if-is_own.true)) }

pub returns-then-is_own : goal.returns-then-is_own
returns-then-is_own c = record { answer = own-entry c.args.unit (sym c.is_own.ensures ∙ c.if-is_own.true) }

pub returns-in-Some : goal.returns-in-Some
returns-in-Some c =
    let found : looked shown (codes_in c.main_codes.result) c.args.unit ≡ Some c.in-Some.code = sym (c.look.ensures shown (λ code unit k. search rules)) ∙ c.in-Some.is in
    record { answer = main-entry c.args.unit c.in-Some.code (codes_in c.main_codes.result) c.main_codes.ensures found }

pub overflow_add-result : goal.overflow_add-result
overflow_add-result c =
    let found : looked after_escape (codes_in c.extension_codes.result) c.args.unit ≡ Some c.in-Some-look.code = sym (c.look-2.ensures after_escape (λ code unit k. search rules)) ∙ c.in-Some-look.is in
    record { fits = omega (arith, extension-narrow c.args.unit c.in-Some-look.code (codes_in c.extension_codes.result) c.extension_codes.ensures found) }

pub returns-in-Some-look : goal.returns-in-Some-look
returns-in-Some-look c =
    let found : looked after_escape (codes_in c.extension_codes.result) c.args.unit ≡ Some c.in-Some-look.code = sym (c.look-2.ensures after_escape (λ code unit k. search rules)) ∙ c.in-Some-look.is in
    record { answer = extension-entry c.args.unit c.in-Some-look.code (codes_in c.extension_codes.result) c.extension_codes.ensures found }

pub returns-in-None : goal.returns-in-None
returns-in-None c =
    let main : looked shown (codes_in c.main_codes.result) c.args.unit ≡ None = sym (c.look.ensures shown (λ code unit k. search rules)) ∙ c.in_default.is in
    let after : looked after_escape (codes_in c.extension_codes.result) c.args.unit ≡ None = sym (c.look-2.ensures after_escape (λ code unit k. search rules)) ∙ c.in-None.is in
    record {
      answer =
          entry-nowhere c.args.unit (codes_in c.main_codes.result) (codes_in c.extension_codes.result) (sym c.is_own.ensures ∙ c.if-is_own.false) c.main_codes.ensures main c.extension_codes.ensures after;
    }
