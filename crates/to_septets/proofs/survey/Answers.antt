-- A text whose units are all their own codes has as many septets; another is measured. Assumes nothing.
use Rattle.std.specs.Prelude.{ℕ}
use mathlib.Core.Path.{◌≡◌, sym, ap₂, ◌∙◌}
use mathlib.Core.Bool.{Bool}
use Rattle.letters.specs.declared.Surveyed.{Surveyed}
use Rattle.letters.proofs.Counting.{own-counted}
use Rattle.to_septets.proofs.survey.Goals as goal
use Rattle.std.specs.Prelude.{Result}

seen : {own own' : Bool} {m m' : Result ℕ ℕ} → own ≡ own' → m ≡ m' → ◌≡◌ {A = Surveyed} (record { own = own; measured = m }) (record { own = own'; measured = m' })
seen = ap₂ (λ (own : Bool) (m : Result ℕ ℕ). record { own = own; measured = m })

pub returns-then-own_text : goal.returns-then-own_text
returns-then-own_text c = record {
  answer = let own = sym c.if-own_text.true ∙ c.own_text.ensures in
      seen own (own-counted c.args.text.now (sym own));
}

pub returns : goal.returns
returns c = record { answer = seen (sym c.if-own_text.false ∙ c.own_text.ensures) c.septets_in.ensures }
