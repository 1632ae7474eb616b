-- Each call on a coding octet refuses exactly where its list of rules says, and with no other refusal.
-- Assumes nothing.
--   exactly   an answer that a verdict settles into is the refusal q where the rules give q, and only there
--   read-refuses, write-refuses, holds-refuses   the answer is the refusal q where the call's rules give q, and only there
--   read-refuses-2, write-refuses-8              reading an octet refuses 2 alone, and writing a reading 8 alone
use Rattle.words.proofs.Rules.{verdict_of}
use mathlib.Core.Path.{◌≡◌, refl, ap, sym, ◌∙◌}
use mathlib.Core.Bool.{Bool, true, false, cond}
use mathlib.Core.List.{List, [], ◌∷◌}
use mathlib.Core.Logic.{◌↔◌, inl, inr}
use Prim.Native.Nat.{ℕ}
use native.Mathlib.Omega.{arith}
use Rattle.words.specs.declared.Service.{Service}
use Rattle.words.specs.declared.Service.TheVariants.{ShortMessage, Broadcast, Ussd, OldPage}
use Rattle.words.specs.declared.Refusal.{Refusal}
use Rattle.words.specs.declared.Refusal.TheVariants.{NoText, Unwritable}
use Rattle.words.specs.Judging.{Rule, when, Verdict, refused, accepted, verdict, settle}
use Rattle.words.proofs.Judging.{settle-told}
use Rattle.coding.specs.declared.Reading.{Reading}
use Rattle.coding.specs.declared.Held.{Held}
use Rattle.coding.specs.OctetRead.{octet_rules, read_under, octet_reads}
use Rattle.coding.specs.OctetWritten.{smallest, write_rules, octet_writes}
use Rattle.coding.specs.Holding.{is_ucs2, text_rules, holds_text}
use Rattle.coding.specs.Refusing.{GivenBy}
use Rattle.std.specs.Prelude.{Result, Ok, Err}
use Rattle.coding.specs.declared.Held.TheVariants as held

same-refusal : (r q : Refusal) → refused r ≡ refused q → q ≡ r
same-refusal r q e = cc

told : (rules : List Rule) (q : Refusal) → verdict rules ≡ refused q → GivenBy rules q
unfolding verdict
told [] q e = let z : ◌≡◌ {A = ℕ} 0 1 = cc in absurd (omega arith)
told (when true r ∷ rules) q e = inl (refl, same-refusal r q e)
told (when false r ∷ rules) q e = inr (refl, told rules q e)

gives : (rules : List Rule) (q : Refusal) → GivenBy rules q → verdict rules ≡ refused q
unfolding verdict
gives [] q g = absurd g
gives (when true r ∷ rules) q (inl g) = ap refused (sym g.1)
gives (when true r ∷ rules) q (inr g) = let z : ◌≡◌ {A = Bool} true false = g.0 in absurd (differ z)
  where
    differ : true ≡ false → ⊥
    differ e = let y : ◌≡◌ {A = ℕ} 0 1 = cc in omega arith
gives (when false r ∷ rules) q (inl g) = let z : ◌≡◌ {A = Bool} false true = g.0 in absurd (differ z)
  where
    differ : false ≡ true → ⊥
    differ e = let y : ◌≡◌ {A = ℕ} 0 1 = cc in omega arith
gives (when false r ∷ rules) q (inr g) = gives rules q g.1

-- an answer that a verdict settles into is the refusal q exactly where the rules give q
module _ {A : Type 0} (tell : A → Verdict) (refuse : Refusal → A) (given : A) (p : (r : Refusal) → tell (refuse r) ≡ refused r) (k : tell given ≡ accepted) where
  pub exactly : (rules : List Rule) (q : Refusal) → (settle (verdict rules) refuse given ≡ refuse q) ↔ GivenBy rules q
  exactly rules q = (
    λ (e : settle (verdict rules) refuse given ≡ refuse q). told rules q (settle-told tell refuse given p k (verdict rules) (refuse q) (sym e) ∙ p q),
    λ (g : GivenBy rules q). ap (λ (v : Verdict). settle v refuse given) (gives rules q g),
  )

pub read-refuses : (s : Service) (o : ℕ) (q : Refusal) → (octet_reads s o ≡ Err q) ↔ GivenBy (octet_rules s o) q
unfolding octet_reads
read-refuses s o q = exactly verdict_of Err (Ok (read_under s o)) (λ r. refl) refl (octet_rules s o) q

pub write-refuses : (s : Service) (r : Reading) (q : Refusal) → (octet_writes s r ≡ Err q) ↔ GivenBy (write_rules s r) q
unfolding octet_writes
write-refuses s r q = exactly verdict_of Err (Ok (smallest s r)) (λ x. refl) refl (write_rules s r) q

pub holds-refuses : (s : Service) (r : Reading) (q : Refusal) → (holds_text s r ≡ Err q) ↔ GivenBy (text_rules s r) q
unfolding holds_text
holds-refuses s r q = exactly verdict_of Err (Ok (cond (is_ucs2 r.alphabet) held.Units held.Septets)) (λ x. refl) refl (text_rules s r) q

pub read-refuses-2 : (s : Service) (o : ℕ) (q : Refusal) → octet_reads s o ≡ Err q → q ≡ NoText
unfolding octet_rules
read-refuses-2 s o q e = only s ((read-refuses s o q).0 e)
  where
    only : (s : Service) → GivenBy (octet_rules s o) q → q ≡ NoText
    only ShortMessage g = absurd g
    only Broadcast g = absurd g
    only Ussd g = absurd g
    only OldPage (inl g) = g.1
    only OldPage (inr g) = absurd g.1

pub write-refuses-8 : (s : Service) (r : Reading) (q : Refusal) → octet_writes s r ≡ Err q → q ≡ Unwritable
unfolding write_rules
write-refuses-8 s r q e = only ((write-refuses s r q).0 e)
  where
    only : GivenBy (write_rules s r) q → q ≡ Unwritable
    only (inl g) = g.1
    only (inr (f, inl g)) = g.1
    only (inr (f, inr (h, inl g))) = g.1
    only (inr (f, inr (h, inr g))) = absurd g.1
